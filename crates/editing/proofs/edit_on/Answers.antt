-- `editing::edit_on` passes the refusals of its stages on, or stores the sealed draft of the edited row.
use mathlib.Core.Path.{◌≡◌, refl, sym, ap, ◌∙◌}
use mathlib.Core.Bool.{true}
use native.Mathlib.Omega.{arith}
use lib.ListN.{length}
use Rattle.std.proofs.lemmas.Result.{err_from_is_err_and}
use Rattle.format.specs.Bytes.{bytes}
use Rattle.format.proofs.Tests.{bytes-all}
use Rattle.format.proofs.Answers.{need-no}
use Rattle.look.proofs.Judged.{looked-sighted, looked-refused}
use Rattle.look.proofs.Laws.{look-seen}
use Rattle.image.specs.Drafting.{Fresh}
use Rattle.image.proofs.Laws.{cleared-fresh}
use Rattle.editing.proofs.Editor.{look-edits, own-edits, value-edits}
use Rattle.editing.proofs.Own.{blocks-stand}
use Rattle.editing.proofs.Edited.{Taken, Put, put-asks, old-fits, edited-asks, old-there, old-bytes, drafted-refused, locked-refused, stored-edits}
use Rattle.editing.proofs.edit_on.Goals.{In_ok-value_stage, After-put-was, After-clear}
use borrow.Author.Rules.{rules}
use Rattle.format.specs.declared.Reason.TheVariants as reason
use Rattle.editing.proofs.edit_on.Goals as goal

-- ---- the tag is looked at

pub returns-in_err-view : goal.returns-in_err-view
returns-in_err-view c =
    let p = err_from_is_err_and c.from_residual.result c.from_residual.ensures.1 in
    rw (p.1, p.2) (look-edits _ _ _ _ _ c.requires.1 _ (looked-refused c.in_err-view.ensures))

pub is_own-requires : goal.is_own-requires
is_own-requires c = (looked-sighted c.in_ok-view.ensures, c.requires.0)

-- ---- 13, 2 and 9

pub returns-then-not-is_own : goal.returns-then-not-is_own
returns-then-not-is_own c = own-edits _ _ _ _ _ c.requires.1 (looked-sighted c.in_ok-view.ensures).seen reason.Loose (need-no 13 _ (sym c.if-not-is_own.ensures))

pub returns-in_err-value_stage : goal.returns-in_err-value_stage
returns-in_err-value_stage c =
    let p = err_from_is_err_and c.from_residual-in_err-value_stage.result c.from_residual-in_err-value_stage.ensures.1 in
    rw (p.1, p.2) (value-edits _ _ _ _ _ c.requires.1 (looked-sighted c.in_ok-view.ensures).seen (sym c.if-not-is_own.ensures) _ (sym c.in_err-value_stage.ensures))

-- ---- the edit is put into the row

taken : (c : In_ok-value_stage) → let a = c.args in let l = c.look_at.new in Taken a.tag.now a.locks.now a.number a.bytes.now a.old.now l.row l.made c.in_ok-view.view
taken c =
    let s = looked-sighted c.in_ok-view.ensures in
    let y : bytes c.args.tag.now ≡ true = bytes-all c.args.tag.now (λ i h. search rules) in
    record {
      all-bytes = y;
      sized = c.requires.1;
      sighted = s;
      held = look-seen _ _ y refl s.seen;
      own = sym c.if-not-is_own.ensures;
      valued = sym c.in_ok-value_stage.ensures;
    }

pub put-was-requires : goal.put-was-requires
put-was-requires c = put-asks _ _ _ _ _ _ _ _ (taken (goal.at.put-was-requires c).In_ok-value_stage)

-- what is put there
is-put : (c : After-put-was) → let a = c.args in let l = c.look_at.new in let p = c.put-was in
    Put a.tag.now a.number a.bytes.now l.row l.made c.copy.new.target p.new.row p.new.made p.result
is-put c = record {
  lent_is = c.copy.ensures.1;
  row-is = c.put-was.ensures.0;
  full_is = c.put-was.ensures.1;
  was-is = c.put-was.ensures.2;
}

pub piece-carried-requires : goal.piece-carried-requires
piece-carried-requires c = let k = taken (goal.at.piece-carried-requires c).In_ok-value_stage in blocks-stand _ _ _ _ _ k.all-bytes k.sighted c.requires.0 k.held _

-- ---- the draft is 00 again

fresh : (c : After-clear) → Fresh c.clear.new.out c.args.tag.now
fresh c = cleared-fresh _ _ _ _ c.requires.0 c.is_own.auto.draft c.clear.ensures

pub draft-requires : goal.draft-requires
draft-requires c =
    let e = goal.at.draft-requires c in
    edited-asks _ _ _ _ _ _ _ _ (taken e.In_ok-value_stage) _ _ _ _ (is-put e.After-put-was) _ (fresh e.After-clear)

-- ---- drafted, sealed and judged by the locks

pub returns-in_err-draft : goal.returns-in_err-draft
returns-in_err-draft c =
    let e = goal.at.returns-in_err-draft c in
    let p = err_from_is_err_and c.from_residual-in_err-draft.result c.from_residual-in_err-draft.ensures.1 in
    rw (p.1, p.2) (drafted-refused _ _ _ _ _ _ _ _ (taken e.In_ok-value_stage) _ _ _ _ (is-put e.After-put-was) _ (fresh e.After-clear) _ c.piece-carried.ensures _ _ c.in_err-draft.ensures _ refl)

pub returns-in_err-lock_stage : goal.returns-in_err-lock_stage
returns-in_err-lock_stage c =
    let e = goal.at.returns-in_err-lock_stage c in
    let p = err_from_is_err_and c.from_residual-in_err-lock_stage.result c.from_residual-in_err-lock_stage.ensures.1 in
    rw (p.1, p.2) (locked-refused _ _ _ _ _ _ _ _ (taken e.In_ok-value_stage) _ _ _ _ (is-put e.After-put-was) _ (fresh e.After-clear) _ c.piece-carried.ensures _ _ c.in_ok-draft.ensures refl
    _ c.seal.ensures _ c.in_err-lock_stage.ensures _ refl)

-- ---- the old element is handed out, and the draft is stored

pub piece-requires : goal.piece-requires
piece-requires c =
    let e = goal.at.piece-requires c in
    old-there _ _ _ _ _ _ _ _ (taken e.In_ok-value_stage) _ _ _ _ (is-put e.After-put-was)

pub copy-length-requires : goal.copy-length-requires
copy-length-requires c =
    let e = goal.at.copy-length-requires c in
    let k = taken e.In_ok-value_stage in
    omega (arith, ap length (c.piece.ensures ∙ old-bytes _ _ _ _ _ _ _ _ k _ _ _ _ (is-put e.After-put-was)), old-fits _ _ _ _ _ _ _ _ k)

pub returns : goal.returns
returns c =
    let e = goal.at.returns c in
    let k = taken e.In_ok-value_stage in
    let p = is-put e.After-put-was in
    stored-edits _ _ _ _ _ _ _ _ k _ _ _ _ p _ (fresh e.After-clear) _ c.piece-carried.ensures _ _ c.in_ok-draft.ensures refl
    _ c.seal.ensures _ c.in_ok-lock_stage.ensures refl _ (c.piece.ensures ∙ old-bytes _ _ _ _ _ _ _ _ k _ _ _ _ p)
    _ _ _ _ c.store-pages.ensures.0 c.copy-length.ensures.0 c.store-pages.ensures.1 c.copy-length.ensures.1
