-- `writing::write_on` passes the refusals of its stages on, or stores the sealed draft.
use Prim.Native.Nat.{◌≤◌}
use lib.ListN.{length}
use Rattle.std.proofs.lemmas.Result.{err_from_is_err_and}
use Rattle.sheet.proofs.Laws.{Found, scan-found}
use Rattle.writing.proofs.Writer.{Good, scanned-good, scanned-refused, carried-inside, good-draftable, drafted-refused, locked-refused, stored-writes}
use Rattle.writing.proofs.write_on.Goals.{In_ok-carried}
use Rattle.writing.proofs.write_on.Goals as goal

pub returns-in_err-carried : goal.returns-in_err-carried
returns-in_err-carried c =
    let p = err_from_is_err_and c.from_residual.result c.from_residual.ensures.1 in
    rw (p.1, p.2) (scanned-refused _ _ _ _ _ _ c.in_err-carried.ensures c.requires.1)

-- the sheet is good
good : (c : In_ok-carried) → Good c.args.sheet.now c.in_ok-carried.carried c.scan.new.row
good c = scanned-good _ _ _ _ c.in_ok-carried.ensures

found : (c : In_ok-carried) → Found c.args.sheet.now
found c = scan-found _ (good c).right (good c).values

inside : (c : In_ok-carried) → c.in_ok-carried.carried ≤ length c.args.sheet.now
inside c = carried-inside _ _ _ _ _ _ c.requires.0 c.requires.1 (good c) (found c)

pub slice_bounds-draft-count : goal.slice_bounds-draft-count
slice_bounds-draft-count c = inside (goal.at.slice_bounds-draft-count c).In_ok-carried

pub slice_bounds-draft-start : goal.slice_bounds-draft-start
slice_bounds-draft-start c = inside (goal.at.slice_bounds-draft-start c).In_ok-carried

pub draft-requires : goal.draft-requires
draft-requires c =
    let k = (goal.at.draft-requires c).In_ok-carried in
    good-draftable _ _ _ _ _ _ k.requires.0 k.requires.1 (good k) (found k)

pub returns-in_err-draft : goal.returns-in_err-draft
returns-in_err-draft c =
    let k = (goal.at.returns-in_err-draft c).In_ok-carried in
    let p = err_from_is_err_and c.from_residual-in_err-draft.result c.from_residual-in_err-draft.ensures.1 in
    rw (p.1, p.2) (drafted-refused _ _ _ _ _ _ k.requires.0 k.requires.1 (good k) (found k) _ _ c.in_err-draft.ensures)

-- the draft has been sealed, and the locks have been judged
pub returns-in_err-lock_stage : goal.returns-in_err-lock_stage
returns-in_err-lock_stage c =
    let k = (goal.at.returns-in_err-lock_stage c).In_ok-carried in
    let p = err_from_is_err_and c.from_residual-in_err-lock_stage.result c.from_residual-in_err-lock_stage.ensures.1 in
    rw (p.1, p.2)
    (locked-refused _ _ _ _ _ _ k.requires.0 k.requires.1 (good k) (found k) _ _ c.in_ok-draft.ensures c.seal.ensures _ c.in_err-lock_stage.ensures)

pub returns : goal.returns
returns c =
    let k = (goal.at.returns c).In_ok-carried in
    stored-writes _ _ _ _ _ _ k.requires.0 k.requires.1 (good k) (found k) _ _ c.in_ok-draft.ensures c.seal.ensures c.in_ok-lock_stage.ensures
    _ _ c.store.ensures.0 c.store.ensures.1
