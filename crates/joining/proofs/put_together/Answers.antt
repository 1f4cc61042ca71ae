-- `put_together`: the refusals in their order, then three pieces one behind the other.
use mathlib.Core.Path.{◌≡◌, sym, ap, ap₂, ◌∙◌}
use mathlib.Core.Bool.{true}
use Prim.Native.Nat.{ℕ, ◌+◌}
use native.Mathlib.Omega.{arith}
use lib.ListN.{length, get_or}
use Rattle.std.specs.Prelude.{Err}
use borrow.Author.Rules.{rules}
use Rattle.format.specs.Numbers.{given}
use Rattle.format.proofs.Answers.{need-inv}
use Rattle.identifier.specs.Elements.{three, good_elements}
use Rattle.joining.specs.Laying.{isil_front, set_end}
use Rattle.joining.proofs.Pieces.{isil-front-short, any-ordinal}
use Rattle.joining.proofs.Good.{Facts, good-facts}
use Rattle.joining.proofs.Ways.{way-bad, way-short, way-done}
use Rattle.joining.proofs.put_together.Goals.{After-set_length, In_ok-elements_stage}
use Rattle.joining.proofs.put_together.Goals as goal

pub returns-in_err-elements_stage : goal.returns-in_err-elements_stage
returns-in_err-elements_stage c =
    let a = c.args in
    let told : c.from_residual.result ≡ Err c.in_err-elements_stage.field-0.0 = search rules in
    rw told (way-bad a.item.now a.isil.now a.set.now a.text.now (sym c.elements_stage.ensures ∙ ap given c.in_err-elements_stage.was))

-- the elements are good
good : (c : In_ok-elements_stage) → let a = c.args in good_elements (three a.item.now a.isil.now a.set.now) ≡ true
good c = need-inv 9 _ tt (sym c.elements_stage.ensures ∙ ap given c.in_ok-elements_stage.was)

facts : (c : In_ok-elements_stage) → let a = c.args in Facts a.item.now a.isil.now a.set.now
facts c = good-facts _ _ _ (good c)

pub isil_length-requires : goal.isil_length-requires
isil_length-requires c = (facts c).isil

pub bounds-set-0 : goal.bounds-set-0
bounds-set-0 c = omega (arith, (facts (goal.at.bounds-set-0 c).In_ok-elements_stage).set)

pub overflow_add-size-2 : goal.overflow_add-size-2
overflow_add-size-2 c =
    let f = facts (goal.at.overflow_add-size-2 c).In_ok-elements_stage in
    omega (arith, c.isil_length.ensures, isil-front-short c.args.isil.now, f.isil, f.item, c.set_length.ensures.1)

-- what the lengths add up to
sized : (c : After-set_length) → let a = c.args in
    c.isil_length.result + length a.item.now + c.set_length.result ≡ length (isil_front a.isil.now) + length a.item.now + length (set_end (get_or a.set.now 0 0) 0)
sized c = let a = c.args in ap₂ (λ (m n : ℕ). m + length a.item.now + n) c.isil_length.ensures c.set_length.ensures.0

pub returns-then-text-size : goal.returns-then-text-size
returns-then-text-size c =
    let a = c.args in
    way-short a.item.now a.isil.now a.set.now a.text.now (good (goal.at.returns-then-text-size c).In_ok-elements_stage) _ (sized (goal.at.returns-then-text-size c).After-set_length) c.if-text-size.true

pub bounds-set-0-2 : goal.bounds-set-0-2
bounds-set-0-2 c = omega (arith, (facts (goal.at.bounds-set-0-2 c).In_ok-elements_stage).set)

pub bounds-set-2 : goal.bounds-set-2
bounds-set-2 c = omega (arith, (facts (goal.at.bounds-set-2 c).In_ok-elements_stage).set)

pub put_set-requires : goal.put_set-requires
put_set-requires c =
    let a = c.args in
    let s = a.set.now in
    omega (
      arith,
      sized (goal.at.put_set-requires c).After-set_length,
      c.if-text-size.false,
      c.put_isil-first.ensures.0,
      c.put_bytes-end.ensures.0,
      any-ordinal (get_or s 0 0) (get_or s 2 0),
    )

pub returns : goal.returns
returns c =
    let a = c.args in
    way-done a.item.now a.isil.now a.set.now a.text.now (good (goal.at.returns c).In_ok-elements_stage) _ (sized (goal.at.returns c).After-set_length) _ _ _ _ _ _ c.if-text-size.false
    c.put_isil-first.ensures c.put_bytes-end.ensures c.put_set.ensures
