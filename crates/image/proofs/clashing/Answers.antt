-- `image::clashing` meets its contract.
use mathlib.Core.Path.{◌≡◌, sym, ap, ◌∙◌}
use Prim.Native.Nat.{ℕ}
use mathlib.Core.Bool.{Bool, true, false, not, ◌&&◌}
use lib.Dec.{eqb, leb}
use lib.ListN.{get_or}
use borrow.Author.Tests.{eq-eqb, ne_eqb}
use Rattle.format.specs.Pieces.{nowhere}
use Rattle.format.specs.Elements.{place}
use Rattle.image.proofs.Placing.{clash-lengths}
use Rattle.image.proofs.clashing.Goals.{Joined-row-ne0, Joined-row-ne0-2, then-row-ne0, else-row-ne0, then-row-ne0-2, else-row-ne0-2}
use Rattle.image.proofs.clashing.Goals as goal

-- what `x && y` comes to in either branch
both : (r x y : Bool) → x ≡ true → r ≡ y → r ≡ x && y
both r x y e f = rw e f

neither : (r x y : Bool) → x ≡ false → r ≡ x → r ≡ x && y
neither r x y e f = rw e (f ∙ e)

some : (n : ℕ) → (n ≡ 0 → ⊥) → not (eqb n 0) ≡ true
some n h = ap not (ne_eqb n 0 h)

none : (n : ℕ) → n ≡ 0 → not (eqb n 0) ≡ false
none n e = ap not (eq-eqb n 0 e)

apart : (c : Joined-row-ne0) → let row = c.args.row.now in c.if-row-ne0.owners ≡ not (eqb (get_or row (place 3) nowhere).len 0) && not (eqb (get_or row (place 23) nowhere).len 0)
apart c = elim c.if-row-ne0.branch [
  | then-row-ne0 w ↦ both _ _ _ (some _ w.if-row-ne0.true) w.owners-is
  | else-row-ne0 w ↦ neither _ _ _ (none _ w.if-row-ne0.false) w.owners-is
]

pub returns-then-owners : goal.returns-then-owners
returns-then-owners c ss s = sym (clash-lengths ss _ s ∙ rw (sym (apart (goal.at.returns-then-owners c).Joined-row-ne0) ∙ c.if-owners.true) (sym c.if-owners.true))

long : (c : Joined-row-ne0-2) → let row = c.args.row.now in c.if-row-ne0-2.items ≡ not (eqb (get_or row (place 22) nowhere).len 0) && leb 17 (get_or row (place 1) nowhere).len
long c = elim c.if-row-ne0-2.branch [
  | then-row-ne0-2 w ↦ both _ _ _ (some _ w.if-row-ne0-2.true) w.items-is
  | else-row-ne0-2 w ↦ neither _ _ _ (none _ w.if-row-ne0-2.false) w.items-is
]

pub returns-else-owners : goal.returns-else-owners
returns-else-owners c ss s =
    let at = goal.at.returns-else-owners c in
    sym (clash-lengths ss _ s ∙ rw (sym (apart at.Joined-row-ne0) ∙ c.if-owners.false) (sym (long at.Joined-row-ne0-2)))
