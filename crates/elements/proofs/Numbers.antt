-- What shape a number asks for, and what may be set for it.
use mathlib.Core.Path.{◌≡◌, refl, sym, ap, ◌∙◌}
use mathlib.Core.Logic.{inl, inr}
use Prim.Native.Nat.{ℕ}
use native.Mathlib.Omega.{arith}
use mathlib.Core.Bool.{true, false, not, ◌&&◌, ◌||◌}
use mathlib.Core.List.{List, [], ◌∷◌}
use lib.Dec.{eqb}
use lib.ListN.{length}
use borrow.Author.Tests.{eqb-true, ne_eqb}
use Rattle.format.specs.Bytes.{all}
use Rattle.format.specs.Elements.{table, required, shape, form, value, known}
use Rattle.format.proofs.Tests.{or-inv, same_truth}
use Rattle.format.proofs.Slots.{kind-of}

-- an unknown number has no shape
pub no-shape : (n : ℕ) (s : List ℕ) → (n ≡ 1 → ⊥) → (n ≡ 3 → ⊥) → (n ≡ 4 → ⊥) → (n ≡ 5 → ⊥) → (n ≡ 19 → ⊥) → (n ≡ 22 → ⊥) → (n ≡ 23 → ⊥) → (n ≡ 255 → ⊥)
    → shape n s ≡ false
unfolding shape
no-shape n s a b c d e f g h = rw (ne_eqb n 1 a, ne_eqb n 3 b, ne_eqb n 4 c, ne_eqb n 5 d, ne_eqb n 19 e, ne_eqb n 22 f, ne_eqb n 23 g, ne_eqb n 255 h)

-- the table's rows that are always present
four-or-five : (n : ℕ) → eqb n 4 || eqb n 5 ≡ required n
unfolding all
four-or-five n =
    same_truth (eqb n 4 || eqb n 5) (required n) (λ e. elim (or-inv (eqb n 4) (eqb n 5) e) [ inl q ↦ rw (eqb-true n 4 q) refl | inr q ↦ rw (eqb-true n 5 q) refl ])
    (λ e. let r = kind-of (λ r. r.required) (λ r. not r.required || (eqb r.number 4 || eqb r.number 5)) table n e refl in rw r.1 (rw r.2 at r.3))

-- no bytes are a value of a number that may be absent
pub removing : (n : ℕ) (s : List ℕ) → known n ≡ true → length s ≡ 0 → not (eqb n 4 || eqb n 5) ≡ known n && value n s
unfolding value
removing n [] k e = ap not (four-or-five n) ∙ sym (rw k)
removing n (x ∷ s) k e = absurd (omega arith)

-- others are a value where they have the number's form
pub setting : (n : ℕ) (s : List ℕ) → known n ≡ true → (length s ≡ 0 → ⊥) → form n s ≡ known n && value n s
unfolding value
setting n [] k h = absurd (h refl)
setting n (x ∷ s) k h = sym (rw k)
