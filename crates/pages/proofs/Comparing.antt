-- The library's words for what is said of all bytes of a string, or of two strings, beside the definitions'.
use mathlib.Core.Path.{◌≡◌, refl, sym, ap, ◌∙◌}
use Prim.Native.Nat.{ℕ, suc}
use mathlib.Core.Bool.{Bool, true, false, not, ◌&&◌, ◌||◌, or-false}
use mathlib.Core.List.{List, [], ◌∷◌}
use lib.Dec.{eqb}
use lib.ListN.{length}
use Rattle.std.specs.Cmp.Lexicographic.{pointwise}
use Rattle.std.specs.List.{fold}
use Rattle.format.specs.Bytes.{all, same}
use Rattle.format.proofs.Tests.{and_no}
use Rattle.pages.specs.Storing.{is_open}

pub pointwise_same : (a b : List ℕ) → pointwise eqb a b ≡ same a b
unfolding same
pointwise_same [] [] = refl
pointwise_same [] (y ∷ b) = refl
pointwise_same (x ∷ a) [] = refl
pointwise_same (x ∷ a) (y ∷ b) = ap (λ t. eqb x y && t) (pointwise_same a b)

-- strings of two lengths are not the same
pub same-other-length : (a b : List ℕ) → (length a ≡ length b → ⊥) → same a b ≡ false
unfolding same
same-other-length [] [] n = absurd (n refl)
same-other-length [] (y ∷ b) n = refl
same-other-length (x ∷ a) [] n = refl
same-other-length (x ∷ a) (y ∷ b) n = and_no (eqb x y) (same a b) (same-other-length a b (λ e. n (ap suc e)))

-- a lock byte is not open, or one before them was not
locked-on : (e : Bool) (s : List ℕ) → fold (λ (b : Bool) (x : ℕ). b || eqb x 1) e s ≡ e || not (all is_open s)
unfolding all
locked-on e [] = sym (or-false e)
locked-on e (x ∷ s) = locked-on (e || eqb x 1) s ∙ or-open e (eqb x 1) (all is_open s)
  where
    or-open : (a b c : Bool) → (a || b) || not c ≡ a || not (not b && c)
    or-open true b c = refl
    or-open false true c = refl
    or-open false false c = refl

pub fold-locked : (s : List ℕ) → fold (λ (b : Bool) (x : ℕ). b || eqb x 1) false s ≡ not (all is_open s)
fold-locked = locked-on false
