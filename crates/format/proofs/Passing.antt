-- A loop that puts each byte of a string to a test: what it knows at each turn, and how a turn keeps it. And what it found, at a place.
use mathlib.Core.Path.{◌≡◌, refl, sym, ap, ◌∙◌}
use Prim.Native.Nat.{ℕ, suc, ◌+◌, ◌≤◌, ◌<◌}
use native.Mathlib.Omega.{arith}
use native.Mathlib.Numerals.{add-one}
use mathlib.Core.Bool.{Bool, true, false, ◌&&◌, and_assoc, and-true}
use mathlib.Core.List.{List}
use lib.ListN.{length, drop, get_or, drop_of_length-le}
use lib.Seq.{drop-cons}
use Rattle.format.specs.Bytes.{all}
use Rattle.format.proofs.Tests.{and_l, all_drop}

-- the bytes before i pass it, so those from i on decide
pub record Passing (f : ℕ → Bool) (s : List ℕ) (i : ℕ) : Type 0 where
  pub inside : i ≤ length s
  pub rest : all f (drop i s) ≡ all f s

module _ (f : ℕ → Bool) (s : List ℕ) where
  pub passing-start : Passing f s 0
  passing-start = record { inside = omega arith; rest = refl }

  all_cons : (i : ℕ) (t : Bool) → i < length s → f (get_or s i 0) ≡ t → all f (drop i s) ≡ t && all f (drop (suc i) s)
  unfolding all
  all_cons i t h e = rw (drop-cons s i 0 h, e) refl

  pub passing-on : (i : ℕ) → Passing f s i → i < length s → f (get_or s i 0) ≡ true → Passing f s (i + 1)
  passing-on i p h e = record { inside = omega arith; rest = rw add-one (sym (all_cons i true h e) ∙ p.rest) }

  pub passing-not : (i : ℕ) → Passing f s i → i < length s → f (get_or s i 0) ≡ false → false ≡ all f s
  passing-not i p h e = sym (all_cons i false h e) ∙ p.rest

  pub passing-all : (i : ℕ) → Passing f s i → length s ≤ i → true ≡ all f s
  unfolding all
  passing-all i p h = sym (ap (all f) (drop_of_length-le s h)) ∙ p.rest

  -- what all pass, the one at i does
  pub passed-at : (i : ℕ) → all f s ≡ true → i < length s → f (get_or s i 0) ≡ true
  unfolding all
  passed-at i e h = and_l (f (get_or s i 0)) _ (sym (ap (all f) (drop-cons s i 0 h)) ∙ all_drop f i s e)

-- a loop that goes on past a byte that fails: `passed` is whether those before i pass, and with those from i on that decides
pub record PassedBefore (f : ℕ → Bool) (s : List ℕ) (i : ℕ) (passed : Bool) : Type 0 where
  pub inside : i ≤ length s
  pub rest : passed && all f (drop i s) ≡ all f s

module _ (f : ℕ → Bool) (s : List ℕ) where
  pub before-start : PassedBefore f s 0 true
  before-start = record { inside = omega arith; rest = refl }

  pub before_on : (i : ℕ) (passed t : Bool) → PassedBefore f s i passed → i < length s → t ≡ f (get_or s i 0) → PassedBefore f s (i + 1) (passed && t)
  before_on i passed t p h e =
      record {
        inside = omega arith;
        rest = rw add-one (and_assoc passed t (all f (drop (suc i) s)) ∙ sym (ap (λ (r : Bool). passed && r) (all_cons f s i t h (sym e))) ∙ p.rest);
      }

  pub before-all : (i : ℕ) (passed : Bool) → PassedBefore f s i passed → length s ≤ i → passed ≡ all f s
  unfolding all
  before-all i passed p h = sym (and-true passed) ∙ sym (ap (λ (l : List ℕ). passed && all f l) (drop_of_length-le s h)) ∙ p.rest
