-- A text at a place: what stands there, and what is left from there on.
use mathlib.Core.Path.{◌≡◌, ap, ◌∙◌}
use Prim.Native.Nat.{ℕ, ◌≤◌, ◌<◌}
use native.Mathlib.Nat.{add-zero}
use native.Mathlib.Omega.{arith}
use mathlib.Core.Bool.{true, false}
use mathlib.Core.List.{List, [], ◌∷◌}
use lib.ListN.{length, drop, get_or, get_or-eq_default}
use lib.Seq.{get_or-drop}
use lib.Dec.{ltb}
use borrow.Author.Tests.{eq-eqb, ne_eqb, ltb-true, ltb-false, leb-true}
use Rattle.format.specs.Bytes.{all}
use Rattle.format.proofs.Passing.{passed-at}
use Rattle.words.specs.Code40.{value_of, outside, is646}
use Rattle.words.specs.Meaning.{Ends, end, before}
use Rattle.words.proofs.Cases.{decide}
use Rattle.words.proofs.Values.{value-small}
use Rattle.encoding.specs.Walk.{Table}

-- where all characters are at most 7F, so is the one at i,
pub low-at : (s : List ℕ) (i : ℕ) → all is646 s ≡ true → i < length s → get_or s i 0 < 0x80
low-at s i e h = omega (arith, leb-true (get_or s i 0) 0x7F (passed-at is646 s i e h))

-- and the table has its value
pub found_at : (values s : List ℕ) (i : ℕ) → Table values → all is646 s ≡ true → i < length s
    → (get_or values (get_or s i 0) 0 ≡ value_of (get_or s i 0)) × (get_or values (get_or s i 0) 0 < 40)
found_at values s i t e h =
    let found = t.at-character (get_or s i 0) (low-at s i e h) in
    (found, omega (arith, value-small (get_or s i 0)))

-- ---- a place that has a value, and one that has none

pub none-behind : (s : List ℕ) (i : ℕ) → length s ≤ i → value_of (get_or s i 0) ≡ 0
unfolding value_of
none-behind s i h = ap value_of (get_or-eq_default s 0 h)

-- at i stands one of the 39, with the value v
pub record Valued (s : List ℕ) (i v : ℕ) : Type 0 where
  pub inside : i < length s
  pub one : outside (get_or s i 0) ≡ false
  pub is : v ≡ value_of (get_or s i 0)

pub valued : (s : List ℕ) (i v : ℕ) → v ≡ value_of (get_or s i 0) → (v ≡ 0 → ⊥) → Valued s i v
valued s i v e n =
    record {
      inside = decide (ltb i (length s)) (ltb-true i (length s)) (λ b. absurd (n (e ∙ none-behind s i (ltb-false i (length s) b))));
      one = ne_eqb _ 0 (λ z. n (e ∙ z));
      is = e;
    }

ends : (r : List ℕ) → value_of (get_or r 0 0) ≡ 0 → Ends r
ends [] e = end
ends (c ∷ r) e = before (eq-eqb (value_of c) 0 e)

-- a run of the 39 ends before a place that has no value
pub ends_at : (s : List ℕ) (i : ℕ) → value_of (get_or s i 0) ≡ 0 → Ends (drop i s)
ends_at s i e = ends (drop i s) (ap value_of (get_or-drop i s 0 0 ∙ ap (λ (n : ℕ). get_or s n 0) (add-zero i)) ∙ e)
