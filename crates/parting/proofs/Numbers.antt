-- Reading digits: what the loop knows at each turn, and how a turn keeps it.
use mathlib.Core.Path.{◌≡◌, refl, sym, ap, ◌∙◌}
use Prim.Native.Nat.{ℕ, zero, suc, ◌+◌, ◌-◌, ◌*◌, ◌≤◌, ◌<◌}
use native.Mathlib.Omega.{arith}
use native.Mathlib.Numerals.{add-one}
use mathlib.Core.Bool.{true}
use mathlib.Core.List.{List}
use lib.ListN.{length, drop, get_or, drop_of_length-le}
use Rattle.format.specs.Bytes.{all}
use Rattle.format.proofs.Passing.{passed-at}
use Rattle.format.proofs.Strings.{rest-opened}
use Rattle.format.proofs.Text.{between-facts}
use Rattle.identifier.specs.SetDigits.{digit, number_from, number_in}
use Rattle.identifier.proofs.Digits.{tens}

-- the digits before byte i say n
pub record Reading (s : List ℕ) (i n : ℕ) : Type 0 where
  pub inside : i ≤ length s
  pub small : n < tens i
  pub rest : number_from n (drop i s) ≡ number_in s

-- what three digits say at most
three-digits : (i : ℕ) → i ≤ 3 → tens i ≤ 1000
unfolding tens
three-digits zero h = omega arith
three-digits (suc zero) h = omega arith
three-digits (suc (suc zero)) h = omega arith
three-digits (suc (suc (suc zero))) h = omega arith
three-digits (suc (suc (suc (suc i)))) h = absurd (omega arith)

pub reading-few : {s : List ℕ} {i n : ℕ} → Reading s i n → length s ≤ 3 → n < 1000
reading-few {s} {i} {n} p h = omega (arith, p.small, three-digits i (omega (arith, p.inside)))

pub digit-range : (s : List ℕ) (i : ℕ) → all digit s ≡ true → i < length s → (0x30 ≤ get_or s i 0) × (get_or s i 0 ≤ 0x39)
digit-range s i d h = between-facts 0x30 0x39 (get_or s i 0) (passed-at digit s i d h)

module _ (s : List ℕ) where
  pub reading-starts : Reading s 0 0
  unfolding tens
  reading-starts = record { inside = omega arith; small = omega arith; rest = refl }

  pub reading-on : (i n : ℕ) → Reading s i n → all digit s ≡ true → i < length s → Reading s (i + 1) (10 * n + (get_or s i 0 - 0x30))
  unfolding tens number_from
  reading-on i n p d h =
      record {
        inside = omega arith;
        small = rw add-one (omega (arith, p.small, digit-range s i d h));
        rest = sym (ap (number_from n) (rest-opened s i h)) ∙ p.rest;
      }

  pub reading-ends : (i n : ℕ) → Reading s i n → length s ≤ i → n ≡ number_in s
  unfolding number_from
  reading-ends i n p h = sym (ap (number_from n) (drop_of_length-le s h)) ∙ p.rest
