-- The loop that stores a number's digits from the last to the first: what it knows at each turn, and how a turn keeps it.
use mathlib.Core.Path.{◌≡◌, refl, sym, ap, ap₂, ◌∙◌}
use Prim.Native.Nat.{ℕ, zero, suc, ◌+◌, ◌-◌, ◌/◌, ◌%◌, ◌≤◌, ◌<◌}
use native.Mathlib.Nat.{le_of_suc-le-suc, not-suc-le-zero}
use native.Mathlib.Omega.{arith}
use mathlib.Core.List.{List, [], ◌∷◌, ◌++◌, append_assoc, append-nil}
use lib.ListN.{length, take, drop, set, length-set, take-append-drop}
use Rattle.format.specs.Pieces.{Stored}
use Rattle.identifier.specs.SetDigits.{digits}
use Rattle.joining.proofs.Pieces.{digits-length}

-- the digits behind the first i are stored, n is what the first i say
pub record Putting (before : List ℕ) (at count number i n : ℕ) (after : List ℕ) : Type 0 where
  pub inside : i ≤ count
  pub kept : length after ≡ length before
  pub tail : List ℕ
  pub whole : digits count number ≡ digits i n ++ tail
  pub text : after ≡ take (at + i) before ++ (tail ++ drop (at + count) before)

pub putting-start : (before : List ℕ) (at count number : ℕ) → Putting before at count number count number before
putting-start before at count number =
    record {
      inside = omega arith;
      kept = refl;
      tail = [];
      whole = sym (append-nil (digits count number));
      text = sym (take-append-drop (at + count) before);
    }

-- the byte behind a front
set_last : (o r : List ℕ) (k b : ℕ) → k < length o → set (take (suc k) o ++ r) k b ≡ take k o ++ (b ∷ r)
set_last [] r k b h = absurd (not-suc-le-zero h)
set_last (x ∷ o) r zero b h = refl
set_last (x ∷ o) r (suc k) b h = ap (λ (l : List ℕ). x ∷ l) (set_last o r k b (le_of_suc-le-suc h))

digits_last : (k n : ℕ) (r : List ℕ) → digits (suc k) n ++ r ≡ digits k (n / 10) ++ ((0x30 + n % 10) ∷ r)
unfolding digits
digits_last k n r = append_assoc (digits k (n / 10)) ((0x30 + n % 10) ∷ []) r

module _ {before : List ℕ} {at count number i n : ℕ} {after : List ℕ} (p : Putting before at count number i n after) (room : at + count ≤ length before) where
  pub putting-on : 0 < i → Putting before at count number (i - 1) (n / 10) (set after (at + (i - 1)) (0x30 + n % 10))
  putting-on h =
      let b : ℕ = 0x30 + n % 10 in
      let k : ℕ = at + (i - 1) in
      let r : List ℕ = p.tail ++ drop (at + count) before in
      let next : i ≡ suc (i - 1) = omega arith in
      let behind : at + i ≡ suc k = omega arith in
      record {
        inside = omega (arith, p.inside);
        kept = length-set after k b ∙ p.kept;
        tail = b ∷ p.tail;
        whole = p.whole ∙ ap (λ (m : ℕ). digits m n ++ p.tail) next ∙ digits_last (i - 1) n p.tail;
        text = ap (λ (l : List ℕ). set l k b) (p.text ∙ ap (λ (m : ℕ). take m before ++ r) behind) ∙ set_last before r k b (omega (arith, p.inside));
      }

  pub putting-all : i ≤ 0 → Stored before at (digits count number) (at + count) after
  unfolding digits
  putting-all h =
      let z : i ≡ 0 = omega arith in
      let all : digits count number ≡ p.tail = p.whole ∙ ap (λ (m : ℕ). digits m n ++ p.tail) z in
      let front : at + i ≡ at = omega arith in
      let long : at + count ≡ at + length (digits count number) = ap (λ (m : ℕ). at + m) (sym (digits-length count number)) in
      (long, p.text ∙ ap₂ (λ (a c : ℕ). take a before ++ (p.tail ++ drop c before)) front long ∙ ap (λ (t : List ℕ). take at before ++ (t ++ drop (at + length (digits count number)) before)) (sym all))
