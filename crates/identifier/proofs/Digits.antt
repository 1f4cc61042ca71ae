-- Digits and numbers, over the count of digits: k digits stand for one number below ten to the k, and each such number has k digits.
use mathlib.Core.Path.{◌≡◌, refl, ap, ◌∙◌}
use Prim.Native.Nat.{ℕ, zero, suc, ◌+◌, ◌-◌, ◌*◌, ◌/◌, ◌%◌, ◌≤◌, ◌<◌}
use native.Mathlib.Omega.{arith}
use mathlib.Core.Bool.{true}
use native.Mathlib.Nat.{add-zero, zero-add}
use mathlib.Core.List.{List, [], ◌∷◌, ◌++◌, append_assoc, append-nil}
use lib.ListN.{length, length-append}
use Rattle.format.specs.Bytes.{all}
use Rattle.format.proofs.Tests.{and_l, and_r, and_i}
use Rattle.format.proofs.Text.{between-i, between-facts}
use Rattle.identifier.specs.SetDigits.{digit, number_from, number_in, digits}
use Rattle.identifier.specs.Meaning.{Digits, none, more}

-- ten to the k
unfoldable pub tens : ℕ → ℕ
tens zero = 1
tens (suc k) = 10 * tens k

-- ---- what digits stand for

number_behind : (m d : ℕ) (s : List ℕ) → number_from m (s ++ ((0x30 + d) ∷ [])) ≡ 10 * number_from m s + d
unfolding number_from
number_behind m d [] = omega arith
number_behind m d (c ∷ s) = number_behind (10 * m + (c - 0x30)) d s

pub digits_number : {k n : ℕ} {s : List ℕ} → Digits k n s → number_in s ≡ n
unfolding number_from
digits_number none = refl
digits_number (more {k} {n} {d} {s} h l) = number_behind 0 d s ∙ ap (λ (m : ℕ). 10 * m + d) (digits_number h)

pub digits-count : {k n : ℕ} {s : List ℕ} → Digits k n s → length s ≡ k
digits-count none = refl
digits-count (more {k} {n} {d} {s} h l) = omega (arith, length-append s ((0x30 + d) ∷ []), digits-count h)

all-behind : (s : List ℕ) (c : ℕ) → all digit s ≡ true → digit c ≡ true → all digit (s ++ (c ∷ [])) ≡ true
unfolding all
all-behind [] c e h = rw h refl
all-behind (b ∷ s) c e h = and_i (and_l (digit b) (all digit s) e) (all-behind s c (and_r (digit b) (all digit s) e) h)

pub digits-all : {k n : ℕ} {s : List ℕ} → Digits k n s → all digit s ≡ true
unfolding all
digits-all none = refl
digits-all (more {k} {n} {d} {s} h l) = all-behind s (0x30 + d) (digits-all h) (between-i {low = 0x30} {high = 0x39} {b = 0x30 + d} (omega arith) (omega arith))

pub digits-below : {k n : ℕ} {s : List ℕ} → Digits k n s → n < tens k
unfolding tens
digits-below none = omega arith
digits-below (more {k} {n} {d} {s} h l) = omega (arith, digits-below h)

-- ---- a number's digits

pub digits_are : {k n : ℕ} {s : List ℕ} → Digits k n s → digits k n ≡ s
unfolding digits
digits_are none = refl
digits_are (more {k} {n} {d} {s} h l) =
    let tenth : (10 * n + d) / 10 ≡ n = omega arith in
    let unit : (10 * n + d) % 10 ≡ d = omega arith in
    rw (tenth, unit) (ap (λ (f : List ℕ). f ++ ((0x30 + d) ∷ [])) (digits_are h))

pub are-digits : (k n : ℕ) → n < tens k → Digits k n (digits k n)
unfolding tens digits
are-digits zero n h = let z : n ≡ 0 = omega arith in rw z none
are-digits (suc k) n h =
    let whole : 10 * (n / 10) + n % 10 ≡ n = omega arith in
    let fewer : n / 10 < tens k = omega arith in
    let unit : n % 10 ≤ 9 = omega arith in
    let made : Digits (suc k) (10 * (n / 10) + n % 10) (digits k (n / 10) ++ ((0x30 + n % 10) ∷ [])) = more (are-digits k (n / 10) fewer) unit in
    rw whole at made

-- ---- digits read

-- behind digits that stand for n
digits-behind : {j n : ℕ} {a : List ℕ} → Digits j n a → (s : List ℕ) → all digit s ≡ true → Digits (j + length s) (number_from n s) (a ++ s)
unfolding all number_from
digits-behind {j} {n} {a} h [] e = rw (append-nil a, add-zero j) h
digits-behind {j} {n} {a} h (c ∷ s) e =
    let is : digit c ≡ true = and_l (digit c) (all digit s) e in
    let range = between-facts 0x30 0x39 c is in
    let high : c - 0x30 ≤ 9 = omega (arith, range) in
    let back : 0x30 + (c - 0x30) ≡ c = omega (arith, range) in
    let one : Digits (suc j) (10 * n + (c - 0x30)) (a ++ ((0x30 + (c - 0x30)) ∷ [])) = more h high in
    let next = digits-behind {j = suc j} (rw back at one) s (and_r (digit c) (all digit s) e) in
    let count : suc j + length s ≡ j + suc (length s) = omega arith in
    rw count at (rw (append_assoc a (c ∷ []) s) at next)

pub read-digits : (s : List ℕ) → all digit s ≡ true → Digits (length s) (number_in s) s
read-digits s e = rw (zero-add (length s)) at (digits-behind none s e)
