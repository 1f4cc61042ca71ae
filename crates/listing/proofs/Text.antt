-- Laws of numbers in decimal, of hex and of lines: how they are put together, and how long they are.
use Rattle.std.specs.Prelude.{if◌then◌else◌}
use mathlib.Core.Path.{◌≡◌, refl, ap, ap₂, ◌∙◌}
use Prim.Native.Nat.{ℕ, suc, ◌+◌, ◌-◌, ◌*◌, ◌/◌, ◌%◌, ◌≤◌, ◌<◌}
use native.Mathlib.Omega.{arith}
use native.Mathlib.Numerals.{add-one}
use mathlib.Core.Bool.{Bool, true, false}
use mathlib.Core.List.{List, [], ◌∷◌, ◌++◌}
use lib.Dec.{leb}
use lib.ListN.{length, take, get_or, length-append}
use lib.Seq.{take-suc}
use borrow.Author.Tests.{le-leb, lt-leb, leb-true, leb-false}
use Rattle.listing.specs.Listing.{digits, decimal, leading, hex_digit, hex_of, line_of, counted}

-- ---- decimal

abbrev pub last : ℕ → List ℕ
last n = (0x30 + n % 10) ∷ []

one-digit : (f n : ℕ) → n < 10 → digits (suc f) n ≡ last n
unfolding digits
one-digit f n h = rw (lt-leb 10 n h)

more-digits : (f n : ℕ) → 10 ≤ n → digits (suc f) n ≡ digits f (n / 10) ++ last n
unfolding digits
more-digits f n h = rw (le-leb 10 n h)

two_digits : (f n : ℕ) → 10 ≤ n → n < 100 → digits (suc (suc f)) n ≡ last (n / 10) ++ last n
two_digits f n l h = more-digits (suc f) n l ∙ ap (λ (s : List ℕ). s ++ last n) (one-digit f (n / 10) (omega arith))

three-digits : (f n : ℕ) → 100 ≤ n → n < 1000 → digits (suc (suc (suc f))) n ≡ (last (n / 100) ++ last (n / 10)) ++ last n
three-digits f n l h =
    let q : n / 10 / 10 ≡ n / 100 = omega arith in
    more-digits (suc (suc f)) n (omega arith) ∙ ap (λ (s : List ℕ). s ++ last n) (two_digits f (n / 10) (omega arith) (omega arith) ∙ ap (λ (k : ℕ). last k ++ last (n / 10)) q)

four-digits : (f n : ℕ) → 1000 ≤ n → n < 10000 → digits (suc (suc (suc (suc f)))) n ≡ ((last (n / 1000) ++ last (n / 100)) ++ last (n / 10)) ++ last n
four-digits f n l h =
    let q : n / 10 / 100 ≡ n / 1000 = omega arith in
    let r : n / 10 / 10 ≡ n / 100 = omega arith in
    more-digits (suc (suc (suc f))) n (omega arith)
    ∙ ap (λ (s : List ℕ). s ++ last n) (three-digits f (n / 10) (omega arith) (omega arith) ∙ ap₂ (λ (k m : ℕ). (last k ++ last m) ++ last (n / 10)) q r)

-- a number below 10,000 digit by digit
pub decimal-leading : (n : ℕ) → n < 10000 → decimal n ≡ ((leading 1000 n ++ leading 100 n) ++ leading 10 n) ++ last n
unfolding decimal
decimal-leading n h = by (leb 10 n) (leb 100 n) (leb 1000 n) refl refl refl
  where
    by : (a b c : Bool) → leb 10 n ≡ a → leb 100 n ≡ b → leb 1000 n ≡ c → digits (n + 1) n ≡ ((leading 1000 n ++ leading 100 n) ++ leading 10 n) ++ last n
    by false b c ea eb ec =
        let l = leb-false 10 n ea in
        rw (lt-leb 1000 n (omega arith), lt-leb 100 n (omega arith), ea, add-one n) (one-digit n n l)
    by true false c ea eb ec =
        let l = leb-true 10 n ea in
        let u = leb-false 100 n eb in
        let m : n + 1 ≡ suc (suc (n - 1)) = omega arith in
        rw (lt-leb 1000 n (omega arith), eb, ea, m) (two_digits (n - 1) n l u)
    by true true false ea eb ec =
        let l = leb-true 100 n eb in
        let u = leb-false 1000 n ec in
        let m : n + 1 ≡ suc (suc (suc (n - 2))) = omega arith in
        rw (ec, eb, ea, m) (three-digits (n - 2) n l u)
    by true true true ea eb ec =
        let l = leb-true 1000 n ec in
        let m : n + 1 ≡ suc (suc (suc (suc (n - 3)))) = omega arith in
        rw (ec, eb, ea, m) (four-digits (n - 3) n l h)

pub leading_length : (u n : ℕ) → length (leading u n) ≤ 1
leading_length u n = go (leb u n)
  where
    go : (t : Bool) → length (if t then (0x30 + n / u % 10) ∷ [] else []) ≤ 1
    go true = omega arith
    go false = omega arith

pub decimal-length : (n : ℕ) → n < 10000 → length (decimal n) ≤ 4
decimal-length n h =
    let a = leading 1000 n in
    let b = leading 100 n in
    let c = leading 10 n in
    omega (
      arith,
      ap length (decimal-leading n h),
      length-append ((a ++ b) ++ c) (last n),
      length-append (a ++ b) c,
      length-append a b,
      leading_length 1000 n,
      leading_length 100 n,
      leading_length 10 n,
    )

-- ---- hex

pub hex-length : (s : List ℕ) → length (hex_of s) ≡ 2 * length s
unfolding hex_of
hex-length [] = refl
hex-length (b ∷ s) = omega (arith, hex-length s)

pub hex-append : (s r : List ℕ) → hex_of (s ++ r) ≡ hex_of s ++ hex_of r
unfolding hex_of
hex-append [] r = refl
hex-append (b ∷ s) r = ap (λ (l : List ℕ). hex_digit (b / 16) ∷ hex_digit (b % 16) ∷ l) (hex-append s r)

pub hex-next : (s : List ℕ) (i : ℕ) → i < length s → hex_of (take (i + 1) s) ≡ hex_of (take i s) ++ (hex_digit (get_or s i 0 / 16) ∷ hex_digit (get_or s i 0 % 16) ∷ [])
unfolding hex_of
hex-next s i h = ap hex_of (ap (λ (k : ℕ). take k s) (add-one i) ∙ take-suc s i 0 h) ∙ hex-append (take i s) (get_or s i 0 ∷ [])

-- ---- lines

pub counted-length : (w : List ℕ) (n : ℕ) → n < 10000 → length (counted w n) ≤ length w + 5
counted-length w n h = omega (arith, length-append w (decimal n ++ (0x0A ∷ [])), length-append (decimal n) (0x0A ∷ []), decimal-length n h)

pub line-length : (n : ℕ) (s : List ℕ) → n < 10000 → length (line_of n s) ≤ 6 + 2 * length s
unfolding line_of
line-length n s h =
    omega (arith, length-append (decimal n) (0x20 ∷ (hex_of s ++ (0x0A ∷ []))), length-append (hex_of s) (0x0A ∷ []), decimal-length n h, hex-length s)
