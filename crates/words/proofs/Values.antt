-- The 39 characters and their values give each other back: a test that is computed over the values 0 to 39, and one over the characters 00
-- to 7F.
use mathlib.Core.Path.{◌≡◌, refl}
use mathlib.Core.Logic.{⊎_elim}
use Prim.Native.Nat.{ℕ, zero, suc, ◌<◌}
use native.Mathlib.Nat.{not-suc-le-zero}
use native.Mathlib.Omega.{arith}
use mathlib.Core.Bool.{Bool, true, false, ◌&&◌, ◌||◌}
use lib.Dec.{leb, ltb, eqb}
use borrow.Author.Tests.{eqb-true, eqb-false, ne_eqb, leb-true, leb-false, ltb-true}
use Rattle.format.proofs.Tests.{never, and_l, and_r, or-inv}
use Rattle.format.proofs.Text.{between-over}
use Rattle.words.specs.Code40.{value_of, character_of, outside, is646}
use Rattle.words.proofs.Cases.{decide}

-- every number below n passes the test f
unfoldable pub below : (ℕ → Bool) → ℕ → Bool
below f zero = true
below f (suc n) = f n && below f n

pub below_at : (f : ℕ → Bool) (n : ℕ) → below f n ≡ true → (k : ℕ) → k < n → f k ≡ true
unfolding below
below_at f zero e k h = absurd (not-suc-le-zero h)
below_at f (suc n) e k h =
    let before = below_at f n (and_r (f n) (below f n) e) k in
    decide (eqb k n) (λ q. rw (eqb-true k n q) (and_l (f n) (below f n) e)) (λ q. before (omega (arith, eqb-false k n q)))

-- ---- from a value to its character and back

unfoldable right_character : ℕ → Bool
right_character v = eqb (value_of (character_of v)) v || eqb v 0

right-characters : below right_character 40 ≡ true
unfolding below right_character value_of character_of
right-characters = refl

pub value-back : (v : ℕ) → v < 40 → (v ≡ 0 → ⊥) → value_of (character_of v) ≡ v
unfolding right_character
value-back v h n =
    ⊎_elim (λ (t : eqb (value_of (character_of v)) v ≡ true). eqb-true _ v t) (λ (t : eqb v 0 ≡ true). absurd (n (eqb-true v 0 t)))
    (or-inv (eqb (value_of (character_of v)) v) (eqb v 0) (below_at right_character 40 right-characters v h))

-- ---- from a character to its value and back

-- a value is below 40, and one of the 39 is the character of its value
unfoldable right_value : ℕ → Bool
right_value c = ltb (value_of c) 40 && (outside c || eqb (character_of (value_of c)) c)

right-values : below right_value 0x80 ≡ true
unfolding below right_value value_of character_of
right-values = refl

-- above 7F there is none of the 39
high_value : (c : ℕ) → 0x7F < c → value_of c ≡ 0
unfolding value_of
high_value c h =
    rw (between-over 0x41 0x5A c (omega arith), ne_eqb c 0x2D (λ e. omega arith), ne_eqb c 0x2E (λ e. omega arith), ne_eqb c 0x3A (λ e. omega arith), between-over 0x30 0x39 c (omega arith))

pub one-of-39-low : (c : ℕ) → outside c ≡ false → is646 c ≡ true
one-of-39-low c o = decide (is646 c) (λ e. e) (λ e. absurd (eqb-false (value_of c) 0 o (high_value c (leb-false c 0x7F e))))

-- a test of every character, computed up to 7F
by-range : (P : ℕ → Type 0) → ((c : ℕ) → c < 0x80 → P c) → ((c : ℕ) → 0x7F < c → P c) → (c : ℕ) → P c
by-range P low high c = decide (leb c 0x7F) (λ e. low c (omega (arith, leb-true c 0x7F e))) (λ e. high c (leb-false c 0x7F e))

pub value-small : (c : ℕ) → value_of c < 40
unfolding right_value
value-small =
    by-range (λ (c : ℕ). value_of c < 40)
    (λ c h. ltb-true (value_of c) 40 (and_l (ltb (value_of c) 40) _ (below_at right_value 0x80 right-values c h)))
    (λ c h. omega (arith, high_value c h))

pub character-back : (c : ℕ) → outside c ≡ false → character_of (value_of c) ≡ c
unfolding right_value
character-back =
    by-range (λ (c : ℕ). outside c ≡ false → character_of (value_of c) ≡ c)
    (λ c h o. ⊎_elim (λ (t : outside c ≡ true). never (cc)) (λ (t : eqb (character_of (value_of c)) c ≡ true). eqb-true (character_of (value_of c)) c t)
    (or-inv (outside c) (eqb (character_of (value_of c)) c) (and_r (ltb (value_of c) 40) _ (below_at right_value 0x80 right-values c h))))
    (λ c h o. absurd (eqb-false (value_of c) 0 o (high_value c h)))
