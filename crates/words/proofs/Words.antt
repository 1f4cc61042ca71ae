-- A word, case by case: what the theorems and the code cite. The arithmetic stands here once: the values that made a word are what division
-- and remainder find in it.
use Rattle.std.specs.Prelude.{if◌then◌else◌}
use mathlib.Core.Path.{◌≡◌, refl, sym, ap, ◌∙◌}
use Prim.Native.Nat.{ℕ, zero, suc, ◌-◌, ◌/◌, ◌%◌, ◌≤◌, ◌<◌}
use native.Mathlib.Nat.{suc-ne-zero}
use native.Mathlib.Omega.{arith}
use mathlib.Core.Bool.{true, false, not}
use mathlib.Core.List.{List, [], ◌∷◌, ◌++◌, append_assoc}
use lib.Dec.{leb, eqb}
use borrow.Author.Tests.{eqb-true, eq-eqb, ne_eqb, leb-true, leb-false}
use Rattle.format.specs.Bytes.{is_empty, all, trim, strip}
use Rattle.format.proofs.Tests.{never}
use Rattle.format.proofs.Text.{between-i, between-over, between-under}
use Rattle.words.specs.Code40.{character_of, word_of, holding, characters_at, unpadded, characters_of, meaningful, text_of}
use Rattle.words.proofs.Cases.{decide}

-- ---- the characters of three values

positive : (n : ℕ) → eqb (suc n) 0 ≡ false
positive n = ne_eqb (suc n) 0 (suc-ne-zero n)

-- by the tests that code makes
pub by_tests : (a b c : ℕ)
    → unpadded (a ∷ b ∷ c ∷ [])
    ≡ (if eqb a 0 then [] else
    if eqb b 0 then (if eqb c 0 then character_of a ∷ [] else []) else
    if eqb c 0 then character_of a ∷ character_of b ∷ [] else
    character_of a ∷ character_of b ∷ character_of c ∷ [])
unfolding unpadded characters_at all strip trim
by_tests zero zero zero = refl
by_tests zero zero (suc c) = refl
by_tests zero (suc b) zero = refl
by_tests zero (suc b) (suc c) = refl
by_tests (suc a) zero zero = simp (positive a)
by_tests (suc a) zero (suc c) = simp (positive a, positive c)
by_tests (suc a) (suc b) zero = simp (positive a, positive b)
by_tests (suc a) (suc b) (suc c) = simp (positive a, positive b, positive c)

module _ (a b c : ℕ) where
  pub pads-first : eqb a 0 ≡ true → unpadded (a ∷ b ∷ c ∷ []) ≡ []
  pads-first p = by_tests a b c ∙ rw p

  pub pad-between : eqb a 0 ≡ false → eqb b 0 ≡ true → eqb c 0 ≡ false → unpadded (a ∷ b ∷ c ∷ []) ≡ []
  pad-between p q r = by_tests a b c ∙ rw (p, q, r)

  pub one_value : eqb a 0 ≡ false → eqb b 0 ≡ true → eqb c 0 ≡ true → unpadded (a ∷ b ∷ c ∷ []) ≡ character_of a ∷ []
  one_value p q r = by_tests a b c ∙ rw (p, q, r)

  pub two-values : eqb a 0 ≡ false → eqb b 0 ≡ false → eqb c 0 ≡ true → unpadded (a ∷ b ∷ c ∷ []) ≡ character_of a ∷ character_of b ∷ []
  two-values p q r = by_tests a b c ∙ rw (p, q, r)

  pub three-values : eqb a 0 ≡ false → eqb b 0 ≡ false → eqb c 0 ≡ false → unpadded (a ∷ b ∷ c ∷ []) ≡ character_of a ∷ character_of b ∷ character_of c ∷ []
  three-values p q r = by_tests a b c ∙ rw (p, q, r)

-- ---- the characters of a word

pub characters-of-three : (w : ℕ) → 0x0001 ≤ w → w ≤ 0xFA00 → characters_of w ≡ unpadded ((w - 1) / 1600 ∷ (w - 1) / 40 % 40 ∷ (w - 1) % 40 ∷ [])
unfolding characters_of
characters-of-three w l m = rw (between-i {low = 0x0001} {high = 0xFA00} {b = w} l m)

pub characters-of-one : (w : ℕ) → 0xFC00 ≤ w → w ≤ 0xFC7F → characters_of w ≡ (w - 0xFC00) ∷ []
unfolding characters_of
characters-of-one w l m = rw (between-over 0x0001 0xFA00 w (omega arith), between-i {low = 0xFC00} {high = 0xFC7F} {b = w} l m)

-- a word with no meaning: 0, from FA01 to FBFF, above FC7F
module _ (w : ℕ) where
  pub none_at_zero : w ≡ 0 → characters_of w ≡ []
  unfolding characters_of
  none_at_zero e = rw (between-under 0x0001 0xFA00 w (omega arith), between-under 0xFC00 0xFC7F w (omega arith))

  pub none_between : 0xFA00 < w → w < 0xFC00 → characters_of w ≡ []
  unfolding characters_of
  none_between l m = rw (between-over 0x0001 0xFA00 w l, between-under 0xFC00 0xFC7F w m)

  pub none_above : 0xFC7F < w → characters_of w ≡ []
  unfolding characters_of
  none_above l = rw (between-over 0x0001 0xFA00 w (omega arith), between-over 0xFC00 0xFC7F w l)

-- the characters of a word that three values make
pub word_back : (a b c : ℕ) → a < 40 → b < 40 → c < 40 → characters_of (word_of a b c) ≡ unpadded (a ∷ b ∷ c ∷ [])
word_back a b c ha hb hc =
    let w : ℕ = word_of a b c in
    let first : (w - 1) / 1600 ≡ a = omega arith in
    let second : (w - 1) / 40 % 40 ≡ b = omega arith in
    let third : (w - 1) % 40 ≡ c = omega arith in
    characters-of-three w (omega arith) (omega arith) ∙ rw (first, second, third)

-- and of one that holds a character
pub holding-back : (c : ℕ) → c ≤ 0x7F → characters_of (holding c) ≡ c ∷ []
holding-back c small =
    let low : holding c - 0xFC00 ≡ c = omega arith in
    characters-of-one (holding c) (omega arith) (omega arith) ∙ ap (λ (x : ℕ). x ∷ []) low

-- ---- a word that has a meaning

pub lacking : {A : Type 0} {l : List ℕ} → l ≡ [] → not (is_empty l) ≡ true → A
lacking e t = let f : false ≡ true = sym (ap (λ (m : List ℕ). not (is_empty m)) e) ∙ t in never (cc)

-- it lies below FA01 or from FC00 to FC7F
module _ (w : ℕ) (t : meaningful w ≡ true) where
  pub low-range : w < 0xFC00 → (0x0001 ≤ w) × (w ≤ 0xFA00)
  low-range h = (
    decide (leb 0x0001 w) (leb-true 0x0001 w) (λ p. lacking (none_at_zero w (omega (arith, leb-false 0x0001 w p))) t),
    decide (leb w 0xFA00) (leb-true w 0xFA00) (λ q. lacking (none_between w (leb-false w 0xFA00 q) h) t),
  )

  pub high-range : w ≤ 0xFC7F
  high-range = decide (leb w 0xFC7F) (leb-true w 0xFC7F) (λ p. lacking (none_above w (leb-false w 0xFC7F p)) t)

-- its first value is no pad, and no pad stands before a character
module _ (a b c : ℕ) (t : not (is_empty (unpadded (a ∷ b ∷ c ∷ []))) ≡ true) where
  pub first-there : a ≡ 0 → ⊥
  first-there e = lacking (pads-first a b c (eq-eqb a 0 e)) t

  pub pads-right : b ≡ 0 → c ≡ 0
  pads-right e = decide (eqb c 0) (eqb-true c 0) (λ r. lacking (pad-between a b c (ne_eqb a 0 first-there) (eq-eqb b 0 e) r) t)

-- ---- the text of words

pub text-append : (us ws : List ℕ) → text_of (us ++ ws) ≡ text_of us ++ text_of ws
unfolding text_of
text-append [] ws = refl
text-append (u ∷ us) ws = ap (λ (s : List ℕ). characters_of u ++ s) (text-append us ws) ∙ sym (append_assoc (characters_of u) (text_of us) (text_of ws))
