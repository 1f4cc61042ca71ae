-- A word that has a meaning: its characters by the tests that code makes of it, and the buffer once they are stored one by one.
use mathlib.Core.Path.{◌≡◌, refl, sym, ap, ◌∙◌}
use Prim.Native.Nat.{ℕ, ◌+◌, ◌-◌, ◌/◌, ◌%◌, ◌≤◌, ◌<◌}
use native.Mathlib.Omega.{arith}
use mathlib.Core.Bool.{true, not}
use mathlib.Core.List.{List, [], ◌∷◌}
use lib.ListN.{length, set, length-set}
use lib.Dec.{eqb}
use borrow.Author.Tests.{eqb-true, eqb-false, eq-eqb, ne_eqb}
use Rattle.format.specs.Bytes.{is_empty}
use Rattle.format.specs.Pieces.{Stored}
use Rattle.format.proofs.Pieces.{stored-byte, stored-then, stored-as}
use Rattle.format.proofs.Tests.{never}
use Rattle.words.specs.Code40.{character_of, unpadded, characters_of, meaningful}
use Rattle.words.proofs.Cases.{decide}
use Rattle.words.proofs.Words.{one_value, two-values, three-values, characters-of-three, characters-of-one, low-range, high-range, first-there, pads-right}

-- the three values of a word
abbrev first : ℕ → ℕ
first w = (w - 1) / 1600

abbrev second : ℕ → ℕ
second w = (w - 1) / 40 % 40

abbrev third : ℕ → ℕ
third w = (w - 1) % 40

-- something is there
there : (s : List ℕ) → not (is_empty s) ≡ true → 0 < length s
there [] t = never (cc)
there (x ∷ s) t = omega arith

-- ---- characters stored one behind the other

module _ (o : List ℕ) (at x y : ℕ) where
  stored-two : at + 1 < length o → Stored o at (x ∷ y ∷ []) (at + 2) (set (set o at x) (at + 1) y)
  stored-two h =
      let d : List ℕ = set o at x in
      let one = stored-byte o at x (omega arith) in
      let two = stored-byte d (at + 1) y (omega (arith, length-set o at x)) in
      (refl, (stored-then o d _ (x ∷ []) (y ∷ []) at (at + 1) (at + 1 + 1) (omega arith) one two).1)

  stored-three : (z : ℕ) → at + 2 < length o → Stored o at (x ∷ y ∷ z ∷ []) (at + 3) (set (set (set o at x) (at + 1) y) (at + 2) z)
  stored-three z h =
      let d : List ℕ = set (set o at x) (at + 1) y in
      let more = stored-byte d (at + 2) z (omega (arith, length-set o at x, length-set (set o at x) (at + 1) y)) in
      (refl, (stored-then o d _ (x ∷ y ∷ []) (z ∷ []) at (at + 2) (at + 2 + 1) (omega arith) (stored-two (omega arith)) more).1)

-- ---- the characters of a word below FC00

module _ (w : ℕ) (t : meaningful w ≡ true) (low : w < 0xFC00) where
  by_values : characters_of w ≡ unpadded (first w ∷ second w ∷ third w ∷ [])
  by_values = let r = low-range w t low in characters-of-three w r.0 r.1

  meant : not (is_empty (unpadded (first w ∷ second w ∷ third w ∷ []))) ≡ true
  meant = sym (ap (λ (s : List ℕ). not (is_empty s)) by_values) ∙ t

  first-no-pad : first w ≡ 0 → ⊥
  first-no-pad = first-there (first w) (second w) (third w) meant

  pub first-value : (0 < first w) × (first w < 40)
  first-value = let r = low-range w t low in let n = first-no-pad in (omega arith, omega arith)

  one-character : second w ≡ 0 → characters_of w ≡ character_of (first w) ∷ []
  one-character e =
      by_values ∙ one_value (first w) (second w) (third w) (ne_eqb _ 0 first-no-pad) (eq-eqb _ 0 e) (eq-eqb _ 0 (pads-right (first w) (second w) (third w) meant e))

  two-characters : (second w ≡ 0 → ⊥) → third w ≡ 0 → characters_of w ≡ character_of (first w) ∷ character_of (second w) ∷ []
  two-characters n e = by_values ∙ two-values (first w) (second w) (third w) (ne_eqb _ 0 first-no-pad) (ne_eqb _ 0 n) (eq-eqb _ 0 e)

  three-characters : (second w ≡ 0 → ⊥) → (third w ≡ 0 → ⊥) → characters_of w ≡ character_of (first w) ∷ character_of (second w) ∷ character_of (third w) ∷ []
  three-characters n m = by_values ∙ three-values (first w) (second w) (third w) (ne_eqb _ 0 first-no-pad) (ne_eqb _ 0 n) (ne_eqb _ 0 m)

-- ---- a word that has its room in the buffer o from `at` on

module _ (w : ℕ) (t : meaningful w ≡ true) (o : List ℕ) (at : ℕ) (room : at + length (characters_of w) ≤ length o) where
  pub room-one : at < length o
  room-one = omega (arith, there (characters_of w) t)

  -- from FC00 on it holds its character
  pub put-held : 0xFC00 ≤ w → Stored o at (characters_of w) (at + 1) (set o at (w - 0xFC00))
  put-held high = stored-as o _ _ _ at _ (sym (characters-of-one w high (high-range w t))) (stored-byte o at (w - 0xFC00) room-one)

  module _ (low : w < 0xFC00) where
    pub put_one : (x : ℕ) → x ≡ character_of (first w) → second w ≡ 0 → Stored o at (characters_of w) (at + 1) (set o at x)
    put_one x hx e = stored-as o _ _ _ at _ (ap (λ (n : ℕ). n ∷ []) hx ∙ sym (one-character w t low e)) (stored-byte o at x room-one)

    -- the second value is no pad
    module _ (n : second w ≡ 0 → ⊥) where
      pub room-two : at + 1 < length o
      room-two =
          decide (eqb (third w) 0)
          (λ e. omega (arith, ap length (two-characters w t low n (eqb-true _ 0 e))))
          (λ e. omega (arith, ap length (three-characters w t low n (eqb-false _ 0 e))))

      pub room-three : (third w ≡ 0 → ⊥) → at + 2 < length o
      room-three m = omega (arith, ap length (three-characters w t low n m))

      pub put_two : (x y : ℕ) → x ≡ character_of (first w) → y ≡ character_of (second w) → third w ≡ 0
          → Stored o at (characters_of w) (at + 2) (set (set o at x) (at + 1) y)
      put_two x y hx hy e =
          let is : x ∷ y ∷ [] ≡ characters_of w = rw (hx, hy) (sym (two-characters w t low n e)) in
          stored-as o _ _ _ at _ is (stored-two o at x y room-two)

      pub put_three : (x y z : ℕ) → x ≡ character_of (first w) → y ≡ character_of (second w) → z ≡ character_of (third w) → (third w ≡ 0 → ⊥)
          → Stored o at (characters_of w) (at + 3) (set (set (set o at x) (at + 1) y) (at + 2) z)
      put_three x y z hx hy hz m =
          let is : x ∷ y ∷ z ∷ [] ≡ characters_of w = rw (hx, hy, hz) (sym (three-characters w t low n m)) in
          stored-as o _ _ _ at _ is (stored-three o at x y z (room-three m))
