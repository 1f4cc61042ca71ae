-- The characters that are read from a word are those that it stands for, and the text of words is what they say.
use mathlib.Core.Path.{◌≡◌, refl, sym, ap, ap₂, ◌∙◌, subst}
use Prim.Native.Nat.{ℕ, ◌-◌, ◌/◌, ◌%◌, ◌*◌, ◌≤◌, ◌<◌}
use native.Mathlib.Omega.{arith}
use mathlib.Core.Bool.{true, false, not}
use mathlib.Core.List.{List, [], ◌∷◌, ◌++◌}
use lib.ListN.{length, length-append}
use lib.Dec.{ltb, eqb}
use borrow.Author.Tests.{eqb-true, eqb-false, eq-eqb, ne_eqb, ltb-true, ltb-false}
use Rattle.format.specs.Bytes.{is_empty, all}
use Rattle.format.proofs.Tests.{and_l, and_r, and_i}
use Rattle.words.specs.Code40.{value_of, character_of, outside, word_of, holding, unpadded, characters_of, meaningful, text_of}
use Rattle.words.specs.Meaning.{Means, three, two, one, held, Says, nothing, word}
use Rattle.words.proofs.Cases.{decide}
use Rattle.words.proofs.Values.{value-back, value-small, character-back}
use Rattle.words.proofs.Words.{one_value, two-values, three-values, characters-of-three, characters-of-one, word_back, holding-back, low-range, high-range, first-there, pads-right}

-- ---- a word read

-- what a word stands for is read from it
pub means-read : {w : ℕ} {p : List ℕ} → Means w p → characters_of w ≡ p
means-read (three {a} {b} {c} oa ob oc) =
    word_back _ _ _ (value-small a) (value-small b) (value-small c) ∙ three-values _ _ _ oa ob oc ∙ rw (character-back a oa, character-back b ob, character-back c oc)
means-read (two {a} {b} oa ob) = word_back _ _ 0 (value-small a) (value-small b) (omega arith) ∙ two-values _ _ 0 oa ob refl ∙ rw (character-back a oa, character-back b ob)
means-read (one {a} oa) = word_back _ 0 0 (value-small a) (omega arith) (omega arith) ∙ one_value _ 0 0 oa refl refl ∙ rw (character-back a oa)
means-read (held {c} h) = holding-back c h

means-some : {w : ℕ} {p : List ℕ} → Means w p → not (is_empty p) ≡ true
means-some (three oa ob oc) = refl
means-some (two oa ob) = refl
means-some (one oa) = refl
means-some (held h) = refl

pub means-meaningful : {w : ℕ} {p : List ℕ} → Means w p → meaningful w ≡ true
means-meaningful m = ap (λ (p : List ℕ). not (is_empty p)) (means-read m) ∙ means-some m

-- ---- and it stands for what is read from it

of-the-39 : (v : ℕ) → v < 40 → (v ≡ 0 → ⊥) → outside (character_of v) ≡ false
of-the-39 v h n = ne_eqb _ 0 (λ e. n (sym (value-back v h n) ∙ e))

-- three values with pads only at the right
module _ (a b c : ℕ) (ha : a < 40) (hb : b < 40) (hc : c < 40) (na : a ≡ 0 → ⊥) where
  one-means : eqb b 0 ≡ true → eqb c 0 ≡ true → Means (word_of a b c) (unpadded (a ∷ b ∷ c ∷ []))
  one-means q r =
      let m : Means (word_of (value_of (character_of a)) 0 0) (character_of a ∷ []) = one (of-the-39 a ha na) in
      rw (one_value a b c (ne_eqb a 0 na) q r, eqb-true b 0 q, eqb-true c 0 r) (rw (value-back a ha na) at m)

  module _ (nb : b ≡ 0 → ⊥) where
    two-mean : eqb c 0 ≡ true → Means (word_of a b c) (unpadded (a ∷ b ∷ c ∷ []))
    two-mean r =
        let m : Means (word_of (value_of (character_of a)) (value_of (character_of b)) 0) (character_of a ∷ character_of b ∷ []) = two (of-the-39 a ha na) (of-the-39 b hb nb) in
        rw (two-values a b c (ne_eqb a 0 na) (ne_eqb b 0 nb) r, eqb-true c 0 r) (rw (value-back a ha na, value-back b hb nb) at m)

    three-mean : (c ≡ 0 → ⊥) → Means (word_of a b c) (unpadded (a ∷ b ∷ c ∷ []))
    three-mean nc =
        let m : Means (word_of (value_of (character_of a)) (value_of (character_of b)) (value_of (character_of c))) (character_of a ∷ character_of b ∷ character_of c ∷ []) =
        three (of-the-39 a ha na) (of-the-39 b hb nb) (of-the-39 c hc nc) in
        rw (three-values a b c (ne_eqb a 0 na) (ne_eqb b 0 nb) (ne_eqb c 0 nc)) (rw (value-back a ha na, value-back b hb nb, value-back c hc nc) at m)

  values-mean : (b ≡ 0 → c ≡ 0) → Means (word_of a b c) (unpadded (a ∷ b ∷ c ∷ []))
  values-mean right =
      decide (eqb b 0) (λ q. one-means q (eq-eqb c 0 (right (eqb-true b 0 q))))
      (λ q. decide (eqb c 0) (two-mean (eqb-false b 0 q)) (λ r. three-mean (eqb-false b 0 q) (eqb-false c 0 r)))

module _ (w : ℕ) (t : meaningful w ≡ true) where
  low-means : w < 0xFC00 → Means w (characters_of w)
  low-means h =
      let a : ℕ = (w - 1) / 1600 in
      let b : ℕ = (w - 1) / 40 % 40 in
      let c : ℕ = (w - 1) % 40 in
      let r = low-range w t h in
      let e : characters_of w ≡ unpadded (a ∷ b ∷ c ∷ []) = characters-of-three w r.0 r.1 in
      let u : not (is_empty (unpadded (a ∷ b ∷ c ∷ []))) ≡ true = sym (ap (λ (s : List ℕ). not (is_empty s)) e) ∙ t in
      let whole : word_of a b c ≡ w = omega arith in
      subst (λ (x : ℕ). Means x (characters_of w)) whole
      (rw e (values-mean a b c (omega arith) (omega arith) (omega arith) (first-there a b c u) (pads-right a b c u)))

  high-means : 0xFC00 ≤ w → Means w (characters_of w)
  high-means h =
      let m : w ≤ 0xFC7F = high-range w t in
      let whole : holding (w - 0xFC00) ≡ w = omega arith in
      rw (characters-of-one w h m) (subst (λ (x : ℕ). Means x ((w - 0xFC00) ∷ [])) whole (held (omega arith)))

  pub read-means : Means w (characters_of w)
  read-means = decide (ltb w 0xFC00) (λ e. low-means (ltb-true w 0xFC00 e)) (λ e. high-means (ltb-false w 0xFC00 e))

-- ---- words

pub says-meaningful : {ws s : List ℕ} → Says ws s → all meaningful ws ≡ true
unfolding all
says-meaningful nothing = refl
says-meaningful (word m r) = and_i (means-meaningful m) (says-meaningful r)

pub says-text : {ws s : List ℕ} → Says ws s → text_of ws ≡ s
unfolding text_of
says-text nothing = refl
says-text (word m r) = ap₂ (λ (p s : List ℕ). p ++ s) (means-read m) (says-text r)

pub text_says : (ws : List ℕ) → all meaningful ws ≡ true → Says ws (text_of ws)
unfolding all text_of
text_says [] e = nothing
text_says (w ∷ ws) e = word (read-means w (and_l (meaningful w) (all meaningful ws) e)) (text_says ws (and_r (meaningful w) (all meaningful ws) e))

-- at most three characters a word
means-few : {w : ℕ} {p : List ℕ} → Means w p → length p ≤ 3
means-few (three oa ob oc) = omega arith
means-few (two oa ob) = omega arith
means-few (one oa) = omega arith
means-few (held h) = omega arith

pub says-few : {ws s : List ℕ} → Says ws s → length s ≤ 3 * length ws
says-few nothing = omega arith
says-few (word {w} {p} {ws} {s} m r) = omega (arith, length-append p s, means-few m, says-few r)
