-- The word that a text begins with: the four ways out of `first`.
use mathlib.Core.Path.{◌≡◌, refl, ap, ◌∙◌}
use Prim.Native.Nat.{ℕ, ◌+◌, ◌*◌, ◌≤◌, ◌<◌}
use native.Mathlib.Omega.{arith}
use mathlib.Core.List.{List, ◌∷◌}
use lib.ListN.{length, drop, get_or}
use borrow.Author.Tests.{eq-eqb}
use Rattle.format.proofs.Strings.{rest-opened}
use Rattle.words.specs.Code40.{value_of, word_of, holding, words_of}
use Rattle.words.proofs.Runs.{first-held, first_one, first_two, first_three}
use Rattle.encoding.specs.Walk.{Takes}
use Rattle.encoding.proofs.Places.{Valued, ends_at}

module _ (s : List ℕ) where
  -- the first three characters
  abbrev x : ℕ
  x = get_or s 0 0

  abbrev y : ℕ
  y = get_or s 1 0

  abbrev z : ℕ
  z = get_or s 2 0

  -- w is the word by the rule, v as the code counts it
  takes : (w v n : ℕ) → n ≤ length s → w ≡ v → words_of s ≡ w ∷ words_of (drop n s) → Takes s v n
  takes w v n inside e first = record { inside = inside; is = first ∙ ap (λ (u : ℕ). u ∷ words_of (drop n s)) e }

  pub takes-held : 0 < length s → value_of x ≡ 0 → Takes s (holding x) 1
  takes-held h e = takes (holding x) _ 1 (omega arith) refl (ap words_of (rest-opened s 0 h) ∙ first-held x (drop 1 s) (eq-eqb _ 0 e))

  module _ {a : ℕ} (p : Valued s 0 a) where
    pub takes_one : value_of y ≡ 0 → Takes s (1600 * a + 1) 1
    takes_one e =
        takes (word_of (value_of x) 0 0) _ 1 (omega arith) (omega arith)
        (ap words_of (rest-opened s 0 p.inside) ∙ first_one x p.one (ends_at s 1 e))

    module _ {b : ℕ} (q : Valued s 1 b) where
      two : s ≡ x ∷ y ∷ drop 2 s
      two = rest-opened s 0 p.inside ∙ ap (λ (r : List ℕ). x ∷ r) (rest-opened s 1 q.inside)

      pub takes_two : value_of z ≡ 0 → Takes s (1600 * a + 40 * b + 1) 2
      takes_two e =
          takes (word_of (value_of x) (value_of y) 0) _ 2 (omega arith) (omega arith)
          (ap words_of two ∙ first_two x p.one y q.one (ends_at s 2 e))

      pub takes-three : {c : ℕ} → Valued s 2 c → Takes s (1600 * a + 40 * b + c + 1) 3
      takes-three {c} r =
          let three : s ≡ x ∷ y ∷ z ∷ drop 3 s = two ∙ ap (λ (l : List ℕ). x ∷ y ∷ l) (rest-opened s 2 r.inside) in
          takes (word_of (value_of x) (value_of y) (value_of z)) _ 3 (omega arith) (omega arith)
          (ap words_of three ∙ first_three x p.one y q.one z r.one (drop 3 s))
