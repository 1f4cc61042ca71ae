-- The words of a text, one at a time: the first word and then those of what stands behind its characters. So they are the words of the house
-- rule, and no others are.
use mathlib.Core.Path.{◌≡◌, refl, sym, ap, ◌∙◌}
use Prim.Native.Nat.{ℕ}
use mathlib.Core.Bool.{Bool, true, false}
use mathlib.Core.List.{List, [], ◌∷◌, ◌++◌, append-nil}
use lib.ListN.{drop}
use Rattle.words.specs.Code40.{value_of, outside, word_of, holding, packed, words_from, words_of}
use Rattle.words.specs.Meaning.{Ends, end, before, Laid, nothing, three, two, one, held}
use Rattle.words.proofs.Cases.{decide}

-- ---- a run

module _ (run : List ℕ) (c : ℕ) (s : List ℕ) where
  -- ends at a character outside the 39,
  at-outside : outside c ≡ true → words_from run (c ∷ s) ≡ packed run ++ (holding c ∷ words_of s)
  unfolding words_from
  at-outside o = rw o

  -- goes on at any other,
  at-inside : outside c ≡ false → words_from run (c ∷ s) ≡ words_from (run ++ (value_of c ∷ [])) s
  unfolding words_from
  at-inside o = rw o

-- and gives a word for its first three
first-of-run : (a b c : ℕ) (run s : List ℕ) → words_from (a ∷ b ∷ c ∷ run) s ≡ word_of a b c ∷ words_from run s
unfolding words_from packed
first-of-run a b c run [] = refl
first-of-run a b c run (x ∷ s) = go (outside x) refl (first-of-run a b c (run ++ (value_of x ∷ [])) s)
  where
    go : (t : Bool) → outside x ≡ t
        → words_from (a ∷ b ∷ c ∷ (run ++ (value_of x ∷ []))) s ≡ word_of a b c ∷ words_from (run ++ (value_of x ∷ [])) s
        → words_from (a ∷ b ∷ c ∷ run) (x ∷ s) ≡ word_of a b c ∷ words_from run (x ∷ s)
    go true o later = at-outside (a ∷ b ∷ c ∷ run) x s o ∙ ap (λ (ws : List ℕ). word_of a b c ∷ ws) (sym (at-outside run x s o))
    go false o later = at-inside (a ∷ b ∷ c ∷ run) x s o ∙ later ∙ ap (λ (ws : List ℕ). word_of a b c ∷ ws) (sym (at-inside run x s o))

-- ---- the first word

module _ (c : ℕ) (s : List ℕ) where
  pub first-held : outside c ≡ true → words_of (c ∷ s) ≡ holding c ∷ words_of s
  unfolding packed
  first-held o = at-outside [] c s o

-- where a run ends, its words come first
run_ends : (run : List ℕ) {s : List ℕ} → Ends s → words_from run s ≡ packed run ++ words_of s
unfolding words_from packed
run_ends run end = sym (append-nil (packed run))
run_ends run (before {c = c} {s = s} o) = at-outside run c s o ∙ ap (λ (ws : List ℕ). packed run ++ ws) (sym (first-held c s o))

module _ (a : ℕ) (oa : outside a ≡ false) where
  pub first_one : {s : List ℕ} → Ends s → words_of (a ∷ s) ≡ word_of (value_of a) 0 0 ∷ words_of s
  unfolding packed
  first_one {s} e = at-inside [] a s oa ∙ run_ends (value_of a ∷ []) e

  module _ (b : ℕ) (ob : outside b ≡ false) where
    both : (s : List ℕ) → words_of (a ∷ b ∷ s) ≡ words_from (value_of a ∷ value_of b ∷ []) s
    both s = at-inside [] a (b ∷ s) oa ∙ at-inside (value_of a ∷ []) b s ob

    pub first_two : {s : List ℕ} → Ends s → words_of (a ∷ b ∷ s) ≡ word_of (value_of a) (value_of b) 0 ∷ words_of s
    unfolding packed
    first_two {s} e = both s ∙ run_ends (value_of a ∷ value_of b ∷ []) e

    pub first_three : (c : ℕ) → outside c ≡ false → (s : List ℕ) → words_of (a ∷ b ∷ c ∷ s) ≡ word_of (value_of a) (value_of b) (value_of c) ∷ words_of s
    first_three c oc s =
        both (c ∷ s) ∙ at-inside (value_of a ∷ value_of b ∷ []) c s oc ∙ first-of-run (value_of a) (value_of b) (value_of c) [] s

-- ---- the house rule

pub laid-words : {s ws : List ℕ} → Laid s ws → words_of s ≡ ws
unfolding words_from packed
laid-words nothing = refl
laid-words (three {a} {b} {c} {s} oa ob oc l) = first_three a oa b ob c oc s ∙ ap (λ (ws : List ℕ). word_of (value_of a) (value_of b) (value_of c) ∷ ws) (laid-words l)
laid-words (two {a} {b} oa ob e l) = first_two a oa b ob e ∙ ap (λ (ws : List ℕ). word_of (value_of a) (value_of b) 0 ∷ ws) (laid-words l)
laid-words (one {a} oa e l) = first_one a oa e ∙ ap (λ (ws : List ℕ). word_of (value_of a) 0 0 ∷ ws) (laid-words l)
laid-words (held {c} {s} o l) = first-held c s o ∙ ap (λ (ws : List ℕ). holding c ∷ ws) (laid-words l)

-- the words of a text are laid by it
abbrev Lays : List ℕ → Type 0
Lays s = Laid s (words_of s)

-- one of the 39, and then what follows: whether there are two more
module _ (a : ℕ) (oa : outside a ≡ false) where
  two-lay : (b : ℕ) → outside b ≡ false → (s : List ℕ) → Lays s → Lays (drop 1 s) → Lays (a ∷ b ∷ s)
  two-lay b ob [] l₁ l₂ = rw (first_two a oa b ob end) (two oa ob end l₁)
  two-lay b ob (c ∷ s) l₁ l₂ =
      decide (outside c) (λ o. rw (first_two a oa b ob (before {c = c} {s = s} o)) (two oa ob (before o) l₁)) (λ o. rw (first_three a oa b ob c o s) (three oa ob o l₂))

  one-lays : (s : List ℕ) → Lays s → Lays (drop 1 s) → Lays (drop 2 s) → Lays (a ∷ s)
  one-lays [] l₀ l₁ l₂ = rw (first_one a oa end) (one oa end l₀)
  one-lays (b ∷ s) l₀ l₁ l₂ = decide (outside b) (λ o. rw (first_one a oa (before {c = b} {s = s} o)) (one oa (before o) l₀)) (λ o. two-lay b o s l₁ l₂)

all-lay : (s : List ℕ) → Lays s × Lays (drop 1 s) × Lays (drop 2 s)
unfolding words_from packed
all-lay [] = (nothing, nothing, nothing)
all-lay (a ∷ s) =
    let l = all-lay s in
    (decide (outside a) (λ o. rw (first-held a s o) (held o l.0)) (λ o. one-lays a o s l.0 l.1 l.2), l.0, l.1)

pub words-laid : (s : List ℕ) → Laid s (words_of s)
words-laid s = (all-lay s).0
