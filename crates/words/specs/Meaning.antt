-- Words and text held side by side: document 02, E2, said without taking a word apart and without building a row of words. The theorems in
-- proofs/Promises.antt measure `characters_of`, `text_of` and `words_of` by this.
use Rattle.std.specs.Prelude.{◌≡◌, ℕ, ◌≤◌, true, false, List, [], ◌∷◌, ◌++◌}
use Rattle.words.specs.Code40.{value_of, outside, word_of, holding}

-- a word stands for one to three characters of the 39, with pads at the right only, or for one ISO/IEC 646 character
pub data Means : ℕ → List ℕ → Type 0 where
  three : {a b c : ℕ} → outside a ≡ false → outside b ≡ false → outside c ≡ false → Means (word_of (value_of a) (value_of b) (value_of c)) (a ∷ b ∷ c ∷ [])
  two : {a b : ℕ} → outside a ≡ false → outside b ≡ false → Means (word_of (value_of a) (value_of b) 0) (a ∷ b ∷ [])
  one : {a : ℕ} → outside a ≡ false → Means (word_of (value_of a) 0 0) (a ∷ [])
  held : {c : ℕ} → c ≤ 0x7F → Means (holding c) (c ∷ [])

-- words that all have a meaning, and what they say together
pub data Says : List ℕ → List ℕ → Type 0 where
  nothing : Says [] []
  word : {w : ℕ} {p ws s : List ℕ} → Means w p → Says ws s → Says (w ∷ ws) (p ++ s)

-- here a run of the 39 ends: the next character is outside them, or there is none
pub data Ends : List ℕ → Type 0 where
  end : Ends []
  before : {c : ℕ} {s : List ℕ} → outside c ≡ true → Ends (c ∷ s)

-- the words of a text by the house rule: a word for each three of a run, a padded one for one or two that are left where it ends, an FC
-- word for a character outside the 39
pub data Laid : List ℕ → List ℕ → Type 0 where
  nothing : Laid [] []
  three : {a b c : ℕ} {s ws : List ℕ} → outside a ≡ false → outside b ≡ false → outside c ≡ false
      → Laid s ws → Laid (a ∷ b ∷ c ∷ s) (word_of (value_of a) (value_of b) (value_of c) ∷ ws)
  two : {a b : ℕ} {s ws : List ℕ} → outside a ≡ false → outside b ≡ false → Ends s → Laid s ws → Laid (a ∷ b ∷ s) (word_of (value_of a) (value_of b) 0 ∷ ws)
  one : {a : ℕ} {s ws : List ℕ} → outside a ≡ false → Ends s → Laid s ws → Laid (a ∷ s) (word_of (value_of a) 0 0 ∷ ws)
  held : {c : ℕ} {s ws : List ℕ} → outside c ≡ true → Laid s ws → Laid (c ∷ s) (holding c ∷ ws)
