-- How the code finds values, and how it takes a text apart: one word in each turn.
use Rattle.std.specs.Prelude.{◌≡◌, ℕ, suc, ◌≤◌, ◌<◌, List, [], ◌∷◌, length, drop, get_or, set}
use Rattle.words.specs.Code40.{value_of, words_of}

-- a table in which each of these characters is marked with its value, the first with v
unfoldable pub marked : ℕ → List ℕ → List ℕ → List ℕ
marked v [] table = table
marked v (c ∷ cs) table = marked (suc v) cs (set table c v)

-- at each character up to 7F stands its value
pub record Table (values : List ℕ) : Type 0 where
  pub at-character : (c : ℕ) → c < 0x80 → get_or values c 0 ≡ value_of c

-- the words of the text s are `word` and then those behind its first n characters
pub record Takes (s : List ℕ) (word n : ℕ) : Type 0 where
  pub inside : n ≤ length s
  pub is : words_of s ≡ word ∷ words_of (drop n s)
