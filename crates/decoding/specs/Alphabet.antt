-- What the code relies on: the 39 characters, lent in the order of their values.
use Rattle.std.specs.Prelude.{◌≡◌, ℕ, ◌-◌, ◌<◌, List, get_or}
use Rattle.words.specs.Code40.{character_of}

-- at v - 1 stands the character that has the value v
pub record Alphabet (characters : List ℕ) : Type 0 where
  pub at_value : (v : ℕ) → 0 < v → v < 40 → get_or characters (v - 1) 0 ≡ character_of v
