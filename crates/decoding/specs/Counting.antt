-- How many characters there are, or none: a word with none has no meaning.
use Rattle.std.specs.Prelude.{ℕ, List, [], ◌∷◌, length, Option, None, Some}

unfoldable pub counted : List ℕ → Option ℕ
counted [] = None
counted (c ∷ s) = Some (length (c ∷ s))
