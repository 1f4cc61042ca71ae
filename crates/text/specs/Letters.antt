-- How a text is judged, one letter after the other, over the rows of `format`, specs/Text.antt.
use Rattle.std.specs.Prelude.{ℕ, ◌≤◌, ◌<◌, ◌≡◌, Bool, false, List, [], ◌∷◌, length, drop, Option, Some, None, leb, if◌then◌else◌}
use Rattle.format.specs.Text.{Range, inside, tail, rows, after, rows_from}

-- The bytes of s up to k stand, and due is due: what stands from k on decides.
pub record Stands (s : List ℕ) (due : List Range) (k : ℕ) : Type 0 where
  pub within : k ≤ length s
  pub rest : rows_from [] s ≡ rows_from due (drop k s)

-- s begins with a letter of n bytes, or with none.
abbrev pub Letter : List ℕ → Option ℕ → Type 0
Letter s None = rows_from [] s ≡ false
Letter s (Some n) = (0 < n) × Stands s [] n

-- what follows the second byte of a letter of three or four, which begins with lead
abbrev pub behind : ℕ → List Range
behind lead = if leb lead 0xEF then tail ∷ [] else tail ∷ tail ∷ []

-- r says whether b can stand behind lead; then more is due. 00 cannot.
pub record Second (lead : ℕ) (more : List Range) (b : ℕ) (r : Bool) : Type 0 where
  pub range : Range
  pub row : after lead rows ≡ range ∷ more
  pub zero-not : inside range 0 ≡ false
  pub is : r ≡ inside range b
