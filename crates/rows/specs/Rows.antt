-- A row: the elements of the table as the code has them. For each place of the table it tells where the element's bytes begin and how many
-- there are. They stand in a source, the tag or the sheet, or from its end on in what was made beside it. No rule of document 01 stands
-- here.
use Rattle.std.specs.Prelude.{◌⊎◌, ℕ, ◌+◌, ◌≤◌, List, [], ◌∷◌, length, map}
use Rattle.format.specs.Bytes.{part}
use Rattle.format.specs.declared.Part.{Part}

-- the strings of s at these parts: the slots that a row holds, where s is the source and what was made
unfoldable pub slots_at : List ℕ → List Part → List (List ℕ)
slots_at s row = map (λ (p : Part). part p.at p.len s) row

-- a part stands in the source or, from its end on, in what was made
abbrev pub Stands : List ℕ → List ℕ → Part → Type 0
Stands src made p = (p.at + p.len ≤ length src) ⊎ ((length src ≤ p.at) × (p.at + p.len ≤ length src + length made))

-- so does each part of a row
pub data Row (src made : List ℕ) : List Part → Type 0 where
  none : Row src made []
  next : {p : Part} {row : List Part} → Stands src made p → Row src made row → Row src made (p ∷ row)
