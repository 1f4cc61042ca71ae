-- Where the elements stand in a sheet, and what judging one answers: document 01, "The sheet", with its refusals 8 and 9 in order.
use Rattle.std.specs.Prelude.{◌≡◌, ℕ, ◌+◌, List, [], ◌∷◌, length, eqb, if◌then◌else◌, Result}
use Rattle.format.specs.Answers.{Answer, need, in_order, afterwards}
use Rattle.format.specs.Elements.{numbers}
use Rattle.format.specs.Numbers.{given}
use Rattle.format.specs.Sheet.{Entry, body_at, count_in, entries_in, right_sheet, good_values}
use Rattle.format.specs.declared.Part.{Part}
use Rattle.format.specs.declared.Reason.{Reason}

-- where the bytes of the first entry stand
abbrev pub body_in : List ℕ → ℕ
body_in s = body_at (count_in s)

-- Entries whose numbers rise, beside a table of numbers that do: the first entry has the first number, or that number has no entry. How long
-- the bytes of each number are, where they begin (of none, where the next ones do), and where those begin that have no number of the table;
-- the bytes of the first entry begin at `at`.
unfoldable pub lengths_of : List ℕ → List Entry → List ℕ
lengths_of [] es = []
lengths_of (n ∷ ns) [] = 0 ∷ lengths_of ns []
lengths_of (n ∷ ns) (e ∷ es) = if eqb e.number n then length e.bytes ∷ lengths_of ns es else 0 ∷ lengths_of ns (e ∷ es)

unfoldable pub row_of : ℕ → List ℕ → List Part
row_of at [] = []
row_of at (len ∷ lens) = record { at = at; len = len } ∷ row_of (at + len) lens

unfoldable pub end_of : ℕ → List ℕ → ℕ
end_of at [] = at
end_of at (len ∷ lens) = end_of (at + len) lens

-- the row of a sheet's elements, and where its carried blocks begin: they come last
abbrev pub lens_in : List ℕ → List ℕ
lens_in s = lengths_of numbers (entries_in s)

abbrev pub row_in : List ℕ → List Part
row_in s = row_of (body_in s) (lens_in s)

abbrev pub carried_at : List ℕ → ℕ
carried_at s = end_of (body_in s) (lens_in s)

-- what judging a sheet answers: 8 Sheet, 9 Value, or where its carried blocks begin
unfoldable pub scanning : List ℕ → Answer ℕ
scanning s =
    in_order
    (need 8 (right_sheet s) ∷
    need 9 (good_values (entries_in s)) ∷
    [])
    (carried_at s)

-- judging sheet s answered r, and left this row; at a refusal the one that was there
pub record Scanned (s : List ℕ) (row : List Part) (r : Result ℕ Reason) (row' : List Part) : Type 0 where
  pub answered : given r ≡ scanning s
  pub row-left : row' ≡ afterwards (scanning s) (row_in s) row
