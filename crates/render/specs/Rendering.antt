-- Rendering: the entries that a sheet is made of, and what is answered. The sheet itself is document 01's ("The sheet"), as `format`
-- defines it.
use Rattle.std.specs.Prelude.{◌≡◌, true, ℕ, ◌+◌, ◌≤◌, not, List, [], ◌∷◌, ◌++◌, map, length, leb, eqb, if◌then◌else◌, Result}
use Rattle.std.specs.List as list
use Rattle.format.specs.Answers.{Answer, got, need, in_order, afterwards}
use Rattle.format.specs.Bytes.{bytes, le16, joined, filled}
use Rattle.format.specs.Chain.{other_blocks}
use Rattle.format.specs.Numbers.{given}
use Rattle.format.specs.Reading.{walked, blocks_in}
use Rattle.format.specs.Sheet.{Entry, sheet_of, fitting}
use Rattle.format.specs.declared.Part.{Part}
use Rattle.format.specs.declared.Reason.{Reason}
use Rattle.rows.specs.Rows.{Row}

-- ---- entries

-- the carried blocks of a tag, in tag order
abbrev pub carried_on : List ℕ → List (List ℕ)
carried_on t = other_blocks (blocks_in t)

-- ---- elements; one of no bytes has no entry

-- the head of an entry of len bytes that begin at `at`
abbrev pub head_of : ℕ → ℕ → ℕ → List ℕ
head_of at n len = n ∷ le16 at ++ (len ∷ [])

-- the heads of elements with these numbers; the first one's bytes begin at `at`
unfoldable pub heads_by : ℕ → List ℕ → List Part → List (List ℕ)
heads_by at [] row = []
heads_by at (n ∷ ns) [] = []
heads_by at (n ∷ ns) (p ∷ row) = (if eqb p.len 0 then [] else head_of at n p.len) ∷ heads_by (at + p.len) ns row

-- how many entries they have, and how many bytes
abbrev pub count_by : List Part → ℕ
count_by row = list.count_by (λ (p : Part). not (eqb p.len 0)) row

abbrev pub size_by : List Part → ℕ
size_by row = list.sum_by (λ (p : Part). p.len) row

-- none is longer than 255 bytes
abbrev pub Lengths : List Part → Type 0
Lengths row = bytes (map (λ (p : Part). p.len) row) ≡ true

-- ---- what rendering relies on: a chain that is whole, its carried blocks counted, and a row of elements

pub record Renderable (t made : List ℕ) (elements : List Part) (count size : ℕ) (blocks : List ℕ) : Type 0 where
  pub whole : walked t ≡ got (blocks_in t)
  pub short : length t ≤ 2048
  pub counted : count ≡ length (carried_on t)
  pub sized : size ≡ length (joined (carried_on t))
  pub row : Row t made elements
  pub lengths : Lengths elements
  pub piece : length blocks ≡ size → blocks ≡ joined (carried_on t)

-- ---- the answer

-- reading's last refusals, 14 Offset and 2 Room; else the sheet's length
abbrev pub rendering : List Entry → List ℕ → Answer ℕ
rendering es buffer =
    in_order (need 14 (fitting es) ∷ need 2 (leb (length (sheet_of es)) (length buffer)) ∷ []) (length (sheet_of es))

-- the entries es were rendered into the lent buffer with answer r, which left `sheet` in it
pub record Rendered (es : List Entry) (buffer : List ℕ) (r : Result ℕ Reason) (sheet : List ℕ) : Type 0 where
  pub answered : given r ≡ rendering es buffer
  pub left : sheet ≡ afterwards (rendering es buffer) (filled (sheet_of es) buffer) buffer
