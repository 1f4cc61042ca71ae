-- What the contracts of private functions cite: a right sheet with its count, the head of an entry.
use Rattle.std.specs.Prelude.{◌≡◌, ℕ, ◌+◌, ◌≤◌, true, List, length, get_or}
use Rattle.format.specs.Bytes.{word}
use Rattle.format.specs.Sheet.{body_at, count_in, right_sheet}
use Rattle.sheet.specs.declared.Head.{Head}

-- a right sheet of so many entries; their heads stand in it
pub record RightOf (s : List ℕ) (count : ℕ) : Type 0 where
  pub right : right_sheet s ≡ true
  pub counted : count ≡ count_in s
  pub inside : body_at count ≤ length s

-- r is the head at `at`: number, offset (two bytes, low first), length
pub record HeadOf (s : List ℕ) (at : ℕ) (r : Head) : Type 0 where
  pub number_is : r.number ≡ get_or s at 0
  pub offset-is : r.offset ≡ word (get_or s (at + 1) 0) (get_or s (at + 2) 0)
  pub len_is : r.len ≡ get_or s (at + 3) 0
  pub offset-fits : r.offset ≤ 65535
  pub len-fits : r.len ≤ 255
