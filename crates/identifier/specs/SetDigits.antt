-- Set information in digits: document 02, E5 (source document 003, 6.6). Total, then ordinal, as many digits for each.
use Rattle.std.specs.Prelude.{ℕ, zero, suc, ◌+◌, ◌-◌, ◌*◌, ◌/◌, ◌%◌, Bool, ◌&&◌, List, [], ◌∷◌, ◌++◌, length, take, drop, leb, eqb, if◌then◌else◌}
use Rattle.format.specs.Bytes.{all, between}

abbrev pub digit : ℕ → Bool
digit c = between 0x30 0x39 c

-- the number that digits say, the highest first; n is what those before them say
unfoldable pub number_from : ℕ → List ℕ → ℕ
number_from n [] = n
number_from n (c ∷ s) = number_from (10 * n + (c - 0x30)) s

abbrev pub number_in : List ℕ → ℕ
number_in s = number_from 0 s

-- n in k digits, "leading zeros kept"
unfoldable pub digits : ℕ → ℕ → List ℕ
digits zero n = []
digits (suc k) n = digits k (n / 10) ++ ((0x30 + n % 10) ∷ [])

-- "two digits for a total of 1 to 9, four for 10 to 99, six for 100 to 255": so many for the total, and as many for the ordinal
unfoldable pub width : ℕ → ℕ
width total = if leb total 9 then 1 else if leb total 99 then 2 else 3

-- ---- a part read

abbrev pub total_in : List ℕ → ℕ
total_in p = number_in (take (length p / 2) p)

abbrev pub ordinal_in : List ℕ → ℕ
ordinal_in p = number_in (drop (length p / 2) p)

-- is the part set information; "ordinal at most total"
unfoldable pub says_set : List ℕ → Bool
says_set p = all digit p && between 1 255 (total_in p) && eqb (length p) (2 * width (total_in p)) && leb (ordinal_in p) (total_in p)

-- ---- a part written

unfoldable pub set_part : ℕ → ℕ → List ℕ
set_part total ordinal = digits (width total) total ++ digits (width total) ordinal
