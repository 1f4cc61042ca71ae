-- The sheet: document 01, "The sheet". A header of counts and offsets, then the bytes.
use Rattle.std.specs.Prelude.{ℕ, zero, suc, ◌+◌, ◌*◌, Bool, true, not, ◌&&◌, ◌||◌, List, [], ◌∷◌, ◌++◌, map, length, get_or, take, drop, leb, ltb, eqb, if◌then◌else◌}
use Rattle.format.specs.Bytes.{is_empty, all, same, le16, word}
use Rattle.format.specs.Elements.{Content, numbers, required, form}

pub record Entry : Type 0 where
  pub number : ℕ
  pub bytes : List ℕ

-- for each entry its number, its offset from the sheet's start (two bytes, low first), its length; `at` is the first entry's offset
unfoldable pub heads : ℕ → List Entry → List ℕ
heads at [] = []
heads at (e ∷ es) = e.number ∷ le16 at ++ (length e.bytes ∷ heads (at + length e.bytes) es)

unfoldable pub bodies : List Entry → List ℕ
bodies [] = []
bodies (e ∷ es) = e.bytes ++ bodies es

-- where the bytes begin behind k heads
abbrev pub body_at : ℕ → ℕ
body_at k = 2 + 4 * k

-- the sheet of these entries: their count, their heads, and their bytes with no gap, in entry order
unfoldable pub sheet_of : List Entry → List ℕ
sheet_of es = le16 (length es) ++ (heads (body_at (length es)) es ++ bodies es)

-- no offset passes 65,535
unfoldable pub offsets_fit : ℕ → List Entry → Bool
offsets_fit at [] = true
offsets_fit at (e ∷ es) = leb at 65535 && offsets_fit (at + length e.bytes) es

abbrev pub fitting : List Entry → Bool
fitting es = offsets_fit (body_at (length es)) es

-- numbers rise strictly; 255 comes last and may repeat
unfoldable pub rising_from : ℕ → List Entry → Bool
rising_from n [] = true
rising_from n (e ∷ es) = (ltb n e.number || (eqb n 255 && eqb e.number 255)) && rising_from e.number es

unfoldable pub rising : List Entry → Bool
rising [] = true
rising (e ∷ es) = rising_from e.number es

-- ---- a sheet taken apart

-- the k entries whose heads begin h, their bytes cut one after the other from b
unfoldable pub cut : ℕ → List ℕ → List ℕ → List Entry
cut zero h b = []
cut (suc k) h b =
    let n : ℕ = get_or h 3 0 in
    record { number = get_or h 0 0; bytes = take n b } ∷ cut k (drop 4 h) (drop n b)

-- the count of entries stands in the first two bytes
abbrev pub count_in : List ℕ → ℕ
count_in s = word (get_or s 0 0) (get_or s 1 0)

unfoldable pub entries_in : List ℕ → List Entry
entries_in s = cut (count_in s) (drop 2 s) (drop (body_at (count_in s)) s)

-- header, order, offsets and end are right: it is the sheet of the entries that it names, each offset fits its two bytes, and they rise
unfoldable pub right_sheet : List ℕ → Bool
right_sheet s = let es : List Entry = entries_in s in same (sheet_of es) s && fitting es && rising es

-- ---- entries and elements

-- the bytes of the entry with a number, nothing where there is none
unfoldable pub find : ℕ → List Entry → List ℕ
find n [] = []
find n (e ∷ es) = if eqb e.number n then e.bytes else find n es

unfoldable pub carried_in : List Entry → List (List ℕ)
carried_in [] = []
carried_in (e ∷ es) = if eqb e.number 255 then e.bytes ∷ carried_in es else carried_in es

unfoldable pub content_of : List Entry → Content
content_of es = record { slots = map (λ n. find n es) numbers; carried = carried_in es }

abbrev pub formed : Entry → Bool
formed e = form e.number e.bytes

-- what is always present is there
abbrev pub present : List Entry → ℕ → Bool
present es n = not (required n) || not (is_empty (find n es))

-- no unknown number, no bad value, 4 and 5 there
unfoldable pub good_values : List Entry → Bool
good_values es = all formed es && all (present es) numbers

-- an entry for each string that is not empty
unfoldable pub entries_at : List ℕ → List (List ℕ) → List Entry
entries_at [] ss = []
entries_at (n ∷ ns) [] = []
entries_at (n ∷ ns) (s ∷ ss) = if is_empty s then entries_at ns ss else record { number = n; bytes = s } ∷ entries_at ns ss

unfoldable pub carried_entries : List (List ℕ) → List Entry
carried_entries = map (λ b. record { number = 255; bytes = b })

-- the entries of some elements: by number, and the carried blocks last, in tag order
unfoldable pub entries : Content → List Entry
entries c = entries_at numbers c.slots ++ carried_entries c.carried
