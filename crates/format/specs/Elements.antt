-- The elements: document 01, "Elements".
use Rattle.std.specs.Prelude.{ℕ, suc, Bool, true, false, not, ◌&&◌, ◌||◌, List, [], ◌∷◌, ◌++◌, map, length, get_or, set, leb, ltb, eqb, if◌then◌else◌}
use Rattle.format.specs.Bytes.{is_empty, all, word, le16}
use Rattle.format.specs.Text.{text}
use Rattle.format.specs.Fields.{isil, alternative, long}
use Rattle.format.specs.Chain.{carriable}

-- element 4: parts, then ordinal, each two bytes low first
abbrev pub parts_of : List ℕ → ℕ
parts_of s = word (get_or s 0 0) (get_or s 1 0)

abbrev pub ordinal_of : List ℕ → ℕ
ordinal_of s = word (get_or s 2 0) (get_or s 3 0)

abbrev pub set_bytes : ℕ → ℕ → List ℕ
set_bytes parts ordinal = le16 parts ++ le16 ordinal

-- both at most 255, ordinal at most parts
unfoldable pub set_info : List ℕ → Bool
set_info s = eqb (length s) 4 && leb (parts_of s) 255 && leb (ordinal_of s) 255 && leb (ordinal_of s) (parts_of s)

-- text that is not empty
abbrev pub some_text : List ℕ → Bool
some_text s = not (is_empty s) && text s

abbrev pub one_byte : List ℕ → Bool
one_byte s = eqb (length s) 1

-- one byte, not 00
abbrev pub media : List ℕ → Bool
media s = one_byte s && not (eqb (get_or s 0 0) 0)

-- ---- the table

-- a row: an element's number, whether it is always present, and the form of its bytes in a sheet
pub record Kind : Type 0 where
  pub number : ℕ
  pub required : Bool
  pub shape : List ℕ → Bool

abbrev optional : ℕ → (List ℕ → Bool) → Kind
optional n f = record { number = n; required = false; shape = f }

abbrev always : ℕ → (List ℕ → Bool) → Kind
always n f = record { number = n; required = true; shape = f }

-- the rows of what stands at most once, with rising numbers
abbrev pub elements : List Kind
elements =
    optional 1 some_text ∷
    optional 3 isil ∷
    always 4 set_info ∷
    always 5 one_byte ∷
    optional 19 media ∷
    optional 22 some_text ∷
    optional 23 alternative ∷
    []

-- how many they are
abbrev pub places : ℕ
places = length elements

abbrev pub numbers : List ℕ
numbers = map (λ r. r.number) elements

-- all rows: the last one is that of the carried blocks
abbrev pub table : List Kind
table = elements ++ optional 255 carriable ∷ []

-- what is true of the row with a number; of an unknown number nothing is
abbrev pub kind_is : (Kind → Bool) → List Kind → ℕ → Bool
kind_is f [] n = false
kind_is f (r ∷ rs) n = if eqb n r.number then f r else kind_is f rs n

abbrev pub required : ℕ → Bool
required n = kind_is (λ r. r.required) table n

unfoldable pub shape : ℕ → List ℕ → Bool
shape n s = kind_is (λ r. r.shape s) table n

-- a sheet gives an element's length one byte
unfoldable pub form : ℕ → List ℕ → Bool
form n s = shape n s && leb (length s) 255

-- what may stand for a number of the table: its form or, unless it is always present, nothing
unfoldable pub value : ℕ → List ℕ → Bool
value n s = if is_empty s then not (required n) else form n s

-- ---- all elements together: a string for each number of the table, empty where there is none; the carried blocks in tag order

pub record Content : Type 0 where
  pub slots : List (List ℕ)
  pub carried : List (List ℕ)

-- where a number stands in a list of numbers: the list's length if nowhere
abbrev pub place_in : List ℕ → ℕ → ℕ
place_in [] n = 0
place_in (m ∷ ms) n = if eqb m n then 0 else suc (place_in ms n)

abbrev pub place : ℕ → ℕ
place n = place_in numbers n

-- a number of the table other than 255
unfoldable pub known : ℕ → Bool
known n = ltb (place n) (length numbers)

-- the string of a number among them
abbrev pub slot : List (List ℕ) → ℕ → List ℕ
slot ss n = get_or ss (place n) []

-- the element with a number
abbrev pub el : Content → ℕ → List ℕ
el c n = slot c.slots n

-- the elements with another string for a number: no bytes means remove
unfoldable pub put : Content → ℕ → List ℕ → Content
put c n s = record { slots = set c.slots (place n) s; carried = c.carried }

-- 3 and 23 clash; 22 clashes with a 1 longer than 16 bytes
unfoldable pub clash : List (List ℕ) → Bool
clash ss = (not (is_empty (slot ss 3)) && not (is_empty (slot ss 23))) || (not (is_empty (slot ss 22)) && long (slot ss 1))

-- a string for each number, each with its value
unfoldable pub values_at : List ℕ → List (List ℕ) → Bool
values_at [] [] = true
values_at [] (s ∷ ss) = false
values_at (n ∷ ns) [] = false
values_at (n ∷ ns) (s ∷ ss) = value n s && values_at ns ss

-- the elements that a sheet may hold
unfoldable pub sound : Content → Bool
sound c = values_at numbers c.slots && all (form 255) c.carried && not (clash c.slots)
