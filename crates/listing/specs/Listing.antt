-- What `taglist` prints: document 01, "Pairs to try", from "With that tag on standard input" on. Text is a string of bytes.
use Rattle.std.specs.Prelude.{ℕ, zero, suc, ◌+◌, ◌/◌, ◌%◌, List, [], ◌∷◌, ◌++◌, length, leb, if◌then◌else◌}
use Rattle.format.specs.Answers.{Refusal, plain, placed, got, refused, Step, in_order}
use Rattle.format.specs.Pages.{page_size}
use Rattle.format.specs.Sheet.{Entry, entries}
use Rattle.format.specs.Reading.{content_in}
use Rattle.format.specs.Calls.{read_steps}

-- a number in decimal, highest digit first; each turn takes a digit, so n + 1 turns are enough
unfoldable pub digits : ℕ → ℕ → List ℕ
digits zero n = []
digits (suc turns) n = (if leb 10 n then digits turns (n / 10) else []) ++ ((0x30 + n % 10) ∷ [])

unfoldable pub decimal : ℕ → List ℕ
decimal n = digits (n + 1) n

-- the digit of n that counts units, where n has any: how code lays a number down
abbrev pub leading : ℕ → ℕ → List ℕ
leading unit n = if leb unit n then (0x30 + n / unit % 10) ∷ [] else []

-- "Hex is in capitals": two digits for each byte
unfoldable pub hex_digit : ℕ → ℕ
hex_digit d = if leb d 9 then 0x30 + d else 0x37 + d

unfoldable pub hex_of : List ℕ → List ℕ
hex_of [] = []
hex_of (b ∷ s) = hex_digit (b / 16) ∷ hex_digit (b % 16) ∷ hex_of s

-- a line for each element: number, blank, hex, and the line's end
unfoldable pub line_of : ℕ → List ℕ → List ℕ
line_of number bytes = decimal number ++ (0x20 ∷ (hex_of bytes ++ (0x0A ∷ [])))

unfoldable pub lines_of : List Entry → List ℕ
lines_of [] = []
lines_of (e ∷ es) = line_of e.number e.bytes ++ lines_of es

-- "elements " and "refused "
abbrev pub elements_word : List ℕ
elements_word = 0x65 ∷ 0x6C ∷ 0x65 ∷ 0x6D ∷ 0x65 ∷ 0x6E ∷ 0x74 ∷ 0x73 ∷ 0x20 ∷ []

abbrev pub refused_word : List ℕ
refused_word = 0x72 ∷ 0x65 ∷ 0x66 ∷ 0x75 ∷ 0x73 ∷ 0x65 ∷ 0x64 ∷ 0x20 ∷ []

-- a word, a number, and the line's end
abbrev pub counted : List ℕ → ℕ → List ℕ
counted word n = word ++ (decimal n ++ (0x0A ∷ []))

-- the count of elements, and their lines
unfoldable pub elements_text : List Entry → List ℕ
elements_text es = counted elements_word (length es) ++ lines_of es

-- one line for a refusal: its number, and for damage the place after a blank, in decimal
unfoldable pub placed_text : ℕ → ℕ → List ℕ
placed_text k p = refused_word ++ (decimal k ++ counted (0x20 ∷ []) p)

abbrev pub refused_text : Refusal → List ℕ
refused_text (plain k) = counted refused_word k
refused_text (placed k p) = placed_text k p

-- what is printed of a tag: its elements, or the line of the refusal
unfoldable pub listed : List ℕ → Step → List ℕ
listed t (got u) = elements_text (entries (content_in t))
listed t (refused x) = refused_text x

-- the room for the sheet that the tag is read into; no tag needs more (`room-enough`, proofs/Room.antt)
abbrev pub sheet_room : ℕ
sheet_room = 8192

-- what `taglist` prints of the input t
unfoldable pub listing : List ℕ → List ℕ
listing t = listed t (in_order (read_steps page_size sheet_room t) tt)
