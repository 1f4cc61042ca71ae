-- Text: document 02, E4. Well-formed UTF-8 as RFC 3629 defines it, without 00 to 1F and 7F; nothing else here knows what text is. The RFC's
-- syntax (section 4) decides. Its code points and their encoding (section 3) stand behind it: `text-exactly` says that both are the same.
use Rattle.std.specs.Prelude.{ℕ, ◌+◌, ◌/◌, ◌%◌, ◌≡◌, Bool, true, false, not, ◌&&◌, ◌||◌, List, [], ◌∷◌, map, leb, eqb, if◌then◌else◌}
use Rattle.format.specs.Bytes.{all, between, joined}

-- ---- the syntax

-- the bytes from one to another
infix 70 ◌to◌
pub data Range : Type 0 where
  ◌to◌ : ℕ → ℕ → Range

abbrev pub inside : Range → ℕ → Bool
inside (low to high) b = between low high b

-- one byte
abbrev only : ℕ → Range
only b = b to b

-- UTF8-tail = %x80-BF
abbrev pub tail : Range
tail = 0x80 to 0xBF

-- a lead byte, and what follows it
infix 60 ◌then◌
pub data Row : Type 0 where
  ◌then◌ : Range → List Range → Row

-- UTF8-char = UTF8-1 / UTF8-2 / UTF8-3 / UTF8-4
unfoldable pub rows : List Row
rows =
    -- UTF8-1, without 00 to 1F and 7F
    (0x20 to 0x7E then []) ∷
    -- UTF8-2
    (0xC2 to 0xDF then (tail ∷ [])) ∷
    -- UTF8-3
    (only 0xE0 then (0xA0 to 0xBF ∷ tail ∷ [])) ∷
    (0xE1 to 0xEC then (tail ∷ tail ∷ [])) ∷
    (only 0xED then (0x80 to 0x9F ∷ tail ∷ [])) ∷
    (0xEE to 0xEF then (tail ∷ tail ∷ [])) ∷
    -- UTF8-4
    (only 0xF0 then (0x90 to 0xBF ∷ tail ∷ tail ∷ [])) ∷
    (0xF1 to 0xF3 then (tail ∷ tail ∷ tail ∷ [])) ∷
    (only 0xF4 then (0x80 to 0x8F ∷ tail ∷ tail ∷ [])) ∷
    []

-- no byte is from FF to 00
abbrev pub nothing : List Range
nothing = 0xFF to 0x00 ∷ []

-- what follows the lead byte b, by its row; where b leads none, nothing can
unfoldable pub after : ℕ → List Row → List Range
after b [] = nothing
after b ((lead then follow) ∷ rs) = if inside lead b then follow else after b rs

-- UTF8-octets = *( UTF8-char ): first what is due of a row, then row after row up to the end
unfoldable pub rows_from : List Range → List ℕ → Bool
rows_from [] [] = true
rows_from [] (b ∷ s) = rows_from (after b rows) s
rows_from (r ∷ due) [] = false
rows_from (r ∷ due) (b ∷ s) = inside r b && rows_from due s

unfoldable pub text : List ℕ → Bool
text s = rows_from [] s

-- ---- code points

-- a Unicode scalar value: up to 10FFFF, and no surrogate
unfoldable pub scalar : ℕ → Bool
scalar v = leb v 0x10FFFF && not (between 0xD800 0xDFFF v)

-- of the controls, those that are taken out
unfoldable pub control : ℕ → Bool
control v = leb v 0x1F || eqb v 0x7F

unfoldable pub letter : ℕ → Bool
letter v = scalar v && not (control v)

-- 10xxxxxx: six bits of v, of which the lowest weighs w
abbrev pub six : ℕ → ℕ → ℕ
six w v = 0x80 + v / w % 64

-- 0xxxxxxx; 110xxxxx 10xxxxxx; 1110xxxx 10xxxxxx 10xxxxxx; 11110xxx 10xxxxxx 10xxxxxx 10xxxxxx
unfoldable pub encode : ℕ → List ℕ
encode v =
    if leb v 0x7F then v ∷ [] else
    if leb v 0x7FF then (0xC0 + v / 64) ∷ six 1 v ∷ [] else
    if leb v 0xFFFF then (0xE0 + v / 4096) ∷ six 64 v ∷ six 1 v ∷ [] else
    (0xF0 + v / 262144) ∷ six 4096 v ∷ six 64 v ∷ six 1 v ∷ []

abbrev pub encodings : List ℕ → List ℕ
encodings vs = joined (map encode vs)

-- a string is a row of letters, each encoded
pub record Encoded (s : List ℕ) : Type 0 where
  pub codes : List ℕ
  pub letters : all letter codes ≡ true
  pub is : s ≡ encodings codes
