-- URN Code 40: document 02, E2 (source document 002, 7.3.7). A word is a number of sixteen bits, a text a string of bytes.
use Rattle.std.specs.Prelude.{ℕ, ◌+◌, ◌-◌, ◌*◌, ◌/◌, ◌%◌, Bool, not, List, [], ◌∷◌, ◌++◌, leb, eqb, if◌then◌else◌}
use Rattle.format.specs.Bytes.{is_empty, all, between, strip}

-- ---- the 39 characters

-- "pad is 0, A to Z 1 to 26, hyphen 27, dot 28, colon 29, digits 30 to 39": the value of a character, 0 for one outside the 39
unfoldable pub value_of : ℕ → ℕ
value_of c =
    if between 0x41 0x5A c then c - 0x41 + 1 else
    if eqb c 0x2D then 27 else
    if eqb c 0x2E then 28 else
    if eqb c 0x3A then 29 else
    if between 0x30 0x39 c then c - 0x30 + 30 else
    0

-- the character that has the value v, 1 to 39
unfoldable pub character_of : ℕ → ℕ
character_of v =
    if leb v 26 then v - 1 + 0x41 else
    if eqb v 27 then 0x2D else
    if eqb v 28 then 0x2E else
    if eqb v 29 then 0x3A else
    v - 30 + 0x30

-- "a character outside the 39"
abbrev pub outside : ℕ → Bool
outside c = eqb (value_of c) 0

-- "one ISO/IEC 646 character (00 to 7F)"
abbrev pub is646 : ℕ → Bool
is646 c = leb c 0x7F

-- ---- a word

-- "Three characters with values a, b, c make the word 1600a + 40b + c + 1"
abbrev pub word_of : ℕ → ℕ → ℕ → ℕ
word_of a b c = 1600 * a + 40 * b + c + 1

-- "A word whose high byte is FC holds one ISO/IEC 646 character in its low byte"
abbrev pub holding : ℕ → ℕ
holding c = 0xFC00 + c

-- ---- words read

-- the characters of values
unfoldable pub characters_at : List ℕ → List ℕ
characters_at [] = []
characters_at (v ∷ vs) = character_of v ∷ characters_at vs

-- "Reading accepts pads only at the right of a word, never three": the values' characters, but for the pads at the right; none where there
-- is another pad, or nothing else
unfoldable pub unpadded : List ℕ → List ℕ
unpadded vs = if all (λ v. not (eqb v 0)) (strip vs) then characters_at (strip vs) else []

-- the characters of a word, 1 to 3; none: the word has no meaning
unfoldable pub characters_of : ℕ → List ℕ
characters_of w =
    if between 0x0001 0xFA00 w then unpadded ((w - 1) / 1600 ∷ (w - 1) / 40 % 40 ∷ (w - 1) % 40 ∷ []) else
    if between 0xFC00 0xFC7F w then (w - 0xFC00) ∷ [] else
    []

abbrev pub meaningful : ℕ → Bool
meaningful w = not (is_empty (characters_of w))

-- the text of words
unfoldable pub text_of : List ℕ → List ℕ
text_of [] = []
text_of (w ∷ ws) = characters_of w ++ text_of ws

-- ---- a text written

-- a run of the 39, by its values, in threes from its start; "one or two characters left .. are padded on the right"
unfoldable pub packed : List ℕ → List ℕ
packed [] = []
packed (a ∷ []) = word_of a 0 0 ∷ []
packed (a ∷ b ∷ []) = word_of a b 0 ∷ []
packed (a ∷ b ∷ c ∷ run) = word_of a b c ∷ packed run

-- the words of a run and of the text behind it: "a character outside the 39 takes an FC word", and the run ends before it
unfoldable pub words_from : List ℕ → List ℕ → List ℕ
words_from run [] = packed run
words_from run (c ∷ s) =
    if outside c then packed run ++ (holding c ∷ words_from [] s) else words_from (run ++ (value_of c ∷ [])) s

-- the words of a text
abbrev pub words_of : List ℕ → List ℕ
words_of s = words_from [] s
