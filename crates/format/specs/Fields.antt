-- What fields hold: ISIL and alternative owner (document 01, "Elements"), and the item and owner fields of the basic block ("The first 34
-- bytes"), read and written by the same forms.
use Rattle.std.specs.Prelude.{ℕ, Bool, not, ◌&&◌, ◌||◌, List, [], ◌∷◌, ◌++◌, length, take, drop, get_or, leb, eqb, if◌then◌else◌}
use Rattle.format.specs.Bytes.{is_empty, all, same, between, pad_with, pad, up_to, past}
use Rattle.format.specs.Text.{text}

unfoldable pub capital : ℕ → Bool
capital b = between 0x41 0x5A b

-- A-Z a-z 0-9 / - :
unfoldable pub unit_byte : ℕ → Bool
unit_byte b = capital b || between 0x61 0x7A b || between 0x30 0x39 b || eqb b 0x2F || eqb b 0x2D || eqb b 0x3A

-- an ISIL's two sides: 1 to 4 capitals, and 1 to 11 unit characters
unfoldable pub isil_of : List ℕ → List ℕ → Bool
isil_of prefix unit = between 1 4 (length prefix) && all capital prefix && between 1 11 (length unit) && all unit_byte unit

abbrev pub hyphen : ℕ
hyphen = 0x2D

abbrev pub blank : ℕ
blank = 0x20

-- an ISIL; the first hyphen parts its sides
unfoldable pub isil : List ℕ → Bool
isil s = isil_of (up_to hyphen s) (past hyphen s)

-- begins 02 or 03
abbrev pub alternate : List ℕ → Bool
alternate s = between 2 3 (get_or s 0 0)

-- an alternative owner: 02 or 03, then text
unfoldable pub alternative : List ℕ → Bool
alternative s = alternate s && not (is_empty (drop 1 s)) && text (drop 1 s)

-- an owner is judged as 3, or as 23 where it begins 02 or 03
unfoldable pub is_owner : List ℕ → Bool
is_owner o = if alternate o then alternative o else isil o

-- the marker 01: what belongs here stands in block 1
abbrev pub marker : List ℕ
marker = 1 ∷ []

abbrev pub marked : List ℕ → Bool
marked s = same s marker

-- ---- the fields of the basic block as they are read, without the 00 at their ends

-- the item field holds text or the marker
unfoldable pub good_item : List ℕ → Bool
good_item t = text t || marked t

-- two capitals, or one capital and a blank
unfoldable pub prefix_in : List ℕ → List ℕ
prefix_in t = if eqb (get_or t 1 0) blank then take 1 t else take 2 t

-- the third byte chooses the form: 01 the marker, 02 or 03 an alternative owner, behind two bytes that are not judged; else an ISIL
-- without its hyphen. What the field says, as a sheet has it:
unfoldable pub owner_said : List ℕ → List ℕ
owner_said t = if leb (get_or t 2 0) 3 then drop 2 t else prefix_in t ++ (hyphen ∷ drop 2 t)

unfoldable pub good_owner : List ℕ → Bool
good_owner t =
    is_empty t || marked (drop 2 t) ||
    (if leb (get_or t 2 0) 3 then alternative (drop 2 t) else isil_of (prefix_in t) (drop 2 t))

-- ---- and as they are written

-- element 1 stands here up to 16 bytes
abbrev pub long : List ℕ → Bool
long s = leb 17 (length s)

unfoldable pub item_field : List ℕ → List ℕ
item_field s = pad 16 (if long s then marker else s)

-- an owner in a basic form: an alternative owner behind two 00; an ISIL without its hyphen, one capital filled up by a blank
unfoldable pub packed : List ℕ → List ℕ
packed o = if alternate o then 0 ∷ 0 ∷ o else pad_with blank 2 (up_to hyphen o) ++ past hyphen o

-- the basic forms hold it, in a field of w bytes
unfoldable pub basic_owner : ℕ → List ℕ → Bool
basic_owner w o = (alternate o || leb (length (up_to hyphen o)) 2) && leb (length (packed o)) w

unfoldable pub owner_field : ℕ → List ℕ → List ℕ
owner_field w o = pad w (if is_empty o then [] else if basic_owner w o then packed o else 0 ∷ 0 ∷ marker)
