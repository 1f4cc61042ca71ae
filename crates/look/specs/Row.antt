-- Where a tag that passes every step has its elements: document 01, "The first 34 bytes" and "The chain of blocks". Which bytes are an
-- element is said by `format`'s rules; here stand the places. What a sheet has in another form than the tag is made, and stands behind
-- the tag: set information, usage, and an ISIL with its hyphen.
use Rattle.std.specs.Prelude.{◌≡◌, ℕ, ◌+◌, ◌*◌, ◌≤◌, not, ◌&&◌, ◌||◌, List, [], ◌∷◌, ◌++◌, length, get_or, take, drop, eqb, if◌then◌else◌}
use Rattle.format.specs.declared.Part.{Part}
use Rattle.format.specs.Bytes.{part}
use Rattle.format.specs.Pieces.{from, nowhere}
use Rattle.format.specs.Fields.{hyphen, alternate}
use Rattle.format.specs.Reading.{main_usage}
use Rattle.chain.specs.declared.Chain.{Chain}
use Rattle.fields.specs.declared.Item.{Item}
use Rattle.fields.specs.declared.Item.TheVariants as item
use Rattle.fields.specs.declared.Owner.{Owner}
use Rattle.fields.specs.declared.Owner.TheVariants as owner
use Rattle.fields.specs.declared.LibraryParts.{LibraryParts}
use Rattle.look.specs.declared.judge.Fields.{Fields}

-- ---- items: block 1, which begins at `block`, has its item field from its byte 5 on; that is element 1 under the marker, else 22

abbrev pub item_by : ℕ → Item → LibraryParts → Part
item_by block item.Marker l = from (block + 5) l.item
item_by block (item.Text len) l = from 3 len

abbrev pub alternative_item_by : ℕ → Item → LibraryParts → Part
alternative_item_by block item.Marker l = nowhere
alternative_item_by block (item.Text len) l = from (block + 5) l.item

-- ---- owners: in block 1, from `at` on, if that has one, where its first byte tells its kind; else from byte 23 on, an ISIL with its prefix
-- at byte 21

-- an ISIL of the owner field as a sheet has it
unfoldable pub isil_made : List ℕ → ℕ → ℕ → List ℕ
isil_made t prefix unit = part 21 prefix t ++ (hyphen ∷ part 23 unit t)

-- it is made where the owner is one
abbrev pub isil_said : List ℕ → Owner → List ℕ
isil_said t (owner.Isil prefix unit) = isil_made t prefix unit
isil_said t o = []

abbrev pub isil_bytes : List ℕ → Owner → LibraryParts → List ℕ
isil_bytes t o l = if eqb l.owner 0 then isil_said t o else []

-- it stands behind set information and usage
abbrev pub isil_behind : List ℕ → Owner → Part
isil_behind t (owner.Isil prefix unit) = from (length t + 5) (prefix + 1 + unit)
isil_behind t o = nowhere

abbrev pub isil_by : List ℕ → ℕ → Owner → LibraryParts → Part
isil_by t at o l =
    if eqb l.owner 0 then isil_behind t o else
    if alternate (get_or t at 0 ∷ []) then nowhere else from at l.owner

-- the length of an alternative owner
abbrev pub alternative_length : Owner → ℕ
alternative_length (owner.Alternative len) = len
alternative_length o = 0

abbrev pub alternative_owner_by : List ℕ → ℕ → Owner → LibraryParts → Part
alternative_owner_by t at o l =
    if eqb l.owner 0 then from 23 (alternative_length o) else
    if alternate (get_or t at 0 ∷ []) then from at l.owner else nowhere

-- ---- media and usage

-- a media byte 00 is none
abbrev pub media_length : ℕ → ℕ
media_length media = if eqb media 0 then 0 else 1

-- block 1's usage byte, or else the main qualifier of byte 0
abbrev pub usage_by : List ℕ → LibraryParts → ℕ
usage_by t l = if eqb l.usage 0 then main_usage t * 16 else l.usage

-- ---- all of them, in the order of the table

unfoldable pub row_by : List ℕ → ℕ → Fields → List Part
row_by t block f =
    let at : ℕ = block + 6 + f.library.item in
    item_by block f.item f.library ∷
    isil_by t at f.owner f.library ∷
    from (length t) 4 ∷
    from (length t + 4) 1 ∷
    from (block + 4) (media_length f.library.media) ∷
    alternative_item_by block f.item f.library ∷
    alternative_owner_by t at f.owner f.library ∷
    []

-- what is made: set information and usage, and behind them the ISIL
abbrev pub front_made : List ℕ → LibraryParts → List ℕ
front_made t l = get_or t 1 0 ∷ 0 ∷ get_or t 2 0 ∷ 0 ∷ usage_by t l ∷ []

unfoldable pub made_by : List ℕ → Owner → LibraryParts → List ℕ
made_by t o l = front_made t l ++ isil_bytes t o l

-- ---- the carried blocks

-- in one piece, by block 1, their size and the chain's end: nowhere, unless there are some, block 1 is the first block or there is none, and
-- the chain has no filler
abbrev pub piece_by : Chain → Part
piece_by c =
    if not (eqb c.size 0) && (eqb c.library.len 0 || eqb c.library.at 34) && eqb (34 + c.library.len + c.size) c.end
    then from (34 + c.library.len) c.size
    else nowhere

-- ---- what the functions that lay down a row rely on

-- s in the stead of as many bytes of d from `at` on
abbrev pub stead : ℕ → List ℕ → List ℕ → List ℕ
stead at s d = take at d ++ (s ++ drop (at + length s) d)

-- the two sides of an ISIL of the owner field lie inside the tag, and are no longer than they can be
pub record IsilLies (t : List ℕ) (prefix unit : ℕ) : Type 0 where
  pub some : 1 ≤ prefix
  pub short : prefix ≤ 2
  pub fits : unit ≤ 11
  pub inside : 23 + unit ≤ length t

-- an ISIL of the owner field lies so
pub record FieldLies (t : List ℕ) (o : Owner) : Type 0 where
  pub isil : (prefix unit : ℕ) → o ≡ owner.Isil prefix unit → IsilLies t prefix unit

-- the owner lies inside the tag
pub record OwnerLies (t : List ℕ) (at : ℕ) (o : Owner) (l : LibraryParts) : Type 0 where
  pub size : length t ≤ 2048
  pub field : FieldLies t o
  pub block : (l.owner ≡ 0 → ⊥) → at + l.owner ≤ length t

-- and so does block 1
pub record RowLies (t : List ℕ) (block : ℕ) (f : Fields) : Type 0 where
  pub least : 32 ≤ length t
  pub begins : block ≤ length t
  pub item : f.library.item ≤ length t
  pub owner : OwnerLies t (block + 6 + f.library.item) f.owner f.library
