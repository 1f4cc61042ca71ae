-- What the fields of the basic block and of block 1 hold, as judging them answers: document 01, "The first 34 bytes" and "The chain of
-- blocks". Every rule is one of `format`'s; here stand only the cases and the lengths. A field that breaks its form is refusal 6.
use Rattle.std.specs.Prelude.{ℕ, Bool, true, false, List, length, drop, get_or, leb, if◌then◌else◌, Result, Ok, Err}
use Rattle.format.specs.Bytes.{is_empty, strip}
use Rattle.format.specs.Fields.{marked, prefix_in, good_item, good_owner}
use Rattle.format.specs.Chain.{library_in, good_library}
use Rattle.format.specs.declared.Reason.{Reason}
use Rattle.format.specs.declared.Reason.TheVariants as reason
use Rattle.fields.specs.declared.Item.{Item}
use Rattle.fields.specs.declared.Item.TheVariants as item
use Rattle.fields.specs.declared.Owner.{Owner}
use Rattle.fields.specs.declared.Owner.TheVariants as owner
use Rattle.fields.specs.declared.LibraryParts.{LibraryParts}

-- ---- what they hold

-- the item field of the basic block: the marker, or text of a length
unfoldable pub item_parts : List ℕ → Item
item_parts f =
    let t : List ℕ = strip f in
    if marked t then item.Marker else item.Text (length t)

-- the owner field of the basic block: its third byte chooses between an ISIL, its prefix in front, and what begins there
unfoldable pub owner_parts : List ℕ → Owner
owner_parts f =
    let t : List ℕ = strip f in
    let said : List ℕ = drop 2 t in
    if is_empty t then owner.Nothing else
    if marked said then owner.Marker else
    if leb (get_or t 2 0) 3 then owner.Alternative (length said) else
    owner.Isil (length (prefix_in t)) (length said)

-- block 1's fields, with the lengths of item and owner for their bytes
unfoldable pub library_parts : List ℕ → LibraryParts
library_parts b =
    record {
      media = (library_in b).media;
      item = length (library_in b).item;
      owner = length (library_in b).owner;
      usage = (library_in b).usage;
    }

-- is it the marker
abbrev pub item_marked : Item → Bool
item_marked item.Marker = true
item_marked (item.Text n) = false

abbrev pub owner_marked : Owner → Bool
owner_marked owner.Nothing = false
owner_marked owner.Marker = true
owner_marked (owner.Isil p u) = false
owner_marked (owner.Alternative n) = false

-- ---- where none breaks its form

unfoldable pub item_form : List ℕ → Result Item Reason
item_form f = if good_item (strip f) then Ok (item_parts f) else Err reason.Field

unfoldable pub owner_form : List ℕ → Result Owner Reason
owner_form f = if good_owner (strip f) then Ok (owner_parts f) else Err reason.Field

unfoldable pub library_form : List ℕ → Result LibraryParts Reason
library_form b = if good_library b then Ok (library_parts b) else Err reason.Field
