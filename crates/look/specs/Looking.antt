-- Looking at a tag, stage by stage: what each stage answers, by the rules of `format`.
use Rattle.std.specs.Prelude.{◌≡◌, ℕ, ◌%◌, ◌≤◌, true, List, [], ◌∷◌, length, get_or, eqb}
use Rattle.format.specs.Answers.{Step, in_order, need}
use Rattle.format.specs.Bytes.{same, le16, part}
use Rattle.format.specs.Pages.{page_size, good_size}
use Rattle.format.specs.Crc.{crc, covered}
use Rattle.format.specs.Chain.{block_of}
use Rattle.format.specs.Reading.{blocks_in, good_fields}
use Rattle.fields.specs.declared.Item.{Item}
use Rattle.fields.specs.declared.Owner.{Owner}
use Rattle.fields.specs.declared.LibraryParts.{LibraryParts}
use Rattle.fields.specs.Forms.{item_parts, owner_parts, library_parts}
use Rattle.look.specs.declared.judge.Fields.{Fields}

-- no shorter than the shortest tag, no longer than the longest
pub record Sized (t : List ℕ) : Type 0 where
  pub least : 32 ≤ length t
  pub most : length t ≤ 2048

-- the steps 1, 3 and 4 in order: size, content parameter and CRC
abbrev pub basic_judged : List ℕ → Step
basic_judged t =
    in_order
    (need 1 (good_size page_size (length t)) ∷
    need 3 (eqb (get_or t 0 0 % 16) 1) ∷
    need 4 (same (part 19 2 t) (le16 (crc (covered t)))) ∷
    [])
    tt

-- ---- 6

-- what the fields of the tag t hold
abbrev pub item_on : List ℕ → Item
item_on t = item_parts (part 3 16 t)

abbrev pub owner_parts_on : List ℕ → Owner
owner_parts_on t = owner_parts (part 21 13 t)

abbrev pub library_parts_on : List ℕ → LibraryParts
library_parts_on t = library_parts (block_of 1 (blocks_in t))

abbrev pub fields_on : List ℕ → Fields
fields_on t = record { item = item_on t; owner = owner_parts_on t; library = library_parts_on t }

-- the fields are good, and hold this
pub record FieldsOf (t : List ℕ) (f : Fields) : Type 0 where
  pub good : good_fields t ≡ true
  pub is : f ≡ fields_on t
