-- The writer's own layout: document 01, "Elements", from "Placing" on.
use Rattle.std.specs.Prelude.{ℕ, ◌+◌, ◌-◌, ◌*◌, ◌/◌, ◌%◌, min, Bool, ◌&&◌, ◌||◌, List, [], ◌∷◌, ◌++◌, length, get_or, leb, eqb, if◌then◌else◌}
use Rattle.format.specs.Bytes.{is_empty, le16, pad, joined}
use Rattle.format.specs.Crc.{crc}
use Rattle.format.specs.Fields.{long, item_field, basic_owner, owner_field}
use Rattle.format.specs.Chain.{Library, block_one}
use Rattle.format.specs.Elements.{Content, slot}

-- the owner field has 13 bytes, and what a tag of 32 bytes has of them
abbrev pub owner_width : ℕ → ℕ
owner_width n = min 13 (n - 21)

-- the owner, ISIL or alternative: they clash, so there is one at most
abbrev pub owner_of : List (List ℕ) → List ℕ
owner_of ss = if is_empty (slot ss 3) then slot ss 23 else slot ss 3

abbrev pub usage_of : List (List ℕ) → ℕ
usage_of ss = get_or (slot ss 5) 0 0

-- Block 1 has an element 1 of more than 16 bytes, or element 22; an owner that the basic forms do not hold, as the sheet has it;
-- the usage byte only where the sub qualifier is not 0.
unfoldable pub library : ℕ → List (List ℕ) → Library
library n ss = record {
  media = get_or (slot ss 19) 0 0;
  item = if long (slot ss 1) then slot ss 1 else slot ss 22;
  owner = if is_empty (owner_of ss) || basic_owner (owner_width n) (owner_of ss) then [] else owner_of ss;
  usage = if eqb (usage_of ss % 16) 0 then 0 else usage_of ss;
}

-- byte 0: content parameter 1 low, main usage qualifier high
abbrev pub first_byte : ℕ → ℕ
first_byte usage = 1 + 16 * (usage / 16)

-- bytes 0 to 18; parts and ordinal are at most 255, so their low bytes hold them
unfoldable pub front : List (List ℕ) → List ℕ
front ss = first_byte (usage_of ss) ∷ get_or (slot ss 4) 0 0 ∷ get_or (slot ss 4) 2 0 ∷ item_field (slot ss 1)

-- the basic block on a tag of n bytes: the CRC stands low byte first before the owner field
unfoldable pub basic : ℕ → List (List ℕ) → List ℕ
basic n ss =
    let own : List ℕ = owner_field (owner_width n) (owner_of ss) in
    front ss ++ (le16 (crc (front ss ++ pad 13 own)) ++ own)

-- the blocks that hold elements: block 1 if it has anything
abbrev pub own_blocks : ℕ → List (List ℕ) → List ℕ
own_blocks n ss = block_one (library n ss)

-- the basic block, these, carried blocks in sheet order: `blocks` are their bytes
unfoldable pub laid_out : ℕ → List (List ℕ) → List ℕ → List ℕ
laid_out n ss blocks = basic n ss ++ (own_blocks n ss ++ blocks)

-- a 00 if room is left, and 00 to the end
unfoldable pub layout : ℕ → List (List ℕ) → List ℕ → List ℕ
layout n ss blocks = pad n (laid_out n ss blocks)

-- block 1 is at most 255 bytes, and all has room on the tag
unfoldable pub has_layout : ℕ → List (List ℕ) → List ℕ → Bool
has_layout n ss blocks = leb (length (block_one (library n ss))) 255 && leb (length (laid_out n ss blocks)) n

-- the layout of all elements together, and whether there is one
abbrev pub image : ℕ → Content → List ℕ
image n c = layout n c.slots (joined c.carried)

abbrev pub fits : ℕ → Content → Bool
fits n c = has_layout n c.slots (joined c.carried)
