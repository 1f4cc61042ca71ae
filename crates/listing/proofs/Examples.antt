-- Worked examples of what is printed, under a single statement that is computed: the whole case of document 01, the published example B.2
-- of the standard, a tag of 00 bytes, no input, a byte too many, and a damaged tag.
use mathlib.Core.Path.{◌≡◌, refl}
use Prim.Native.Nat.{ℕ}
use mathlib.Core.List.{List, [], ◌∷◌, ◌++◌}
use lib.ListN.{replicate}
use Rattle.format.specs.Answers.{need, need_at, in_order, and_then, or_else, passed}
use Rattle.format.specs.Bytes.{all, one_of, same, le16, word, pad_with, trim, strip, up_to, past, xor_all, joined}
use Rattle.format.specs.Pages.{good_size}
use Rattle.format.specs.Crc.{crc_bit, crc_bits, crc_byte, crc_from, crc, covered}
use Rattle.format.specs.Text.{rows, after, rows_from, text}
use Rattle.format.specs.Fields.{capital, unit_byte, isil_of, isil, alternative, is_owner, good_item, prefix_in, owner_said, good_owner}
use Rattle.format.specs.Chain.{named, summed, well_formed, damage_steps, walk, chain, block_of, other_blocks, payload, fields_in, beyond, library_in, good_library}
use Rattle.format.specs.Sheet.{heads, bodies, sheet_of, offsets_fit, entries_at, carried_entries, entries}
use Rattle.format.specs.Reading.{good_fields, agree, owner_on, content_in, tag_steps}
use Rattle.format.specs.Calls.{read_steps}
use Rattle.listing.specs.Listing.{digits, decimal, hex_digit, hex_of, line_of, lines_of, elements_text, placed_text, listed, listing}

abbrev zeros : ℕ → List ℕ
zeros n = replicate n 0

-- the whole case
abbrev pub whole_tag : List ℕ
whole_tag = 0x11 ∷ 1 ∷ 1 ∷ 0x42 ∷ 0x31 ∷ zeros 14 ++ (0xD9 ∷ 0x4B ∷ zeros 15)

-- the four lines that document 01 prints for it, byte by byte
abbrev whole_text : List ℕ
whole_text =
    -- elements 3
    0x65 ∷ 0x6C ∷ 0x65 ∷ 0x6D ∷ 0x65 ∷ 0x6E ∷ 0x74 ∷ 0x73 ∷ 0x20 ∷ 0x33 ∷ 0x0A ∷
    -- 1 4231
    0x31 ∷ 0x20 ∷ 0x34 ∷ 0x32 ∷ 0x33 ∷ 0x31 ∷ 0x0A ∷
    -- 4 01000100
    0x34 ∷ 0x20 ∷ 0x30 ∷ 0x31 ∷ 0x30 ∷ 0x30 ∷ 0x30 ∷ 0x31 ∷ 0x30 ∷ 0x30 ∷ 0x0A ∷
    -- 5 10
    0x35 ∷ 0x20 ∷ 0x31 ∷ 0x30 ∷ 0x0A ∷
    []

-- B.2: 1000000136 of DK-718500, a book, with block 1 and an acquisition block
abbrev item : List ℕ
item = 0x31 ∷ 0x30 ∷ 0x30 ∷ 0x30 ∷ 0x30 ∷ 0x30 ∷ 0x30 ∷ 0x31 ∷ 0x33 ∷ 0x36 ∷ []

abbrev unit : List ℕ
unit = 0x37 ∷ 0x31 ∷ 0x38 ∷ 0x35 ∷ 0x30 ∷ 0x30 ∷ []

abbrev acquisition : List ℕ
acquisition =
    0x22 ∷ 2 ∷ 0 ∷ 0x71 ∷ 0x42 ∷ 0x6F ∷ 0x67 ∷ 0x76 ∷ 0x6F ∷ 0x67 ∷ 0x6E ∷ 0x65 ∷ 0x6E ∷ 0 ∷ 0x31 ∷ 0x32 ∷ 0x33 ∷ 0x34 ∷ 0x35 ∷ 0x36 ∷ 0x37 ∷ 0x38 ∷ 0x39 ∷ 0x30 ∷ 0 ∷ 0 ∷
    0x61 ∷ 0x37 ∷ 0x38 ∷ 0x39 ∷ 0x36 ∷ 0x35 ∷ 0x36 ∷ 0x63 ∷ []

abbrev pub book_tag : List ℕ
book_tag =
    0x11 ∷ 1 ∷ 1 ∷ item ++ (zeros 6 ++ (0x36 ∷ 0x15 ∷ 0x44 ∷ 0x4B ∷ unit ++ (zeros 5 ++ (5 ∷ 1 ∷ 0 ∷ 5 ∷ 1 ∷ acquisition ++ zeros 3))))

-- and its seven lines
abbrev book_text : List ℕ
book_text =
    -- elements 6
    0x65 ∷ 0x6C ∷ 0x65 ∷ 0x6D ∷ 0x65 ∷ 0x6E ∷ 0x74 ∷ 0x73 ∷ 0x20 ∷ 0x36 ∷ 0x0A ∷
    -- 1 31303030303030313336
    0x31 ∷ 0x20 ∷ 0x33 ∷ 0x31 ∷ 0x33 ∷ 0x30 ∷ 0x33 ∷ 0x30 ∷ 0x33 ∷ 0x30 ∷ 0x33 ∷ 0x30 ∷ 0x33 ∷ 0x30 ∷ 0x33 ∷ 0x30 ∷ 0x33 ∷ 0x31 ∷ 0x33 ∷ 0x33 ∷ 0x33 ∷ 0x36 ∷ 0x0A ∷
    -- 3 444B2D373138353030
    0x33 ∷ 0x20 ∷ 0x34 ∷ 0x34 ∷ 0x34 ∷ 0x42 ∷ 0x32 ∷ 0x44 ∷ 0x33 ∷ 0x37 ∷ 0x33 ∷ 0x31 ∷ 0x33 ∷ 0x38 ∷ 0x33 ∷ 0x35 ∷ 0x33 ∷ 0x30 ∷ 0x33 ∷ 0x30 ∷ 0x0A ∷
    -- 4 01000100
    0x34 ∷ 0x20 ∷ 0x30 ∷ 0x31 ∷ 0x30 ∷ 0x30 ∷ 0x30 ∷ 0x31 ∷ 0x30 ∷ 0x30 ∷ 0x0A ∷
    -- 5 10
    0x35 ∷ 0x20 ∷ 0x31 ∷ 0x30 ∷ 0x0A ∷
    -- 19 01
    0x31 ∷ 0x39 ∷ 0x20 ∷ 0x30 ∷ 0x31 ∷ 0x0A ∷
    -- 255 22020071426F67766F676E656E003132333435363738393000006137383936353663
    0x32 ∷ 0x35 ∷ 0x35 ∷ 0x20 ∷ 0x32 ∷ 0x32 ∷ 0x30 ∷ 0x32 ∷ 0x30 ∷ 0x30 ∷ 0x37 ∷ 0x31 ∷ 0x34 ∷ 0x32 ∷ 0x36 ∷ 0x46 ∷ 0x36 ∷ 0x37 ∷ 0x37 ∷ 0x36 ∷ 0x36 ∷ 0x46 ∷ 0x36 ∷ 0x37 ∷ 0x36 ∷ 0x45 ∷ 0x36 ∷ 0x35 ∷ 0x36 ∷ 0x45 ∷ 0x30 ∷ 0x30 ∷ 0x33 ∷ 0x31 ∷ 0x33 ∷ 0x32 ∷ 0x33 ∷ 0x33 ∷ 0x33 ∷ 0x34 ∷ 0x33 ∷ 0x35 ∷ 0x33 ∷ 0x36 ∷ 0x33 ∷ 0x37 ∷ 0x33 ∷ 0x38 ∷ 0x33 ∷ 0x39 ∷ 0x33 ∷ 0x30 ∷ 0x30 ∷ 0x30 ∷ 0x30 ∷ 0x30 ∷ 0x36 ∷ 0x31 ∷ 0x33 ∷ 0x37 ∷ 0x33 ∷ 0x38 ∷ 0x33 ∷ 0x39 ∷ 0x33 ∷ 0x36 ∷ 0x33 ∷ 0x35 ∷ 0x33 ∷ 0x36 ∷ 0x36 ∷ 0x33 ∷ 0x0A ∷
    []

-- a refused tag prints one line
abbrev refused1 : List ℕ
refused1 =
    -- refused 1
    0x72 ∷ 0x65 ∷ 0x66 ∷ 0x75 ∷ 0x73 ∷ 0x65 ∷ 0x64 ∷ 0x20 ∷ 0x31 ∷ 0x0A ∷
    []

abbrev refused3 : List ℕ
refused3 =
    -- refused 3
    0x72 ∷ 0x65 ∷ 0x66 ∷ 0x75 ∷ 0x73 ∷ 0x65 ∷ 0x64 ∷ 0x20 ∷ 0x33 ∷ 0x0A ∷
    []

-- the whole case's basic block, a filler, and a block that runs past the end
abbrev pub damaged_tag : List ℕ
damaged_tag = 0x11 ∷ 1 ∷ 1 ∷ 0x42 ∷ 0x31 ∷ zeros 14 ++ (0xD9 ∷ 0x4B ∷ zeros 13 ++ (1 ∷ 3 ∷ []))

abbrev refused16 : List ℕ
refused16 =
    -- refused 16 35
    0x72 ∷ 0x65 ∷ 0x66 ∷ 0x75 ∷ 0x73 ∷ 0x65 ∷ 0x64 ∷ 0x20 ∷ 0x31 ∷ 0x36 ∷ 0x20 ∷ 0x33 ∷ 0x35 ∷ 0x0A ∷
    []

pub examples : (listing whole_tag ≡ whole_text) × (listing book_tag ≡ book_text) × (listing (zeros 36) ≡ refused3) × (listing [] ≡ refused1) × (listing (zeros 2049) ≡ refused1)
    × (listing damaged_tag ≡ refused16)
unfolding need need_at in_order and_then or_else passed all one_of same le16 word pad_with trim strip up_to past xor_all joined good_size crc_bit crc_bits crc_byte crc_from crc covered rows after rows_from text capital unit_byte isil_of isil alternative is_owner good_item prefix_in owner_said good_owner named summed well_formed damage_steps walk chain block_of other_blocks payload fields_in beyond library_in good_library heads bodies sheet_of offsets_fit entries_at carried_entries entries good_fields agree owner_on content_in tag_steps read_steps digits decimal hex_digit hex_of line_of lines_of elements_text placed_text listed listing
examples = (refl, refl, refl, refl, refl, refl)
