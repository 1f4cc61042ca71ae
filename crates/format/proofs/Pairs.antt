-- Two tables of worked examples, each under a single statement that is computed: the pairs that document 01 marks P, and the whole case
-- with the published examples B.1 and B.2 of the standard, a tag with both markers, a full one and one with a plain block, each read and
-- written; names with accents, edits, loose tags, damage, alphabets and texts, values at their bounds, wrong sheets, lock maps, and what a C
-- host gets.
use Prim.Native.Nat.{ℕ, ◌+◌, ◌-◌, ◌/◌}
use mathlib.Core.Bool.{Bool, false, not, ◌&&◌}
use mathlib.Core.List.{List, [], ◌∷◌, ◌++◌}
use lib.ListN.{length, replicate, take}
use lib.Dec.{T, eqb}
use Rattle.format.specs.Answers.{Answer, plain, placed, got, refused, need, need_at, in_order, afterwards, and_then, or_else, passed}
use Rattle.format.specs.Bytes.{all, one_of, same, le16, word, part, pad_with, trim, strip, up_to, past, xor_all, joined}
use Rattle.format.specs.Pages.{page_size, good_size, lock_map, differs, locked_differs, count, changed, locked_changed}
use Rattle.format.specs.Crc.{crc_bit, crc_bits, crc_byte, crc_from, crc, covered}
use Rattle.format.specs.Text.{rows, after, rows_from, text, encode, encodings}
use Rattle.format.specs.Fields.{capital, unit_byte, isil_of, isil, alternative, is_owner, good_item, prefix_in, owner_said, good_owner, item_field, packed, basic_owner, owner_field}
use Rattle.format.specs.Chain.{named, summed, well_formed, carriable, damage_steps, walk, chain, block_of, other_blocks, payload, fields_in, beyond, separated, sealed, block_with, library_in, good_library, library_bytes}
use Rattle.format.specs.Elements.{set_info, shape, form, value, known, put, clash}
use Rattle.format.specs.Sheet.{heads, bodies, sheet_of, offsets_fit, rising_from, rising, cut, entries_in, right_sheet, find, carried_in, content_of, good_values, entries_at, carried_entries, entries}
use Rattle.format.specs.Layout.{library, front, basic, laid_out, layout, has_layout}
use Rattle.format.specs.Reading.{good_fields, agree, owner_on, content_in, tag_steps}
use Rattle.format.specs.Calls.{read_steps, reading, laying_steps, write_steps, writing, own_layout, edit_steps, Edited, editing}
use Rattle.format.specs.Numbers.{number_of, result_of, place_of}

-- ---- ways to say what came out

abbrev gives : Answer ℕ → ℕ → Bool
gives (got n) m = eqb n m
gives (refused x) m = false

abbrev refuses : Answer ℕ → ℕ → Bool
refuses (got n) k = false
refuses (refused (plain n)) k = eqb n k
refuses (refused (placed n p)) k = false

abbrev pub zeros : ℕ → List ℕ
zeros n = replicate n 0

-- reading t into just enough room gives the sheet s; writing s onto an open tag of 00, or of FF, gives t; into one byte less is refused 2
abbrev is_sheet_of : List ℕ → List ℕ → Bool
is_sheet_of s t =
    let r = reading page_size t (zeros (length s)) in
    let w = writing page_size s (zeros (length t)) (zeros (length t / page_size)) in
    let over = writing page_size s (replicate (length t) 0xFF) (zeros (length t / page_size)) in
    gives r.answer (length s) && same r.sheet s && same w.tag t && gives w.answer (changed page_size (zeros (length t)) t) && same over.tag t
    && refuses (reading page_size t (zeros (length s - 1))).answer 2

-- ---- the pairs marked P

digits : List ℕ
digits = 0x31 ∷ 0x32 ∷ 0x33 ∷ 0x34 ∷ 0x35 ∷ 0x36 ∷ 0x37 ∷ 0x38 ∷ 0x39 ∷ []

-- elements 4 and 5
set_sheet : List ℕ → List ℕ
set_sheet set = 2 ∷ 0 ∷ 4 ∷ 10 ∷ 0 ∷ 4 ∷ 5 ∷ 14 ∷ 0 ∷ 1 ∷ set ++ (0x10 ∷ [])

unfoldable pub isil_us : List ℕ
isil_us = 0x55 ∷ 0x53 ∷ 0x2D ∷ 0x49 ∷ 0x6E ∷ 0x55 ∷ 0x2D ∷ 0x4D ∷ 0x75 ∷ []

pub pairs : List Bool
pairs =
    -- CRC of nothing, of 00, of FF, of the text 123456789
    eqb (crc []) 0xFFFF ∷ eqb (crc (0 ∷ [])) 0xE1F0 ∷ eqb (crc (0xFF ∷ [])) 0xFF00 ∷ eqb (crc digits) 0x29B1 ∷
    -- tag lengths 0, 33, 34 and 2,052 are refused 1; 36 passes it
    refuses (reading page_size [] []).answer 1 ∷ refuses (reading page_size (zeros 33) []).answer 1 ∷ refuses (reading page_size (zeros 34) []).answer 1 ∷
    refuses (reading page_size (zeros 2052) []).answer 1 ∷ refuses (reading page_size (zeros 36) []).answer 3 ∷
    -- parts 255, ordinal 255 writes FF FF; parts 256 is refused 9
    same (take 3 (writing page_size (set_sheet (255 ∷ 0 ∷ 255 ∷ 0 ∷ [])) (zeros 36) (zeros 9)).tag) (0x11 ∷ 0xFF ∷ 0xFF ∷ []) ∷
    refuses (writing page_size (set_sheet (0 ∷ 1 ∷ 1 ∷ 0 ∷ [])) (zeros 36) (zeros 9)).answer 9 ∷
    -- US-InU-Mu fills the owner field with USInU-Mu and five 00
    same (owner_field 13 isil_us) (0x55 ∷ 0x53 ∷ 0x49 ∷ 0x6E ∷ 0x55 ∷ 0x2D ∷ 0x4D ∷ 0x75 ∷ zeros 5) ∷
    []

pub pairs-hold : T (all (λ b. b) pairs)
unfolding pairs digits set_sheet isil_us need need_at in_order afterwards and_then or_else passed all one_of same le16 word pad_with trim strip up_to past xor_all joined good_size lock_map differs locked_differs count changed locked_changed crc_bit crc_bits crc_byte crc_from crc covered rows after rows_from text capital unit_byte isil_of isil alternative is_owner good_item prefix_in owner_said good_owner item_field packed basic_owner owner_field named summed well_formed carriable damage_steps walk chain block_of other_blocks payload fields_in beyond separated sealed block_with library_in good_library library_bytes set_info shape form value known put clash heads bodies sheet_of offsets_fit rising_from rising cut entries_in right_sheet find carried_in content_of good_values entries_at carried_entries entries library front basic laid_out layout has_layout good_fields agree owner_on content_in tag_steps read_steps reading laying_steps write_steps writing
pairs-hold = tt

-- ---- the whole case, and the standard's examples

unfoldable pub whole_sheet : List ℕ
whole_sheet = 3 ∷ 0 ∷ 1 ∷ 0x0E ∷ 0 ∷ 2 ∷ 4 ∷ 0x10 ∷ 0 ∷ 4 ∷ 5 ∷ 0x14 ∷ 0 ∷ 1 ∷ 0x42 ∷ 0x31 ∷ 1 ∷ 0 ∷ 1 ∷ 0 ∷ 0x10 ∷ []

unfoldable pub whole_front : List ℕ
whole_front = 0x11 ∷ 1 ∷ 1 ∷ 0x42 ∷ 0x31 ∷ zeros 14

unfoldable pub whole_tag : List ℕ
whole_tag = whole_front ++ (le16 (crc (whole_front ++ zeros 13)) ++ zeros 15)

-- DK-718500, in a sheet and in the owner field
unfoldable pub isil_dk : List ℕ
isil_dk = 0x44 ∷ 0x4B ∷ 0x2D ∷ 0x37 ∷ 0x31 ∷ 0x38 ∷ 0x35 ∷ 0x30 ∷ 0x30 ∷ []

unfoldable pub field_dk : List ℕ
field_dk = 0x44 ∷ 0x4B ∷ 0x37 ∷ 0x31 ∷ 0x38 ∷ 0x35 ∷ 0x30 ∷ 0x30 ∷ []

-- B.1: 1000000056 of DK-718500, one part, usage 1, on 32 bytes; its CRC is printed as 98 A4
item1 : List ℕ
item1 = 0x31 ∷ 0x30 ∷ 0x30 ∷ 0x30 ∷ 0x30 ∷ 0x30 ∷ 0x30 ∷ 0x30 ∷ 0x35 ∷ 0x36 ∷ []

tag1 : List ℕ
tag1 = 0x11 ∷ 1 ∷ 1 ∷ item1 ++ (zeros 6 ++ (0x98 ∷ 0xA4 ∷ field_dk ++ zeros 3))

sheet1 : List ℕ
sheet1 = 4 ∷ 0 ∷ 1 ∷ 18 ∷ 0 ∷ 10 ∷ 3 ∷ 28 ∷ 0 ∷ 9 ∷ 4 ∷ 37 ∷ 0 ∷ 4 ∷ 5 ∷ 41 ∷ 0 ∷ 1 ∷ item1 ++ (isil_dk ++ (1 ∷ 0 ∷ 1 ∷ 0 ∷ 0x10 ∷ []))

-- B.2: 1000000136, a book, with block 1 and an acquisition block, on 76 bytes; its CRC is printed as 36 15
unfoldable pub item2 : List ℕ
item2 = 0x31 ∷ 0x30 ∷ 0x30 ∷ 0x30 ∷ 0x30 ∷ 0x30 ∷ 0x30 ∷ 0x31 ∷ 0x33 ∷ 0x36 ∷ []

unfoldable pub acquisition : List ℕ
acquisition =
    0x22 ∷ 2 ∷ 0 ∷ 0x71 ∷ 0x42 ∷ 0x6F ∷ 0x67 ∷ 0x76 ∷ 0x6F ∷ 0x67 ∷ 0x6E ∷ 0x65 ∷ 0x6E ∷ 0 ∷ 0x31 ∷ 0x32 ∷ 0x33 ∷ 0x34 ∷ 0x35 ∷ 0x36 ∷ 0x37 ∷ 0x38 ∷ 0x39 ∷ 0x30 ∷ 0 ∷ 0 ∷
    0x61 ∷ 0x37 ∷ 0x38 ∷ 0x39 ∷ 0x36 ∷ 0x35 ∷ 0x36 ∷ 0x63 ∷ []

unfoldable pub tag2 : List ℕ
tag2 = 0x11 ∷ 1 ∷ 1 ∷ item2 ++ (zeros 6 ++ (0x36 ∷ 0x15 ∷ field_dk ++ (zeros 5 ++ (5 ∷ 1 ∷ 0 ∷ 5 ∷ 1 ∷ acquisition ++ zeros 3))))

unfoldable pub sheet2 : List ℕ
sheet2 =
    6 ∷ 0 ∷ 1 ∷ 26 ∷ 0 ∷ 10 ∷ 3 ∷ 36 ∷ 0 ∷ 9 ∷ 4 ∷ 45 ∷ 0 ∷ 4 ∷ 5 ∷ 49 ∷ 0 ∷ 1 ∷ 19 ∷ 50 ∷ 0 ∷ 1 ∷ 255 ∷ 51 ∷ 0 ∷ 34 ∷
    item2 ++ (isil_dk ++ (1 ∷ 0 ∷ 1 ∷ 0 ∷ 0x10 ∷ 1 ∷ acquisition))

-- an item of 17 bytes, the owner OCLC-ABC and usage 35 stand in block 1: markers in the fields' first and third byte, on 68 bytes
long_item : List ℕ
long_item = 0x41 ∷ 0x42 ∷ 0x43 ∷ 0x44 ∷ 0x45 ∷ 0x46 ∷ 0x47 ∷ 0x48 ∷ 0x49 ∷ 0x4A ∷ 0x4B ∷ 0x4C ∷ 0x4D ∷ 0x4E ∷ 0x4F ∷ 0x50 ∷ 0x51 ∷ []

isil_oclc : List ℕ
isil_oclc = 0x4F ∷ 0x43 ∷ 0x4C ∷ 0x43 ∷ 0x2D ∷ 0x41 ∷ 0x42 ∷ 0x43 ∷ []

marked_tag : List ℕ
marked_tag =
    0x31 ∷ 1 ∷ 1 ∷ 1 ∷ zeros 15 ++ (0xFD ∷ 0x5A ∷ 0 ∷ 0 ∷ 1 ∷ zeros 10 ++ (33 ∷ 1 ∷ 0 ∷ 0x3A ∷ 0 ∷ long_item ++ (0 ∷ isil_oclc ++ (0 ∷ 0x35 ∷ 0 ∷ []))))

marked_sheet : List ℕ
marked_sheet = 4 ∷ 0 ∷ 1 ∷ 18 ∷ 0 ∷ 17 ∷ 3 ∷ 35 ∷ 0 ∷ 8 ∷ 4 ∷ 43 ∷ 0 ∷ 4 ∷ 5 ∷ 47 ∷ 0 ∷ 1 ∷ long_item ++ (isil_oclc ++ (1 ∷ 0 ∷ 1 ∷ 0 ∷ 0x35 ∷ []))

-- part 1 of 2, usage 7 and nothing else in the basic block, with these blocks behind it
unfoldable pub with_blocks : List ℕ → List ℕ
with_blocks s = 0x71 ∷ 2 ∷ 1 ∷ zeros 16 ++ (0x7F ∷ 0xD3 ∷ zeros 13 ++ s)

-- a block 1 that ends with the tag: media 1, alternative item A
full_tag : List ℕ
full_tag = with_blocks (6 ∷ 1 ∷ 0 ∷ 0x47 ∷ 1 ∷ 0x41 ∷ [])

full_sheet : List ℕ
full_sheet = 4 ∷ 0 ∷ 4 ∷ 18 ∷ 0 ∷ 4 ∷ 5 ∷ 22 ∷ 0 ∷ 1 ∷ 19 ∷ 23 ∷ 0 ∷ 1 ∷ 22 ∷ 24 ∷ 0 ∷ 1 ∷ 2 ∷ 0 ∷ 1 ∷ 0 ∷ 0x70 ∷ 1 ∷ 0x41 ∷ []

-- a carried block of ID 101, which needs no checksum
plain_tag : List ℕ
plain_tag = with_blocks (3 ∷ 101 ∷ 0 ∷ 0 ∷ 0 ∷ 0 ∷ [])

plain_sheet : List ℕ
plain_sheet = 3 ∷ 0 ∷ 4 ∷ 14 ∷ 0 ∷ 4 ∷ 5 ∷ 18 ∷ 0 ∷ 1 ∷ 255 ∷ 19 ∷ 0 ∷ 3 ∷ 2 ∷ 0 ∷ 1 ∷ 0 ∷ 0x70 ∷ 3 ∷ 101 ∷ 0 ∷ []

-- media 1 alone, in a block 1 with four 00 at its end
ending_zeros : List ℕ
ending_zeros = with_blocks (9 ∷ 1 ∷ 0 ∷ 9 ∷ 1 ∷ 0 ∷ 0 ∷ 0 ∷ 0 ∷ 0 ∷ [])

media_sheet : List ℕ
media_sheet = 3 ∷ 0 ∷ 4 ∷ 14 ∷ 0 ∷ 4 ∷ 5 ∷ 18 ∷ 0 ∷ 1 ∷ 19 ∷ 19 ∷ 0 ∷ 1 ∷ 2 ∷ 0 ∷ 1 ∷ 0 ∷ 0x70 ∷ 1 ∷ []

-- the owner of B.2 changed and changed back, the old element handed out each time
changed_back : Bool
changed_back =
    let a = editing page_size tag2 (zeros 19) 3 isil_us (zeros 255) in
    let b = editing page_size a.tag (zeros 19) 3 (take 9 a.old) (zeros 255) in
    not (same a.tag tag2) && same (take 9 a.old) isil_dk && same b.tag tag2 && same (take 9 b.old) isil_us && same_pages a.answer b.answer
  where
    same_pages : Answer Edited → Answer Edited → Bool
    same_pages (got x) (got y) = eqb x.pages y.pages && eqb x.old 9
    same_pages (got x) (refused y) = false
    same_pages (refused x) y = false

-- without its element 19 B.2 has no block 1: the block behind it moves, and 00 stand where it ended
moved : Bool
moved = same (editing page_size tag2 (zeros 19) 19 [] (zeros 255)).tag (take 34 tag2 ++ (acquisition ++ zeros 8))

edit_refused : ℕ → Answer Edited → Bool
edit_refused n (got x) = false
edit_refused n (refused (plain k)) = eqb k n
edit_refused n (refused (placed k p)) = false

-- 256 + 1 is no element's number, and is not cut to a byte: the edit is refused 9
wide_number : Bool
wide_number = edit_refused 9 (editing page_size tag2 (zeros 19) 257 item2 (zeros 255)).answer

-- read as that sheet, but no edit takes it: 13
is_loose : List ℕ → List ℕ → Bool
is_loose s t =
    same (reading page_size t (zeros (length s))).sheet s
    && edit_refused 13 (editing page_size t (zeros (length t / page_size)) 3 isil_us (zeros 255)).answer

-- a byte behind the end mark, a filler, 00 at the end of block 1
loose_tags : Bool
loose_tags =
    is_loose sheet2 (take 75 tag2 ++ (1 ∷ [])) && is_loose sheet2 (take 73 tag2 ++ (1 ∷ 0 ∷ 0 ∷ [])) && is_loose media_sheet ending_zeros

-- the chain s is damaged: reading and editing give the number k and the place p
damaged_at : ℕ → ℕ → List ℕ → Bool
damaged_at k p s =
    let t : List ℕ = with_blocks s in
    let read = (reading page_size t []).answer in
    let edited = (editing page_size t (zeros (length t / page_size)) 1 [] []).answer in
    eqb (number_of read) k && eqb (place_of read 0) p && eqb (number_of edited) k && eqb (place_of edited 0) p

-- each cause; two at one block, where the lower number is given; a 19 before a 15 at a later block, and with another block between the two;
-- and no 19 for an ID that may come again
damages : Bool
damages =
    damaged_at 15 34 (2 ∷ 101 ∷ []) && damaged_at 15 35 (1 ∷ 2 ∷ []) && damaged_at 16 34 (0xFF ∷ 0 ∷ []) && damaged_at 16 35 (1 ∷ 3 ∷ [])
    && damaged_at 17 34 (3 ∷ 0 ∷ 0 ∷ 1 ∷ 1 ∷ 1 ∷ []) && damaged_at 17 34 (4 ∷ 0 ∷ 0 ∷ 0 ∷ 0 ∷ 0 ∷ []) && damaged_at 17 37 (3 ∷ 101 ∷ 0 ∷ 3 ∷ 100 ∷ 0 ∷ [])
    && damaged_at 18 34 (4 ∷ 2 ∷ 0 ∷ 0 ∷ 0 ∷ 0 ∷ []) && damaged_at 17 38 (4 ∷ 1 ∷ 0 ∷ 5 ∷ 3 ∷ 1 ∷ 0 ∷ 0 ∷ 0 ∷ 0 ∷ [])
    && damaged_at 18 38 (4 ∷ 1 ∷ 0 ∷ 5 ∷ 4 ∷ 1 ∷ 0 ∷ 0 ∷ 0 ∷ 0 ∷ []) && damaged_at 19 38 (4 ∷ 1 ∷ 0 ∷ 5 ∷ 4 ∷ 1 ∷ 0 ∷ 5 ∷ 2 ∷ 0 ∷ [])
    && damaged_at 19 41 (4 ∷ 1 ∷ 0 ∷ 5 ∷ 3 ∷ 101 ∷ 0 ∷ 4 ∷ 1 ∷ 0 ∷ 5 ∷ 0 ∷ 0 ∷ 0 ∷ []) && damaged_at 15 40 (3 ∷ 101 ∷ 0 ∷ 3 ∷ 101 ∷ 0 ∷ 2 ∷ 0 ∷ 0 ∷ 0 ∷ [])

-- 95 bytes that are text by themselves, 26 capitals, 65 unit characters
alphabets : Bool
alphabets = eqb (count (λ b. text (b ∷ [])) 256) 95 && eqb (count capital 256) 26 && eqb (count unit_byte 256) 65

-- the bounds of the rows are text, and what is just beyond them is none; nor is a letter that is cut, a tail alone, or a control of the list
texts : Bool
texts =
    all text (
    (0x20 ∷ []) ∷ (0x7E ∷ []) ∷ (0xC2 ∷ 0x80 ∷ []) ∷ (0xDF ∷ 0xBF ∷ []) ∷ (0xE0 ∷ 0xA0 ∷ 0x80 ∷ []) ∷ (0xE1 ∷ 0x80 ∷ 0x80 ∷ []) ∷ (0xEC ∷ 0xBF ∷ 0xBF ∷ []) ∷
    (0xED ∷ 0x9F ∷ 0xBF ∷ []) ∷ (0xEE ∷ 0x80 ∷ 0x80 ∷ []) ∷ (0xEF ∷ 0xBF ∷ 0xBF ∷ []) ∷ (0xF0 ∷ 0x90 ∷ 0x80 ∷ 0x80 ∷ []) ∷ (0xF1 ∷ 0x80 ∷ 0x80 ∷ 0x80 ∷ []) ∷
    (0xF3 ∷ 0xBF ∷ 0xBF ∷ 0xBF ∷ []) ∷ (0xF4 ∷ 0x8F ∷ 0xBF ∷ 0xBF ∷ []) ∷ [])
    && all (λ s. not (text s)) (
    (0 ∷ []) ∷ (0x1F ∷ []) ∷ (0x7F ∷ []) ∷ (0x80 ∷ []) ∷ (0xC0 ∷ 0xAF ∷ []) ∷ (0xC1 ∷ 0xBF ∷ []) ∷ (0xC2 ∷ []) ∷ (0xC2 ∷ 0x7F ∷ []) ∷ (0xC2 ∷ 0xC0 ∷ []) ∷
    (0xE0 ∷ 0x9F ∷ 0xBF ∷ []) ∷ (0xE1 ∷ 0x80 ∷ []) ∷ (0xED ∷ 0xA0 ∷ 0x80 ∷ []) ∷ (0xF0 ∷ 0x8F ∷ 0xBF ∷ 0xBF ∷ []) ∷ (0xF1 ∷ 0x80 ∷ 0x80 ∷ []) ∷
    (0xF4 ∷ 0x90 ∷ 0x80 ∷ 0x80 ∷ []) ∷ (0xF5 ∷ 0x80 ∷ 0x80 ∷ 0x80 ∷ []) ∷ (0xFF ∷ []) ∷ [])

-- RFC 3629, section 7: A, not identical to, Alpha and a dot; hangugeo; nihongo; a signature and 233B4
code_points : Bool
code_points =
    same (encodings (0x41 ∷ 0x2262 ∷ 0x391 ∷ 0x2E ∷ [])) (0x41 ∷ 0xE2 ∷ 0x89 ∷ 0xA2 ∷ 0xCE ∷ 0x91 ∷ 0x2E ∷ [])
    && same (encodings (0xD55C ∷ 0xAD6D ∷ 0xC5B4 ∷ [])) (0xED ∷ 0x95 ∷ 0x9C ∷ 0xEA ∷ 0xB5 ∷ 0xAD ∷ 0xEC ∷ 0x96 ∷ 0xB4 ∷ [])
    && same (encodings (0x65E5 ∷ 0x672C ∷ 0x8A9E ∷ [])) (0xE6 ∷ 0x97 ∷ 0xA5 ∷ 0xE6 ∷ 0x9C ∷ 0xAC ∷ 0xE8 ∷ 0xAA ∷ 0x9E ∷ [])
    && same (encodings (0xFEFF ∷ 0x233B4 ∷ [])) (0xEF ∷ 0xBB ∷ 0xBF ∷ 0xF0 ∷ 0xA3 ∷ 0x8E ∷ 0xB4 ∷ [])

-- e acute eight times, 16 bytes, stands in the basic block; with an x behind it, 9 characters and 17 bytes, in block 1
unfoldable pub accents : List ℕ
accents = joined (replicate 8 (0xC3 ∷ 0xA9 ∷ []))

unfoldable pub item_sheet : List ℕ → List ℕ
item_sheet s = let n : ℕ = length s in 3 ∷ 0 ∷ 1 ∷ 14 ∷ 0 ∷ n ∷ 4 ∷ (14 + n) ∷ 0 ∷ 4 ∷ 5 ∷ (18 + n) ∷ 0 ∷ 1 ∷ s ++ (1 ∷ 0 ∷ 1 ∷ 0 ∷ 0x10 ∷ [])

accent_tag : List ℕ
accent_tag = 0x11 ∷ 1 ∷ 1 ∷ accents ++ (0x5D ∷ 0xFD ∷ zeros 15)

long_accent_tag : List ℕ
long_accent_tag = 0x11 ∷ 1 ∷ 1 ∷ 1 ∷ zeros 15 ++ (0x1F ∷ 0x1B ∷ zeros 13 ++ (22 ∷ 1 ∷ 0 ∷ 0x6F ∷ 0 ∷ accents ++ (0x78 ∷ [])))

-- the item field ends inside a letter: the CRC's first byte, 88, would complete it, and is not looked at
cut_tag : List ℕ
cut_tag = 0x11 ∷ 1 ∷ 1 ∷ replicate 15 0x45 ++ (0xC3 ∷ 0x88 ∷ 0x0E ∷ zeros 15)

cut_field : Bool
cut_field = refuses (reading page_size cut_tag []).answer 6 && not (text (part 3 16 cut_tag)) && text (part 3 17 cut_tag)

-- an overlong form, a surrogate, a value above 10FFFF, a letter that is cut, and 7F, wherever text stands: elements 1, 22 and 23, the item
-- field, an alternative owner in its field, block 1's item and owner
ill_formed : Bool
ill_formed = all bad ((0xC0 ∷ 0xAF ∷ []) ∷ (0xED ∷ 0xA0 ∷ 0x80 ∷ []) ∷ (0xF4 ∷ 0x90 ∷ 0x80 ∷ 0x80 ∷ []) ∷ (0x61 ∷ 0xC3 ∷ []) ∷ (0x7F ∷ []) ∷ [])
  where
    bad : List ℕ → Bool
    bad s =
        not (form 1 s) && not (form 22 s) && not (form 23 (3 ∷ s)) && not (good_item s) && not (good_owner (0 ∷ 0 ∷ 2 ∷ s))
        && not (good_library (sealed 1 (0 ∷ s))) && not (good_library (sealed 1 (0 ∷ 0 ∷ 2 ∷ s)))

-- a sheet and an edit with the overlong form are refused 9
overlong_refused : Bool
overlong_refused =
    refuses (writing page_size (item_sheet (0xC0 ∷ 0xAF ∷ [])) (zeros 36) (zeros 9)).answer 9
    && edit_refused 9 (editing page_size accent_tag (zeros 9) 1 (0xC0 ∷ 0xAF ∷ []) (zeros 255)).answer

-- an ISIL of so many capitals and unit characters
isil_with : ℕ → ℕ → List ℕ
isil_with n m = replicate n 0x41 ++ (0x2D ∷ replicate m 0x41)

-- one capital before the hyphen is filled up by a blank in the owner field: X-1
one_capital : Bool
one_capital =
    same (owner_field 13 (0x58 ∷ 0x2D ∷ 0x31 ∷ [])) (0x58 ∷ 0x20 ∷ 0x31 ∷ zeros 10) && same (owner_said (0x58 ∷ 0x20 ∷ 0x31 ∷ [])) (0x58 ∷ 0x2D ∷ 0x31 ∷ [])

-- the values at their bounds, and what is just beyond
bounds : Bool
bounds =
    form 3 (isil_with 1 1) && form 3 (isil_with 4 11) && not (form 3 (isil_with 0 1)) && not (form 3 (isil_with 5 1)) && not (form 3 (isil_with 1 0))
    && not (form 3 (isil_with 4 12)) && form 19 (1 ∷ []) && not (form 19 (0 ∷ [])) && form 1 (replicate 255 0x41) && not (form 1 (replicate 256 0x41))
    && form 255 (3 ∷ 101 ∷ 0 ∷ []) && not (form 255 (5 ∷ 1 ∷ 0 ∷ 5 ∷ 1 ∷ [])) && not (form 255 (1 ∷ []))

-- sheets that are refused 9: 5 is missing, 4 is missing; and 8: a byte behind the last entry, an offset of the wrong place, a number twice, a
-- number behind 255
wrong_sheets : Bool
wrong_sheets =
    let refused : ℕ → List ℕ → Bool = λ k s. refuses (writing page_size s (zeros 36) (zeros 9)).answer k in
    let wrong : List ℕ → Bool = refused 8 in
    refused 9 (1 ∷ 0 ∷ 4 ∷ 6 ∷ 0 ∷ 4 ∷ 1 ∷ 0 ∷ 1 ∷ 0 ∷ []) && refused 9 (1 ∷ 0 ∷ 5 ∷ 6 ∷ 0 ∷ 1 ∷ 0x10 ∷ [])
    && wrong (whole_sheet ++ (0 ∷ [])) && wrong (2 ∷ 0 ∷ 4 ∷ 10 ∷ 0 ∷ 4 ∷ 5 ∷ 15 ∷ 0 ∷ 1 ∷ 1 ∷ 0 ∷ 1 ∷ 0 ∷ 0x10 ∷ [])
    && wrong (2 ∷ 0 ∷ 5 ∷ 10 ∷ 0 ∷ 1 ∷ 5 ∷ 11 ∷ 0 ∷ 1 ∷ 0x10 ∷ 0x10 ∷ [])
    && wrong (2 ∷ 0 ∷ 255 ∷ 10 ∷ 0 ∷ 3 ∷ 5 ∷ 13 ∷ 0 ∷ 1 ∷ 3 ∷ 101 ∷ 0 ∷ 0x10 ∷ [])

-- a lock map of another length, or with a byte above 1, is refused 1, although no page would change; 1 locks a page
lock_maps : Bool
lock_maps =
    let again : List ℕ → Answer ℕ = λ locks. (writing page_size whole_sheet whole_tag locks).answer in
    gives (again (zeros 9)) 0 && gives (again (replicate 9 1)) 0 && refuses (again (zeros 8)) 1 && refuses (again (zeros 10)) 1
    && refuses (again (2 ∷ zeros 8)) 1 && refuses (again (zeros 8 ++ (2 ∷ []))) 1
    && gives (writing page_size whole_sheet (zeros 36) (zeros 8 ++ (1 ∷ []))).answer 4
    && refuses (writing page_size whole_sheet (zeros 36) (1 ∷ zeros 8)).answer 12

-- what a C host gets: 0 and the results, or at a refusal its number and what stood behind the pointers
results_in_c : Bool
results_in_c =
    let read = (reading page_size whole_tag (zeros 21)).answer in
    let short = (reading page_size whole_tag (zeros 20)).answer in
    let edited = (editing page_size tag2 (zeros 19) 3 isil_us (zeros 255)).answer in
    let wide = (editing page_size tag2 (zeros 19) 257 isil_us (zeros 255)).answer in
    eqb (number_of read) 0 && eqb (result_of (λ n. n) read 77) 21 && eqb (number_of short) 2 && eqb (result_of (λ n. n) short 77) 77
    && eqb (place_of read 77) 77 && eqb (place_of short 77) 77
    && eqb (number_of edited) 0 && eqb (result_of (λ e. e.pages) edited 77) 4 && eqb (result_of (λ e. e.old) edited 77) 9
    && eqb (number_of wide) 9 && eqb (result_of (λ e. e.pages) wide 77) 77 && eqb (result_of (λ e. e.old) wide 78) 78

pub examples : List Bool
examples =
    is_sheet_of whole_sheet whole_tag ∷ is_sheet_of sheet1 tag1 ∷ is_sheet_of sheet2 tag2 ∷ is_sheet_of marked_sheet marked_tag ∷ is_sheet_of full_sheet full_tag ∷
    is_sheet_of plain_sheet plain_tag ∷ changed_back ∷ moved ∷ wide_number ∷ loose_tags ∷
    is_sheet_of (item_sheet accents) accent_tag ∷ is_sheet_of (item_sheet (accents ++ (0x78 ∷ []))) long_accent_tag ∷ cut_field ∷ ill_formed ∷ overlong_refused ∷ texts ∷ code_points ∷
    damages ∷ alphabets ∷ one_capital ∷ bounds ∷ wrong_sheets ∷ lock_maps ∷ results_in_c ∷ []

pub examples-hold : T (all (λ b. b) examples)
unfolding examples isil_us whole_sheet whole_front whole_tag isil_dk field_dk item1 tag1 sheet1 item2 acquisition tag2 sheet2 long_item isil_oclc marked_tag marked_sheet with_blocks full_tag full_sheet plain_tag plain_sheet ending_zeros media_sheet changed_back moved edit_refused wide_number is_loose loose_tags damaged_at damages alphabets texts code_points accents item_sheet accent_tag long_accent_tag cut_tag cut_field ill_formed overlong_refused isil_with one_capital bounds wrong_sheets lock_maps results_in_c need need_at in_order afterwards and_then or_else passed all one_of same le16 word pad_with trim strip up_to past xor_all joined good_size lock_map differs locked_differs count changed locked_changed crc_bit crc_bits crc_byte crc_from crc covered rows after rows_from text encode capital unit_byte isil_of isil alternative is_owner good_item prefix_in owner_said good_owner item_field packed basic_owner owner_field named summed well_formed carriable damage_steps walk chain block_of other_blocks payload fields_in beyond separated sealed block_with library_in good_library library_bytes set_info shape form value known put clash heads bodies sheet_of offsets_fit rising_from rising cut entries_in right_sheet find carried_in content_of good_values entries_at carried_entries entries library front basic laid_out layout has_layout good_fields agree owner_on content_in tag_steps read_steps reading laying_steps write_steps writing own_layout edit_steps editing
examples-hold = tt
