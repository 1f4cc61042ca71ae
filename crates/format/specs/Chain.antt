-- The chain of blocks and block 1's fields: document 01, "The chain of blocks".
use Rattle.std.specs.Prelude.{ℕ, zero, suc, ◌+◌, Bool, true, not, ◌&&◌, ◌||◌, List, [], ◌∷◌, ◌++◌, length, get_or, take, drop, leb, eqb, if◌then◌else◌}
use Rattle.format.specs.Answers.{Answer, got, Step, need_at, in_order, and_then}
use Rattle.format.specs.Bytes.{is_empty, one_of, le16, word, xor_all, trim, strip, up_to, past}
use Rattle.format.specs.Text.{text}
use Rattle.format.specs.Fields.{is_owner}

-- ---- one block

-- a block's first byte is its length, itself included
abbrev pub length_of : List ℕ → ℕ
length_of b = get_or b 0 0

-- then comes a two-byte ID, low byte first
abbrev pub id_of : List ℕ → ℕ
id_of b = word (get_or b 1 0) (get_or b 2 0)

-- it does not run past the tag: it is as long as it says
abbrev pub whole : List ℕ → Bool
whole b = eqb (length_of b) (length b)

-- IDs 1 to 100 are structured; 0 is damage by itself
abbrev pub structured : List ℕ → Bool
structured b = leb (id_of b) 100

-- its ID is not 0; a structured block has at least 4 bytes
unfoldable pub named : List ℕ → Bool
named b = not (eqb (id_of b) 0) && (if structured b then leb 4 (length b) else true)

-- the XOR of a whole structured block is 00; IDs above 100 have no checksum
unfoldable pub summed : List ℕ → Bool
summed b = if structured b then eqb (xor_all b) 0 else true

-- at least 3 bytes, and no damage
unfoldable pub well_formed : List ℕ → Bool
well_formed b = leb 3 (length b) && whole b && named b && summed b

-- block 1, the library extension, is taken apart into elements; the others are carried
abbrev pub taken_apart : List ℕ → Bool
taken_apart b = eqb (id_of b) 1

-- what element 255 carries: whole and well formed, no filler, ID not 1
unfoldable pub carriable : List ℕ → Bool
carriable b = well_formed b && not (taken_apart b)

-- of these IDs a chain has one block at most
abbrev pub single : ℕ → Bool
single id = eqb id 1

-- ---- the damage of a block

-- Block b, as far as the tag has it, begins at byte p; `seen`: the IDs of the blocks before. The damage, in the order in which it is
-- tested: 15 length 2, 16 past the tag's end, 17 ID 0 or a structured block under 4 bytes, 18 checksum, 19 a second block 1.
unfoldable pub damage_steps : ℕ → List ℕ → List ℕ → List Step
damage_steps p seen b =
    need_at p 15 (not (eqb (length_of b) 2)) ∷
    need_at p 16 (whole b) ∷
    need_at p 17 (named b) ∷
    need_at p 18 (summed b) ∷
    need_at p 19 (not (single (id_of b) && one_of seen (id_of b))) ∷
    []

-- which of them it has: the first
abbrev pub damage_of : ℕ → List ℕ → List ℕ → Step
damage_of p seen b = in_order (damage_steps p seen b) tt

-- ---- the chain

-- The blocks of a chain s that begins at byte p, up to the end or a byte 00, fillers of one byte left out; at the first damaged block its
-- damage. Each turn takes a byte at least, so as many turns as bytes are enough.
unfoldable pub walk : ℕ → ℕ → List ℕ → List ℕ → Answer (List (List ℕ))
walk zero p seen s = got []
walk (suc turns) p seen s =
    let n : ℕ = get_or s 0 0 in
    let b : List ℕ = take n s in
    if eqb n 0 then got [] else
    if eqb n 1 then walk turns (p + 1) seen (drop 1 s) else
    and_then (damage_of p seen b) λ _.
    and_then (walk turns (p + n) (id_of b ∷ seen) (drop n s)) λ bs.
    got (b ∷ bs)

unfoldable pub chain : ℕ → List ℕ → Answer (List (List ℕ))
chain p s = walk (length s) p [] s

-- the block with an ID among the blocks, nothing if there is none
unfoldable pub block_of : ℕ → List (List ℕ) → List ℕ
block_of id [] = []
block_of id (b ∷ bs) = if eqb (id_of b) id then b else block_of id bs

-- the blocks that are carried
unfoldable pub other_blocks : List (List ℕ) → List (List ℕ)
other_blocks [] = []
other_blocks (b ∷ bs) = if taken_apart b then other_blocks bs else b ∷ other_blocks bs

-- ---- the content of a structured block: fields with a 00 between them

-- what follows the four leading bytes, trailing 00 stripped by the reader
unfoldable pub payload : List ℕ → List ℕ
payload b = strip (drop 4 b)

-- its first n fields; missing fields are empty
unfoldable pub fields_in : ℕ → List ℕ → List (List ℕ)
fields_in zero s = []
fields_in (suc n) s = up_to 0 s ∷ fields_in n (past 0 s)

-- what follows the n-th separator
unfoldable pub beyond : ℕ → List ℕ → List ℕ
beyond zero s = s
beyond (suc n) s = beyond n (past 0 s)

-- trailing 00 bytes are dropped by the writer: a 00 follows a field only where something follows the 00
unfoldable pub separated : List (List ℕ) → List ℕ
separated [] = []
separated (f ∷ fs) = f ++ trim 0 (separated fs)

-- a structured block with its length, ID and checksum
unfoldable pub sealed : ℕ → List ℕ → List ℕ
sealed id p =
    let head : List ℕ = (length p + 4) ∷ le16 id in
    head ++ (xor_all (head ++ p) ∷ p)

-- the block of an ID if it has anything
unfoldable pub block_with : ℕ → List ℕ → List ℕ
block_with id p = if is_empty p then [] else sealed id p

-- ---- block 1: media format (1 byte), item field, 00, owner field, 00, usage byte

pub record Library : Type 0 where
  pub media : ℕ
  pub item : List ℕ
  pub owner : List ℕ
  pub usage : ℕ

-- what follows the second separator
abbrev pub last_field : List ℕ → List ℕ
last_field b = beyond 2 (drop 1 (payload b))

-- a missing media or usage byte is 00
unfoldable pub library_in : List ℕ → Library
library_in b =
    let fields : List (List ℕ) = fields_in 2 (drop 1 (payload b)) in
    record {
      media = get_or (payload b) 0 0;
      item = get_or fields 0 [];
      owner = get_or fields 1 [];
      usage = get_or (last_field b) 0 0;
    }

-- more than one byte after the second separator is a bad field; so is an item that is no text, an owner that is none
unfoldable pub good_library : List ℕ → Bool
good_library b =
    let f : Library = library_in b in
    leb (length (last_field b)) 1 && text f.item && (is_empty f.owner || is_owner f.owner)

-- a usage byte 00 is no field
abbrev pub library_fields : Library → List (List ℕ)
library_fields f = f.item ∷ f.owner ∷ trim f.usage [] ∷ []

unfoldable pub library_bytes : Library → List ℕ
library_bytes f = trim f.media (separated (library_fields f))

abbrev pub block_one : Library → List ℕ
block_one f = block_with 1 (library_bytes f)
