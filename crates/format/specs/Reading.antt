-- What a tag holds: document 01, "The first 34 bytes" and "Elements", "On reading".
use Rattle.std.specs.Prelude.{ℕ, ◌*◌, ◌/◌, ◌%◌, ◌≡◌, Bool, true, not, ◌&&◌, ◌||◌, List, [], ◌∷◌, get_or, drop, leb, eqb, if◌then◌else◌}
use Rattle.std.specs.Bool.{beq}
use Rattle.format.specs.Answers.{Answer, Step, got, need, or_else, passed}
use Rattle.format.specs.Bytes.{is_empty, same, le16, part, strip}
use Rattle.format.specs.Crc.{crc, covered}
use Rattle.format.specs.Fields.{alternate, marked, good_item, good_owner, owner_said}
use Rattle.format.specs.Chain.{Library, chain, block_of, other_blocks, library_in, good_library}
use Rattle.format.specs.Elements.{Content, set_bytes}

-- ---- the parts of a tag

abbrev pub main_usage : List ℕ → ℕ
main_usage t = get_or t 0 0 / 16

-- bytes 3 to 18, and bytes 21 to 33, without the 00 at their ends
abbrev pub item_in : List ℕ → List ℕ
item_in t = strip (part 3 16 t)

abbrev pub owner_in : List ℕ → List ℕ
owner_in t = strip (part 21 13 t)

-- blocks start at byte 34
abbrev pub walked : List ℕ → Answer (List (List ℕ))
walked t = chain 34 (drop 34 t)

abbrev pub blocks_in : List ℕ → List (List ℕ)
blocks_in t = or_else (walked t) []

abbrev pub library_on : List ℕ → Library
library_on t = library_in (block_of 1 (blocks_in t))

-- ---- the tests

-- no field breaks its form, and bytes 1 and 2 hold no ordinal above the parts
unfoldable pub good_fields : List ℕ → Bool
good_fields t =
    leb (get_or t 2 0) (get_or t 1 0) && good_item (item_in t) && good_owner (owner_in t) && good_library (block_of 1 (blocks_in t))

-- a marked item is present; an owner in block 1 stands exactly with the marker; a nonzero usage byte agrees with byte 0's main qualifier
unfoldable pub agree : List ℕ → Bool
agree t =
    let f : Library = library_on t in
    not (marked (item_in t) && is_empty f.item)
    && beq (marked (owner_said (owner_in t))) (not (is_empty f.owner))
    && (eqb f.usage 0 || eqb (f.usage / 16) (main_usage t))

-- ---- the elements

-- the owner in block 1, or else in the owner field
unfoldable pub owner_on : List ℕ → List ℕ
owner_on t = if is_empty (library_on t).owner then owner_said (owner_in t) else (library_on t).owner

-- The item field of block 1 is element 1 under the marker, else 22. The owner is 23 where it begins 02 or 03, else 3.
-- A nonzero usage byte is element 5, else that has byte 0's main qualifier and sub qualifier 0. Media 00 is none.
unfoldable pub content_in : List ℕ → Content
content_in t =
    let f : Library = library_on t in
    let i : List ℕ = item_in t in
    let o : List ℕ = owner_on t in
    record {
      slots =
          (if marked i then f.item else i) ∷
          (if alternate o then [] else o) ∷
          set_bytes (get_or t 1 0) (get_or t 2 0) ∷
          ((if eqb f.usage 0 then main_usage t * 16 else f.usage) ∷ []) ∷
          (if eqb f.media 0 then [] else f.media ∷ []) ∷
          (if marked i then [] else f.item) ∷
          (if alternate o then o else []) ∷
          [];
      carried = other_blocks (blocks_in t);
    }

-- ---- the refusals of a tag of good size, in order: 3 Content, 4 Check, 15 to 19 damage, 6 Field, 7 Mismatch

unfoldable pub tag_steps : List ℕ → List Step
tag_steps t =
    need 3 (eqb (get_or t 0 0 % 16) 1) ∷
    need 4 (same (part 19 2 t) (le16 (crc (covered t)))) ∷
    passed (walked t) ∷
    need 6 (good_fields t) ∷
    need 7 (agree t) ∷
    []

-- a tag that passes these steps
pub record Readable (t : List ℕ) : Type 0 where
  pub parameter : eqb (get_or t 0 0 % 16) 1 ≡ true
  pub check : same (part 19 2 t) (le16 (crc (covered t))) ≡ true
  pub blocks : walked t ≡ got (blocks_in t)
  pub fields : good_fields t ≡ true
  pub agreed : agree t ≡ true
