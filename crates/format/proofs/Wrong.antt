-- Wrong readers, writers and editors, and the demand that each breaks. Nothing is said here of `reading`, `writing` or `editing`: whatever
-- program is of one of these kinds does not keep the demand (specs/Demands.antt), however its proof were made.
use mathlib.Core.Path.{◌≡◌, refl, sym, ap, ◌∙◌}
use Prim.Native.Nat.{ℕ, ◌/◌, ◌%◌, ◌≤◌, ◌<◌}
use native.Mathlib.Omega.{arith}
use mathlib.Core.Bool.{Bool, true, false, not, ◌&&◌}
use mathlib.Core.List.{List, [], ◌∷◌, ◌++◌}
use lib.ListN.{length, take, get_or, replicate}
use lib.Dec.{eqb}
use Rattle.format.specs.Answers.{Answer, Refusal, placed, got, refused, Step, need, need_at, in_order, Passed, afterwards, and_then, or_else, passed}
use Rattle.format.specs.Bytes.{is_empty, all, one_of, same, between, le16, word, part, pad_with, trim, strip, up_to, past, xor_all, joined}
use Rattle.format.specs.Pages.{page_size, good_size, lock_map, differs, locked_differs, count, changed, locked_changed}
use Rattle.format.specs.Crc.{crc_bit, crc_bits, crc_byte, crc_from, crc, covered}
use Rattle.format.specs.Text.{rows, after, rows_from, text, letter, encode, Encoded}
use Rattle.format.specs.Fields.{capital, unit_byte, isil_of, isil, alternative, is_owner, good_item, prefix_in, owner_said, good_owner, item_field, packed, basic_owner, owner_field}
use Rattle.format.specs.Chain.{named, summed, well_formed, carriable, damage_steps, walk, chain, block_of, other_blocks, payload, fields_in, beyond, separated, sealed, block_with, library_in, good_library, library_bytes}
use Rattle.format.specs.Elements.{Content, set_info, shape, form, value, known, el, put, clash, values_at, sound}
use Rattle.format.specs.Sheet.{heads, bodies, sheet_of, offsets_fit, rising_from, rising, cut, entries_in, right_sheet, find, carried_in, content_of, good_values, entries_at, carried_entries, entries}
use Rattle.format.specs.Layout.{library, front, basic, laid_out, image, layout, has_layout}
use Rattle.format.specs.Reading.{walked, good_fields, agree, owner_on, content_in, tag_steps}
use Rattle.format.specs.Damage.{Spoilt}
use Rattle.format.specs.Calls.{read_steps, laying_steps, sheet_content, write_steps, own_layout, edit_steps, Edited, Reader, Writer, Editor}
use Rattle.format.specs.Numbers.{damage_numbers}
use Rattle.format.specs.History.{Own, Edit, noted, edited, run, Undone}
use Rattle.format.specs.Demands.{ReadsExactly, WritesExactly, EditsExactly, ReadsDamage, EditsDamage, TextExactly, ReadsBack, LaysDown, CountsWritten, EveryHistory, SameIsNothing}
use Rattle.format.proofs.Tests.{never, and_l}
use Rattle.format.proofs.Letters.{text-letters, letters-text, cut-letters}
use Rattle.format.proofs.Answers.{worked}
use Rattle.format.proofs.Damages.{placed-damage, damage-number}
use Rattle.format.proofs.Pairs.{zeros, with_blocks, accents, item_sheet, isil_us, isil_dk, field_dk, whole_sheet, whole_front, whole_tag, item2, acquisition, tag2, sheet2}

-- ---- two sheets, two tags, and a few edits that serve to tell right from wrong

-- the whole case of document 01, and the same with B2 for B1
item : List ℕ
item = 0x42 ∷ 0x32 ∷ []

other_sheet : List ℕ
other_sheet = 3 ∷ 0 ∷ 1 ∷ 0x0E ∷ 0 ∷ 2 ∷ 4 ∷ 0x10 ∷ 0 ∷ 4 ∷ 5 ∷ 0x14 ∷ 0 ∷ 1 ∷ 0x42 ∷ 0x32 ∷ 1 ∷ 0 ∷ 1 ∷ 0 ∷ 0x10 ∷ []

-- the whole case's elements, and those of B.2; the whole case's tag once it has an owner
abbrev whole : Content
whole = sheet_content whole_sheet

abbrev book : Content
book = sheet_content sheet2

abbrev owned : List ℕ
owned = image (length whole_tag) (put whole 3 isil_us)

used : List ℕ
used = replicate 40 0xFF

-- two tags with a block of length 2: behind a filler, and first
abbrev damaged_late : List ℕ
damaged_late = with_blocks (1 ∷ 2 ∷ [])

abbrev damaged_first : List ℕ
damaged_first = with_blocks (2 ∷ 101 ∷ [])

-- e acute eight times and x: 9 characters, 17 bytes
abbrev nine : List ℕ
nine = accents ++ (0x78 ∷ [])

-- how many characters: what is not a tail
abbrev characters : List ℕ → ℕ
characters s = count (λ i. not (between 0x80 0xBF (get_or s i 0))) (length s)

-- what is computed of them
record Facts : Type 0 where
  read_whole : in_order (read_steps page_size 21 whole_tag) (tt {0}) ≡ got tt
  write-whole : in_order (write_steps page_size whole_sheet (zeros 36) (zeros 9)) (tt {0}) ≡ got tt
  write-other : in_order (write_steps page_size other_sheet (zeros 36) (zeros 9)) (tt {0}) ≡ got tt
  write_again : in_order (write_steps page_size whole_sheet whole_tag (zeros 9)) (tt {0}) ≡ got tt
  write-used : in_order (write_steps page_size whole_sheet used (zeros 10)) (tt {0}) ≡ got tt
  write-nine : in_order (write_steps page_size (item_sheet nine) (zeros 56) (zeros 14)) (tt {0}) ≡ got tt
  edit-item : in_order (edit_steps page_size 255 whole_tag (zeros 9) 1 item) (tt {0}) ≡ got tt
  edit-same : in_order (edit_steps page_size 255 whole_tag (zeros 9) 1 (el whole 1)) (tt {0}) ≡ got tt
  edit-owner : in_order (edit_steps page_size 255 whole_tag (zeros 9) 3 isil_us) (tt {0}) ≡ got tt
  edit-owner-again : in_order (edit_steps page_size 255 owned (zeros 9) 3 isil_dk) (tt {0}) ≡ got tt
  edit-media : in_order (edit_steps page_size 255 tag2 (zeros 19) 19 []) (tt {0}) ≡ got tt
  whole-image : image 36 whole ≡ whole_tag
  whole-own : Own whole whole_tag
  book-own : Own book tag2
  whole-locked : good_size page_size (length whole_tag) && lock_map page_size (replicate (length whole_tag / page_size) 1) (length whole_tag) ≡ true
  owner-there : is_empty (el (content_in owned) 3) ≡ false
  first_byte_lem : get_or whole_tag 0 0 ≡ 0x11
  item-byte : get_or whole_tag 4 0 ≡ 0x31
  new-item-byte : get_or (image (length whole_tag) (put whole 1 item)) 4 0 ≡ 0x32
  owner-byte : get_or owned 21 0 ≡ 0x55
  new-owner-byte : get_or (image (length whole_tag) (put (put whole 3 isil_us) 3 isil_dk)) 21 0 ≡ 0x44
  pages-written : changed page_size (zeros 36) whole_tag ≡ 4
  pages-again : changed page_size whole_tag whole_tag ≡ 0
  pages-edited : changed page_size whole_tag (image (length whole_tag) (put whole 1 item)) ≡ 3
  pages-same : changed page_size whole_tag (image (length whole_tag) (put whole 1 (el whole 1))) ≡ 0
  used-laid : length (laid_out 40 whole.slots (joined whole.carried)) ≡ 34
  used-byte : get_or (image 40 whole) 36 0 ≡ 0
  book-laid : length (laid_out (length tag2) (put (content_in tag2) 19 []).slots (joined (put (content_in tag2) 19 []).carried)) ≡ 68
  book-byte : get_or tag2 70 0 ≡ 0x35
  new-book-byte : get_or (image (length tag2) (put book 19 [])) 70 0 ≡ 0
  nine-characters : characters (el (sheet_content (item_sheet nine)) 1) ≡ 9
  nine-byte : get_or (el (sheet_content (item_sheet nine)) 1) 0 0 ≡ 0xC3
  nine-marked : get_or (image 56 (sheet_content (item_sheet nine))) 3 0 ≡ 1
  late-size : good_size page_size (length damaged_late) && lock_map page_size (zeros 9) (length damaged_late) ≡ true
  late-parameter : eqb (get_or damaged_late 0 0 % 16) 1 ≡ true
  late-check : same (part 19 2 damaged_late) (le16 (crc (covered damaged_late))) ≡ true
  late_walked : walked damaged_late ≡ refused (placed 15 35)
  first-size : good_size page_size (length damaged_first) && lock_map page_size (zeros 9) (length damaged_first) ≡ true
  first-parameter : eqb (get_or damaged_first 0 0 % 16) 1 ≡ true
  first-check : same (part 19 2 damaged_first) (le16 (crc (covered damaged_first))) ≡ true
  first-walked : walked damaged_first ≡ refused (placed 15 34)

facts : Facts
unfolding item other_sheet used accents item_sheet with_blocks isil_us isil_dk field_dk whole_sheet whole_front whole_tag item2 acquisition tag2 sheet2 need need_at in_order afterwards and_then or_else passed all one_of same le16 word pad_with trim strip up_to past xor_all joined good_size lock_map differs locked_differs count changed locked_changed crc_bit crc_bits crc_byte crc_from crc covered rows after rows_from text capital unit_byte isil_of isil alternative is_owner good_item prefix_in owner_said good_owner item_field packed basic_owner owner_field named summed well_formed carriable damage_steps walk chain block_of other_blocks payload fields_in beyond separated sealed block_with library_in good_library library_bytes set_info shape form value known put clash values_at sound heads bodies sheet_of offsets_fit rising_from rising cut entries_in right_sheet find carried_in content_of good_values entries_at carried_entries entries library front basic laid_out layout has_layout good_fields agree owner_on content_in tag_steps laying_steps own_layout read_steps write_steps edit_steps
facts = record {
  read_whole = refl;
  write-whole = refl;
  write-other = refl;
  write_again = refl;
  write-used = refl;
  write-nine = refl;
  edit-item = refl;
  edit-same = refl;
  edit-owner = refl;
  edit-owner-again = refl;
  edit-media = refl;
  whole-image = refl;
  whole-own = record { sane = refl; fit = refl; lies = refl };
  book-own = record { sane = refl; fit = refl; lies = refl };
  whole-locked = refl;
  owner-there = refl;
  first_byte_lem = refl;
  item-byte = refl;
  new-item-byte = refl;
  owner-byte = refl;
  new-owner-byte = refl;
  pages-written = refl;
  pages-again = refl;
  pages-edited = refl;
  pages-same = refl;
  used-laid = refl;
  used-byte = refl;
  book-laid = refl;
  book-byte = refl;
  new-book-byte = refl;
  nine-characters = refl;
  nine-byte = refl;
  nine-marked = refl;
  late-size = refl;
  late-parameter = refl;
  late-check = refl;
  late_walked = refl;
  first-size = refl;
  first-parameter = refl;
  first-check = refl;
  first-walked = refl;
}

spoilt-late : Spoilt damaged_late 15 35
spoilt-late = record { parameter = facts.late-parameter; check = facts.late-check; damage = placed-damage damaged_late 15 35 facts.late_walked }

spoilt-first : Spoilt damaged_first 15 34
spoilt-first = record { parameter = facts.first-parameter; check = facts.first-check; damage = placed-damage damaged_first 15 34 facts.first-walked }

passes : (ss : List Step) → in_order ss (tt {0}) ≡ got tt → Passed ss
passes ss e = (worked ss (tt {0}) tt e).0

pub no-refusal : {A : Type 0} {a : Answer A} {x : Refusal} {r : A} → a ≡ refused x → a ≡ got r → ⊥
no-refusal e f = never (cc)

-- ==== a reader, a writer or an editor that refuses all: demand 2's exact refusals

pub reader-refusing-all : (read : Reader) → ((p : ℕ) (t buffer : List ℕ) → (x : Refusal) × ((read p t buffer).answer ≡ refused x)) → ReadsExactly read → ⊥
reader-refusing-all read never-reads exact =
    no-refusal (never-reads page_size whole_tag (zeros 21)).1 ((exact page_size whole_tag (zeros 21)).works (passes _ facts.read_whole)).1

pub writer-refusing-all : (write : Writer) → ((p : ℕ) (s t locks : List ℕ) → (x : Refusal) × ((write p s t locks).answer ≡ refused x)) → WritesExactly write → ⊥
writer-refusing-all write never-writes exact =
    no-refusal (never-writes page_size whole_sheet (zeros 36) (zeros 9)).1 ((exact page_size whole_sheet (zeros 36) (zeros 9)).works (passes _ facts.write-whole)).1

pub editor-refusing-all : (edit : Editor) → ((p : ℕ) (t locks : List ℕ) (n : ℕ) (s buffer : List ℕ) → (x : Refusal) × ((edit p t locks n s buffer).answer ≡ refused x))
    → EditsExactly edit → ⊥
editor-refusing-all edit never-edits exact =
    no-refusal (never-edits page_size whole_tag (zeros 9) 1 item (zeros 255)).1 ((exact page_size whole_tag (zeros 9) 1 item (zeros 255)).works (passes _ facts.edit-item)).1

-- ==== a reader or an editor that gives no place, one place for every tag, or a place with another number than 15 to 19: demand 1, the damage

abbrev sized : (t : List ℕ) → good_size page_size (length t) && lock_map page_size (zeros 9) (length t) ≡ true → good_size page_size (length t) ≡ true
sized t z = and_l (good_size page_size (length t)) (lock_map page_size (zeros 9) (length t)) z

module _ (read : Reader) (damage : ReadsDamage read) where
  read-late : (read page_size damaged_late []).answer ≡ refused (placed 15 35)
  read-late = (damage page_size damaged_late [] 15 35).1 (sized damaged_late facts.late-size, spoilt-late)

  read_first : (read page_size damaged_first []).answer ≡ refused (placed 15 34)
  read_first = (damage page_size damaged_first [] 15 34).1 (sized damaged_first facts.first-size, spoilt-first)

  pub reader-without-place : ((p : ℕ) (t buffer : List ℕ) (k at : ℕ) → (read p t buffer).answer ≡ refused (placed k at) → ⊥) → ⊥
  reader-without-place placeless = placeless page_size damaged_late [] 15 35 read-late

  pub reader-with-one-place : ((p : ℕ) (t t' buffer : List ℕ) (k k' at at' : ℕ)
      → (read p t buffer).answer ≡ refused (placed k at) → (read p t' buffer).answer ≡ refused (placed k' at') → at ≡ at') → ⊥
  reader-with-one-place one = let z : ◌≡◌ {A = ℕ} 35 34 = one page_size damaged_late damaged_first [] 15 15 35 34 read-late read_first in omega arith

  pub reader-placing-others : (p : ℕ) (t buffer : List ℕ) (k at : ℕ) → one_of damage_numbers k ≡ false → (read p t buffer).answer ≡ refused (placed k at) → ⊥
  reader-placing-others p t buffer k at o e = never (cc (damage-number t k at ((damage p t buffer k at).0 e).1.damage))

module _ (edit : Editor) (damage : EditsDamage edit) where
  edit-late : (edit page_size damaged_late (zeros 9) 1 [] []).answer ≡ refused (placed 15 35)
  edit-late = (damage page_size damaged_late (zeros 9) 1 [] [] 15 35).1 (facts.late-size, spoilt-late)

  edit-first : (edit page_size damaged_first (zeros 9) 1 [] []).answer ≡ refused (placed 15 34)
  edit-first = (damage page_size damaged_first (zeros 9) 1 [] [] 15 34).1 (facts.first-size, spoilt-first)

  pub editor-without-place : ((p : ℕ) (t locks : List ℕ) (n : ℕ) (s buffer : List ℕ) (k at : ℕ) → (edit p t locks n s buffer).answer ≡ refused (placed k at) → ⊥) → ⊥
  editor-without-place placeless = placeless page_size damaged_late (zeros 9) 1 [] [] 15 35 edit-late

  pub editor-with-one-place : ((p : ℕ) (t t' locks : List ℕ) (n : ℕ) (s buffer : List ℕ) (k k' at at' : ℕ)
      → (edit p t locks n s buffer).answer ≡ refused (placed k at) → (edit p t' locks n s buffer).answer ≡ refused (placed k' at') → at ≡ at') → ⊥
  editor-with-one-place one = let z : ◌≡◌ {A = ℕ} 35 34 = one page_size damaged_late damaged_first (zeros 9) 1 [] [] 15 15 35 34 edit-late edit-first in omega arith

  pub editor-placing-others : (p : ℕ) (t locks : List ℕ) (n : ℕ) (s buffer : List ℕ) (k at : ℕ) → one_of damage_numbers k ≡ false → (edit p t locks n s buffer).answer ≡ refused (placed k at) → ⊥
  editor-placing-others p t locks n s buffer k at o e = never (cc (damage-number t k at ((damage p t locks n s buffer k at).0 e).1.damage))

-- ==== a rule of text that takes an overlong form, a surrogate, a value above 10FFFF, a letter that is cut, or 7F, or refuses C2 80: demand 2,
-- what text is

module _ (rule : List ℕ → Bool) (exact : TextExactly rule) where
  takes-no-other : (s : List ℕ) → text s ≡ false → rule s ≡ true → ⊥
  takes-no-other s n e = never (cc (letters-text s ((exact s).0 e)))

  pub rule-taking-overlong : rule (0xC0 ∷ 0xAF ∷ []) ≡ true → ⊥
  unfolding text rows_from rows after
  rule-taking-overlong = takes-no-other _ refl

  pub rule-taking-surrogate : rule (0xED ∷ 0xA0 ∷ 0x80 ∷ []) ≡ true → ⊥
  unfolding text rows_from rows after
  rule-taking-surrogate = takes-no-other _ refl

  pub rule-taking-above : rule (0xF4 ∷ 0x90 ∷ 0x80 ∷ 0x80 ∷ []) ≡ true → ⊥
  unfolding text rows_from rows after
  rule-taking-above = takes-no-other _ refl

  pub rule-taking-cut : (s : List ℕ) (v k : ℕ) → Encoded s → letter v ≡ true → 0 < k → k < length (encode v) → rule (s ++ take k (encode v)) ≡ true → ⊥
  rule-taking-cut s v k c l h m = takes-no-other _ (cut-letters s v k c l h m)

  pub rule-taking-7f : rule (0x7F ∷ []) ≡ true → ⊥
  unfolding text rows_from rows after
  rule-taking-7f = takes-no-other _ refl

  pub rule-refusing-c2-80 : rule (0xC2 ∷ 0x80 ∷ []) ≡ false → ⊥
  unfolding text rows_from rows after
  rule-refusing-c2-80 n = never (cc ((exact (0xC2 ∷ 0x80 ∷ [])).1 (text-letters _ refl)))

-- ==== a reader that gives one sheet for every tag that it reads: demand 2, what is written reads back

pub one-sheet-for-all : (read : Reader) (write : Writer)
    → ((p : ℕ) (t t' buffer : List ℕ) (n n' : ℕ) → (read p t buffer).answer ≡ got n → (read p t' buffer).answer ≡ got n' → (read p t buffer).sheet ≡ (read p t' buffer).sheet)
    → WritesExactly write → ReadsBack read write → ⊥
unfolding whole_sheet other_sheet
one-sheet-for-all read write one exact back =
    let a = (exact page_size whole_sheet (zeros 36) (zeros 9)).works (passes _ facts.write-whole) in
    let b = (exact page_size other_sheet (zeros 36) (zeros 9)).works (passes _ facts.write-other) in
    let r = back page_size whole_sheet (zeros 36) (zeros 9) a.0 a.1 (zeros 21) (omega arith) in
    let q = back page_size other_sheet (zeros 36) (zeros 9) b.0 b.1 (zeros 21) (omega arith) in
    let z : ◌≡◌ {A = ℕ} 0x31 0x32 = ap (λ (l : List ℕ). get_or l 15 0) (sym r.1 ∙ one page_size _ _ (zeros 21) _ _ r.0 q.0 ∙ q.1) in
    omega arith

-- ==== a writer that touches nothing, invents its count, or keeps old bytes: the layout and the pages that differ, demand 2

module _ (write : Writer) (exact : WritesExactly write) (lays : LaysDown write) where
  -- the tag that such a writer leaves
  leaves : (s t locks : List ℕ) → in_order (write_steps page_size s t locks) (tt {0}) ≡ got tt
      → (k : ℕ) × ((write page_size s t locks).answer ≡ got k) × ((write page_size s t locks).tag ≡ image (length t) (sheet_content s))
  leaves s t locks e =
      let a = (exact page_size s t locks).works (passes _ e) in
      let h = lays page_size s t locks a.0 a.1 in
      (a.0, a.1, sym h.1.lies ∙ ap (λ (n : ℕ). image n (sheet_content s)) h.0)

  pub writer-touching-nothing : ((p : ℕ) (s t locks : List ℕ) → (write p s t locks).tag ≡ t) → ⊥
  writer-touching-nothing nothing =
      let w = leaves whole_sheet (zeros 36) (zeros 9) facts.write-whole in
      let z : ◌≡◌ {A = ℕ} 0 0x11 = ap (λ (l : List ℕ). get_or l 0 0) (sym (nothing page_size whole_sheet (zeros 36) (zeros 9)) ∙ w.2 ∙ facts.whole-image) ∙ facts.first_byte_lem in
      omega arith

  -- one count for every sheet that it writes
  pub writer-counting-one : CountsWritten write
      → ((p : ℕ) (s t locks t' : List ℕ) (k k' : ℕ) → (write p s t locks).answer ≡ got k → (write p s t' locks).answer ≡ got k' → k ≡ k') → ⊥
  writer-counting-one counts one =
      let a = leaves whole_sheet (zeros 36) (zeros 9) facts.write-whole in
      let b = leaves whole_sheet whole_tag (zeros 9) facts.write_again in
      let four : a.0 ≡ 4 = counts page_size whole_sheet (zeros 36) (zeros 9) a.0 a.1 ∙ ap (changed page_size (zeros 36)) (a.2 ∙ facts.whole-image) ∙ facts.pages-written in
      let none : b.0 ≡ 0 = counts page_size whole_sheet whole_tag (zeros 9) b.0 b.1 ∙ ap (changed page_size whole_tag) (b.2 ∙ facts.whole-own.lies) ∙ facts.pages-again in
      omega (arith, one page_size whole_sheet (zeros 36) (zeros 9) whole_tag a.0 b.0 a.1 b.1)

  -- behind the end mark
  pub writer-keeping-bytes : ((p : ℕ) (s t locks : List ℕ) (k : ℕ) → (write p s t locks).answer ≡ got k → (i : ℕ) → length (laid_out (length t) (sheet_content s).slots (joined (sheet_content s).carried)) < i
      → get_or (write p s t locks).tag i 0 ≡ get_or t i 0) → ⊥
  unfolding used
  writer-keeping-bytes keeps =
      let w = leaves whole_sheet used (zeros 10) facts.write-used in
      let z : ◌≡◌ {A = ℕ} 0 0xFF =
      sym facts.used-byte ∙ ap (λ (l : List ℕ). get_or l 36 0) (sym w.2) ∙ keeps page_size whole_sheet used (zeros 10) w.0 w.1 36 (omega (arith, facts.used-laid)) in
      omega arith

  -- up to 16 characters in the basic block, in place of 16 bytes
  pub writer-counting-characters : ((p : ℕ) (s t locks : List ℕ) (k : ℕ) → (write p s t locks).answer ≡ got k → characters (el (sheet_content s) 1) ≤ 16
      → get_or (write p s t locks).tag 3 0 ≡ get_or (el (sheet_content s) 1) 0 0) → ⊥
  writer-counting-characters keeps =
      let w = leaves (item_sheet nine) (zeros 56) (zeros 14) facts.write-nine in
      let z : ◌≡◌ {A = ℕ} 1 0xC3 =
      sym facts.nine-marked ∙ ap (λ (l : List ℕ). get_or l 3 0) (sym w.2) ∙ keeps page_size (item_sheet nine) (zeros 56) (zeros 14) w.0 w.1 (omega (arith, facts.nine-characters)) ∙ facts.nine-byte in
      omega arith

-- ==== an editor that touches nothing, pretends at later edits, invents its count, or keeps old bytes: demand 3, after each edit

abbrev setting : ℕ → List ℕ → Edit
setting n s = record { number = n; bytes = s; room = zeros 255; enough = omega arith }

module _ (write : Writer) (edit : Editor) (exact : EditsExactly edit) (every : EveryHistory write edit) where
  -- the tag that such an editor leaves, and its count
  edits : (t locks : List ℕ) (c : Content) → Own c t → (n : ℕ) (s : List ℕ) → in_order (edit_steps page_size 255 t locks n s) (tt {0}) ≡ got tt
      → let o = edit page_size t locks n s (zeros 255) in
      (r : Edited) × (o.answer ≡ got r) × (o.tag ≡ image (length t) (put c n s)) × (r.pages ≡ changed page_size t o.tag)
  unfolding run edited noted Undone
  edits t locks c o n s e =
      let a = (exact page_size t locks n s (zeros 255)).works (passes _ e) in
      let l = rw a.1 at (every page_size locks t c o (setting n s ∷ [])) in
      (a.0, a.1, sym l.own.lies ∙ ap (λ (k : ℕ). image k (put c n s)) l.long, l.undone.0.counted)

  pub editor-touching-nothing : ((p : ℕ) (t locks : List ℕ) (n : ℕ) (s buffer : List ℕ) → (edit p t locks n s buffer).tag ≡ t) → ⊥
  editor-touching-nothing nothing =
      let w = edits whole_tag (zeros 9) whole facts.whole-own 1 item facts.edit-item in
      let z : ◌≡◌ {A = ℕ} 0x31 0x32 =
      sym facts.item-byte ∙ ap (λ (l : List ℕ). get_or l 4 0) (sym (nothing page_size whole_tag (zeros 9) 1 item (zeros 255)) ∙ w.2) ∙ facts.new-item-byte in
      omega arith

  -- one count for every edit that it accepts
  pub editor-counting-one : ((p : ℕ) (t locks : List ℕ) (n : ℕ) (s s' buffer : List ℕ) (r r' : Edited)
      → (edit p t locks n s buffer).answer ≡ got r → (edit p t locks n s' buffer).answer ≡ got r' → r.pages ≡ r'.pages) → ⊥
  editor-counting-one one =
      let a = edits whole_tag (zeros 9) whole facts.whole-own 1 item facts.edit-item in
      let b = edits whole_tag (zeros 9) whole facts.whole-own 1 (el whole 1) facts.edit-same in
      let three : a.0.pages ≡ 3 = a.3 ∙ ap (changed page_size whole_tag) a.2 ∙ facts.pages-edited in
      let none : b.0.pages ≡ 0 = b.3 ∙ ap (changed page_size whole_tag) b.2 ∙ facts.pages-same in
      omega (arith, one page_size whole_tag (zeros 9) 1 item (el whole 1) (zeros 255) a.0 b.0 a.1 b.1)

  -- behind the end mark: B.2 without its element 19 has no block 1, and the block behind it moves
  pub editor-keeping-bytes : ((p : ℕ) (t locks : List ℕ) (n : ℕ) (s buffer : List ℕ) (r : Edited) → (edit p t locks n s buffer).answer ≡ got r
      → (i : ℕ) → length (laid_out (length t) (put (content_in t) n s).slots (joined (put (content_in t) n s).carried)) < i → get_or (edit p t locks n s buffer).tag i 0 ≡ get_or t i 0) → ⊥
  editor-keeping-bytes keeps =
      let w = edits tag2 (zeros 19) book facts.book-own 19 [] facts.edit-media in
      let z : ◌≡◌ {A = ℕ} 0 0x35 =
      sym facts.new-book-byte ∙ ap (λ (l : List ℕ). get_or l 70 0) (sym w.2) ∙ keeps page_size tag2 (zeros 19) 19 [] (zeros 255) w.0 w.1 70 (omega (arith, facts.book-laid)) ∙ facts.book-byte in
      omega arith

  -- the first edit of an element is done, later ones leave the tag alone: an owner is set, and then another
  pub editor-pretending : ((p : ℕ) (t locks : List ℕ) (n : ℕ) (s buffer : List ℕ) → is_empty (el (content_in t) n) ≡ false → (edit p t locks n s buffer).tag ≡ t) → ⊥
  unfolding run edited noted
  editor-pretending pretends =
      let a = edits whole_tag (zeros 9) whole facts.whole-own 3 isil_us facts.edit-owner in
      let b = (exact page_size owned (zeros 9) 3 isil_dk (zeros 255)).works (passes _ facts.edit-owner-again) in
      let l = rw (a.1, a.2, b.1) at (every page_size (zeros 9) whole_tag whole facts.whole-own (setting 3 isil_us ∷ setting 3 isil_dk ∷ [])) in
      let same_tag = pretends page_size owned (zeros 9) 3 isil_dk (zeros 255) facts.owner-there in
      let laid : image (length whole_tag) (put (put whole 3 isil_us) 3 isil_dk) ≡ owned = ap (λ (k : ℕ). image k (put (put whole 3 isil_us) 3 isil_dk)) (sym l.long) ∙ l.own.lies ∙ same_tag in
      let z : ◌≡◌ {A = ℕ} 0x44 0x55 = sym facts.new-owner-byte ∙ ap (λ (x : List ℕ). get_or x 21 0) laid ∙ facts.owner-byte in
      omega arith

-- ==== an editor that refuses a locked page whose bytes would not change

-- whatever it is asked, where every page is locked
pub editor-refusing-locked : (edit : Editor)
    → ((p : ℕ) (t : List ℕ) (n : ℕ) (s buffer : List ℕ) → (x : Refusal) × ((edit p t (replicate (length t / p) 1) n s buffer).answer ≡ refused x))
    → SameIsNothing edit → ⊥
unfolding known
editor-refusing-locked edit refuses same-is-nothing =
    no-refusal (refuses page_size whole_tag 1 (el whole 1) (zeros 255)).1
    (same-is-nothing page_size whole_tag (replicate (length whole_tag / page_size) 1) whole facts.whole-own 1 (zeros 255) facts.whole-locked (omega arith) refl).0
