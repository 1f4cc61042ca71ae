-- The promises about the three calls, in one place. What the demands ask is said in specs/Demands.antt of any reader, writer and editor;
-- here it is shown of `reading`, `writing` and `editing` (specs/Calls.antt), the very functions that the contracts cite through `Reads`,
-- `Writes` and `Edits` (specs/Numbers.antt).
use mathlib.Core.Path.{◌≡◌, refl, sym, ap, ap₂, ◌∙◌}
use mathlib.Core.Logic.{◌⊎◌}
use Prim.Native.Nat.{ℕ, ◌+◌, ◌≤◌, ◌<◌}
use mathlib.Core.Bool.{Bool, true, false, ◌&&◌}
use mathlib.Core.List.{List, ◌++◌}
use lib.ListN.{length, take, drop}
use borrow.Author.Tests.{le-leb}
use Rattle.std.specs.Prelude.{Result}
use Rattle.format.specs.Answers.{Answer, Refusal, plain, placed, got, refused, Step, in_order, Passed}
use Rattle.format.specs.Bytes.{all, one_of, between, bytes, part, strip, filled, joined}
use Rattle.format.specs.Pages.{page_size, good_size, lock_map, changed, open_pages, Kept}
use Rattle.format.specs.Text.{text, letter, encode, Encoded}
use Rattle.format.specs.Fields.{alternate, marked}
use Rattle.format.specs.Elements.{Content, parts_of, ordinal_of, known, el, put, value, sound}
use Rattle.format.specs.Sheet.{sheet_of, fitting, entries_in, right_sheet, find, content_of, good_values, entries}
use Rattle.format.specs.Layout.{owner_width, laid_out, image, fits}
use Rattle.format.specs.Reading.{walked, blocks_in, library_on, content_in, Readable}
use Rattle.format.specs.Damage.{Damaged}
use Rattle.format.specs.Calls.{sheet_in, read_steps, reading, sheet_content, write_steps, writing, own_layout, edit_steps, Edited, editing}
use Rattle.format.specs.Before.{text_before, read_steps_by, reading_by, write_steps_by, writing_by, edit_steps_by, editing_by}
use Rattle.format.specs.Numbers.{damage_numbers, Gives, gives, one_gives, read_gives, write_gives, edit_gives, Each, number_of, result_of, Reads, Writes, Edits, ReadsC, WritesC, EditsC}
use Rattle.format.specs.History.{Own, State, begin, run}
use Rattle.format.specs.Demands.{Exact, ReadsExactly, WritesExactly, EditsExactly, ReadsDamage, EditsDamage, ReadsUnchanged, WritesUnchanged, EditsUnchanged, TextExactly, ReadsBack, LaysDown, CountsWritten, CountsEdited, PutsElement, EveryHistory, SameIsNothing}
use Rattle.format.specs.declared.Reason.{Reason}
use Rattle.format.specs.declared.Refusal as code
use Rattle.format.proofs.Tests.{and_l, and_r, and_i, and_no, and_left, same_truth}
use Rattle.format.proofs.Answers.{refuses, refused-first, works, worked, next-ok, next-no, afterwards-got, afterwards-refused}
use Rattle.format.proofs.Damages.{damage-refused, placed-damage, damage-number, damage-inside, spoilt-on}
use Rattle.format.proofs.Refusals.{read-order, write-order, edit-order, listed, zero-done, read-spoilt, edit-spoilt, place-told, reads-apart, edits-apart}
use Rattle.format.proofs.Readable.{readable-on}
use Rattle.format.proofs.Paging.{changed-self}
use Rattle.format.proofs.Text.{text-plain, text-append}
use Rattle.format.proofs.Letters.{text-letters, letters-text, cut-letters}
use Rattle.format.proofs.Slots.{put_same, wide-unknown}
use Rattle.format.proofs.Sheets.{sheet-right, right-sheet}
use Rattle.format.proofs.Entries.{entries-content, values-parts, content-entries, bad-set}
use Rattle.format.proofs.Values.{set-held, set-no-value}
use Rattle.format.proofs.Sound.{read-sound}
use Rattle.format.proofs.Whole.{tag-whole, content-whole}
use Rattle.format.proofs.Shorter.{read_fits, laid-shorter}
use Rattle.format.proofs.Offsets.{read-fitting}
use Rattle.format.proofs.Laying.{laid-open, layout-own}
use Rattle.format.proofs.Writes.{write-passed, written-own, written-length, written-sheet, written-passes, own-written}
use Rattle.format.proofs.Edits.{edit-passed, own-elements, edit-passes, passed-edit, same_length, edited-own, same-accepted}
use Rattle.format.proofs.Histories.{Good, history, begun}
use Rattle.format.proofs.Before.{read-by-text, write-by-text, edit-by-text, read-same-or-six, write-same-or-nine, edit-same-or-six-nine, read-still, write-still, edit-still}
use Rattle.format.proofs.Given.{given-same, told-same}

-- ==== Demand 1: one answer and one content for each buffer, on every input; a refusal changes nothing and gives only its number

-- two outcomes that fit a call's contract are equal, answer and buffers
pub reads-one : (t buffer : List ℕ) (r r' : Result ℕ code.Refusal) (s s' : List ℕ) → Reads t buffer r s → Reads t buffer r' s' → (r ≡ r') × (s ≡ s')
reads-one t buffer r r' s s' a b = (told-same r r' (a.answered ∙ sym b.answered), a.left ∙ sym b.left)

pub writes_one : (s t locks : List ℕ) (r r' : Result ℕ Reason) (tag tag' : List ℕ) → Writes s t locks r tag → Writes s t locks r' tag' → (r ≡ r') × (tag ≡ tag')
writes_one s t locks r r' tag tag' a b = (given-same r r' (a.answered ∙ sym b.answered), a.left ∙ sym b.left)

pub edits-one : (t locks : List ℕ) (n : ℕ) (s buffer : List ℕ) (r r' : Result Edited code.Refusal) (tag tag' old old' : List ℕ)
    → Edits t locks n s buffer r tag old → Edits t locks n s buffer r' tag' old' → (r ≡ r') × (tag ≡ tag') × (old ≡ old')
edits-one t locks n s buffer r r' tag tag' old old' a b = (told-same r r' (a.answered ∙ sym b.answered), a.left ∙ sym b.left, a.handed ∙ sym b.handed)

-- so too for the exported calls
pub c-reads-one : (t buffer : List ℕ) (used place r r' : ℕ) (s s' : List ℕ) (u u' l l' : ℕ)
    → ReadsC t buffer used place r s u l → ReadsC t buffer used place r' s' u' l' → (r ≡ r') × (s ≡ s') × (u ≡ u') × (l ≡ l')
c-reads-one t buffer used place r r' s s' u u' l l' a b =
    (a.answered ∙ sym b.answered, a.left ∙ sym b.left, a.result ∙ sym b.result, a.at_place ∙ sym b.at_place)

pub c-writes-one : (s t locks : List ℕ) (pages r r' : ℕ) (tag tag' : List ℕ) (n n' : ℕ) → WritesC s t locks pages r tag n → WritesC s t locks pages r' tag' n' → (r ≡ r') × (tag ≡ tag') × (n ≡ n')
c-writes-one s t locks pages r r' tag tag' n n' a b = (a.answered ∙ sym b.answered, a.left ∙ sym b.left, a.result ∙ sym b.result)

pub c-edits-one : (t locks : List ℕ) (n : ℕ) (s buffer : List ℕ) (pages used place r r' : ℕ) (tag tag' old old' : List ℕ) (k k' u u' l l' : ℕ)
    → EditsC t locks n s buffer pages used place r tag old k u l → EditsC t locks n s buffer pages used place r' tag' old' k' u' l'
    → (r ≡ r') × (tag ≡ tag') × (old ≡ old') × (k ≡ k') × (u ≡ u') × (l ≡ l')
c-edits-one t locks n s buffer pages used place r r' tag tag' old old' k k' u u' l l' a b =
    (a.answered ∙ sym b.answered, a.left ∙ sym b.left, a.handed ∙ sym b.handed, a.result ∙ sym b.result, a.old-length ∙ sym b.old-length, a.at_place ∙ sym b.at_place)

-- their number is 0 only when the work is done
pub zero-is-done : {A : Type 0} (gs : List Gives) (ss : List Step) (a : A) → Each gs ss → one_gives gs (plain 0) ≡ false → number_of (in_order ss a) ≡ 0 → in_order ss a ≡ got a
zero-is-done = zero-done

pub no_zero : (one_gives read_gives (plain 0) ≡ false) × (one_gives write_gives (plain 0) ≡ false) × (one_gives edit_gives (plain 0) ≡ false)
unfolding one_gives gives read_gives write_gives edit_gives
no_zero = (refl, refl, refl)

-- a list of steps refuses exactly where one of them refuses, as the first that does, and passes exactly where all do
pub exactly : {A : Type 0} (ss : List Step) (a : A) → Exact ss (in_order ss a)
exactly ss a = record {
  refuses = λ x f. refuses x ss a f;
  refused-first = λ x e. refused-first x ss a e;
  works = λ f. (a, works ss a f);
  worked = λ b e. (worked ss a b e).0;
}

-- so do the three calls
pub reading-exactly : ReadsExactly reading
unfolding reading
reading-exactly p t buffer = exactly (read_steps p (length buffer) t) _

pub writing-exactly : WritesExactly writing
unfolding writing
writing-exactly p s t locks = exactly (write_steps p s t locks) _

pub editing-exactly : EditsExactly editing
unfolding editing
editing-exactly p t locks n s buffer = exactly (edit_steps p (length buffer) t locks n s) _

-- the steps refuse with what the call's list says, in the paper's order; so a refusal is one of the list, and has a place only with 15 to 19
pub reading-order : (p room : ℕ) (t : List ℕ) → Each read_gives (read_steps p room t)
reading-order = read-order

pub writing-order : (p : ℕ) (s t locks : List ℕ) → Each write_gives (write_steps p s t locks)
writing-order = write-order

pub editing-order : (p room : ℕ) (t locks : List ℕ) (n : ℕ) (s : List ℕ) → Each edit_gives (edit_steps p room t locks n s)
editing-order = edit-order

pub reading-listed : (p : ℕ) (t buffer : List ℕ) (x : Refusal) → (reading p t buffer).answer ≡ refused x → one_gives read_gives x ≡ true
unfolding reading
reading-listed p t buffer x e = listed read_gives (read_steps p (length buffer) t) _ x (read-order p (length buffer) t) e

pub writing-listed : (p : ℕ) (s t locks : List ℕ) (x : Refusal) → (writing p s t locks).answer ≡ refused x → one_gives write_gives x ≡ true
unfolding writing
writing-listed p s t locks x e = listed write_gives (write_steps p s t locks) _ x (write-order p s t locks) e

pub editing-listed : (p : ℕ) (t locks : List ℕ) (n : ℕ) (s buffer : List ℕ) (x : Refusal) → (editing p t locks n s buffer).answer ≡ refused x → one_gives edit_gives x ≡ true
unfolding editing
editing-listed p t locks n s buffer x e = listed edit_gives (edit_steps p (length buffer) t locks n s) _ x (edit-order p (length buffer) t locks n s) e

-- walking the chain is refused exactly where it is damaged, with the number and the place of the first damage;
pub damage-exactly : (t : List ℕ) (k p : ℕ) → (walked t ≡ refused (placed k p) → Damaged t k p) × (Damaged t k p → walked t ≡ refused (placed k p))
damage-exactly t k p = (placed-damage t k p, damage-refused t k p)

-- it has a number of 15 to 19, and its place is from byte 34 on, before the tag's end
pub damage-placed : (t : List ℕ) (k p : ℕ) → Damaged t k p → (one_of damage_numbers k ≡ true) × (34 ≤ p) × (p < length t)
damage-placed t k p d = let h = damage-inside t k p d in (damage-number t k p d, h.0, h.1)

-- reading and editing pass it upward, and give no other place
pub reading-damage : ReadsDamage reading
unfolding reading read_steps
reading-damage p t buffer k at = (read-spoilt p (length buffer) t _ k at, λ h. next-ok _ _ _ _ h.0 ∙ spoilt-on t _ _ k at h.1)

pub editing-damage : EditsDamage editing
unfolding editing edit_steps
editing-damage p t locks n s buffer k at = (edit-spoilt p (length buffer) t locks n s _ k at, λ h. next-ok _ _ _ _ h.0 ∙ spoilt-on t _ _ k at h.1)

-- so for one tag they give the same
pub same-damage : (p : ℕ) (t locks : List ℕ) (n : ℕ) (s old sheet : List ℕ) (k at : ℕ) → lock_map p locks (length t) ≡ true
    → ((reading p t sheet).answer ≡ refused (placed k at) → (editing p t locks n s old).answer ≡ refused (placed k at))
    × ((editing p t locks n s old).answer ≡ refused (placed k at) → (reading p t sheet).answer ≡ refused (placed k at))
same-damage p t locks n s old sheet k at l = (
  λ e. let h = (reading-damage p t sheet k at).0 e in (editing-damage p t locks n s old k at).1 (and_i h.0 l, h.1),
  λ e. let h = (editing-damage p t locks n s old k at).0 e in (reading-damage p t sheet k at).1 (and_l (good_size p (length t)) (lock_map p locks (length t)) h.0, h.1),
)

-- a C host finds the place behind its pointer where the number is 15 to 19, and else what stood there
pub c-reads-place : (t buffer : List ℕ) (used place r : ℕ) (sheet : List ℕ) (used' place' : ℕ) → ReadsC t buffer used place r sheet used' place'
    → (one_of damage_numbers r ≡ true → Damaged t r place') × (one_of damage_numbers r ≡ false → place' ≡ place)
c-reads-place t buffer used place r sheet used' place' c =
    place-told t read_gives (reading page_size t buffer).answer r place place' reads-apart (λ x e. reading-listed page_size t buffer x e)
    (λ k at e. ((reading-damage page_size t buffer k at).0 e).1.damage) c.answered c.at_place

pub c-edits-place : (t locks : List ℕ) (n : ℕ) (s buffer : List ℕ) (pages used place r : ℕ) (tag old : List ℕ) (pages' used' place' : ℕ)
    → EditsC t locks n s buffer pages used place r tag old pages' used' place'
    → (one_of damage_numbers r ≡ true → Damaged t r place') × (one_of damage_numbers r ≡ false → place' ≡ place)
c-edits-place t locks n s buffer pages used place r tag old pages' used' place' c =
    place-told t edit_gives (editing page_size t locks n s buffer).answer r place place' edits-apart (λ x e. editing-listed page_size t locks n s buffer x e)
    (λ k at e. ((editing-damage page_size t locks n s buffer k at).0 e).1.damage) c.answered c.at_place

-- at a refusal every buffer is as at entry
pub reading-unchanged : ReadsUnchanged reading
unfolding reading
reading-unchanged p t buffer x e = afterwards-refused _ x _ buffer e

pub writing-unchanged : WritesUnchanged writing
unfolding writing
writing-unchanged p s t locks x e = afterwards-refused _ x _ t e

pub editing-unchanged : EditsUnchanged editing
unfolding editing
editing-unchanged p t locks n s buffer x e = (afterwards-refused _ x _ t e, afterwards-refused _ x _ buffer e)

-- ==== Demand 2: what text is

-- Text is a row of letters, each encoded as RFC 3629 has it: Unicode scalar values without 00 to 1F and 7F. So it has no overlong form, no
-- surrogate and nothing above 10FFFF.
pub text-exactly : TextExactly text
text-exactly s = (text-letters s, letters-text s)

-- no other rule does that
pub text-one : (rule : List ℕ → Bool) → TextExactly rule → (s : List ℕ) → rule s ≡ text s
text-one rule e s = same_truth (rule s) (text s) (λ h. letters-text s ((e s).0 h)) (λ h. (e s).1 (text-letters s h))

-- bytes 20 to 7E are text, as before; text joined to text is text; a text and then a letter that is cut is none
pub text-as-before : (s : List ℕ) → all (between 0x20 0x7E) s ≡ true → text s ≡ true
text-as-before = text-plain

pub text-joined : (s t : List ℕ) → text s ≡ true → text t ≡ true → text (s ++ t) ≡ true
text-joined = text-append

pub text-cut : (s : List ℕ) (v k : ℕ) → text s ≡ true → letter v ≡ true → 0 < k → k < length (encode v) → text (s ++ take k (encode v)) ≡ false
text-cut s v k e = cut-letters s v k (text-letters s e)

-- Each field is judged by itself, up to its end, to a 00 or to a separator, and has whole letters: in a tag that reads,
pub fields-whole : (t : List ℕ) → Readable t
    → let item = strip (part 3 16 t) in let owner = strip (part 21 13 t) in
    ((marked item ≡ true) ⊎ Encoded item) × Encoded (library_on t).item
    × (alternate (drop 2 owner) ≡ true → Encoded (drop 3 owner)) × (alternate (library_on t).owner ≡ true → Encoded (drop 1 (library_on t).owner))
fields-whole = tag-whole

-- and in the elements that are read or written.
pub texts-whole : (c : Content) → sound c ≡ true → Encoded (el c 1) × Encoded (el c 22) × Encoded (drop 1 (el c 23))
texts-whole = content-whole

-- ==== Demand 2: reading and writing agree

-- a sheet taken apart and put together
pub apart-together : (s : List ℕ) → right_sheet s ≡ true → good_values (entries_in s) ≡ true → (sheet_of (entries_in s) ≡ s) × (entries (sheet_content s) ≡ entries_in s)
apart-together s r v = let h = sheet-right s r in (h.sheet, entries-content (entries_in s) h.order (values-parts (entries_in s) v).0)

-- elements put together into a sheet and taken apart
pub together-apart : (c : Content) → sound c ≡ true → fitting (entries c) ≡ true
    → (right_sheet (sheet_of (entries c)) ≡ true) × (good_values (entries_in (sheet_of (entries c))) ≡ true) × (sheet_content (sheet_of (entries c)) ≡ c)
together-apart c s f =
    let k = content-entries c s in
    let r = right-sheet (entries c) f k.order in
    (r.0, ap good_values r.1 ∙ k.values, ap content_of r.1 ∙ k.content)

-- what is written reads back as the same elements: where writing accepts, reading the new tag with room enough gives exactly that sheet
pub written-reads-back : ReadsBack reading writing
unfolding reading writing
written-reads-back p s t locks k e buffer room =
    let w = (write-passed p s t locks _ k e).0 in
    let new : List ℕ = image (length t) (sheet_content s) in
    let tag : (writing p s t locks).tag ≡ new = afterwards-got _ k new t e in
    let sheet : sheet_in new ≡ s = written-sheet p s t locks w in
    let v : ℕ = length (sheet_in new) in
    let a : (reading p new buffer).answer ≡ got v = written-passes p s t locks w (length buffer) v (rw sheet room) in
    rw tag
    (a ∙ ap (λ (x : List ℕ). got (length x)) sheet, afterwards-got _ v (filled (sheet_in new) buffer) buffer a ∙ ap (λ (x : List ℕ). filled x buffer) sheet)

-- what is read is sound, and its layout exists and is no longer than what was read
pub what-is-read : (p : ℕ) (t : List ℕ) → bytes t ≡ true → good_size p (length t) ≡ true → Readable t
    → (sound (content_in t) ≡ true) × (fits (length t) (content_in t) ≡ true)
    × (length (laid_out (length t) (content_in t).slots (joined (content_in t).carried)) ≤ 21 + owner_width (length t) + length (joined (blocks_in t)))
what-is-read p t y g r = (read-sound t y r, read_fits p t y g r, laid-shorter p t y g r)

-- no offset of a sheet that is read passes 65,535
pub offsets-fit : (p : ℕ) (t : List ℕ) → bytes t ≡ true → good_size p (length t) ≡ true → Readable t → fitting (entries (content_in t)) ≡ true
offsets-fit = read-fitting

-- a number that its field cannot hold is refused: a sheet with more than 255 parts, or an ordinal above 255 or above the parts, is 9
pub set-refused : (p : ℕ) (s t locks : List ℕ) → good_size p (length t) && lock_map p locks (length t) ≡ true → right_sheet s ≡ true
    → (let set : List ℕ = find 4 (entries_in s) in (255 < parts_of set) ⊎ ((255 < ordinal_of set) ⊎ (parts_of set < ordinal_of set)))
    → (writing p s t locks).answer ≡ refused (plain 9)
unfolding writing write_steps
set-refused p s t locks z r w = next-ok _ _ _ _ z ∙ next-ok _ _ _ _ r ∙ next-no _ _ _ _ (bad-set (entries_in s) (set-held (find 4 (entries_in s)) w))

-- so is an edit, on a tag that the editor takes, of an unknown number, or with bytes that are no value of it:
module _ (p : ℕ) (t locks buffer : List ℕ) (z : good_size p (length t) && lock_map p locks (length t) ≡ true) (r : Readable t) (o : own_layout t ≡ true) (room : 255 ≤ length buffer) where
  pub edit-value-refused : (n : ℕ) (s : List ℕ) → known n && value n s ≡ false → (editing p t locks n s buffer).answer ≡ refused (plain 9)
  unfolding editing edit_steps
  edit-value-refused n s b =
      next-ok _ _ _ _ z ∙ readable-on t _ _ r ∙ next-ok _ _ _ _ o ∙ next-ok _ _ _ _ (le-leb 255 (length buffer) room) ∙ next-no _ _ _ _ b

  -- one that would set such an element 4,
  pub edit-set-refused : (s : List ℕ) → (255 < parts_of s) ⊎ ((255 < ordinal_of s) ⊎ (parts_of s < ordinal_of s)) → (editing p t locks 4 s buffer).answer ≡ refused (plain 9)
  edit-set-refused s w = edit-value-refused 4 s (and_no (known 4) (value 4 s) (set-no-value s w))

  -- and one of a number above 255, whatever the bytes: it is not cut to a byte, so 257 is not 1
  pub wide-number-refused : (n : ℕ) (s : List ℕ) → 255 < n → (editing p t locks n s buffer).answer ≡ refused (plain 9)
  wide-number-refused n s w = edit-value-refused n s (and_left (known n) (value n s) (wide-unknown n w))

-- the count of a write is that of the pages whose bytes differ before and after
pub writing-counts : CountsWritten writing
unfolding writing
writing-counts p s t locks k e =
    let new : List ℕ = image (length t) (sheet_content s) in
    sym (write-passed p s t locks (changed p t new) k e).1 ∙ ap (changed p t) (sym (afterwards-got _ k new t e))

-- Document 02, E4. By the rule of text, the calls of specs/Before.antt are these calls;
pub reading-by-text : (p : ℕ) (t buffer : List ℕ) → reading_by text p t buffer ≡ reading p t buffer
reading-by-text = read-by-text

pub writing-by-text : (p : ℕ) (s t locks : List ℕ) → writing_by text p s t locks ≡ writing p s t locks
writing-by-text = write-by-text

pub editing-by-text : (p : ℕ) (t locks : List ℕ) (n : ℕ) (s buffer : List ℕ) → editing_by text p t locks n s buffer ≡ editing p t locks n s buffer
editing-by-text = edit-by-text

-- by that of document 01, a sheet that passed before still passes, so does a tag and an edit, with the same answer and the same buffers;
pub sheet-passes-still : (p : ℕ) (s t locks : List ℕ) → Passed (write_steps_by text_before p s t locks)
    → Passed (write_steps p s t locks) × (writing p s t locks ≡ writing_by text_before p s t locks)
sheet-passes-still = write-still

pub tag-passes-still : (p : ℕ) (t buffer : List ℕ) → Passed (read_steps_by text_before p (length buffer) t)
    → Passed (read_steps p (length buffer) t) × (reading p t buffer ≡ reading_by text_before p t buffer)
tag-passes-still = read-still

pub edit-passes-still : (p : ℕ) (t locks : List ℕ) (n : ℕ) (s buffer : List ℕ) → Passed (edit_steps_by text_before p (length buffer) t locks n s)
    → Passed (edit_steps p (length buffer) t locks n s) × (editing p t locks n s buffer ≡ editing_by text_before p t locks n s buffer)
edit-passes-still = edit-still

-- and on every input the outcome is what it was, or it was the refusal 9 of a sheet, 6 of a tag, 6 or 9 of an edit
pub writing-same-or-nine : (p : ℕ) (s t locks : List ℕ)
    → (writing p s t locks ≡ writing_by text_before p s t locks) ⊎ ((writing_by text_before p s t locks).answer ≡ refused (plain 9))
writing-same-or-nine = write-same-or-nine

pub reading-same-or-six : (p : ℕ) (t buffer : List ℕ)
    → (reading p t buffer ≡ reading_by text_before p t buffer) ⊎ ((reading_by text_before p t buffer).answer ≡ refused (plain 6))
reading-same-or-six = read-same-or-six

pub editing-same-or-six-nine : (p : ℕ) (t locks : List ℕ) (n : ℕ) (s buffer : List ℕ) → let old = editing_by text_before p t locks n s buffer in
    (editing p t locks n s buffer ≡ old) ⊎ ((old.answer ≡ refused (plain 6)) ⊎ (old.answer ≡ refused (plain 9)))
editing-same-or-six-nine = edit-same-or-six-nine

-- ==== Demand 3: every history of edits

-- A tag is in the writer's own layout if the writer left it there,
pub written-is-own : LaysDown writing
unfolding writing
written-is-own p s t locks k e =
    let w = (write-passed p s t locks _ k e).0 in
    rw (afterwards-got _ k (image (length t) (sheet_content s)) t e) (written-length p s t locks w, written-own p s t locks w)

-- or if it is readable and the editor finds it so;
pub taken-is-own : (t : List ℕ) → bytes t ≡ true → Readable t → own_layout t ≡ true → Own (content_in t) t
taken-is-own t y r o = layout-own t (read-sound t y r) o

-- and then it is byte for byte what the writer lays down for its elements, on any tag of that length whose locked pages agree.
pub own-is-written : (p : ℕ) (locks t₀ t : List ℕ) (c : Content) → Own c t → length t₀ ≡ length t
    → good_size p (length t) && lock_map p locks (length t) ≡ true → Kept p locks t₀ t
    → ((writing p (sheet_of (entries c)) t₀ locks).answer ≡ got (changed p t₀ t)) × ((writing p (sheet_of (entries c)) t₀ locks).tag ≡ t)
own-is-written p locks t₀ t c o n z k = own-written p locks t₀ t c o n z writing writing-exactly written-is-own writing-counts k

-- An edit of such a tag leaves the layout of the elements with the new one in its place, and hands out the old one.
pub edit-puts : PutsElement editing
unfolding editing
edit-puts p locks t c o n s buffer r e =
    let old : List ℕ = el (content_in t) n in
    let new : List ℕ = image (length t) (put (content_in t) n s) in
    let a = passed-edit p locks t c o n s (length buffer) _ r e in
    let ci : content_in t ≡ c = own-elements p locks t c o a.0.sized in
    let tag : (editing p t locks n s buffer).tag ≡ image (length t) (put c n s) =
    afterwards-got _ r new t e ∙ ap (λ (x : Content). image (length t) (put x n s)) ci in (
      ap length tag ∙ same_length p locks t c o n s (length buffer) a.0,
      rw tag (edited-own p locks t c o n s (length buffer) a.0),
      sym (ap (λ (x : Edited). x.old) a.1) ∙ ap (λ (x : Content). length (el x n)) ci,
      afterwards-got _ r (filled old buffer) buffer e ∙ ap (λ (x : Content). filled (el x n) buffer) ci,
    )

-- Its count is that of the pages whose bytes differ before and after.
pub editing-counts : CountsEdited editing
unfolding editing
editing-counts p t locks n s buffer r e =
    let new : List ℕ = image (length t) (put (content_in t) n s) in
    let given : Edited = record { pages = changed p t new; old = length (el (content_in t) n) } in
    sym (ap (λ (x : Edited). x.pages) (edit-passed p t locks n s (length buffer) given r e).1) ∙ ap (changed p t) (sym (afterwards-got _ r new t e))

-- So are the counts that a C host finds behind its pointers where 0 was returned.
pub c-writing-counts : (s t locks : List ℕ) (pages r : ℕ) (tag : List ℕ) (pages' : ℕ) → WritesC s t locks pages r tag pages' → r ≡ 0 → pages' ≡ changed page_size t tag
unfolding writing write_gives one_gives gives
c-writing-counts s t locks pages r tag pages' w e =
    let d = zero-done write_gives (write_steps page_size s t locks) _ (write-order page_size s t locks) refl (sym w.answered ∙ e) in
    w.result ∙ ap (λ (a : Answer ℕ). result_of (λ n. n) a pages) d ∙ writing-counts page_size s t locks _ d ∙ ap (changed page_size t) (sym w.left)

pub c-editing-counts : (t locks : List ℕ) (n : ℕ) (s buffer : List ℕ) (pages used place r : ℕ) (tag old : List ℕ) (pages' used' place' : ℕ)
    → EditsC t locks n s buffer pages used place r tag old pages' used' place' → r ≡ 0 → pages' ≡ changed page_size t tag
unfolding editing edit_gives one_gives gives
c-editing-counts t locks n s buffer pages used place r tag old pages' used' place' w e =
    let d = zero-done edit_gives (edit_steps page_size (length buffer) t locks n s) _ (edit-order page_size (length buffer) t locks n s) refl (sym w.answered ∙ e) in
    w.result ∙ ap (λ (a : Answer Edited). result_of (λ x. x.pages) a pages) d ∙ editing-counts page_size t locks n s buffer _ d ∙ ap (changed page_size t) (sym w.left)

-- Start with a tag in the writer's own layout, a lock map that stays the same, and a buffer of 255 bytes or more for the old element
-- at every call. Make any edits in any number, refused ones among them. After each, the tag is byte for byte what the writer would lay
-- down for the starting elements with the accepted edits applied, and no locked page has changed. Hand the old elements back, newest
-- first: each is accepted, each brings the tag back to its earlier bytes, and each changes as many pages as its edit did, which are those
-- whose bytes differ.
pub every-history : EveryHistory writing editing
every-history p locks t c o es =
    let keeps = Good editing editing-exactly editing-unchanged editing-counts edit-puts p locks t in
    let st : State = run editing p locks (begin t c) es in
    let g : keeps st =
    history editing editing-exactly editing-unchanged editing-counts edit-puts p locks t (begin t c) es (begun editing editing-exactly editing-unchanged editing-counts edit-puts p locks t c o) in
    record {
      written = λ t₀ n z k. own-is-written p locks t₀ st.tag st.content g.own (n ∙ g.size)
          (ap (λ (m : ℕ). good_size p m && lock_map p locks m) (sym g.size) ∙ z) k;
      long = sym g.size;
      own = g.own;
      kept = g.kept;
      undone = g.undone;
    }

-- neither a write nor an edit changes more pages than are open
pub write-open : (p : ℕ) (s t locks : List ℕ) (k : ℕ) → (writing p s t locks).answer ≡ got k → k ≤ open_pages locks
unfolding writing
write-open p s t locks k e =
    let new : List ℕ = image (length t) (sheet_content s) in
    let w = (write-passed p s t locks _ k e).0 in
    rw (writing-counts p s t locks k e ∙ ap (changed p t) (afterwards-got _ k new t e))
    (laid-open p locks t (sheet_content s) w.laid (and_r (good_size p (length t)) (lock_map p locks (length t)) w.sized))

pub edit-open : (p : ℕ) (t locks : List ℕ) (n : ℕ) (s buffer : List ℕ) (r : Edited) → (editing p t locks n s buffer).answer ≡ got r → r.pages ≤ open_pages locks
unfolding editing
edit-open p t locks n s buffer r e =
    let new : List ℕ = image (length t) (put (content_in t) n s) in
    let a = (edit-passed p t locks n s (length buffer) _ r e).0 in
    rw (editing-counts p t locks n s buffer r e ∙ ap (changed p t) (afterwards-got _ r new t e))
    (laid-open p locks t (put (content_in t) n s) a.laid (and_r (good_size p (length t)) (lock_map p locks (length t)) a.sized))

-- setting what is already there is accepted and changes 0 pages; where nothing is there, that is removing an absent element
pub same-changes-nothing : SameIsNothing editing
same-changes-nothing p t locks c o n buffer z room k =
    let s : List ℕ = el c n in
    let a = same-accepted p locks t c o n (length buffer) z room k in
    let d = (editing-exactly p t locks n s buffer).works (worked _ (tt {0}) (tt {0}) (edit-passes p locks t c o n s (length buffer) (tt {0}) a)).0 in
    let r : Edited = d.0 in
    let h = edit-puts p locks t c o n s buffer r d.1 in
    let tag : (editing p t locks n s buffer).tag ≡ t = sym h.1.lies ∙ ap₂ image h.0 (put_same c n) ∙ o.lies in
    let pages : r.pages ≡ 0 = editing-counts p t locks n s buffer r d.1 ∙ ap (changed p t) tag ∙ changed-self p t in
    (d.1 ∙ ap₂ (λ (x y : ℕ). got (record { pages = x; old = y })) pages h.2, tag)
