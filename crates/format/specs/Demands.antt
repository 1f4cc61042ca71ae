-- What the demands ask of a reader, a writer and an editor, whatever they are. `proofs/Promises.antt` shows it of `reading`, `writing`
-- and `editing`; `proofs/Wrong.antt` shows of several kinds of wrong ones that they do not have it.
use Rattle.std.specs.Prelude.{◌≡◌, ℕ, ◌≤◌, Bool, true, ◌&&◌, List, length}
use Rattle.format.specs.Answers.{Answer, Refusal, placed, got, refused, Step, Passed, FirstRefusal}
use Rattle.format.specs.Bytes.{filled}
use Rattle.format.specs.Pages.{good_size, lock_map, changed, Kept}
use Rattle.format.specs.Text.{Encoded}
use Rattle.format.specs.Elements.{Content, known, el, put}
use Rattle.format.specs.Sheet.{sheet_of, entries}
use Rattle.format.specs.Damage.{Spoilt}
use Rattle.format.specs.Calls.{read_steps, sheet_content, write_steps, edit_steps, Edited, Reader, Writer, Editor}
use Rattle.format.specs.History.{Own, Edit, State, begin, run, Undone}

-- ---- demands 1 and 2: refused exactly under the conditions of the paper

-- the answer is the refusal of the first step that refuses, exactly where there is one; the work is done exactly where there is none
pub record Exact {A : Type 0} (ss : List Step) (answer : Answer A) : Type 0 where
  pub refuses : (x : Refusal) → FirstRefusal x ss → answer ≡ refused x
  pub refused-first : (x : Refusal) → answer ≡ refused x → FirstRefusal x ss
  pub works : Passed ss → (a : A) × (answer ≡ got a)
  pub worked : (a : A) → answer ≡ got a → Passed ss

abbrev pub ReadsExactly : Reader → Type 0
ReadsExactly read = (p : ℕ) (t buffer : List ℕ) → Exact (read_steps p (length buffer) t) (read p t buffer).answer

abbrev pub WritesExactly : Writer → Type 0
WritesExactly write = (p : ℕ) (s t locks : List ℕ) → Exact (write_steps p s t locks) (write p s t locks).answer

abbrev pub EditsExactly : Editor → Type 0
EditsExactly edit =
    (p : ℕ) (t locks : List ℕ) (n : ℕ) (s buffer : List ℕ) → Exact (edit_steps p (length buffer) t locks n s) (edit p t locks n s buffer).answer

-- ---- demand 1: a refusal for damage gives its number and the place, any other its number alone

-- one thing holds exactly where the other does
abbrev Exactly : Type 0 → Type 0 → Type 0
Exactly A B = (A → B) × (B → A)

-- a place is given exactly where 1, 3 and 4 do not hold and the chain is damaged: that of the first damaged block, with its first damage
abbrev pub ReadsDamage : Reader → Type 0
ReadsDamage read =
    (p : ℕ) (t buffer : List ℕ) (k at : ℕ) → Exactly ((read p t buffer).answer ≡ refused (placed k at)) ((good_size p (length t) ≡ true) × Spoilt t k at)

abbrev pub EditsDamage : Editor → Type 0
EditsDamage edit =
    (p : ℕ) (t locks : List ℕ) (n : ℕ) (s buffer : List ℕ) (k at : ℕ)
    → Exactly ((edit p t locks n s buffer).answer ≡ refused (placed k at)) ((good_size p (length t) && lock_map p locks (length t) ≡ true) × Spoilt t k at)

-- ---- demand 1: a refusal changes no byte of any buffer

abbrev pub ReadsUnchanged : Reader → Type 0
ReadsUnchanged read = (p : ℕ) (t buffer : List ℕ) (x : Refusal) → (read p t buffer).answer ≡ refused x → (read p t buffer).sheet ≡ buffer

abbrev pub WritesUnchanged : Writer → Type 0
WritesUnchanged write = (p : ℕ) (s t locks : List ℕ) (x : Refusal) → (write p s t locks).answer ≡ refused x → (write p s t locks).tag ≡ t

abbrev pub EditsUnchanged : Editor → Type 0
EditsUnchanged edit =
    (p : ℕ) (t locks : List ℕ) (n : ℕ) (s buffer : List ℕ) (x : Refusal) → (edit p t locks n s buffer).answer ≡ refused x
    → ((edit p t locks n s buffer).tag ≡ t) × ((edit p t locks n s buffer).old ≡ buffer)

-- ---- demand 2: what text is

-- a string is text exactly where it is a row of letters, each encoded
abbrev pub TextExactly : (List ℕ → Bool) → Type 0
TextExactly rule = (s : List ℕ) → Exactly (rule s ≡ true) (Encoded s)

-- ---- demand 2: reading and writing agree

-- where a sheet was written, reading the new tag with room enough gives exactly that sheet
abbrev pub ReadsBack : Reader → Writer → Type 0
ReadsBack read write =
    (p : ℕ) (s t locks : List ℕ) (k : ℕ) → (write p s t locks).answer ≡ got k → (buffer : List ℕ) → length s ≤ length buffer
    → let r = read p (write p s t locks).tag buffer in (r.answer ≡ got (length s)) × (r.sheet ≡ filled s buffer)

-- where a sheet was written, the tag is as long as before, and in the writer's own layout of the sheet's elements
abbrev pub LaysDown : Writer → Type 0
LaysDown write =
    (p : ℕ) (s t locks : List ℕ) (k : ℕ) → (write p s t locks).answer ≡ got k
    → let tag = (write p s t locks).tag in (length tag ≡ length t) × Own (sheet_content s) tag

-- the count of pages is that of the pages whose bytes differ before and after
abbrev pub CountsWritten : Writer → Type 0
CountsWritten write = (p : ℕ) (s t locks : List ℕ) (k : ℕ) → (write p s t locks).answer ≡ got k → k ≡ changed p t (write p s t locks).tag

abbrev pub CountsEdited : Editor → Type 0
CountsEdited edit =
    (p : ℕ) (t locks : List ℕ) (n : ℕ) (s buffer : List ℕ) (r : Edited) → (edit p t locks n s buffer).answer ≡ got r
    → r.pages ≡ changed p t (edit p t locks n s buffer).tag

-- ---- demand 3: one edit

-- where a tag in the writer's own layout was edited, it is as long as before and in the layout of the elements with that one put in its
-- place; and the old element was handed out, with its length
abbrev pub PutsElement : Editor → Type 0
PutsElement edit =
    (p : ℕ) (locks t : List ℕ) (c : Content) → Own c t → (n : ℕ) (s buffer : List ℕ) (r : Edited) → (edit p t locks n s buffer).answer ≡ got r
    → let o = edit p t locks n s buffer in
    (length o.tag ≡ length t) × Own (put c n s) o.tag × (r.old ≡ length (el c n)) × (o.old ≡ filled (el c n) buffer)

-- ---- demand 3: every history of edits

-- what there is to say of the state to which edits brought the tag t
pub record Lived (write : Writer) (edit : Editor) (p : ℕ) (locks t : List ℕ) (st : State) : Type 0 where
  -- the tag is byte for byte what the writer would lay down for the elements, on any tag of that length whose locked pages agree
  pub written : (t₀ : List ℕ) → length t₀ ≡ length t → good_size p (length t) && lock_map p locks (length t) ≡ true → Kept p locks t₀ st.tag
      → let w = write p (sheet_of (entries st.content)) t₀ locks in (w.answer ≡ got (changed p t₀ st.tag)) × (w.tag ≡ st.tag)
  -- so it is the layout, whatever its size and lock map
  pub long : length st.tag ≡ length t
  pub own : Own st.content st.tag
  -- no locked page has changed
  pub kept : Kept p locks t st.tag
  -- the old elements, newest first, lead back
  pub undone : Undone edit p locks st.tag st.kept

-- Start with a tag in the writer's own layout, a lock map that stays the same, and a buffer of 255 bytes or more for the old element at
-- every call. Make any edits in any number, refused ones among them.
abbrev pub EveryHistory : Writer → Editor → Type 0
EveryHistory write edit =
    (p : ℕ) (locks t : List ℕ) (c : Content) → Own c t → (es : List Edit) → Lived write edit p locks t (run edit p locks (begin t c) es)

-- Setting what is already there is accepted and changes 0 pages, whatever is locked. Where nothing is there, that is removing an absent
-- element.
abbrev pub SameIsNothing : Editor → Type 0
SameIsNothing edit =
    (p : ℕ) (t locks : List ℕ) (c : Content) → Own c t → (n : ℕ) (buffer : List ℕ)
    → good_size p (length t) && lock_map p locks (length t) ≡ true → 255 ≤ length buffer → known n ≡ true
    → let o = edit p t locks n (el c n) buffer in (o.answer ≡ got (record { pages = 0; old = length (el c n) })) × (o.tag ≡ t)
