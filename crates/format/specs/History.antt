-- Edits one after the other, and the old elements handed back: demand 3, for any editor.
use Rattle.std.specs.Prelude.{◌≡◌, true, ℕ, ◌≤◌, List, [], ◌∷◌, length, take}
use Rattle.format.specs.Answers.{Answer, got, refused}
use Rattle.format.specs.Pages.{changed}
use Rattle.format.specs.Elements.{Content, put, sound}
use Rattle.format.specs.Layout.{image, fits}
use Rattle.format.specs.Calls.{Edited, EditOutcome, Editor}

-- t is what the writer lays down for the elements c
pub record Own (c : Content) (t : List ℕ) : Type 0 where
  pub sane : sound c ≡ true
  pub fit : fits (length t) c ≡ true
  pub lies : image (length t) c ≡ t

-- a call of the editor: set the element to the bytes, or remove it; and the buffer lent for the old element, of 255 bytes or more
pub record Edit : Type 0 where
  pub number : ℕ
  pub bytes : List ℕ
  pub room : List ℕ
  pub enough : 255 ≤ length room

-- what the desk keeps of an accepted edit: the old element as it was handed out, the tag before it, and the page count answered
pub record Undo : Type 0 where
  pub number : ℕ
  pub old : List ℕ
  pub before : List ℕ
  pub pages : ℕ

-- the tag, the starting elements with the accepted edits applied, and what is kept, newest first
pub record State : Type 0 where
  pub tag : List ℕ
  pub content : Content
  pub kept : List Undo

-- before the first edit
abbrev pub begin : List ℕ → Content → State
begin t c = record { tag = t; content = c; kept = [] }

-- an accepted edit is applied to the elements and kept; a refused one is not
unfoldable pub noted : State → Edit → List ℕ → List ℕ → Answer Edited → State
noted st e tag old (got r) = record {
  tag = tag;
  content = put st.content e.number e.bytes;
  kept = record { number = e.number; old = take r.old old; before = st.tag; pages = r.pages } ∷ st.kept;
}
noted st e tag old (refused x) = record { tag = tag; content = st.content; kept = st.kept }

-- editor, page size and lock map stay the same
module _ (edit : Editor) (p : ℕ) (locks : List ℕ) where
  abbrev pub call : List ℕ → Edit → EditOutcome
  call t e = edit p t locks e.number e.bytes e.room

  unfoldable pub edited : State → Edit → State
  edited st e = let o : EditOutcome = call st.tag e in noted st e o.tag o.old o.answer

  unfoldable pub run : State → List Edit → State
  run st [] = st
  run st (e ∷ es) = run (edited st e) es

  -- the old element is accepted, brings the tag back to its earlier bytes, and changes as many pages as its edit did
  unfoldable pub Back : List ℕ → Undo → List ℕ → Type 0
  Back t k room =
      let o : EditOutcome = edit p t locks k.number k.old room in
      (o.tag ≡ k.before) × ((n : ℕ) × (o.answer ≡ got (record { pages = k.pages; old = n })))

  -- an edit that left the tag t: the count that it answered is that of the pages whose bytes differ before and after, and its old element
  -- leads back, whatever buffer of 255 bytes or more is lent
  pub record Undoes (t : List ℕ) (k : Undo) : Type 0 where
    pub counted : k.pages ≡ changed p k.before t
    pub back : (room : List ℕ) → 255 ≤ length room → Back t k room

  -- so each, newest first
  unfoldable pub Undone : List ℕ → List Undo → Type 0
  Undone t [] = Unit {0}
  Undone t (k ∷ ks) = Undoes t k × Undone k.before ks
