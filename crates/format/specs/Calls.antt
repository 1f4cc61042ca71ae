-- The three calls on tags: document 01, "Numbers given back". For each, its refusals in the paper's order, and its outcome: the answer, and
-- what every buffer holds afterwards. `p` is the page size.
use Rattle.std.specs.Prelude.{ℕ, Bool, not, ◌&&◌, List, [], ◌∷◌, ◌++◌, length, leb, eqb}
use Rattle.format.specs.Answers.{Answer, Step, need, in_order, afterwards}
use Rattle.format.specs.Bytes.{same, filled}
use Rattle.format.specs.Pages.{good_size, lock_map, changed, locked_changed}
use Rattle.format.specs.Elements.{Content, known, el, put, value, clash}
use Rattle.format.specs.Sheet.{sheet_of, fitting, entries_in, right_sheet, content_of, good_values, entries}
use Rattle.format.specs.Layout.{image, fits}
use Rattle.format.specs.Reading.{content_in, tag_steps}
-- the page count, and the old element's length
pub use Rattle.format.specs.declared.Edited.{Edited}

-- ---- Reading: 1, 3, 4, 15 to 19, 6, 7, 14, 2

-- the sheet of what a tag holds
abbrev pub sheet_in : List ℕ → List ℕ
sheet_in t = sheet_of (entries (content_in t))

unfoldable pub read_steps : ℕ → ℕ → List ℕ → List Step
read_steps p room t =
    need 1 (good_size p (length t)) ∷
    tag_steps t ++ (
    need 14 (fitting (entries (content_in t))) ∷
    need 2 (leb (length (sheet_in t)) room) ∷
    [])

pub record ReadOutcome : Type 0 where
  pub answer : Answer ℕ
  pub sheet : List ℕ

-- it gives the sheet's length, fills just that much and changes nothing else
unfoldable pub reading : ℕ → List ℕ → List ℕ → ReadOutcome
reading p t buffer =
    let answer : Answer ℕ = in_order (read_steps p (length buffer) t) (length (sheet_in t)) in
    record { answer = answer; sheet = afterwards answer (filled (sheet_in t) buffer) buffer }

-- ---- Writing: 1, 8, 9, 10, 11, 12

-- 10 Clash, 11 Large, 12 Locked: the last refusals before elements c are laid down on tag t
unfoldable pub laying_steps : ℕ → List ℕ → List ℕ → Content → List Step
laying_steps p locks t c =
    need 10 (not (clash c.slots)) ∷
    need 11 (fits (length t) c) ∷
    need 12 (eqb (locked_changed p locks t (image (length t) c)) 0) ∷
    []

-- the elements that a sheet holds
abbrev pub sheet_content : List ℕ → Content
sheet_content s = content_of (entries_in s)

unfoldable pub write_steps : ℕ → List ℕ → List ℕ → List ℕ → List Step
write_steps p s t locks =
    need 1 (good_size p (length t) && lock_map p locks (length t)) ∷
    need 8 (right_sheet s) ∷
    need 9 (good_values (entries_in s)) ∷
    laying_steps p locks t (sheet_content s)

pub record WriteOutcome : Type 0 where
  pub answer : Answer ℕ
  pub tag : List ℕ

-- it gives the count of pages changed; the tag is the writer's own layout
unfoldable pub writing : ℕ → List ℕ → List ℕ → List ℕ → WriteOutcome
writing p s t locks =
    let new : List ℕ = image (length t) (sheet_content s) in
    let answer : Answer ℕ = in_order (write_steps p s t locks) (changed p t new) in
    record { answer = answer; tag = afterwards answer new t }

-- ---- Editing: 1, 3, 4, 15 to 19, 6, 7, 13, 2, 9, 10, 11, 12

-- t is the writer's own layout of the elements c
abbrev pub layout_is : Content → List ℕ → Bool
layout_is c t = fits (length t) c && same (image (length t) c) t

-- of what it holds
unfoldable pub own_layout : List ℕ → Bool
own_layout t = layout_is (content_in t) t

unfoldable pub edit_steps : ℕ → ℕ → List ℕ → List ℕ → ℕ → List ℕ → List Step
edit_steps p room t locks n s =
    need 1 (good_size p (length t) && lock_map p locks (length t)) ∷
    tag_steps t ++ (
    need 13 (own_layout t) ∷
    need 2 (leb 255 room) ∷
    need 9 (known n && value n s) ∷
    laying_steps p locks t (put (content_in t) n s))

pub record EditOutcome : Type 0 where
  pub answer : Answer Edited
  pub tag : List ℕ
  pub old : List ℕ

-- element n becomes s, or is removed where s has no bytes; just the old element's length of the old-element buffer is filled
unfoldable pub editing : ℕ → List ℕ → List ℕ → ℕ → List ℕ → List ℕ → EditOutcome
editing p t locks n s buffer =
    let old : List ℕ = el (content_in t) n in
    let new : List ℕ = image (length t) (put (content_in t) n s) in
    let answer : Answer Edited = in_order (edit_steps p (length buffer) t locks n s) (record { pages = changed p t new; old = length old }) in
    record { answer = answer; tag = afterwards answer new t; old = afterwards answer (filled old buffer) buffer }

-- ---- calls of these three kinds, right or wrong: what they make of what they are lent

abbrev pub Reader : Type 0
Reader = ℕ → List ℕ → List ℕ → ReadOutcome

abbrev pub Writer : Type 0
Writer = ℕ → List ℕ → List ℕ → List ℕ → WriteOutcome

abbrev pub Editor : Type 0
Editor = ℕ → List ℕ → List ℕ → ℕ → List ℕ → List ℕ → EditOutcome
