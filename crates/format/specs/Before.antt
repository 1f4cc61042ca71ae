-- The three calls before document 02, E4, when text was document 01's. What looks at text is written here for any rule of text, and all
-- else is cited. By the rule of specs/Text.antt these are the calls as they are (`reading-by-text` and the two beside it). By `text_before`
-- they are the calls as they were: that is to be believed, and that no text is judged but by the rule (`places-opened` tries each place).
use Rattle.std.specs.Prelude.{ℕ, Bool, not, ◌&&◌, ◌||◌, List, length, get_or, drop, set, leb, eqb, if◌then◌else◌}
use Rattle.format.specs.Answers.{Answer, Step, need, in_order, afterwards}
use Rattle.format.specs.Bytes.{is_empty, all, between, filled}
use Rattle.format.specs.Pages.{changed}
use Rattle.format.specs.Fields.{isil_of, isil, alternate, marked, prefix_in}
use Rattle.format.specs.Chain.{Library, block_of, last_field, library_in}
use Rattle.format.specs.Elements.{numbers, required, shape, known, el, put}
use Rattle.format.specs.Sheet.{Entry, entries_in, present}
use Rattle.format.specs.Layout.{image}
use Rattle.format.specs.Reading.{item_in, owner_in, blocks_in, content_in}
use Rattle.format.specs.Calls.{sheet_in, read_steps, sheet_content, write_steps, edit_steps, Edited, Reader, Writer, Editor}

-- text is bytes 20 to 7E hex
unfoldable pub text_before : List ℕ → Bool
text_before s = all (between 0x20 0x7E) s

-- each is what bears its name without `By` in the other files, with the rule for `text`
module _ (rule : List ℕ → Bool) where
  -- ---- the fields of a tag

  unfoldable pub alternative_by : List ℕ → Bool
  alternative_by s = alternate s && not (is_empty (drop 1 s)) && rule (drop 1 s)

  unfoldable pub is_owner_by : List ℕ → Bool
  is_owner_by o = if alternate o then alternative_by o else isil o

  unfoldable pub good_owner_by : List ℕ → Bool
  good_owner_by t =
      is_empty t || marked (drop 2 t) ||
      (if leb (get_or t 2 0) 3 then alternative_by (drop 2 t) else isil_of (prefix_in t) (drop 2 t))

  unfoldable pub good_library_by : List ℕ → Bool
  good_library_by b =
      let f : Library = library_in b in
      leb (length (last_field b)) 1 && rule f.item && (is_empty f.owner || is_owner_by f.owner)

  unfoldable pub good_fields_by : List ℕ → Bool
  good_fields_by t =
      leb (get_or t 2 0) (get_or t 1 0) && (rule (item_in t) || marked (item_in t)) && good_owner_by (owner_in t) && good_library_by (block_of 1 (blocks_in t))

  -- ---- the elements of a sheet: of their forms, those of 1, 22 and 23 look at text

  unfoldable pub shape_by : ℕ → List ℕ → Bool
  shape_by n s =
      if eqb n 1 then not (is_empty s) && rule s else
      if eqb n 22 then not (is_empty s) && rule s else
      if eqb n 23 then alternative_by s else
      shape n s

  unfoldable pub form_by : ℕ → List ℕ → Bool
  form_by n s = shape_by n s && leb (length s) 255

  unfoldable pub value_by : ℕ → List ℕ → Bool
  value_by n s = if is_empty s then not (required n) else form_by n s

  unfoldable pub good_values_by : List Entry → Bool
  good_values_by es = all (λ e. form_by e.number e.bytes) es && all (present es) numbers

  -- ---- the calls: their steps as they are, but for 6 (at 4 in reading and editing) and 9 (at 2 in writing, at 8 in editing)

  unfoldable pub read_steps_by : ℕ → ℕ → List ℕ → List Step
  read_steps_by p room t = set (read_steps p room t) 4 (need 6 (good_fields_by t))

  unfoldable pub reading_by : Reader
  reading_by p t buffer =
      let answer : Answer ℕ = in_order (read_steps_by p (length buffer) t) (length (sheet_in t)) in
      record { answer = answer; sheet = afterwards answer (filled (sheet_in t) buffer) buffer }

  unfoldable pub write_steps_by : ℕ → List ℕ → List ℕ → List ℕ → List Step
  write_steps_by p s t locks = set (write_steps p s t locks) 2 (need 9 (good_values_by (entries_in s)))

  unfoldable pub writing_by : Writer
  writing_by p s t locks =
      let new : List ℕ = image (length t) (sheet_content s) in
      let answer : Answer ℕ = in_order (write_steps_by p s t locks) (changed p t new) in
      record { answer = answer; tag = afterwards answer new t }

  unfoldable pub edit_steps_by : ℕ → ℕ → List ℕ → List ℕ → ℕ → List ℕ → List Step
  edit_steps_by p room t locks n s = set (set (edit_steps p room t locks n s) 4 (need 6 (good_fields_by t))) 8 (need 9 (known n && value_by n s))

  unfoldable pub editing_by : Editor
  editing_by p t locks n s buffer =
      let old : List ℕ = el (content_in t) n in
      let new : List ℕ = image (length t) (put (content_in t) n s) in
      let answer : Answer Edited = in_order (edit_steps_by p (length buffer) t locks n s) (record { pages = changed p t new; old = length old }) in
      record { answer = answer; tag = afterwards answer new t; old = afterwards answer (filled old buffer) buffer }
