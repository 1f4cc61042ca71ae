-- What passed before document 02, E4, passes still and has the same outcome; what changed is some 6 of a tag, some 9 of a sheet or an edit.
-- Of text it takes only `text-plain`: the bytes 20 to 7E are text.
use Rattle.std.specs.Prelude.{if◌then◌else◌}
use mathlib.Core.Path.{◌≡◌, refl, sym, ap, ◌∙◌}
use mathlib.Core.Logic.{◌⊎◌, inl, inr, ⊎_elim, ⊎_map}
use Prim.Native.Nat.{ℕ, zero, suc}
use mathlib.Core.Bool.{Bool, true, false, not, ◌&&◌, ◌||◌, beq}
use mathlib.Core.List.{List, [], ◌∷◌, ◌++◌}
use lib.Dec.{eqb, leb}
use lib.ListN.{length, get_or, drop, set, replicate}
use borrow.Author.Tests.{eqb-true}
use Rattle.format.specs.Answers.{Refusal, plain, got, refused, Step, need, need_at, in_order, and_then, or_else, Passed}
use Rattle.format.specs.Bytes.{is_empty, all, one_of, same, le16, word, trim, strip, up_to, past, xor_all}
use Rattle.format.specs.Pages.{count, changed}
use Rattle.format.specs.Text.{rows, after, rows_from, text}
use Rattle.format.specs.Fields.{isil_of, isil, alternate, alternative, is_owner, marked, good_item, prefix_in, good_owner}
use Rattle.format.specs.Chain.{named, summed, damage_steps, walk, chain, Library, block_of, payload, fields_in, beyond, last_field, library_in, good_library, sealed}
use Rattle.format.specs.Elements.{numbers, required, set_info, shape, form, known, value, el, put}
use Rattle.format.specs.Sheet.{Entry, entries_in, find, present, good_values}
use Rattle.format.specs.Layout.{image}
use Rattle.format.specs.Reading.{item_in, owner_in, blocks_in, good_fields, content_in, tag_steps}
use Rattle.format.specs.Calls.{read_steps, ReadOutcome, reading, write_steps, WriteOutcome, writing, edit_steps, Edited, EditOutcome, editing}
use Rattle.format.specs.Before.{text_before, alternative_by, is_owner_by, good_owner_by, good_library_by, good_fields_by, shape_by, form_by, value_by, good_values_by, read_steps_by, reading_by, write_steps_by, writing_by, edit_steps_by, editing_by}
use Rattle.format.proofs.Tests.{never, and_l, and_r, and_i, or_l, or_r, or-inv, all-mono}
use Rattle.format.proofs.Answers.{works, worked}
use Rattle.format.proofs.Text.{text-plain}

-- ---- by the rule of text they are the calls

fields-by-text : (t : List ℕ) → good_fields_by text t ≡ good_fields t
unfolding good_fields_by good_fields good_item good_owner_by good_owner good_library_by good_library is_owner_by is_owner alternative_by alternative
fields-by-text t = refl

if-is : (b : Bool) {x y z : Bool} → (b ≡ true → x ≡ z) → y ≡ z → (if b then x else y) ≡ z
if-is true f e = f refl
if-is false f e = e

shape-by-text : (n : ℕ) (s : List ℕ) → shape_by text n s ≡ shape n s
unfolding shape_by shape alternative_by alternative
shape-by-text n s = if-is (eqb n 1) (is 1) (if-is (eqb n 22) (is 22) (if-is (eqb n 23) (is 23) refl))
  where
    is : (k : ℕ) → eqb n k ≡ true → shape k s ≡ shape n s
    is k e = ap (λ (m : ℕ). shape m s) (sym (eqb-true n k e))

value-by-text : (n : ℕ) (s : List ℕ) → value_by text n s ≡ value n s
unfolding value_by value form_by form
value-by-text n s = simp shape-by-text

values-by-text : (es : List Entry) → good_values_by text es ≡ good_values es
unfolding good_values_by good_values form_by form
values-by-text es = simp shape-by-text

pub read-by-text : (p : ℕ) (t buffer : List ℕ) → reading_by text p t buffer ≡ reading p t buffer
unfolding reading_by reading read_steps_by read_steps tag_steps
read-by-text p t buffer = rw fields-by-text

pub write-by-text : (p : ℕ) (s t locks : List ℕ) → writing_by text p s t locks ≡ writing p s t locks
unfolding writing_by writing write_steps_by write_steps
write-by-text p s t locks = rw values-by-text

pub edit-by-text : (p : ℕ) (t locks : List ℕ) (n : ℕ) (s buffer : List ℕ) → editing_by text p t locks n s buffer ≡ editing p t locks n s buffer
unfolding editing_by editing edit_steps_by edit_steps tag_steps
edit-by-text p t locks n s buffer = rw (fields-by-text, value-by-text)

-- ---- wider tests

kept : (a : Bool) → a ≡ true → a ≡ true
kept a e = e

and-wider : {a b c d : Bool} → (a ≡ true → c ≡ true) → (b ≡ true → d ≡ true) → a && b ≡ true → c && d ≡ true
and-wider {a} {b} f g e = and_i (f (and_l a b e)) (g (and_r a b e))

or-wider : {a b c d : Bool} → (a ≡ true → c ≡ true) → (b ≡ true → d ≡ true) → a || b ≡ true → c || d ≡ true
or-wider {a} {b} {c} {d} f g e = ⊎_elim (λ h. or_l c d (f h)) (λ h. or_r c d (g h)) (or-inv a b e)

if-wider : (t : Bool) {a b c d : Bool} → (a ≡ true → c ≡ true) → (b ≡ true → d ≡ true) → (if t then a else b) ≡ true → (if t then c else d) ≡ true
if-wider true f g e = f e
if-wider false f g e = g e

-- steps with a wider test among them answer the same, unless the narrower one refuses
step-wider : {A : Type 0} (ss : List Step) (i n : ℕ) {b c : Bool} (a : A) → (b ≡ true → c ≡ true)
    → (in_order (set ss i (need n c)) a ≡ in_order (set ss i (need n b)) a) ⊎ (in_order (set ss i (need n b)) a ≡ refused (plain n))
unfolding in_order need
step-wider [] i n a w = inl refl
step-wider (s ∷ ss) zero n {b} {c} a w = go b w
  where
    go : (b : Bool) → (b ≡ true → c ≡ true) → (in_order (need n c ∷ ss) a ≡ in_order (need n b ∷ ss) a) ⊎ (in_order (need n b ∷ ss) a ≡ refused (plain n))
    go true w = inl (rw (w refl))
    go false w = inr refl
step-wider (got u ∷ ss) (suc i) n a w = step-wider ss i n a w
step-wider (refused x ∷ ss) (suc i) n a w = inl refl

-- two of them, one after the other
in-turn : {A : Type 0} {x y z u v : A} → (x ≡ y) ⊎ (y ≡ u) → (y ≡ z) ⊎ (z ≡ v) → (x ≡ z) ⊎ ((z ≡ u) ⊎ (z ≡ v))
in-turn (inl d) (inl e) = inl (d ∙ e)
in-turn (inr d) (inl e) = inr (inl (sym e ∙ d))
in-turn (inl d) (inr e) = inr (inr e)
in-turn (inr d) (inr e) = inr (inr e)

-- ---- a wider rule of text

module _ (f g : List ℕ → Bool) (w : (s : List ℕ) → f s ≡ true → g s ≡ true) where
  alternative-wider : (s : List ℕ) → alternative_by f s ≡ true → alternative_by g s ≡ true
  unfolding alternative_by
  alternative-wider s = and-wider (kept (alternate s && not (is_empty (drop 1 s)))) (w (drop 1 s))

  is-owner-wider : (o : List ℕ) → is_owner_by f o ≡ true → is_owner_by g o ≡ true
  unfolding is_owner_by
  is-owner-wider o = if-wider (alternate o) (alternative-wider o) (kept (isil o))

  owner-wider : (t : List ℕ) → good_owner_by f t ≡ true → good_owner_by g t ≡ true
  unfolding good_owner_by
  owner-wider t =
      or-wider (kept (is_empty t || marked (drop 2 t)))
      (if-wider (leb (get_or t 2 0) 3) (alternative-wider (drop 2 t)) (kept (isil_of (prefix_in t) (drop 2 t))))

  library-wider : (b : List ℕ) → good_library_by f b ≡ true → good_library_by g b ≡ true
  unfolding good_library_by
  library-wider b =
      let l : Library = library_in b in
      and-wider (and-wider (kept (leb (length (last_field b)) 1)) (w l.item)) (or-wider (kept (is_empty l.owner)) (is-owner-wider l.owner))

  fields-wider : (t : List ℕ) → good_fields_by f t ≡ true → good_fields_by g t ≡ true
  unfolding good_fields_by
  fields-wider t =
      and-wider (and-wider (and-wider (kept (leb (get_or t 2 0) (get_or t 1 0))) (or-wider (w (item_in t)) (kept (marked (item_in t))))) (owner-wider (owner_in t)))
      (library-wider (block_of 1 (blocks_in t)))

  form-wider : (n : ℕ) (s : List ℕ) → form_by f n s ≡ true → form_by g n s ≡ true
  unfolding form_by shape_by
  form-wider n s =
      let some = and-wider (kept (not (is_empty s))) (w s) in
      and-wider (if-wider (eqb n 1) some (if-wider (eqb n 22) some (if-wider (eqb n 23) (alternative-wider s) (kept (shape n s))))) (kept (leb (length s) 255))

  value-wider : (n : ℕ) (s : List ℕ) → value_by f n s ≡ true → value_by g n s ≡ true
  unfolding value_by
  value-wider n s = if-wider (is_empty s) (kept (not (required n))) (form-wider n s)

  values-wider : (es : List Entry) → good_values_by f es ≡ true → good_values_by g es ≡ true
  unfolding good_values_by
  values-wider es = and-wider (all-mono _ _ (λ e. form-wider e.number e.bytes) es) (kept (all (present es) numbers))

  reading-wider : (p : ℕ) (t buffer : List ℕ) → (reading_by g p t buffer ≡ reading_by f p t buffer) ⊎ ((reading_by f p t buffer).answer ≡ refused (plain 6))
  unfolding reading_by read_steps_by
  reading-wider p t buffer = ⊎_map (λ e. rw e) (λ e. e) (step-wider (read_steps p (length buffer) t) 4 6 _ (fields-wider t))

  writing-wider : (p : ℕ) (s t locks : List ℕ) → (writing_by g p s t locks ≡ writing_by f p s t locks) ⊎ ((writing_by f p s t locks).answer ≡ refused (plain 9))
  unfolding writing_by write_steps_by
  writing-wider p s t locks = ⊎_map (λ e. rw e) (λ e. e) (step-wider (write_steps p s t locks) 2 9 _ (values-wider (entries_in s)))

  editing-wider : (p : ℕ) (t locks : List ℕ) (n : ℕ) (s buffer : List ℕ) → let old = editing_by f p t locks n s buffer in
      (editing_by g p t locks n s buffer ≡ old) ⊎ ((old.answer ≡ refused (plain 6)) ⊎ (old.answer ≡ refused (plain 9)))
  unfolding editing_by edit_steps_by edit_steps tag_steps
  editing-wider p t locks n s buffer =
      let ss : List Step = edit_steps p (length buffer) t locks n s in
      let a : Edited = record { pages = changed p t (image (length t) (put (content_in t) n s)); old = length (el (content_in t) n) } in
      ⊎_map (λ e. rw e) (λ e. e)
      (in-turn (step-wider (set ss 8 (need 9 (known n && value_by g n s))) 4 6 a (fields-wider t))
      (step-wider (set ss 4 (need 6 (good_fields_by f t))) 8 9 a (and-wider (kept (known n)) (value-wider n s))))

-- ---- the rule before: the answer is the same, or it was 6 or 9

before_text : (s : List ℕ) → text_before s ≡ true → text s ≡ true
unfolding text_before
before_text = text-plain

pub read-same-or-six : (p : ℕ) (t buffer : List ℕ) → (reading p t buffer ≡ reading_by text_before p t buffer) ⊎ ((reading_by text_before p t buffer).answer ≡ refused (plain 6))
read-same-or-six p t buffer = rw read-by-text at (reading-wider text_before text before_text p t buffer)

pub write-same-or-nine : (p : ℕ) (s t locks : List ℕ) → (writing p s t locks ≡ writing_by text_before p s t locks) ⊎ ((writing_by text_before p s t locks).answer ≡ refused (plain 9))
write-same-or-nine p s t locks = rw write-by-text at (writing-wider text_before text before_text p s t locks)

pub edit-same-or-six-nine : (p : ℕ) (t locks : List ℕ) (n : ℕ) (s buffer : List ℕ) → let old = editing_by text_before p t locks n s buffer in
    (editing p t locks n s buffer ≡ old) ⊎ ((old.answer ≡ refused (plain 6)) ⊎ (old.answer ≡ refused (plain 9)))
edit-same-or-six-nine p t locks n s buffer = rw edit-by-text at (editing-wider text_before text before_text p t locks n s buffer)

-- ---- what passed

-- steps that are passed refuse nothing
none-refused : {A C : Type 0} (ss : List Step) (a : A) (x : Refusal) → Passed ss → in_order ss a ≡ refused x → C
none-refused ss a x h e = let k = works ss a h in never (cc)

-- steps that answer as passed ones are passed
still-passed : {A : Type 0} (old now : List Step) (a : A) → Passed old → in_order now a ≡ in_order old a → Passed now
still-passed old now a h e = (worked now a a (e ∙ works old a h)).0

pub read-still : (p : ℕ) (t buffer : List ℕ) → Passed (read_steps_by text_before p (length buffer) t)
    → Passed (read_steps p (length buffer) t) × (reading p t buffer ≡ reading_by text_before p t buffer)
unfolding reading reading_by
read-still p t buffer h =
    ⊎_elim (λ e. (still-passed _ _ _ h (ap (λ (o : ReadOutcome). o.answer) e), e)) (λ e. none-refused _ _ _ h e) (read-same-or-six p t buffer)

pub write-still : (p : ℕ) (s t locks : List ℕ) → Passed (write_steps_by text_before p s t locks)
    → Passed (write_steps p s t locks) × (writing p s t locks ≡ writing_by text_before p s t locks)
unfolding writing writing_by
write-still p s t locks h =
    ⊎_elim (λ e. (still-passed _ _ _ h (ap (λ (o : WriteOutcome). o.answer) e), e)) (λ e. none-refused _ _ _ h e) (write-same-or-nine p s t locks)

pub edit-still : (p : ℕ) (t locks : List ℕ) (n : ℕ) (s buffer : List ℕ) → Passed (edit_steps_by text_before p (length buffer) t locks n s)
    → Passed (edit_steps p (length buffer) t locks n s) × (editing p t locks n s buffer ≡ editing_by text_before p t locks n s buffer)
unfolding editing editing_by
edit-still p t locks n s buffer h =
    ⊎_elim (λ e. (still-passed _ _ _ h (ap (λ (o : EditOutcome). o.answer) e), e)) (⊎_elim (λ e. none-refused _ _ _ h e) (λ e. none-refused _ _ _ h e))
    (edit-same-or-six-nine p t locks n s buffer)

-- ---- every place of text

-- é as the item, as an alternative owner, and as both in block 1; as elements 1, 22 and 23 of a sheet; as 1, 22 and 23 of an edit
abbrev places : (List ℕ → Bool) → List Bool
places rule =
    let é : List ℕ = 0xC3 ∷ 0xA9 ∷ [] in
    let field : ℕ → List ℕ → Bool = λ at s. good_fields_by rule (replicate at 0 ++ s) in
    let entry : ℕ → List ℕ → Entry = λ n s. record { number = n; bytes = s } in
    let element : ℕ → List ℕ → Bool = λ n s. good_values_by rule (entry n s ∷ entry 4 (replicate 4 0) ∷ entry 5 (replicate 1 0) ∷ []) in
    field 3 é ∷ field 23 (2 ∷ é) ∷ field 34 (sealed 1 (0 ∷ é)) ∷ field 34 (sealed 1 (0 ∷ 0 ∷ 2 ∷ é)) ∷
    element 1 é ∷ element 22 é ∷ element 23 (2 ∷ é) ∷ value_by rule 1 é ∷ value_by rule 22 é ∷ value_by rule 23 (2 ∷ é) ∷ []

-- it was refused in each, and passes in each
pub places-opened : (all not (places text_before) ≡ true) × (all (λ b. b) (places text) ≡ true)
unfolding all one_of text_before text rows_from rows after good_fields_by good_owner_by good_library_by is_owner_by alternative_by good_values_by value_by form_by shape_by shape isil_of isil prefix_in up_to past strip trim same payload fields_in beyond library_in block_of sealed le16 word xor_all chain walk damage_steps named summed need_at in_order and_then or_else set_info find
places-opened = (refl, refl)

-- a byte alone is text where it was
pub bytes-as-before : count (λ b. beq (text_before (b ∷ [])) (text (b ∷ []))) 256 ≡ 256
unfolding count all text_before text rows_from rows after
bytes-as-before = refl
