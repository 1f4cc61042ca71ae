-- Writing: what is known of a sheet that passes, how the tag then reads, and that the sheet of elements that lie on a tag gives that tag.
use mathlib.Core.Path.{◌≡◌, sym, ap, ap₂, ◌∙◌}
use Prim.Native.Nat.{ℕ, ◌≤◌}
use mathlib.Core.Bool.{true, ◌&&◌}
use mathlib.Core.List.{List}
use lib.ListN.{length}
use borrow.Author.Tests.{le-leb}
use Rattle.format.specs.Answers.{got, in_order}
use Rattle.format.specs.Pages.{good_size, lock_map, changed, locked_changed, Kept}
use Rattle.format.specs.Elements.{Content, clash}
use Rattle.format.specs.Sheet.{sheet_of, fitting, entries_in, right_sheet, content_of, good_values, entries}
use Rattle.format.specs.Layout.{image, fits}
use Rattle.format.specs.Reading.{content_in, Readable}
use Rattle.format.specs.Calls.{sheet_in, read_steps, sheet_content, write_steps, Writer}
use Rattle.format.specs.History.{Own}
use Rattle.format.specs.Demands.{WritesExactly, LaysDown, CountsWritten}
use Rattle.format.proofs.Tests.{and_l}
use Rattle.format.proofs.Answers.{next-ok, next-inv, none-ok, worked}
use Rattle.format.proofs.Paging.{kept-locked}
use Rattle.format.proofs.Readable.{readable-on}
use Rattle.format.proofs.Sheets.{Right, sheet-right, right-sheet}
use Rattle.format.proofs.Entries.{values-parts, entries-content, values-sound, content-entries}
use Rattle.format.proofs.Slots.{sound-parts}
use Rattle.format.proofs.Offsets.{own-fitting}
use Rattle.format.proofs.Laying.{Laid, laid_on, on-laid, laid-length, laid-own, own_read}

-- ---- a sheet that passes

pub record Written (p : ℕ) (s t locks : List ℕ) : Type 0 where
  pub sized : good_size p (length t) && lock_map p locks (length t) ≡ true
  pub right : Right s (entries_in s)
  pub values : good_values (entries_in s) ≡ true
  pub laid : Laid p locks t (sheet_content s)

pub write-passed : {A : Type 0} (p : ℕ) (s t locks : List ℕ) (v k : A) → in_order (write_steps p s t locks) v ≡ got k → Written p s t locks × (v ≡ k)
unfolding write_steps
write-passed p s t locks v k e =
    let a = next-inv _ _ _ v k e in
    let b = next-inv _ _ _ v k a.1 in
    let c = next-inv _ _ _ v k b.1 in
    let d = on-laid p locks t (sheet_content s) v k c.1 in
    (record { sized = a.0; right = sheet-right s b.0; values = c.0; laid = d.0 }, d.1)

module _ (p : ℕ) (s t locks : List ℕ) (w : Written p s t locks) where
  abbrev new : List ℕ
  new = image (length t) (sheet_content s)

  -- the image is the writer's own layout of the sheet's elements
  pub written-own : Own (sheet_content s) new
  written-own = laid-own p locks t (sheet_content s) w.laid (values-sound (entries_in s) w.values w.laid.clear)

  pub written-length : length new ≡ length t
  written-length = laid-length p locks t (sheet_content s) w.laid

  good-size : good_size p (length new) ≡ true
  good-size = ap (good_size p) written-length ∙ and_l (good_size p (length t)) (lock_map p locks (length t)) w.sized

  reads : Readable new × (content_in new ≡ sheet_content s)
  reads = own_read p (sheet_content s) new good-size written-own

  same_entries : entries (content_in new) ≡ entries_in s
  same_entries = ap entries reads.1 ∙ entries-content (entries_in s) w.right.order (values-parts (entries_in s) w.values).0

  -- its elements are those of the sheet that was written
  pub written-sheet : sheet_of (entries (content_in new)) ≡ s
  written-sheet = ap sheet_of same_entries ∙ w.right.sheet

  -- and it is read where there is room
  pub written-passes : {A : Type 0} (room : ℕ) (v : A) → length (sheet_in new) ≤ room → in_order (read_steps p room new) v ≡ got v
  unfolding read_steps
  written-passes room v h =
      next-ok _ _ _ v good-size ∙ readable-on new _ v reads.0 ∙ next-ok _ _ _ v (ap fitting same_entries ∙ w.right.fit)
      ∙ next-ok _ _ _ v (le-leb (length (sheet_in new)) room h) ∙ none-ok v

-- ---- the sheet of elements that lie on a tag

module _ (p : ℕ) (locks t₀ t : List ℕ) (c : Content) (o : Own c t) (n : length t₀ ≡ length t) (z : good_size p (length t) && lock_map p locks (length t) ≡ true) where
  abbrev sheet : List ℕ
  sheet = sheet_of (entries c)

  right : (right_sheet sheet ≡ true) × (entries_in sheet ≡ entries c)
  right = right-sheet (entries c) (own-fitting p c t (and_l (good_size p (length t)) (lock_map p locks (length t)) z) o) (content-entries c o.sane).order

  own-content : sheet_content sheet ≡ c
  own-content = ap content_of right.1 ∙ (content-entries c o.sane).content

  own-image : image (length t₀) (sheet_content sheet) ≡ t
  own-image = ap₂ image n own-content ∙ o.lies

  -- passes on any tag of that length whose locked pages agree
  own-passes : {A : Type 0} (v : A) → Kept p locks t₀ t → in_order (write_steps p sheet t₀ locks) v ≡ got v
  unfolding write_steps
  own-passes v l =
      next-ok _ _ _ v (ap (λ (k : ℕ). good_size p k && lock_map p locks k) n ∙ z) ∙ next-ok _ _ _ v right.0
      ∙ next-ok _ _ _ v (ap good_values right.1 ∙ (content-entries c o.sane).values) ∙ laid_on p locks t₀ (sheet_content sheet) v (record {
        clear = ap (λ (x : Content). clash x.slots) own-content ∙ (sound-parts c o.sane).clear;
        fit = ap₂ fits n own-content ∙ o.fit;
        unlocked = ap (locked_changed p locks t₀) own-image ∙ kept-locked p locks t₀ t l;
      })

  -- so every writer that keeps its promises gives that tag
  pub own-written : (write : Writer) → WritesExactly write → LaysDown write → CountsWritten write → Kept p locks t₀ t
      → ((write p sheet t₀ locks).answer ≡ got (changed p t₀ t)) × ((write p sheet t₀ locks).tag ≡ t)
  own-written write exact lays counts l =
      let done = (exact p sheet t₀ locks).works (worked _ (tt {0}) (tt {0}) (own-passes (tt {0}) l)).0 in
      let k : ℕ = done.0 in
      let e : (write p sheet t₀ locks).answer ≡ got k = done.1 in
      let h = lays p sheet t₀ locks k e in
      let tag : (write p sheet t₀ locks).tag ≡ t = sym h.1.lies ∙ ap (λ (m : ℕ). image m (sheet_content sheet)) h.0 ∙ own-image in
      (e ∙ ap got (counts p sheet t₀ locks k e ∙ ap (changed p t₀) tag), tag)
