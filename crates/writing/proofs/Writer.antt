-- Writing: what the stages give is what writing must give.
use Rattle.std.specs.Prelude.{Result, Ok, Err}
use mathlib.Core.Path.{◌≡◌, refl, sym, ap, ◌∙◌}
use Prim.Native.Nat.{ℕ, ◌-◌, ◌%◌, ◌≤◌}
use native.Mathlib.Omega.{arith}
use mathlib.Core.Bool.{Bool, true, ◌&&◌}
use mathlib.Core.List.{List, [], ◌∷◌, ◌++◌}
use lib.Dec.{eqb}
use lib.ListN.{length, take, drop, length-drop}
use lib.Seq.{take_all}
use Rattle.format.specs.Answers.{Refusal, got, refused, plain, Step, need, in_order}
use Rattle.format.specs.Bytes.{joined}
use Rattle.format.specs.Pages.{page_size, good_size, lock_map, changed, locked_changed}
use Rattle.format.specs.Elements.{Content, numbers, values_at}
use Rattle.format.specs.Sheet.{right_sheet, entries_in, good_values}
use Rattle.format.specs.Layout.{image, fits}
use Rattle.format.specs.Calls.{laying_steps, sheet_content, write_steps, writing}
use Rattle.format.specs.Numbers.{reason_number, given, Writes}
use Rattle.format.specs.declared.Part.{Part}
use Rattle.format.specs.declared.Reason.{Reason}
use Rattle.format.proofs.Answers.{first-no, next-ok, next-inv, none-inv, refused-on, afterwards-got, afterwards-refused}
use Rattle.format.proofs.Tests.{and_l}
use Rattle.format.proofs.Layouts.{size-least, image-length}
use Rattle.format.proofs.Laying.{draft-refused, drafted-fits, lock-refused, lock-passed}
use Rattle.rows.specs.Rows.{slots_at}
use Rattle.sheet.specs.Scanning.{row_in, carried_at, scanning, Scanned}
use Rattle.sheet.proofs.Laws.{Found}
use Rattle.image.specs.Drafting.{Fresh, Draftable, Drafted, drafting, sealing, unsealed}
use Rattle.image.proofs.Laws.{sealed-layout}
use Rattle.pages.specs.Storing.{Sized, lock_judged, count_stored, tag_stored}
use Rattle.pages.proofs.Laws.{good-size-whole, lock-step, stored-count, stored-tag}

module _ (s t locks : List ℕ) where
  abbrev c : Content
  c = sheet_content s

  abbrev new : List ℕ
  new = image (length t) c

  abbrev sized : Bool
  sized = good_size page_size (length t) && lock_map page_size locks (length t)

  -- ---- refusals

  abbrev refusal : Reason → Refusal
  refusal q = plain (reason_number q)

  refused-writes : (q : Reason) → (writing page_size s t locks).answer ≡ refused (refusal q) → Writes s t locks (Err q) t
  unfolding writing
  refused-writes q a = record { answered = sym a; left = sym (afterwards-refused (writing page_size s t locks).answer (refusal q) new t a) }

  pub size-writes : (q : Reason) → need 1 sized ≡ refused (plain (reason_number q)) → Writes s t locks (Err q) t
  unfolding writing write_steps
  size-writes q e = refused-writes q (first-no (need 1 sized) _ _ _ e)

  module _ (z : sized ≡ true) where
    scan-writes : (q : Reason) → scanning s ≡ refused (refusal q) → Writes s t locks (Err q) t
    unfolding writing write_steps scanning
    scan-writes q e =
        refused-writes q (next-ok 1 sized _ _ z ∙ refused-on (need 8 (right_sheet s) ∷ need 9 (good_values (entries_in s)) ∷ []) (laying_steps page_size locks t c) _ _ _ e)

    -- ---- a good sheet: the rest is laying down

    module _ (r : right_sheet s ≡ true) (v : good_values (entries_in s) ≡ true) where
      reached : (writing page_size s t locks).answer ≡ in_order (laying_steps page_size locks t c) (changed page_size t new)
      unfolding writing write_steps
      reached = next-ok 1 sized _ _ z ∙ next-ok 8 (right_sheet s) _ _ r ∙ next-ok 9 (good_values (entries_in s)) _ _ v

      pub draft-writes : (q : Reason) → drafting (length t) c.slots (joined c.carried) ≡ refused (refusal q) → Writes s t locks (Err q) t
      unfolding drafting
      draft-writes q d = refused-writes q (reached ∙ draft-refused page_size locks t c _ _ d)

      module _ (d : drafting (length t) c.slots (joined c.carried) ≡ got tt) where
        abbrev unlocks : Step
        unlocks = need 12 (eqb (locked_changed page_size locks t new) 0)

        pub lock-writes : (q : Reason) → unlocks ≡ refused (refusal q) → Writes s t locks (Err q) t
        unfolding drafting
        lock-writes q l = refused-writes q (reached ∙ lock-refused page_size locks t c _ d _ l)

        pub done-writes : unlocks ≡ got tt → (k : ℕ) (tag : List ℕ) → k ≡ changed page_size t new → tag ≡ new → Writes s t locks (Ok k) tag
        unfolding writing drafting
        done-writes l k tag e g =
            let a : (writing page_size s t locks).answer ≡ got (changed page_size t new) = reached ∙ lock-passed page_size locks t c _ d l in
            record { answered = ap got e ∙ sym a; left = g ∙ sym (afterwards-got (writing page_size s t locks).answer (changed page_size t new) new t a) }

-- ---- what scanning left

pub record Good (s : List ℕ) (k : ℕ) (row : List Part) : Type 0 where
  pub right : right_sheet s ≡ true
  pub values : good_values (entries_in s) ≡ true
  pub carried : k ≡ carried_at s
  pub row-is : row ≡ row_in s

pub scanned-good : (s : List ℕ) (before : List Part) (k : ℕ) (row : List Part) → Scanned s before (Ok k) row → Good s k row
unfolding scanning
scanned-good s before k row h =
    let a : scanning s ≡ got k = sym h.answered in
    let x = next-inv 8 _ _ _ _ a in
    let y = next-inv 9 _ _ _ _ x.1 in
    record { right = x.0; values = y.0; carried = sym (none-inv _ _ y.1); row-is = h.row-left ∙ afterwards-got (scanning s) k _ _ a }

pub scanned-refused : (s t locks : List ℕ) (before : List Part) (q : Reason) (row : List Part) → Scanned s before (Err q) row → Sized t locks → Writes s t locks (Err q) t
scanned-refused s t locks before q row h z = scan-writes s t locks z q (sym h.answered)

-- ---- a good sheet, drafted, sealed and stored

module _ (s t locks d₀ : List ℕ) (row : List Part) (k : ℕ) (w : Fresh d₀ t) (z : Sized t locks) (g : Good s k row) (f : Found s) where
  pub carried-inside : k ≤ length s
  carried-inside = rw g.carried f.carried-inside

  abbrev blocks : List ℕ
  blocks = take (length s - k) (drop k s)

  blocks-are : blocks ≡ joined (sheet_content s).carried
  blocks-are = take_all (length s - k) (drop k s) (omega (arith, length-drop k s)) ∙ ap (λ (i : ℕ). drop i s) g.carried ∙ f.carried

  slots-are : slots_at (s ++ []) row ≡ (sheet_content s).slots
  slots-are = rw g.row-is f.slots

  least : 32 ≤ length t
  least = size-least page_size (length t) (and_l (good_size page_size (length t)) (lock_map page_size locks (length t)) z)

  pub good-draftable : Draftable s [] row d₀
  good-draftable = record { row = rw g.row-is f.row; values = ap (values_at numbers) slots-are ∙ f.values; size = omega (arith, w.long, least); blank = w.blank }

  drafted : (r : Result (Unit {0}) Reason) (d₁ : List ℕ) → Drafted s [] row blocks d₀ r d₁ → given r ≡ drafting (length t) (sheet_content s).slots (joined (sheet_content s).carried)
  drafted r d₁ h = h.answered ∙ rw (w.long, slots-are, blocks-are)

  pub drafted-refused : (d₁ : List ℕ) (q : Reason) → Drafted s [] row blocks d₀ (Err q) d₁ → Writes s t locks (Err q) t
  drafted-refused d₁ q h = draft-writes s t locks z g.right g.values q (sym (drafted (Err q) d₁ h))

  module _ (d₁ d₂ : List ℕ) (h : Drafted s [] row blocks d₀ (Ok tt) d₁) (q : d₂ ≡ sealing d₁) where
    passed : drafting (length t) (sheet_content s).slots (joined (sheet_content s).carried) ≡ got tt
    passed = sym (drafted (Ok tt) d₁ h)

    fit : fits (length t) (sheet_content s) ≡ true
    unfolding drafting
    fit = drafted-fits {A = ℕ} page_size locks t (sheet_content s) 0 passed

    sealed : d₂ ≡ new s t locks
    sealed =
        let left : d₁ ≡ unsealed (length t) (sheet_content s).slots (joined (sheet_content s).carried) = h.left ∙ afterwards-got (given (Ok tt)) tt _ d₀ refl ∙ rw (w.long, slots-are, blocks-are) in
        q ∙ ap sealing left ∙ sealed-layout (length t) (sheet_content s).slots (joined (sheet_content s).carried) least fit

    long : length d₂ ≡ length t
    long = ap length sealed ∙ image-length (length t) (sheet_content s) fit

    judged : lock_judged page_size d₂ t locks ≡ need 12 (eqb (locked_changed page_size locks t (new s t locks)) 0)
    judged = lock-step page_size d₂ t long locks ∙ ap (λ (x : List ℕ). need 12 (eqb (locked_changed page_size locks t x) 0)) sealed

    pub locked-refused : (q : Reason) → refused (plain (reason_number q)) ≡ lock_judged page_size d₂ t locks → Writes s t locks (Err q) t
    locked-refused q l = lock-writes s t locks z g.right g.values passed q (sym (l ∙ judged))

    pub stored-writes : got tt ≡ lock_judged page_size d₂ t locks → (n : ℕ) (tag : List ℕ) → n ≡ count_stored page_size d₂ t → tag ≡ tag_stored page_size d₂ t → Writes s t locks (Ok n) tag
    stored-writes l n tag ec et =
        let whole : length t % page_size ≡ 0 = good-size-whole page_size (length t) refl (and_l (good_size page_size (length t)) (lock_map page_size locks (length t)) z) in
        done-writes s t locks z g.right g.values passed (sym (l ∙ judged)) n tag
        (ec ∙ stored-count page_size d₂ t long ∙ ap (changed page_size t) sealed) (et ∙ stored-tag page_size d₂ t long whole ∙ sealed)
