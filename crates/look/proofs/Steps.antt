-- Looking at a tag, step by step: 1, 3 and 4; the fields, 6; whether good fields agree, 7; and all in order.
use Rattle.std.specs.Prelude.{Ok, Err}
use mathlib.Core.Path.{◌≡◌, refl, sym, ap, ◌∙◌}
use mathlib.Core.Logic.{inl, inr}
use Prim.Native.Nat.{ℕ, ◌/◌, ◌%◌, ◌≤◌, ◌<◌}
use native.Mathlib.Omega.{arith}
use mathlib.Core.Bool.{Bool, true, false, not, ◌&&◌, ◌||◌, beq, and-true}
use mathlib.Core.List.{List, [], ◌∷◌}
use lib.ListN.{length, get_or}
use lib.Seq.{drop-cons}
use lib.Dec.{eqb, leb}
use borrow.Author.Tests.{eq-eqb, ne_eqb}
use Rattle.format.specs.declared.Part.{Part}
use Rattle.format.specs.declared.Refusal.{Refusal}
use Rattle.format.specs.Answers.{Answer, got, refused, plain, Step, need, in_order, passed}
use Rattle.format.specs.Numbers.{number_of, refusal_given, given}
use Rattle.format.specs.Bytes.{same, le16, part, filled}
use Rattle.format.specs.Pages.{page_size, good_size}
use Rattle.format.specs.Chain.{block_of}
use Rattle.format.specs.Reading.{main_usage, walked, blocks_in, library_on, good_fields, agree, tag_steps}
use Rattle.format.proofs.Answers.{first-ok, next-inv, none-inv, passed_ok, refused-on, passed_on, afterwards-got, afterwards-refused}
use Rattle.format.proofs.Strings.{empty-length}
use Rattle.format.proofs.Layouts.{size-cases, size-most}
use Rattle.format.proofs.Sound.{fields-parts}
use Rattle.chain.specs.declared.Chain.{Chain}
use Rattle.chain.proofs.Laws.{Surveyed}
use Rattle.fields.specs.declared.LibraryParts.{LibraryParts}
use Rattle.fields.specs.Forms.{item_marked, owner_marked, item_form, owner_form, library_form}
use Rattle.fields.proofs.Places.{within-length, item-given, owner-given, library-given, ItemStands, item-stands, OwnerStands, owner-stands, LibraryStands, library-stands}
use Rattle.look.specs.declared.judge.Fields.{Fields}
use Rattle.look.specs.Looking.{Sized, basic_judged, fields_on, FieldsOf}
use Rattle.look.specs.Row.{row_by, made_by, piece_by}
use Rattle.look.specs.View.{view_in, looking, Looked}

-- the number of a refusal, taken out and handed on
pub refused-number : {A : Type 0} (x : Answer A) (k n : ℕ) → x ≡ refused (plain k) → n ≡ number_of x → x ≡ refused (plain n)
refused-number x k n e h = e ∙ ap (λ (j : ℕ). refused (plain j)) (sym (h ∙ ap (λ y. number_of y) e))

-- ---- 1, 3 and 4

pub size_passed : (t : List ℕ) → good_size page_size (length t) ≡ true → Sized t
size_passed t e =
    let least : 32 ≤ length t = elim (size-cases page_size (length t) e) [ inl h ↦ omega (arith, h) | inr h ↦ omega (arith, h) ] in
    record { least = least; most = size-most page_size (length t) e }

-- the CRC's two bytes, low byte first
check-bytes : (t : List ℕ) (k : ℕ) → Sized t → same (part 19 2 t) (le16 k) ≡ eqb (get_or t 19 0) (k % 256) && (eqb (get_or t 20 0) (k / 256 % 256) && true)
unfolding same le16
check-bytes t k s = rw (drop-cons t 19 0 (omega (arith, s.least)), drop-cons t 20 0 (omega (arith, s.least)))

module _ (t : List ℕ) (k : ℕ) (s : Sized t) where
  pub low-differs : (get_or t 19 0 ≡ k % 256 → ⊥) → same (part 19 2 t) (le16 k) ≡ false
  low-differs h = check-bytes t k s ∙ rw (ne_eqb _ _ h)

  pub high-decides : get_or t 19 0 ≡ k % 256 → k < 65536 → same (part 19 2 t) (le16 k) ≡ eqb (get_or t 20 0) (k / 256)
  high-decides e h =
      let high : k / 256 % 256 ≡ k / 256 = omega arith in
      check-bytes t k s ∙ rw (eq-eqb _ _ e, high, and-true)

-- ---- 6

need-and : {A : Type 0} (n : ℕ) (a b : Bool) (ss : List Step) (p : A) → in_order (need n (a && b) ∷ ss) p ≡ in_order (need n a ∷ need n b ∷ ss) p
unfolding need in_order
need-and n true b ss p = refl
need-and n false b ss p = refl

passed-found : {A : Type 0} (good : Bool) (p : A) → passed (in_order (need 6 good ∷ []) p) ≡ need 6 good
unfolding need in_order passed
passed-found true p = refl
passed-found false p = refl

-- the fields are good: one step after the other
pub fields-each : (t : List ℕ) {A : Type 0} (p : A)
    → in_order (need 6 (good_fields t) ∷ []) p
    ≡ in_order
    (need 6 (leb (get_or t 2 0) (get_or t 1 0)) ∷
    passed (given (item_form (part 3 16 t))) ∷
    passed (given (owner_form (part 21 13 t))) ∷
    passed (given (library_form (block_of 1 (blocks_in t)))) ∷
    [])
    p
unfolding good_fields
fields-each t p =
    simp (item-given (part 3 16 t), owner-given (part 21 13 t), library-given (block_of 1 (blocks_in t)), passed-found)
    (need-and 6 _ _ [] p ∙ need-and 6 _ _ _ p ∙ need-and 6 _ _ _ p)

pub fields-of : (t : List ℕ) (f : Fields) → got f ≡ in_order (need 6 (good_fields t) ∷ []) (fields_on t) → FieldsOf t f
fields-of t f e =
    let h = next-inv 6 (good_fields t) [] (fields_on t) f (sym e) in
    record { good = h.0; is = sym (none-inv (fields_on t) f h.1) }

-- ---- 7

module _ {t : List ℕ} {f : Fields} (h : FieldsOf t f) where
  pub item_of : ItemStands (part 3 16 t) f.item
  item_of = rw h.is (item-stands (part 3 16 t))

  pub owner_of_lem : OwnerStands (part 21 13 t) f.owner
  owner_of_lem = rw h.is (owner-stands (part 21 13 t) (fields-parts t h.good).owner)

  pub library-of : LibraryStands (block_of 1 (blocks_in t)) f.library
  library-of = rw h.is (library-stands (block_of 1 (blocks_in t)))

  abbrev l : LibraryParts
  l = f.library

  pub agree_by : agree t ≡ not (item_marked f.item && eqb l.item 0) && beq (owner_marked f.owner) (not (eqb l.owner 0)) && (eqb l.usage 0 || eqb (l.usage / 16) (main_usage t))
  unfolding agree
  agree_by =
      rw (item_of.marks, owner_of_lem.marks, empty-length (library_on t).item, empty-length (library_on t).owner, within-length library-of.item, within-length library-of.owner, library-of.usage)

-- ---- all in order

module _ (t : List ℕ) where
  -- behind 1, 3 and 4
  abbrev steps : List Step
  steps = passed (walked t) ∷ need 6 (good_fields t) ∷ need 7 (agree t) ∷ []

  pub basic-refused : (k : ℕ) → basic_judged t ≡ refused (plain k) → looking t ≡ refused (plain k)
  unfolding looking tag_steps
  basic-refused k e = refused-on _ steps tt (view_in t) (plain k) e

  module _ (b : basic_judged t ≡ got tt) where
    pub begun-size : Sized t
    begun-size = size_passed t (next-inv 1 _ _ tt tt b).0

    pub begun : looking t ≡ in_order steps (view_in t)
    unfolding looking tag_steps
    begun = passed_on _ steps tt tt (view_in t) b

    pub whole : walked t ≡ got (blocks_in t) → looking t ≡ in_order (need 6 (good_fields t) ∷ need 7 (agree t) ∷ []) (view_in t)
    whole w = begun ∙ first-ok _ _ (view_in t) (passed_ok _ _ w)

-- ---- the outcome

pub stopped : {t : List ℕ} {row : List Part} {made : List ℕ} (x : Refusal) → looking t ≡ refused (refusal_given x) → Looked t row made (Err x) row made
stopped {t} {row} {made} x e =
    record {
      answered = sym e;
      row-left = sym (afterwards-refused (looking t) (refusal_given x) _ row e);
      made-left = sym (afterwards-refused (looking t) (refusal_given x) _ made e);
    }

pub looked : {t : List ℕ} {row row' : List Part} {made made' : List ℕ} {c : Chain} {f : Fields} {p : Part} → Surveyed t c → FieldsOf t f
    → looking t ≡ got (view_in t) → row' ≡ row_by t c.library.at f → made' ≡ filled (made_by t f.owner f.library) made → p ≡ piece_by c
    → Looked t row made (Ok (record { count = c.count; size = c.size; blocks = p })) row' made'
unfolding view_in
looked {t} {row} {row'} {made} v g e a m q =
    record {
      answered = rw (q, ← v.is) (sym e);
      row-left = a ∙ rw (← v.is, g.is) (sym (afterwards-got (looking t) (view_in t) _ row e));
      made-left = m ∙ rw g.is (sym (afterwards-got (looking t) (view_in t) _ made e));
    }
