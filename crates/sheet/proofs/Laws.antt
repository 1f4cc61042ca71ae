-- What a good sheet holds, for callers of the scan: its entries are those of its elements and its carried blocks, so their bytes stand one
-- behind the other where the row tells.
use mathlib.Core.Path.{◌≡◌, refl, sym, ap, ap₂, ◌∙◌}
use Prim.Native.Nat.{ℕ, ◌+◌, ◌≤◌}
use mathlib.Core.Logic.{inl}
use native.Mathlib.Omega.{arith}
use mathlib.Core.Bool.{Bool, true, not, ◌&&◌}
use mathlib.Core.List.{List, [], ◌∷◌, ◌++◌, map, append_assoc, append-nil}
use lib.Dec.{eqb}
use lib.ListN.{length, take, drop, length-append}
use lib.Seq.{drop-drop, take-append_seam, drop-append_seam}
use borrow.Author.Tests.{eq-eqb}
use Rattle.format.specs.Bytes.{joined, all}
use Rattle.format.specs.Elements.{numbers, values_at}
use Rattle.format.specs.Sheet.{Entry, bodies, entries_in, right_sheet, content_of, good_values, entries_at, carried_entries, entries}
use Rattle.format.specs.Calls.{sheet_content}
use Rattle.format.proofs.Tests.{and_l, and_r, and_i, not_t}
use Rattle.format.proofs.Sheets.{body_is, sheet-right}
use Rattle.format.proofs.Entries.{values-parts, find-values, entries-content}
use Rattle.rows.specs.Rows.{slots_at, Row, none, next}
use Rattle.sheet.specs.Scanning.{body_in, lengths_of, row_of, end_of, lens_in, row_in, carried_at}
use Rattle.sheet.proofs.Heads.{right-body}

-- ---- strings one behind the other

-- from `at` on, these strings stand in s, and then r
record Standing (s : List ℕ) (ss : List (List ℕ)) (r : List ℕ) (at : ℕ) : Type 0 where
  row : Row s [] (row_of at (map length ss))
  slots : slots_at s (row_of at (map length ss)) ≡ ss
  end-inside : end_of at (map length ss) ≤ length s
  behind : drop (end_of at (map length ss)) s ≡ r

standing : (s : List ℕ) (ss : List (List ℕ)) (r : List ℕ) (at : ℕ) → drop at s ≡ joined ss ++ r → at + length (joined ss) ≤ length s → Standing s ss r at
unfolding joined row_of end_of slots_at
standing s [] r at e h = record { row = none; slots = refl; end-inside = omega arith; behind = e }
standing s (b ∷ ss) r at e h =
    let first : drop at s ≡ b ++ (joined ss ++ r) = e ∙ append_assoc b (joined ss) r in
    let l : length (b ++ joined ss) ≡ length b + length (joined ss) = length-append b (joined ss) in
    let next-bytes : drop (at + length b) s ≡ joined ss ++ r = sym (drop-drop (length b) at s) ∙ ap (drop (length b)) first ∙ drop-append_seam b (joined ss ++ r) in
    let ih = standing s ss r (at + length b) next-bytes (omega arith) in
    record {
      row = next (inl (omega arith)) ih.row;
      slots = ap₂ (λ (x : List ℕ) (y : List (List ℕ)). x ∷ y) (ap (take (length b)) first ∙ take-append_seam b (joined ss ++ r)) ih.slots;
      end-inside = ih.end-inside;
      behind = ih.behind;
    }

-- ---- the entries of elements and carried blocks

-- n is none of these numbers, nor 255
apart : ℕ → List ℕ → Bool
apart n ns = all (λ m. not (eqb m n)) (255 ∷ ns)

-- no number stands twice
distinct : List ℕ → Bool
distinct [] = true
distinct (n ∷ ns) = apart n ns && distinct ns

passed-carried : (cs : List (List ℕ)) (n : ℕ) (more : List ℕ) → not (eqb 255 n) ≡ true → lengths_of (n ∷ more) (carried_entries cs) ≡ 0 ∷ lengths_of more (carried_entries cs)
unfolding carried_entries lengths_of
passed-carried [] n more a = refl
passed-carried (c ∷ cs) n more a = rw (not_t (eqb 255 n) a)

carried-bytes : (cs : List (List ℕ)) → bodies (carried_entries cs) ≡ joined cs
unfolding bodies carried_entries joined
carried-bytes [] = refl
carried-bytes (c ∷ cs) = ap (λ (t : List ℕ). c ++ t) (carried-bytes cs)

module _ (cs : List (List ℕ)) where
  laid : List ℕ → List (List ℕ) → List Entry
  laid ns ss = entries_at ns ss ++ carried_entries cs

  -- none of them has number n
  passed : (n : ℕ) (more : List ℕ) (ns : List ℕ) (ss : List (List ℕ)) → apart n ns ≡ true → lengths_of (n ∷ more) (laid ns ss) ≡ 0 ∷ lengths_of more (laid ns ss)
  unfolding laid entries_at lengths_of apart all
  passed n more [] ss a = passed-carried cs n more (and_l (not (eqb 255 n)) true a)
  passed n more (m ∷ ns) [] a = passed-carried cs n more (and_l (not (eqb 255 n)) _ a)
  passed n more (m ∷ ns) ([] ∷ ss) a =
      let b = and_r (not (eqb 255 n)) _ a in
      passed n more ns ss (and_i (and_l (not (eqb 255 n)) _ a) (and_r (not (eqb m n)) _ b))
  passed n more (m ∷ ns) ((x ∷ s) ∷ ss) a = rw (not_t (eqb m n) (and_l (not (eqb m n)) _ (and_r (not (eqb 255 n)) _ a)))

  laid-are : (ns : List ℕ) (ss : List (List ℕ)) → distinct ns ≡ true → length ss ≡ length ns → (lengths_of ns (laid ns ss) ≡ map length ss) × (bodies (laid ns ss) ≡ joined ss ++ joined cs)
  unfolding laid entries_at lengths_of bodies joined distinct
  laid-are [] [] d l = (refl, carried-bytes cs)
  laid-are [] (s ∷ ss) d l = absurd (omega arith)
  laid-are (n ∷ ns) [] d l = absurd (omega arith)
  laid-are (n ∷ ns) ([] ∷ ss) d l =
      let ih = laid-are ns ss (and_r (apart n ns) (distinct ns) d) (omega arith) in
      (passed n ns ns ss (and_l (apart n ns) (distinct ns) d) ∙ ap (λ (r : List ℕ). 0 ∷ r) ih.0, ih.1)
  laid-are (n ∷ ns) ((x ∷ s) ∷ ss) d l =
      let ih = laid-are ns ss (and_r (apart n ns) (distinct ns) d) (omega arith) in
      (rw (eq-eqb n n refl) (ap (λ (r : List ℕ). length (x ∷ s) ∷ r) ih.0), ap (λ (t : List ℕ). (x ∷ s) ++ t) ih.1 ∙ sym (append_assoc (x ∷ s) (joined ss) (joined cs)))

-- ---- a good sheet

-- what a good sheet holds, as scanning finds it
pub record Found (s : List ℕ) : Type 0 where
  pub row : Row s [] (row_in s)
  pub slots : slots_at (s ++ []) (row_in s) ≡ (sheet_content s).slots
  pub values : values_at numbers (sheet_content s).slots ≡ true
  pub carried-inside : carried_at s ≤ length s
  pub carried : drop (carried_at s) s ≡ joined (sheet_content s).carried

pub scan-found : (s : List ℕ) → right_sheet s ≡ true → good_values (entries_in s) ≡ true → Found s
unfolding content_of entries laid distinct apart all
scan-found s e g =
    let es : List Entry = entries_in s in
    let ss : List (List ℕ) = (sheet_content s).slots in
    let cs : List (List ℕ) = (sheet_content s).carried in
    let r = sheet-right s e in
    let v = values-parts es g in
    let back : es ≡ laid cs numbers ss = sym (entries-content es r.order v.0) in
    let a = laid-are cs numbers ss refl refl in
    let lens : lens_in s ≡ map length ss = ap (lengths_of numbers) back ∙ a.0 in
    let bytes : bodies es ≡ joined ss ++ joined cs = ap bodies back ∙ a.1 in
    let total = length-append (joined ss) (joined cs) in
    let st = standing s ss (joined cs) (body_in s) (body_is s r.sheet ∙ bytes) (omega (arith, right-body s e, ap length bytes)) in
    record {
      row = rw lens st.row;
      slots = rw (append-nil, lens) st.slots;
      values = find-values numbers es v.0 v.1;
      carried-inside = rw lens st.end-inside;
      carried = rw lens st.behind;
    }
