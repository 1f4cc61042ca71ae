-- Laws of rows.
use mathlib.Core.Path.{◌≡◌, refl, sym, ap, ap₂, ◌∙◌}
use mathlib.Core.Logic.{inl, inr}
use Prim.Native.Nat.{ℕ, zero, suc, ◌+◌, ◌≤◌, ◌<◌}
use native.Mathlib.Nat.{le_of_suc-le-suc, not-suc-le-zero}
use native.Mathlib.Omega.{arith}
use mathlib.Core.List.{List, [], ◌∷◌, ◌++◌, map, append_assoc}
use lib.ListN.{length, get_or, take, drop, set, length-append, length-drop}
use lib.Seq.{length-take-le, take-append-le, drop-append-le}
use mathlib.Core.Bool.{true}
use borrow.Author.Tests.{le-leb}
use Rattle.format.specs.Bytes.{all, bytes, part}
use Rattle.format.specs.Elements.{value, values_at}
use Rattle.format.proofs.Tests.{never, and_l, and_r, and_i}
use Rattle.format.proofs.Values.{value-short}
use Rattle.format.specs.declared.Part.{Part}
use Rattle.rows.specs.Rows.{slots_at, Stands, Row, none, next}

-- where nothing stands, past the end of a row
abbrev pub nowhere : Part
nowhere = record { at = 0; len = 0 }

pub slots_length : (s : List ℕ) (row : List Part) → length (slots_at s row) ≡ length row
unfolding slots_at
slots_length s [] = refl
slots_length s (p ∷ row) = ap suc (slots_length s row)

-- ---- one place

pub row_at : (src made : List ℕ) (row : List Part) → Row src made row → (k : ℕ) (d : Part) → k < length row → Stands src made (get_or row k d)
row_at src made [] none k d h = absurd (not-suc-le-zero h)
row_at src made (p ∷ row) (next s r) zero d h = s
row_at src made (p ∷ row) (next s r) (suc k) d h = row_at src made row r k d (le_of_suc-le-suc h)

pub slot_at : (s : List ℕ) (row : List Part) (k : ℕ) (d : Part) → k < length row → get_or (slots_at s row) k [] ≡ part (get_or row k d).at (get_or row k d).len s
unfolding slots_at
slot_at s [] k d h = absurd (not-suc-le-zero h)
slot_at s (p ∷ row) zero d h = refl
slot_at s (p ∷ row) (suc k) d h = slot_at s row k d (le_of_suc-le-suc h)

-- what stands is as long as the row says
pub standing-length : (src made : List ℕ) (p : Part) → Stands src made p → length (part p.at p.len (src ++ made)) ≡ p.len
standing-length src made p s =
    let l = length-append src made in
    let m : p.at + p.len ≤ length (src ++ made) = elim s [ inl e ↦ omega (arith, l, e) | inr e ↦ omega (arith, l, e.1) ] in
    length-take-le p.len (drop p.at (src ++ made)) (omega (arith, length-drop p.at (src ++ made), m))

abbrev pub lens : List Part → List ℕ
lens row = map (λ (p : Part). p.len) row

pub lengths-are : (src made : List ℕ) (row : List Part) → Row src made row → map length (slots_at (src ++ made) row) ≡ lens row
unfolding slots_at
lengths-are src made [] none = refl
lengths-are src made (p ∷ row) (next s r) = ap₂ (λ (x : ℕ) (y : List ℕ). x ∷ y) (standing-length src made p s) (lengths-are src made row r)

-- ---- an edit is one store into the row

pub slots_set : (s : List ℕ) (row : List Part) (k : ℕ) (p : Part) → slots_at s (set row k p) ≡ set (slots_at s row) k (part p.at p.len s)
unfolding slots_at
slots_set s [] k p = refl
slots_set s (q ∷ row) zero p = refl
slots_set s (q ∷ row) (suc k) p = ap (λ (r : List (List ℕ)). part q.at q.len s ∷ r) (slots_set s row k p)

pub row-set : (src made : List ℕ) (row : List Part) → Row src made row → (k : ℕ) (p : Part) → Stands src made p → Row src made (set row k p)
row-set src made [] none k p h = none
row-set src made (q ∷ row) (next s r) zero p h = next h r
row-set src made (q ∷ row) (next s r) (suc k) p h = next s (row-set src made row r k p h)

-- ---- and more may be made

pub stands-more : (src made more : List ℕ) (p : Part) → Stands src made p → Stands src (made ++ more) p
stands-more src made more p s = elim s [ inl e ↦ inl e | inr e ↦ inr (e.0, omega (arith, e.1, length-append made more)) ]

pub row_more : (src made more : List ℕ) (row : List Part) → Row src made row → Row src (made ++ more) row
row_more src made more [] none = none
row_more src made more (p ∷ row) (next s r) = next (stands-more src made more p s) (row_more src made more row r)

part-more : (s more : List ℕ) (at len : ℕ) → at + len ≤ length s → part at len (s ++ more) ≡ part at len s
part-more s more at len h = ap (take len) (drop-append-le at s more (omega (arith, h))) ∙ take-append-le len (drop at s) more (omega (arith, h, length-drop at s))

pub slots-more : (src made more : List ℕ) (row : List Part) → Row src made row → slots_at (src ++ (made ++ more)) row ≡ slots_at (src ++ made) row
unfolding slots_at
slots-more src made more [] none = refl
slots-more src made more (p ∷ row) (next s r) =
    let l = length-append src made in
    let m : p.at + p.len ≤ length (src ++ made) = elim s [ inl e ↦ omega (arith, l, e) | inr e ↦ omega (arith, l, e.1) ] in
    ap₂ (λ (x : List ℕ) (y : List (List ℕ)). x ∷ y) (ap (part p.at p.len) (sym (append_assoc src made more)) ∙ part-more (src ++ made) more p.at p.len m) (slots-more src made more row r)

-- ---- values

-- a value has at most 255 bytes
pub values-short : (ns : List ℕ) (ss : List (List ℕ)) → values_at ns ss ≡ true → bytes (map length ss) ≡ true
unfolding values_at all
values-short [] [] e = refl
values-short [] (s ∷ ss) e = never (cc)
values-short (n ∷ ns) [] e = never (cc)
values-short (n ∷ ns) (s ∷ ss) e = and_i (le-leb (length s) 255 (value-short n s (and_l (value n s) (values_at ns ss) e))) (values-short ns ss (and_r (value n s) (values_at ns ss) e))

pub row-short : (src made : List ℕ) (row : List Part) → Row src made row → (ns : List ℕ) → values_at ns (slots_at (src ++ made) row) ≡ true → bytes (lens row) ≡ true
row-short src made row r ns e = ap (λ (l : List ℕ). bytes l) (sym (lengths-are src made row r)) ∙ values-short ns (slots_at (src ++ made) row) e
