-- Where the elements of a readable tag stand: parts of the tag, and of what was made beside it.
use mathlib.Core.Path.{◌≡◌, refl, sym, ap, ap₂, ◌∙◌}
use mathlib.Core.Logic.{inl, inr}
use Prim.Native.Nat.{ℕ, zero, suc, ◌+◌, ◌-◌, ◌≤◌}
use native.Mathlib.Numerals.{unary_clauses}
use native.Mathlib.Omega.{arith}
use mathlib.Core.Bool.{Bool, true, false}
use mathlib.Core.List.{List, [], ◌∷◌, ◌++◌}
use lib.ListN.{length, take, drop, length-take, length-drop}
use lib.Seq.{take-nil, take-take, drop-drop, take-append-le, drop-append-le, drop-append-add}
use lib.Dec.{leb}
use borrow.Author.Tests.{leb-true, leb-false}
use Rattle.format.specs.declared.Part.{Part}
use Rattle.format.specs.Bytes.{part}
use Rattle.format.specs.Pieces.{from, Held}
use Rattle.rows.specs.Rows.{slots_at, Stands, Row, none, next}
use Rattle.fields.proofs.Places.{Within}

-- ---- parts

drop-take : (i m : ℕ) (s : List ℕ) → drop i (take m s) ≡ take (m - i) (drop i s)
drop-take zero m s = simp unary_clauses
drop-take (suc i) zero s = let e : 0 - suc i ≡ 0 = omega arith in ap (λ (k : ℕ). take k (drop (suc i) s)) (sym e)
drop-take (suc i) (suc m) [] = sym (take-nil (suc m - suc i))
drop-take (suc i) (suc m) (x ∷ s) = simp unary_clauses (drop-take i m s)

-- a part of a part
pub part-part : (i n j m : ℕ) (t : List ℕ) → i + n ≤ m → part i n (part j m t) ≡ part (j + i) n t
part-part i n j m t h =
    ap (take n) (drop-take i m (drop j t)) ∙ take-take n (m - i) (drop i (drop j t)) (omega arith) ∙ ap (take n) (drop-drop i j t)

-- a part as code takes it, from its beginning to its end
pub held_cut : {t s : List ℕ} {p : Part} → Held t p s → take (p.at + p.len - p.at) (drop p.at t) ≡ s
held_cut {t} {s} {p} h = let e : p.at + p.len - p.at ≡ p.len = omega arith in rw e h.is

pub held-length : {t s : List ℕ} {p : Part} → Held t p s → length s ≡ p.len
held-length {t} {s} {p} h = omega (arith, ap length h.is, h.inside, length-take p.len (drop p.at t), length-drop p.at t)

-- ---- elements of a row

-- the part p of the tag t and of what was made behind it, m, is s
pub record Lies (t m : List ℕ) (p : Part) (s : List ℕ) : Type 0 where
  pub stands : Stands t m p
  pub is : part p.at p.len (t ++ m) ≡ s

pub lies-as : {t m : List ℕ} {p : Part} {s r : List ℕ} → Lies t m p s → s ≡ r → Lies t m p r
lies-as l e = record { stands = l.stands; is = l.is ∙ e }

module _ (t m : List ℕ) where
  in-tag : (at n : ℕ) → at + n ≤ length t → Lies t m (from at n) (part at n t)
  in-tag at n h = record {
    stands = inl h;
    is = ap (take n) (drop-append-le at t m (omega arith)) ∙ take-append-le n (drop at t) m (omega (arith, length-drop at t));
  }

  pub in-made : (i n : ℕ) → i + n ≤ length m → Lies t m (from (length t + i) n) (part i n m)
  in-made i n h = record { stands = inr (omega arith, omega arith); is = ap (take n) (drop-append-add t m i) }

  -- no bytes stand anywhere
  pub no_bytes : (at : ℕ) → at ≤ length t + length m → Lies t m (from at 0) []
  no_bytes at h = record { stands = go (leb at (length t)) refl; is = refl }
    where
      go : (x : Bool) → leb at (length t) ≡ x → Stands t m (from at 0)
      go true e = inl (omega (arith, leb-true at (length t) e))
      go false e = inr (omega (arith, leb-false at (length t) e), omega (arith, h))

  -- what stands in a part of the tag: k bytes from byte j on, or as many as there are
  pub in-part : (j k : ℕ) → j ≤ length t → (i n : ℕ) (s : List ℕ) → Within (part j k t) i n s → (n ≡ 0 → i ≤ length m) → Lies t m (from (j + i) n) s
  in-part j k h i zero s w z = lies-as (no_bytes (j + i) (omega (arith, z refl))) w.is
  in-part j k h i (suc n) s w z =
      let inside = w.inside in
      let a = length-take k (drop j t) in
      let b = length-drop j t in
      lies-as (in-tag (j + i) (suc n) (omega arith)) (sym (part-part i (suc n) j k t (omega arith)) ∙ w.is)

-- each part of a row holds its slot
pub data Holds (t m : List ℕ) : List Part → List (List ℕ) → Type 0 where
  done : Holds t m [] []
  more : {p : Part} {s : List ℕ} {ps : List Part} {ss : List (List ℕ)} → Lies t m p s → Holds t m ps ss → Holds t m (p ∷ ps) (s ∷ ss)

module _ (t m : List ℕ) where
  pub holds_row : (ps : List Part) (ss : List (List ℕ)) → Holds t m ps ss → Row t m ps
  holds_row [] [] done = none
  holds_row (p ∷ ps) (s ∷ ss) (more l h) = next l.stands (holds_row ps ss h)
  holds_row [] (s ∷ ss) w = elim w [ ]
  holds_row (p ∷ ps) [] w = elim w [ ]

  pub holds-slots : (ps : List Part) (ss : List (List ℕ)) → Holds t m ps ss → slots_at (t ++ m) ps ≡ ss
  unfolding slots_at
  holds-slots [] [] done = refl
  holds-slots (p ∷ ps) (s ∷ ss) (more l h) = ap₂ (λ (x : List ℕ) (y : List (List ℕ)). x ∷ y) l.is (holds-slots ps ss h)
  holds-slots [] (s ∷ ss) w = elim w [ ]
  holds-slots (p ∷ ps) [] w = elim w [ ]
