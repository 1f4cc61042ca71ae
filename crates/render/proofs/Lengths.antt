-- The heads of a row, one for each element, and of carried blocks.
use mathlib.Core.Path.{◌≡◌, refl, ap}
use mathlib.Core.List.{List, [], ◌∷◌, ◌++◌, map}
use Prim.Native.Nat.{ℕ, ◌+◌, ◌*◌, ◌≤◌, ◌<◌}
use native.Mathlib.Nat.{add-zero}
use native.Mathlib.Numerals.{add-one}
use native.Mathlib.Omega.{arith}
use lib.Dec.{leb}
use lib.ListN.{length, get_or, drop, get_or-map}
use lib.Seq.{drop-cons}
use borrow.Author.Tests.{ne_eqb, leb-true}
use Rattle.std.proofs.lemmas.List.Sums.{sum_by-cons}
use Rattle.format.specs.Bytes.{all, bytes, part, le16, joined}
use Rattle.format.specs.Sheet.{heads, entries_at, carried_entries}
use Rattle.format.specs.declared.Part.{Part}
use Rattle.format.proofs.Tests.{never, and_l, and_r, bytes-at}
use Rattle.rows.specs.Rows.{slots_at}
use Rattle.rows.proofs.Rows.{nowhere, lens}
use Rattle.render.specs.Rendering.{head_of, heads_by, size_by, Lengths}

-- an element of a row, of at most 255 bytes
pub length-at : (row : List Part) (k : ℕ) → Lengths row → (get_or row k nowhere).len ≤ 255
length-at row k h = rw (get_or-map (λ (p : Part). p.len) row k nowhere) at (bytes-at k (lens row) h)

pub size-at_most : (row : List Part) → Lengths row → size_by row ≤ 255 * length row
unfolding all
size-at_most [] h = omega arith
size-at_most (p ∷ row) h =
    let p-small : p.len ≤ 255 = leb-true p.len 255 (and_l (leb p.len 255) (bytes (lens row)) h) in
    rw (sum_by-cons (λ (q : Part). q.len) p row) (omega (arith, p-small, size-at_most row (and_r (leb p.len 255) (bytes (lens row)) h)))

-- the head of the element at place k, and those behind it
module _ (at : ℕ) (ns : List ℕ) (row : List Part) (k : ℕ) (d : Part) (h : k < length ns) (l : k < length row) where
  pub heads-some : ((get_or row k d).len ≡ 0 → ⊥) → heads_by at (drop k ns) (drop k row) ≡ head_of at (get_or ns k 0) (get_or row k d).len ∷ heads_by (at + (get_or row k d).len) (drop (k + 1) ns) (drop (k + 1) row)
  unfolding heads_by
  heads-some e = rw (add-one, drop-cons ns k 0 h, drop-cons row k d l, ne_eqb (get_or row k d).len 0 e)

  pub heads-none : (get_or row k d).len ≡ 0 → heads_by at (drop k ns) (drop k row) ≡ [] ∷ heads_by at (drop (k + 1) ns) (drop (k + 1) row)
  unfolding heads_by
  heads-none e = rw (add-one, drop-cons ns k 0 h, drop-cons row k d l, e, add-zero)

-- of strings that are as long as a row says
pub heads-by : (at : ℕ) (ns : List ℕ) (ss : List (List ℕ)) (row : List Part) → map length ss ≡ lens row → joined (heads_by at ns row) ≡ heads at (entries_at ns ss)
unfolding heads_by heads entries_at joined le16
heads-by at [] ss row e = refl
heads-by at (n ∷ ns) [] [] e = refl
heads-by at (n ∷ ns) [] (p ∷ row) e = never (cc)
heads-by at (n ∷ ns) (s ∷ ss) [] e = never (cc)
heads-by at (n ∷ ns) ([] ∷ ss) (p ∷ row) e =
    let z : p.len ≡ 0 = cc in
    let f : map length ss ≡ lens row = cc in
    rw (z, add-zero) (heads-by at ns ss row f)
heads-by at (n ∷ ns) ((x ∷ s) ∷ ss) (p ∷ row) e =
    let z : p.len ≡ length (x ∷ s) = cc in
    let f : map length ss ≡ lens row = cc in
    rw (z, ne_eqb (length (x ∷ s)) 0 (λ y. omega arith)) (ap (λ (r : List ℕ). head_of at n (length (x ∷ s)) ++ r) (heads-by (at + length (x ∷ s)) ns ss row f))

-- the heads of carried blocks
unfoldable pub carried_heads : ℕ → List (List ℕ) → List (List ℕ)
carried_heads at [] = []
carried_heads at (b ∷ bs) = head_of at 255 (length b) ∷ carried_heads (at + length b) bs

pub heads-carried : (at : ℕ) (bs : List (List ℕ)) → joined (carried_heads at bs) ≡ heads at (carried_entries bs)
unfolding carried_heads heads carried_entries joined le16
heads-carried at [] = refl
heads-carried at (b ∷ bs) = ap (λ (r : List ℕ). head_of at 255 (length b) ++ r) (heads-carried (at + length b) bs)

-- the bytes of the element at place k, and those behind them
pub slots-turn : (s : List ℕ) (row : List Part) (k : ℕ) (d : Part) → k < length row → slots_at s (drop k row) ≡ part (get_or row k d).at (get_or row k d).len s ∷ slots_at s (drop (k + 1) row)
unfolding slots_at
slots-turn s row k d h = rw (add-one, drop-cons row k d h)
