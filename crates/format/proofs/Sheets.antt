-- A sheet and its entries: each gives the other back.
use mathlib.Core.Path.{◌≡◌, refl, sym, ap, ap₂, ◌∙◌}
use Prim.Native.Nat.{ℕ, zero, suc, ◌+◌, ◌*◌, ◌<◌}
use native.Mathlib.Omega.{arith}
use mathlib.Core.Bool.{Bool, true, ◌&&◌}
use mathlib.Core.List.{List, [], ◌∷◌, ◌++◌}
use lib.ListN.{length, drop, get_or, length-append}
use borrow.Author.Tests.{leb-true}
use lib.Seq.{take-append_seam, drop-append_seam, drop_at}
use Rattle.format.specs.Bytes.{same, le16}
use Rattle.format.specs.Sheet.{Entry, heads, bodies, sheet_of, offsets_fit, fitting, rising, cut, body_at, count_in, entries_in, right_sheet}
use Rattle.format.proofs.Tests.{and_l, and_r, and_i, same_refl, same-eq}
use Rattle.format.proofs.Strings.{word-le16}

pub length-heads : (at : ℕ) (es : List Entry) → length (heads at es) ≡ 4 * length es
unfolding heads le16
length-heads at [] = refl
length-heads at (e ∷ es) = omega (arith, length-heads (at + length e.bytes) es)

pub length-sheet : (es : List Entry) → length (sheet_of es) ≡ body_at (length es) + length (bodies es)
unfolding sheet_of le16
length-sheet es = omega (arith, length-append (heads (body_at (length es)) es) (bodies es), length-heads (body_at (length es)) es)

pub length_cut : (k : ℕ) (h b : List ℕ) → length (cut k h b) ≡ k
unfolding cut
length_cut zero h b = refl
length_cut (suc k) h b = ap suc (length_cut k (drop 4 h) (drop (get_or h 3 0) b))

pub entry-count : (s : List ℕ) → length (entries_in s) ≡ count_in s
unfolding entries_in
entry-count s = length_cut (count_in s) (drop 2 s) (drop (body_at (count_in s)) s)

-- behind the header come the bytes of the entries
module _ (s : List ℕ) (e : sheet_of (entries_in s) ≡ s) where
  pub body_is : drop (body_at (count_in s)) s ≡ bodies (entries_in s)
  unfolding sheet_of le16
  body_is =
      let es : List Entry = entries_in s in
      ap (drop (body_at (count_in s))) (sym e)
      ∙ drop_at (le16 (length es) ++ heads (body_at (length es)) es) (bodies es) (body_at (count_in s)) (omega (arith, entry-count s, length-heads (body_at (length es)) es))

  pub body-length : body_at (count_in s) + length (bodies (entries_in s)) ≡ length s
  body-length = omega (arith, length-sheet (entries_in s), ap length e, entry-count s)

-- the entries are cut as they were laid
cut-laid : (at : ℕ) (es : List Entry) (x : List ℕ) → cut (length es) (heads at es ++ x) (bodies es) ≡ es
unfolding cut heads bodies le16
cut-laid at [] x = refl
cut-laid at (e ∷ es) x =
    ap₂ (λ (b r : List ℕ). record { number = e.number; bytes = b } ∷ cut (length es) (heads (at + length e.bytes) es ++ x) r)
    (take-append_seam e.bytes (bodies es)) (drop-append_seam e.bytes (bodies es))
    ∙ ap (λ (r : List Entry). e ∷ r) (cut-laid (at + length e.bytes) es x)

pub entries-in : (es : List Entry) → length es < 65536 → entries_in (sheet_of es) ≡ es
unfolding entries_in sheet_of le16
entries-in es h =
    let n : ℕ = length es in
    let hs : List ℕ = heads (body_at n) es in
    ap (λ (k : ℕ). cut k (hs ++ bodies es) (drop (body_at k) (sheet_of es))) (word-le16 n h)
    ∙ ap (λ (r : List ℕ). cut n (hs ++ bodies es) r)
    (drop_at (le16 n ++ hs) (bodies es) (body_at n) (omega (arith, length-heads (body_at n) es)))
    ∙ cut-laid (body_at n) es (bodies es)

-- where the offsets fit, so does the count
pub fit_count : (es : List Entry) → fitting es ≡ true → length es < 65536
unfolding offsets_fit
fit_count [] e = omega arith
fit_count (x ∷ es) e = omega (arith, leb-true (body_at (suc (length es))) 65535 (and_l _ (offsets_fit (body_at (suc (length es)) + length x.bytes) es) e))

-- put together, and taken apart again
pub right-sheet : (es : List Entry) → fitting es ≡ true → rising es ≡ true → (right_sheet (sheet_of es) ≡ true) × (entries_in (sheet_of es) ≡ es)
unfolding right_sheet
right-sheet es h r =
    let e = entries-in es (fit_count es h) in
    (rw e (and_i (and_i (same_refl (sheet_of es)) h) r), e)

-- taken apart, and put together again
pub record Right (s : List ℕ) (es : List Entry) : Type 0 where
  pub sheet : sheet_of es ≡ s
  pub fit : fitting es ≡ true
  pub order : rising es ≡ true

pub sheet-right : (s : List ℕ) → right_sheet s ≡ true → Right s (entries_in s)
unfolding right_sheet
sheet-right s e =
    let i : List Entry = entries_in s in
    let x : Bool = same (sheet_of i) s in
    let a = and_l (x && fitting i) (rising i) e in
    record { sheet = same-eq (sheet_of i) s (and_l x (fitting i) a); fit = and_r x (fitting i) a; order = and_r (x && fitting i) (rising i) e }
