-- A sheet is right exactly if its heads, taken one after the other, name numbers that rise and the offsets that come, and its bytes
-- end with the last: what the code tests, against what the definition says.
use Rattle.std.specs.Prelude.{if◌then◌else◌, min}
use mathlib.Core.Path.{◌≡◌, refl, sym, ap, ap₂, ◌∙◌}
use Prim.Native.Nat.{ℕ, zero, suc, ◌+◌, ◌*◌, ◌≤◌, ◌<◌}
use native.Mathlib.Numerals.{add-one}
use native.Mathlib.Omega.{arith}
use mathlib.Core.Bool.{Bool, true, false, ◌&&◌, ◌||◌, or-false}
use mathlib.Core.List.{List, [], ◌∷◌, ◌++◌}
use lib.Dec.{leb, ltb, eqb}
use lib.ListN.{length, take, drop, get_or, length-append, length-drop, take-append-drop}
use lib.Seq.{length-take-le, drop-cons, drop-drop}
use borrow.Author.Tests.{leb-true, le-leb, lt-leb, eqb-true, eqb-false, eq-eqb, le-ltb}
use Rattle.format.specs.Bytes.{bytes, same, le16, word}
use Rattle.format.specs.Sheet.{Entry, heads, bodies, sheet_of, offsets_fit, fitting, rising_from, rising, cut, body_at, count_in, entries_in, right_sheet}
use Rattle.format.proofs.Tests.{never, same_truth, and_l, and_r, and_i, or_r, all_drop, bytes-at, same_refl, same-eq}
use Rattle.format.proofs.Strings.{word-le16, le16-word, nil-of, opened}
use Rattle.format.proofs.Sheets.{length_cut, body-length, entry-count, sheet-right}
use Rattle.sheet.specs.Heads.{RightOf}
use Rattle.sheet.specs.Scanning.{body_in}

-- the least number that may follow a number: numbers rise strictly, and 255 may repeat
unfoldable pub least : ℕ → ℕ
least n = if eqb n 255 then 255 else n + 1

-- the code adds one, and 255 stays
pub least-is : (n : ℕ) → n ≤ 255 → least n ≡ min (n + 1) 255
unfolding least
least-is n h = go (eqb n 255) refl
  where
    go : (t : Bool) → eqb n 255 ≡ t → (if t then 255 else n + 1) ≡ min (n + 1) 255
    go true e = omega (arith, eqb-true n 255 e)
    go false e = omega (arith, eqb-false n 255 e)

-- k heads at h: their offsets are where their bytes begin, from `at` on, and the last bytes end at `stop`
unfoldable pub offsets_right : ℕ → ℕ → List ℕ → ℕ → Bool
offsets_right zero at h stop = eqb at stop
offsets_right (suc k) at h stop = eqb (word (get_or h 1 0) (get_or h 2 0)) at && offsets_right k (at + get_or h 3 0) (drop 4 h) stop

-- their numbers rise from `low` on
unfoldable pub numbers_rise : ℕ → ℕ → List ℕ → Bool
numbers_rise zero low h = true
numbers_rise (suc k) low h = leb low (get_or h 0 0) && numbers_rise k (least (get_or h 0 0)) (drop 4 h)

-- ---- the numbers

-- a number may follow another exactly if it is the least that may or more
follows : (n m : ℕ) → m ≤ 255 → leb (least n) m ≡ ltb n m || (eqb n 255 && eqb m 255)
unfolding least
follows n m h = go (eqb n 255) refl (eqb m 255) refl
  where
    go : (t : Bool) → eqb n 255 ≡ t → (u : Bool) → eqb m 255 ≡ u → leb (if t then 255 else n + 1) m ≡ ltb n m || (t && u)
    go true e true f = le-leb 255 m (omega (arith, eqb-true m 255 f)) ∙ sym (or_r (ltb n m) true refl)
    go true e false f = lt-leb 255 m (omega (arith, eqb-false m 255 f)) ∙ sym (or-false (ltb n m) ∙ le-ltb n m (omega (arith, eqb-true n 255 e)))
    go false e u f = rw add-one (sym (or-false (ltb n m)))

numbers-from : (k n : ℕ) (h b : List ℕ) → bytes h ≡ true → numbers_rise k (least n) h ≡ rising_from n (cut k h b)
unfolding numbers_rise cut rising_from
numbers-from zero n h b y = refl
numbers-from (suc k) n h b y =
    ap₂ (λ (s t : Bool). s && t) (follows n (get_or h 0 0) (bytes-at 0 h y)) (numbers-from k (get_or h 0 0) (drop 4 h) (drop (get_or h 3 0) b) (all_drop _ 4 h y))

numbers-right : (k : ℕ) (h b : List ℕ) → bytes h ≡ true → numbers_rise k 0 h ≡ rising (cut k h b)
unfolding numbers_rise cut rising
numbers-right zero h b y = refl
numbers-right (suc k) h b y =
    ap (λ (t : Bool). t && numbers_rise k (least (get_or h 0 0)) (drop 4 h)) (le-leb 0 (get_or h 0 0) (omega arith))
    ∙ numbers-from k (get_or h 0 0) (drop 4 h) (drop (get_or h 3 0) b) (all_drop _ 4 h y)

-- ---- the offsets

-- places only grow
right_end : (k at : ℕ) (h : List ℕ) (stop : ℕ) → offsets_right k at h stop ≡ true → at ≤ stop
unfolding offsets_right
right_end zero at h stop e = omega (arith, eqb-true at stop e)
right_end (suc k) at h stop e =
    let n : ℕ = get_or h 3 0 in
    omega (arith, right_end k (at + n) (drop 4 h) stop (and_r (eqb (word (get_or h 1 0) (get_or h 2 0)) at) (offsets_right k (at + n) (drop 4 h) stop) e))

-- behind right heads, what is cut lays down as the heads and the bytes that were there, and every offset fits
record Laid (k at : ℕ) (h b : List ℕ) (es : List Entry) : Type 0 where
  heads-back : heads at es ++ drop (4 * k) h ≡ h
  bodies-back : bodies es ≡ b
  offsets : offsets_fit at es ≡ true

cut-laid : (k at : ℕ) (h b : List ℕ) → bytes h ≡ true → 4 * k ≤ length h → offsets_right k at h (at + length b) ≡ true → Laid k at h b (cut k h b)
unfolding offsets_right cut heads bodies offsets_fit word
cut-laid zero at h b y l e = record { heads-back = refl; bodies-back = sym (nil-of b (omega (arith, eqb-true at (at + length b) e))); offsets = refl }
cut-laid (suc k) at h b y l e =
    let n : ℕ = get_or h 3 0 in
    let w : ℕ = word (get_or h 1 0) (get_or h 2 0) in
    let rest : Bool = offsets_right k (at + n) (drop 4 h) (at + length b) in
    let is : w ≡ at = eqb-true w at (and_l (eqb w at) rest e) in
    let more : rest ≡ true = and_r (eqb w at) rest e in
    let nb : n ≤ length b = omega (arith, right_end k (at + n) (drop 4 h) (at + length b) more) in
    let tn : length (take n b) ≡ n = length-take-le n b nb in
    let ends : at + length b ≡ at + n + length (drop n b) = omega (arith, length-drop n b) in
    let ih = cut-laid k (at + n) (drop 4 h) (drop n b) (all_drop _ 4 h y) (omega (arith, length-drop 4 h)) (rw ends at more) in
    let two : le16 at ≡ get_or h 1 0 ∷ get_or h 2 0 ∷ [] = ap le16 (sym is) ∙ le16-word (get_or h 1 0) (get_or h 2 0) (bytes-at 1 h y) (bytes-at 2 h y) in
    let four : 4 + 4 * k ≡ 4 * suc k = omega arith in
    let behind : drop (4 * suc k) h ≡ drop (4 * k) (drop 4 h) = sym (drop-drop (4 * k) 4 h ∙ ap (λ (m : ℕ). drop m h) four) in
    record {
      heads-back = rw (behind, tn, two) (ap (λ (t : List ℕ). get_or h 0 0 ∷ get_or h 1 0 ∷ get_or h 2 0 ∷ n ∷ t) ih.heads-back ∙ sym (opened 0 4 h (omega arith)));
      bodies-back = ap (λ (t : List ℕ). take n b ++ t) ih.bodies-back ∙ take-append-drop n b;
      offsets = rw tn (and_i (le-leb at 65535 (omega (arith, bytes-at 1 h y, bytes-at 2 h y))) ih.offsets);
    }

-- and back: the heads of entries whose offsets fit are right
heads-laid : (es : List Entry) (at : ℕ) (x : List ℕ) → offsets_fit at es ≡ true → offsets_right (length es) at (heads at es ++ x) (at + length (bodies es)) ≡ true
unfolding offsets_right heads bodies offsets_fit le16
heads-laid [] at x f = eq-eqb at (at + 0) (omega arith)
heads-laid (e ∷ es) at x f =
    let n : ℕ = length e.bytes in
    let lo : at ≤ 65535 = leb-true at 65535 (and_l (leb at 65535) (offsets_fit (at + n) es) f) in
    let ends : at + length (e.bytes ++ bodies es) ≡ at + n + length (bodies es) = omega (arith, length-append e.bytes (bodies es)) in
    and_i (eq-eqb _ at (word-le16 at (omega arith))) (rw ends (heads-laid es (at + n) x (and_r (leb at 65535) (offsets_fit (at + n) es) f)))

-- ---- the whole sheet

-- a right sheet has its heads behind its count, and behind them its bytes up to its end
pub right-heads : (s : List ℕ) → sheet_of (entries_in s) ≡ s → drop 2 s ≡ heads (body_in s) (entries_in s) ++ bodies (entries_in s)
unfolding sheet_of le16
right-heads s e = ap (drop 2) (sym e) ∙ ap (λ (k : ℕ). heads (body_at k) (entries_in s) ++ bodies (entries_in s)) (entry-count s)

pub right-body : (s : List ℕ) → right_sheet s ≡ true → body_in s + length (bodies (entries_in s)) ≡ length s
right-body s e = body-length s (sheet-right s e).sheet

pub right_of : (s : List ℕ) (n : ℕ) → right_sheet s ≡ true → n ≡ count_in s → RightOf s n
right_of s n e c = record { right = e; counted = c; inside = omega (arith, right-body s e) }

module _ (s : List ℕ) (y : bytes s ≡ true) (l : body_in s ≤ length s) where
  -- what the definition tests, from what the code tests
  offsets-sheet : offsets_right (count_in s) (body_in s) (drop 2 s) (length s) ≡ true → same (sheet_of (entries_in s)) s && fitting (entries_in s) ≡ true
  unfolding sheet_of entries_in
  offsets-sheet e =
      let k : ℕ = count_in s in
      let b : List ℕ = drop (body_at k) s in
      let ends : length s ≡ body_at k + length b = omega (arith, length-drop (body_at k) s) in
      let c = cut-laid k (body_at k) (drop 2 s) b (all_drop _ 2 s y) (omega (arith, length-drop 2 s)) (rw ends at e) in
      let es : List Entry = cut k (drop 2 s) b in
      let n : length es ≡ k = length_cut k (drop 2 s) b in
      let is : sheet_of es ≡ s =
      ap₂ (λ (x y : List ℕ). x ++ y) (ap le16 n ∙ le16-word (get_or s 0 0) (get_or s 1 0) (bytes-at 0 s y) (bytes-at 1 s y))
      (ap₂ (λ (m : ℕ) (t : List ℕ). heads (body_at m) es ++ t) n (c.bodies-back ∙ sym (drop-drop (4 * k) 2 s)) ∙ c.heads-back)
      ∙ sym (drop-cons s 0 0 (omega arith) ∙ ap (λ (t : List ℕ). get_or s 0 0 ∷ t) (drop-cons s 1 0 (omega arith))) in
      and_i (ap (λ (t : List ℕ). same t s) is ∙ same_refl s) (rw n c.offsets)

  sheet-offsets : same (sheet_of (entries_in s)) s && fitting (entries_in s) ≡ true → offsets_right (count_in s) (body_in s) (drop 2 s) (length s) ≡ true
  sheet-offsets e =
      let es : List Entry = entries_in s in
      let is : sheet_of es ≡ s = same-eq (sheet_of es) s (and_l (same (sheet_of es) s) (fitting es) e) in
      rw (right-heads s is, ← body-length s is, ← entry-count s) (heads-laid es (body_at (length es)) (bodies es) (and_r (same (sheet_of es) s) (fitting es) e))

  pub header-right : offsets_right (count_in s) (body_in s) (drop 2 s) (length s) && numbers_rise (count_in s) 0 (drop 2 s) ≡ right_sheet s
  unfolding right_sheet entries_in
  header-right = ap₂ (λ (a b : Bool). a && b) (same_truth _ _ offsets-sheet sheet-offsets) (numbers-right (count_in s) (drop 2 s) (drop (body_in s) s) (all_drop _ 2 s y))

-- a sheet too short for its header is wrong
pub short-wrong : (s : List ℕ) → length s < body_in s → false ≡ right_sheet s
short-wrong s l = same_truth false (right_sheet s) (λ e. never (cc)) (λ e. absurd (omega (arith, right-body s e)))
