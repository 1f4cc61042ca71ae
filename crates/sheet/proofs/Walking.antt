-- What the loops over a sheet's entries know at each turn, and how a turn keeps it. `i` is the entry that comes, `at` is where its
-- bytes begin.
use Rattle.std.specs.Prelude.{if◌then◌else◌}
use mathlib.Core.Path.{◌≡◌, refl, sym, ap, ap₂, ◌∙◌}
use Prim.Native.Nat.{ℕ, suc, ◌+◌, ◌-◌, ◌≤◌, ◌<◌}
use native.Mathlib.Nat.{sub-zero, add-zero}
use native.Mathlib.Numerals.{add-one}
use native.Mathlib.Omega.{arith}
use mathlib.Core.Bool.{Bool, true, false, not, ◌&&◌, ◌||◌, and-true, and-false, or-false}
use mathlib.Core.List.{List, [], ◌∷◌, ◌++◌, append-nil}
use lib.Dec.{leb, eqb}
use lib.ListN.{length, take, drop, set, get_or, length-append, length-set, drop_of_length-le}
use lib.Seq.{drop-cons, drop-drop, take_at, drop_at, get_or-drop, take-suc-set, append_snoc, take_all}
use borrow.Author.Tests.{le-leb, lt-leb, eqb-true, eq-eqb, ne_eqb}
use Rattle.format.specs.Bytes.{is_empty, all, bytes, le16, word, part}
use Rattle.format.specs.Elements.{places, numbers, set_info, shape, form}
use Rattle.format.specs.Sheet.{Entry, heads, bodies, body_at, count_in, entries_in, right_sheet, find, formed, good_values}
use Rattle.format.proofs.Tests.{never}
use Rattle.format.proofs.Strings.{nil-of}
use Rattle.format.proofs.Sheets.{entry-count, body_is, sheet-right}
use Rattle.format.specs.declared.Part.{Part}
use Rattle.sheet.specs.declared.Head.{Head}
use Rattle.sheet.specs.Heads.{HeadOf}
use Rattle.sheet.specs.Scanning.{body_in, lengths_of, row_of, end_of, row_in, carried_at}
use Rattle.sheet.proofs.Heads.{least, offsets_right, numbers_rise, header-right, right-heads, right-body}

-- ---- a head

head-dropped : (s : List ℕ) (at : ℕ) (r : Head) → HeadOf s at r
    → (r.number ≡ get_or (drop at s) 0 0) × (r.offset ≡ word (get_or (drop at s) 1 0) (get_or (drop at s) 2 0)) × (r.len ≡ get_or (drop at s) 3 0)
head-dropped s at r h =
    (h.number_is ∙ sym (get_or-drop at s 0 0 ∙ ap (λ (k : ℕ). get_or s k 0) (add-zero at)), h.offset-is ∙ sym (ap₂ word (get_or-drop at s 1 0) (get_or-drop at s 2 0)), h.len_is ∙ sym (get_or-drop at s 3 0))

next-head : (s : List ℕ) (i : ℕ) → drop 4 (drop (body_at i) s) ≡ drop (body_at (i + 1)) s
next-head s i = let e : body_at i + 4 ≡ body_at (i + 1) = omega arith in drop-drop 4 (body_at i) s ∙ ap (λ (m : ℕ). drop m s) e

-- ---- the header: the heads that come decide whether the sheet is right

-- k heads come, the first of them at h
abbrev heads_decide : List ℕ → ℕ → ℕ → ℕ → List ℕ → Bool
heads_decide s k at low h = offsets_right k at h (length s) && numbers_rise k low h

pub record Checking (s : List ℕ) (at low i : ℕ) : Type 0 where
  pub counted : i ≤ count_in s
  pub rest : heads_decide s (count_in s - i) at low (drop (body_at i) s) ≡ right_sheet s

pub checking-start : (s : List ℕ) → bytes s ≡ true → body_in s ≤ length s → Checking s (body_in s) 0 0
checking-start s y l =
    record { counted = omega arith; rest = ap (λ (k : ℕ). heads_decide s k (body_in s) 0 (drop 2 s)) (sub-zero (count_in s)) ∙ header-right s y l }

module _ {s : List ℕ} {at low i : ℕ} {r : Head} (c : Checking s at low i) (more : i < count_in s) (h : HeadOf s (body_at i) r) where
  -- the test of this head, and the others
  opened : let k = count_in s - (i + 1) in let behind = drop (body_at (i + 1)) s in
      (eqb r.offset at && offsets_right k (at + r.len) behind (length s)) && (leb low r.number && numbers_rise k (least r.number) behind) ≡ right_sheet s
  unfolding offsets_right numbers_rise
  opened =
      let d = head-dropped s (body_at i) r h in
      let fewer : count_in s - i ≡ suc (count_in s - (i + 1)) = omega arith in
      rw (d.0, d.1, d.2, ← next-head s i) (sym (ap (λ (k : ℕ). heads_decide s k at low (drop (body_at i) s)) fewer) ∙ c.rest)

  pub checking-low : r.number < low → false ≡ right_sheet s
  checking-low l = simp (lt-leb low r.number l, and-false) at opened

  pub checking-offset : (r.offset ≡ at → ⊥) → false ≡ right_sheet s
  checking-offset o = rw (ne_eqb r.offset at o) at opened

  pub checking-on : low ≤ r.number → r.offset ≡ at → Checking s (at + r.len) (least r.number) (i + 1)
  checking-on l o = record { counted = omega arith; rest = rw (le-leb low r.number l, eq-eqb r.offset at o) at opened }

pub checking-end : {s : List ℕ} {at low i : ℕ} → Checking s at low i → count_in s ≤ i → eqb at (length s) ≡ right_sheet s
unfolding offsets_right numbers_rise
checking-end {s} {at} {low} {i} c e =
    let z : count_in s - i ≡ 0 = omega arith in
    sym (and-true (eqb at (length s))) ∙ sym (ap (λ (k : ℕ). heads_decide s k at low (drop (body_at i) s)) z) ∙ c.rest

-- ---- a right sheet: its entries come one after the other

-- these entries are left
pub record Walking (s : List ℕ) (i at : ℕ) (rest : List Entry) : Type 0 where
  pub count : i + length rest ≡ count_in s
  pub heads-are : drop (body_at i) s ≡ heads at rest ++ bodies (entries_in s)
  pub bytes-are : drop at s ≡ bodies rest
  pub end_is : at + length (bodies rest) ≡ length s

walking_start : (s : List ℕ) → right_sheet s ≡ true → Walking s 0 (body_in s) (entries_in s)
walking_start s e =
    let r = (sheet-right s e).sheet in
    record { count = omega (arith, entry-count s); heads-are = right-heads s r; bytes-are = body_is s r; end_is = right-body s e }

-- the entry with head r, its bytes at `at`
abbrev pub entry_of : List ℕ → ℕ → Head → Entry
entry_of s at r = record { number = r.number; bytes = part at r.len s }

-- it is the first that is left; these are behind it
record Turned (s : List ℕ) (i at : ℕ) (rest : List Entry) (r : Head) : Type 0 where
  behind : List Entry
  first : rest ≡ entry_of s at r ∷ behind
  long : length (part at r.len s) ≡ r.len
  inside : at + r.len ≤ length s
  on : Walking s (i + 1) (at + r.len) behind

turned : (s : List ℕ) (i at : ℕ) (rest : List Entry) (r : Head) → Walking s i at rest → i < count_in s → HeadOf s (body_at i) r → Turned s i at rest r
unfolding heads bodies le16
turned s i at [] r w more h = absurd (omega (arith, w.count))
turned s i at (e ∷ es) r w more h =
    let d = head-dropped s (body_at i) r h in
    let number : e.number ≡ r.number = sym (d.0 ∙ ap (λ (l : List ℕ). get_or l 0 0) w.heads-are) in
    let len : length e.bytes ≡ r.len = sym (d.2 ∙ ap (λ (l : List ℕ). get_or l 3 0) w.heads-are) in
    let is : part at r.len s ≡ e.bytes = ap (take r.len) w.bytes-are ∙ take_at e.bytes (bodies es) r.len len in
    let both : length (e.bytes ++ bodies es) ≡ length e.bytes + length (bodies es) = length-append e.bytes (bodies es) in
    record {
      behind = es;
      first = ap₂ (λ (n : ℕ) (b : List ℕ). record { number = n; bytes = b } ∷ es) number (sym is);
      long = ap length is ∙ len;
      inside = omega (arith, w.end_is);
      on = record {
        count = omega (arith, w.count);
        heads-are = sym (next-head s i) ∙ ap (drop 4) w.heads-are ∙ ap (λ (n : ℕ). heads (at + n) es ++ bodies (entries_in s)) len;
        bytes-are = sym (drop-drop r.len at s) ∙ ap (drop r.len) w.bytes-are ∙ drop_at e.bytes (bodies es) r.len len;
        end_is = omega (arith, w.end_is);
      };
    }

-- behind the last entry there is none
none_left : (s : List ℕ) (i at : ℕ) (rest : List Entry) → Walking s i at rest → count_in s ≤ i → rest ≡ []
none_left s i at rest w e = nil-of rest (omega (arith, w.count))

-- ---- the values: those that come decide, with what was seen of 4 and 5

-- some entry has number n, and bytes
abbrev there : ℕ → List Entry → Bool
there n es = not (is_empty (find n es))

abbrev values_decide : List Entry → Bool → Bool → Bool
values_decide rest set usage = all formed rest && ((set || there 4 rest) && (usage || there 5 rest))

-- no value of 4 or of 5 is empty
set_full : form 4 [] ≡ false
unfolding form shape set_info
set_full = refl

usage-full : form 5 [] ≡ false
unfolding form shape
usage-full = refl

-- so a formed entry with such a number is there
there-turned : (n : ℕ) → form n [] ≡ false → (x : Entry) (es : List Entry) → formed x ≡ true → (t : Bool) → t || there n (x ∷ es) ≡ (t || eqb x.number n) || there n es
unfolding find
there-turned n full x es f true = refl
there-turned n full x es f false = go x.bytes f (eqb x.number n) refl
  where
    go : (b : List ℕ) → form x.number b ≡ true → (u : Bool) → eqb x.number n ≡ u → not (is_empty (if u then b else find n es)) ≡ u || there n es
    go [] f true e = never (cc (rw (eqb-true x.number n e) at f))
    go (y ∷ b) f true e = refl
    go b f false e = refl

pub record Judging (s : List ℕ) (i at : ℕ) (set usage : Bool) : Type 0 where
  pub rest : List Entry
  pub walks : Walking s i at rest
  pub values : values_decide rest set usage ≡ good_values (entries_in s)

pub judging-start : (s : List ℕ) → right_sheet s ≡ true → Judging s 0 (body_in s) false false
unfolding good_values all
judging-start s e =
    let es : List Entry = entries_in s in
    record { rest = es; walks = walking_start s e; values = ap (λ (t : Bool). all formed es && (there 4 es && t)) (sym (and-true (there 5 es))) }

module _ {s : List ℕ} {i at : ℕ} {set usage : Bool} {r : Head} (j : Judging s i at set usage) (more : i < count_in s) (h : HeadOf s (body_at i) r) where
  turn : Turned s i at j.rest r
  turn = turned s i at j.rest r j.walks more h

  values-opened : values_decide (entry_of s at r ∷ turn.behind) set usage ≡ good_values (entries_in s)
  values-opened = sym (ap (λ (l : List Entry). values_decide l set usage) turn.first) ∙ j.values

  pub value-inside : at + r.len ≤ length s
  value-inside = turn.inside

  pub judging-not : formed (entry_of s at r) ≡ false → false ≡ good_values (entries_in s)
  unfolding all
  judging-not e = rw e at values-opened

  pub judging-on : formed (entry_of s at r) ≡ true → Judging s (i + 1) (at + r.len) (set || eqb r.number 4) (usage || eqb r.number 5)
  unfolding all
  judging-on e =
      let x : Entry = entry_of s at r in
      let es : List Entry = turn.behind in
      let same = ap₂ (λ (t u : Bool). all formed es && (t && u)) (there-turned 4 set_full x es e set) (there-turned 5 usage-full x es e usage) in
      record { rest = es; walks = turn.on; values = sym same ∙ (rw e at values-opened) }

pub judging-end : {s : List ℕ} {i at : ℕ} {set usage : Bool} → Judging s i at set usage → count_in s ≤ i → set && usage ≡ good_values (entries_in s)
unfolding all find
judging-end {s} {i} {at} {set} {usage} j e =
    ap₂ (λ (t u : Bool). t && u) (sym (or-false set)) (sym (or-false usage))
    ∙ sym (ap (λ (l : List Entry). values_decide l set usage) (none_left s i at j.rest j.walks e)) ∙ j.values

-- ---- the row: what is left of the entries and of the table gives what is left of the row

-- the lengths at the places that are left
abbrev left : ℕ → List Entry → List ℕ
left k rest = lengths_of (drop k numbers) rest

pub record Filling (s : List ℕ) (i k at : ℕ) (row : List Part) : Type 0 where
  pub rest : List Entry
  pub walks : Walking s i at rest
  pub placed : k ≤ places
  pub long : length row ≡ places
  pub row-is : take k row ++ row_of at (left k rest) ≡ row_in s
  pub end_is : end_of at (left k rest) ≡ carried_at s

pub filling-start : (s : List ℕ) (row : List Part) → right_sheet s ≡ true → length row ≡ places → Filling s 0 0 (body_in s) row
filling-start s row e l = record { rest = entries_in s; walks = walking_start s e; placed = omega arith; long = l; row-is = refl; end_is = refl }

-- one more part is stored
stored_one : (l : List Part) (k : ℕ) (x : Part) (r whole : List Part) → k < length l → take k l ++ x ∷ r ≡ whole → take (k + 1) (set l k x) ++ r ≡ whole
stored_one l k x r whole h e = rw (add-one, take-suc-set l k x h, append_snoc) e

module _ {s : List ℕ} {i k at : ℕ} {row : List Part} (f : Filling s i k at row) (place : k < places) where
  -- the next length is `len`, and these entries are left
  next : (j len : ℕ) (rest : List Entry) → Walking s j (at + len) rest → left k f.rest ≡ len ∷ left (k + 1) rest
      → Filling s j (k + 1) (at + len) (set row k (record { at = at; len = len }))
  unfolding row_of end_of
  next j len rest w e =
      let p : Part = record { at = at; len = len } in
      record {
        rest = rest;
        walks = w;
        placed = omega arith;
        long = length-set row k p ∙ f.long;
        row-is = stored_one row k p _ _ (omega (arith, f.long)) (ap (λ (l : List ℕ). take k row ++ row_of at l) (sym e) ∙ f.row-is);
        end_is = ap (end_of at) (sym e) ∙ f.end_is;
      }

  -- the first place that is left is k
  here : drop k numbers ≡ get_or numbers k 0 ∷ drop (k + 1) numbers
  here = rw add-one (drop-cons numbers k 0 place)

  passed : left k f.rest ≡ 0 ∷ left (k + 1) f.rest → Filling s i (k + 1) (at + 0) (set row k (record { at = at; len = 0 }))
  passed e = next i 0 f.rest (rw add-zero f.walks) e

  -- no entry is left
  pub filling-none : count_in s ≤ i → Filling s i (k + 1) (at + 0) (set row k (record { at = at; len = 0 }))
  unfolding lengths_of
  filling-none e =
      let z = none_left s i at f.rest f.walks e in
      passed (ap₂ lengths_of here z ∙ ap (λ (l : List Entry). 0 ∷ left (k + 1) l) (sym z))

  -- the next entry has this number, or another
  module _ {r : Head} (more : i < count_in s) (h : HeadOf s (body_at i) r) where
    first-left : Turned s i at f.rest r
    first-left = turned s i at f.rest r f.walks more h

    pub filling-hit : r.number ≡ get_or numbers k 0 → Filling s (i + 1) (k + 1) (at + r.len) (set row k (record { at = at; len = r.len }))
    unfolding lengths_of
    filling-hit e =
        let t = first-left in
        next (i + 1) r.len t.behind t.on (ap₂ lengths_of here t.first ∙ rw (eq-eqb r.number (get_or numbers k 0) e, t.long))

    pub filling-miss : (r.number ≡ get_or numbers k 0 → ⊥) → Filling s i (k + 1) (at + 0) (set row k (record { at = at; len = 0 }))
    unfolding lengths_of
    filling-miss e =
        let z = first-left.first in
        passed (ap₂ lengths_of here z ∙ rw (ne_eqb r.number (get_or numbers k 0) e) (ap (λ (l : List Entry). 0 ∷ left (k + 1) l) (sym z)))

pub filling-end : {s : List ℕ} {i k at : ℕ} {row : List Part} → Filling s i k at row → places ≤ k → (at ≡ carried_at s) × (row ≡ row_in s)
unfolding lengths_of row_of end_of
filling-end {s} {i} {k} {at} {row} f h =
    let z : left k f.rest ≡ [] = ap (λ (ns : List ℕ). lengths_of ns f.rest) (drop_of_length-le numbers h) in
    let a : take k row ≡ row = take_all k row (omega (arith, f.long)) in
    (rw z at f.end_is, rw (z, a, append-nil) at f.row-is)
