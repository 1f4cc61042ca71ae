-- The sheet of a row and of the carried blocks, piece by piece; and what is answered of it.
use mathlib.Core.Path.{◌≡◌, refl, sym, ap, ap₂, ◌∙◌}
use mathlib.Core.List.{List, [], ◌∷◌, ◌++◌, map, append_assoc, append-nil}
use Prim.Native.Nat.{ℕ, ◌+◌, ◌*◌, ◌/◌, ◌%◌, ◌≤◌}
use native.Mathlib.Nat.{add-zero}
use native.Mathlib.Omega.{arith}
use mathlib.Core.Bool.{not, cond}
use lib.Dec.{leb, eqb}
use lib.ListN.{length, length-append}
use borrow.Author.Tests.{ne_eqb, le-leb, leb-true}
use Rattle.std.specs.Prelude.{Ok, Err}
use Rattle.std.proofs.lemmas.List.Sums.{sum_by-cons}
use Rattle.format.specs.Answers.{got, refused, plain, Step, need, in_order}
use Rattle.format.specs.Bytes.{le16, joined, filled}
use Rattle.format.specs.Elements.{places, numbers}
use Rattle.format.specs.Sheet.{Entry, heads, bodies, body_at, sheet_of, entries_at, carried_entries, entries}
use Rattle.format.specs.Numbers.{reason_number}
use Rattle.format.specs.declared.Part.{Part}
use Rattle.format.specs.declared.Reason.{Reason}
use Rattle.format.proofs.Tests.{never}
use Rattle.format.proofs.Answers.{next-inv, works, worked, refused-with, afterwards-got, afterwards-refused}
use Rattle.format.proofs.Sheets.{length-sheet}
use Rattle.format.proofs.Offsets.{fit-total}
use Rattle.format.proofs.Pieces.{stored-front}
use Rattle.rows.specs.Rows.{slots_at}
use Rattle.rows.proofs.Rows.{lens, slots_length, lengths-are}
use Rattle.chain.proofs.Laws.{carried-start, carried-room}
use Rattle.render.specs.Rendering.{carried_on, heads_by, count_by, size_by, Renderable, rendering, Rendered}
use Rattle.render.proofs.Storing.{Storing, storing-start, storing-end}
use Rattle.render.proofs.Lengths.{heads-by}

-- ---- the pieces of a sheet

heads-append : (at : ℕ) (a b : List Entry) → heads at (a ++ b) ≡ heads at a ++ heads (at + length (bodies a)) b
unfolding heads bodies le16
heads-append at [] b = ap (λ (k : ℕ). heads k b) (sym (add-zero at))
heads-append at (e ∷ a) b =
    let l : ℕ = length e.bytes in
    let same : at + l + length (bodies a) ≡ at + length (e.bytes ++ bodies a) = omega (arith, length-append e.bytes (bodies a)) in
    ap (λ (r : List ℕ). e.number ∷ at % 256 ∷ at / 256 % 256 ∷ l ∷ r) (heads-append (at + l) a b ∙ ap (λ (k : ℕ). heads (at + l) a ++ heads k b) same)

bodies-append : (a b : List Entry) → bodies (a ++ b) ≡ bodies a ++ bodies b
unfolding bodies
bodies-append [] b = refl
bodies-append (e ∷ a) b = ap (λ (r : List ℕ). e.bytes ++ r) (bodies-append a b) ∙ sym (append_assoc e.bytes (bodies a) (bodies b))

-- carried blocks
carried-tell : (cs : List (List ℕ)) → (length (carried_entries cs) ≡ length cs) × (bodies (carried_entries cs) ≡ joined cs)
unfolding bodies carried_entries joined
carried-tell [] = (refl, refl)
carried-tell (c ∷ cs) = let r = carried-tell cs in (omega (arith, r.0), ap (λ (x : List ℕ). c ++ x) r.1)

-- strings for some numbers, as long as a row says
row-tell : (ns : List ℕ) (ss : List (List ℕ)) (row : List Part) → length ss ≡ length ns → map length ss ≡ lens row
    → (count_by row ≡ length (entries_at ns ss)) × (size_by row ≡ length (joined ss)) × (bodies (entries_at ns ss) ≡ joined ss)
unfolding entries_at joined bodies
row-tell [] [] [] l e = (refl, refl, refl)
row-tell [] [] (p ∷ row) l e = never (cc)
row-tell [] (s ∷ ss) row l e = absurd (omega (arith, l))
row-tell (n ∷ ns) [] row l e = absurd (omega (arith, l))
row-tell (n ∷ ns) (s ∷ ss) [] l e = never (cc)
row-tell (n ∷ ns) ([] ∷ ss) (p ∷ row) l e =
    let z : p.len ≡ 0 = cc in
    let f : map length ss ≡ lens row = cc in
    let r = row-tell ns ss row (omega (arith, l)) f in
    (rw (sum_by-cons (λ (q : Part). cond (not (eqb q.len 0)) 1 0) p row, z) (omega (arith, r.0)), rw (sum_by-cons (λ (q : Part). q.len) p row, z) (omega (arith, r.1)), r.2)
row-tell (n ∷ ns) ((x ∷ s) ∷ ss) (p ∷ row) l e =
    let z : p.len ≡ length (x ∷ s) = cc in
    let f : map length ss ≡ lens row = cc in
    let r = row-tell ns ss row (omega (arith, l)) f in (
      rw (sum_by-cons (λ (q : Part). cond (not (eqb q.len 0)) 1 0) p row, ne_eqb p.len 0 (omega (arith, z))) (omega (arith, r.0)),
      rw (sum_by-cons (λ (q : Part). q.len) p row) (omega (arith, z, r.1, length-append (x ∷ s) (joined ss))),
      ap (λ (y : List ℕ). (x ∷ s) ++ y) r.2,
    )

-- ---- what the code counts

-- m elements of a row have bytes, k together
pub record Counted (t made : List ℕ) (row : List Part) (count size : ℕ) (blocks : List ℕ) (m k : ℕ) : Type 0 where
  pub given : Renderable t made row count size blocks
  pub each : length row ≡ places
  pub few : m ≤ places
  pub elements : m ≡ count_by row
  pub small : k ≤ 255 * places
  pub bytes : k ≡ size_by row

-- a whole chain has few carried blocks
pub few-blocks : {t made : List ℕ} {row : List Part} {count size : ℕ} {blocks : List ℕ} → Renderable t made row count size blocks → (3 * count ≤ size) × (size ≤ 2048)
few-blocks {t} g = let r = carried-room t 34 (carried_on t) (carried-start t g.whole) in omega (arith, g.short, g.counted, g.sized)

-- 14 and 2, as the code tests them: the sheet ends at byte `end`, and the buffer has `room` bytes
abbrev steps : ℕ → ℕ → List Step
steps end room = need 14 (leb end 65535) ∷ need 2 (leb end room) ∷ []

abbrev pub tested : ℕ → ℕ → Step
tested end room = in_order (steps end room) tt

module _ {t made : List ℕ} {row : List Part} {count size : ℕ} {blocks : List ℕ} {m k : ℕ} (x : Counted t made row count size blocks m k) where
  abbrev slots : List (List ℕ)
  slots = slots_at (t ++ made) row

  abbrev numbered : List Entry
  numbered = entries_at numbers slots

  abbrev carried : List Entry
  carried = carried_entries (carried_on t)

  abbrev all : List Entry
  all = entries (record { slots = slots; carried = carried_on t })

  abbrev offset : ℕ
  offset = 2 + 4 * (m + count)

  abbrev pub end : ℕ
  end = offset + k + size

  pub short : end ≤ 65535
  short = let f = few-blocks x.given in omega (arith, x.few, x.small)

  lengths : map length slots ≡ lens row
  lengths = lengths-are t made row x.given.row

  told : (m ≡ length numbered) × (k ≡ length (joined slots)) × (bodies numbered ≡ joined slots)
  told =
      let r = row-tell numbers slots row (omega (arith, x.each, slots_length (t ++ made) row)) lengths in
      (x.elements ∙ r.0, x.bytes ∙ r.1, r.2)

  entry-count : length all ≡ m + count
  unfolding entries
  entry-count = omega (arith, length-append numbered carried, told.0, (carried-tell (carried_on t)).0, x.given.counted)

  bytes-all : bodies all ≡ joined slots ++ joined (carried_on t)
  unfolding entries
  bytes-all = bodies-append numbered carried ∙ ap₂ (λ (a b : List ℕ). a ++ b) told.2 (carried-tell (carried_on t)).1

  sheet-long : length (sheet_of all) ≡ end
  sheet-long = omega (arith, length-sheet all, entry-count, ap length bytes-all, length-append (joined slots) (joined (carried_on t)), told.1, x.given.sized)

  -- ---- the sheet's pieces: the count, the heads of the row and of the carried blocks, the bytes of both

  abbrev pub pieces : List (List ℕ)
  pieces = le16 (m + count) ∷ joined (heads_by offset numbers row) ∷ heads (offset + k) carried ∷ joined slots ∷ joined (carried_on t) ∷ []

  sheet-pieces : joined pieces ≡ sheet_of all
  unfolding sheet_of entries joined
  sheet-pieces =
      let first : joined (heads_by offset numbers row) ≡ heads offset numbered = heads-by offset numbers slots row lengths in
      let long : k ≡ length (bodies numbered) = told.1 ∙ ap length (sym told.2) in
      ap₂ (λ (a b : List ℕ). le16 (m + count) ++ (a ++ (heads (offset + k) carried ++ b))) first (ap (λ (b : List ℕ). joined slots ++ b) (append-nil (joined (carried_on t))) ∙ sym bytes-all)
      ∙ ap (λ (n : ℕ). le16 (m + count) ++ (heads offset numbered ++ (heads (offset + n) carried ++ bodies all))) long
      ∙ ap (λ (r : List ℕ). le16 (m + count) ++ r) (sym (append_assoc (heads offset numbered) (heads (offset + length (bodies numbered)) carried) (bodies all)) ∙ ap (λ (h : List ℕ). h ++ bodies all) (sym (heads-append offset numbered carried)))
      ∙ ap (λ (n : ℕ). le16 n ++ (heads (2 + 4 * n) all ++ bodies all)) (sym entry-count)

  module _ (buffer : List ℕ) where
    -- the buffer is `out`, and where the pieces ps are stored there from byte `at` on, the sheet is there
    abbrev pub Filling : List ℕ → List (List ℕ) → ℕ → Type 0
    Filling out ps at = Storing buffer 0 (sheet_of all) out ps at

    answer-is : rendering all buffer ≡ in_order (steps end (length buffer)) end
    answer-is = rw (sheet-long, fit-total (body_at (length all)) all (omega (arith, length-sheet all, sheet-long, short)), le-leb end 65535 short)

    -- a refusal goes out unchanged
    pub rendered-refused : (r : Reason) → tested end (length buffer) ≡ refused (plain (reason_number r)) → Rendered all buffer (Err r) buffer
    rendered-refused r p =
        let n = plain (reason_number r) in
        let e = answer-is ∙ refused-with (steps end (length buffer)) tt end n p in
        record { answered = sym e; left = sym (afterwards-refused (rendering all buffer) n (filled (sheet_of all) buffer) buffer e) }

    module _ (p : tested end (length buffer) ≡ got tt) where
      pub begun : Filling buffer pieces 0
      begun =
          let room : end ≤ length buffer = leb-true end (length buffer) (next-inv 2 _ _ tt tt (next-inv 14 _ _ tt tt p).1).0 in
          storing-start pieces sheet-pieces (omega (arith, sheet-long))

      pub rendered-done : {r : ℕ} {d : List ℕ} → Filling d [] r → Rendered all buffer (Ok r) d
      rendered-done {r} {d} w =
          let e = answer-is ∙ works (steps end (length buffer)) end (worked (steps end (length buffer)) tt tt p).0 in
          let f = stored-front buffer d (sheet_of all) r (storing-end w refl) in
          record { answered = ap got (f.0 ∙ sheet-long) ∙ sym e; left = f.1 ∙ sym (afterwards-got (rendering all buffer) end (filled (sheet_of all) buffer) buffer e) }
