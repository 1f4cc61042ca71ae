-- The entries of a sheet, as the loop that prints a line for each walks over them.
use mathlib.Core.Path.{◌≡◌, refl, sym, ap, ap₂, ◌∙◌}
use Prim.Native.Nat.{ℕ, suc, ◌+◌, ◌-◌, ◌*◌, ◌≤◌, ◌<◌}
use native.Mathlib.Nat.{add-zero}
use native.Mathlib.Omega.{arith}
use mathlib.Core.List.{List, [], ◌∷◌, ◌++◌, append_assoc, append-nil}
use lib.ListN.{length, take, drop, get_or, length-append, length-drop}
use lib.Seq.{take-append_seam, drop-append_seam, drop_at, drop-drop, get_or-drop}
use Rattle.format.specs.Bytes.{le16}
use Rattle.format.specs.Pieces.{Stored}
use Rattle.format.specs.Sheet.{Entry, heads, bodies, sheet_of, body_at, count_in, entries_in}
use Rattle.format.proofs.Pieces.{stored-none, stored-then, stored-as}
use Rattle.format.proofs.Sheets.{length-heads, entry-count, body-length}
use Rattle.listing.specs.Listing.{line_of, lines_of}
use Rattle.listing.proofs.Text.{line-length}

-- ---- what is left of a sheet

-- the heads of the entries `left` begin at byte `head` of the sheet s, their bytes at byte `body`
pub record Left (s : List ℕ) (head body : ℕ) (left : List Entry) : Type 0 where
  pub offset : ℕ
  pub behind : List ℕ
  pub named : drop head s ≡ heads offset left ++ behind
  pub laid : drop body s ≡ bodies left
  pub within : body ≤ length s

-- at first that is all of them
all_left : (es : List Entry) → Left (sheet_of es) 2 (body_at (length es)) es
unfolding sheet_of le16
all_left es =
    let n : ℕ = length es in
    record {
      offset = body_at n;
      behind = bodies es;
      named = refl;
      laid = drop_at (le16 n ++ heads (body_at n) es) (bodies es) (body_at n) (omega (arith, length-heads (body_at n) es));
      within = omega (arith, length-append (heads (body_at n) es) (bodies es), length-heads (body_at n) es);
    }

-- what a turn finds at `head` and `body`: the entry e, and the entries es behind it
pub record First (s : List ℕ) (head body : ℕ) (e : Entry) (es : List Entry) : Type 0 where
  pub number : get_or s head 0 ≡ e.number
  pub size : get_or s (head + 3) 0 ≡ length e.bytes
  pub bytes : take (length e.bytes) (drop body s) ≡ e.bytes
  pub inside : head + 4 ≤ length s
  pub whole : body + length e.bytes ≤ length s
  pub others : Left s (head + 4) (body + length e.bytes) es

first : (s : List ℕ) (head body : ℕ) (e : Entry) (es : List Entry) → Left s head body (e ∷ es) → First s head body e es
unfolding heads bodies le16
first s head body e es l =
    let n : ℕ = length e.bytes in
    let h : List ℕ = heads (l.offset + n) es ++ l.behind in
    let four : length (drop head s) ≡ suc (suc (suc (suc (length h)))) = ap length l.named in
    let all : length (drop body s) ≡ length (e.bytes ++ bodies es) = ap length l.laid in
    let w : body + n ≤ length s = omega (arith, l.within, all, length-append e.bytes (bodies es), length-drop body s) in
    record {
      number = ap (λ (i : ℕ). get_or s i 0) (sym (add-zero head)) ∙ sym (get_or-drop head s 0 0) ∙ ap (λ (r : List ℕ). get_or r 0 0) l.named;
      size = sym (get_or-drop head s 3 0) ∙ ap (λ (r : List ℕ). get_or r 3 0) l.named;
      bytes = ap (take n) l.laid ∙ take-append_seam e.bytes (bodies es);
      inside = omega (arith, four, length-drop head s);
      whole = w;
      others = record {
        offset = l.offset + n;
        behind = l.behind;
        named = sym (drop-drop 4 head s) ∙ ap (drop 4) l.named;
        laid = sym (drop-drop n body s) ∙ ap (drop n) l.laid ∙ drop-append_seam e.bytes (bodies es);
        within = w;
      };
    }

-- ---- the loop

-- the room that lines take: six bytes besides the hex are enough for each
abbrev room_of : List Entry → ℕ
room_of es = 6 * length es + 2 * length (bodies es)

-- The lines `done` of the first i entries are stored in o from `at` on, which is then d; the place behind them is `end`. Lines follow for
-- the entries `left`, the rest of n, and there is room for them.
pub record Printing (o : List ℕ) (at : ℕ) (s : List ℕ) (n i body : ℕ) (d : List ℕ) (end : ℕ) : Type 0 where
  pub left : List Entry
  pub done : List ℕ
  pub stands : Left s (body_at i) body left
  pub still : i + length left ≡ n
  pub text : done ++ lines_of left ≡ lines_of (entries_in s)
  pub start : at ≤ length o
  pub kept : length d ≡ length o
  pub laid : Stored o at done end d
  pub room : end + room_of left ≤ length o

-- before the first turn
pub printing-starts : (o : List ℕ) (at : ℕ) (s : List ℕ) (n : ℕ) → sheet_of (entries_in s) ≡ s → n ≡ count_in s → at + 2 * length s ≤ length o
    → Printing o at s n 0 (body_at n) o at
printing-starts o at s n e c h =
    let es : List Entry = entries_in s in
    let k : length es ≡ n = entry-count s ∙ sym c in
    record {
      left = es;
      done = [];
      stands = rw (k, e) at (all_left es);
      still = omega (arith, k);
      text = refl;
      start = omega arith;
      kept = refl;
      laid = stored-none o at;
      room = omega (arith, body-length s e);
    }

-- what a turn reads and stores has its place
pub record Within (s : List ℕ) (head body end : ℕ) (d : List ℕ) : Type 0 where
  pub inside : head + 4 ≤ length s
  pub whole : body + get_or s (head + 3) 0 ≤ length s
  pub room : end + (6 + 2 * get_or s (head + 3) 0) ≤ length d

lines-first : (e : Entry) (es : List Entry) → lines_of (e ∷ es) ≡ line_of e.number e.bytes ++ lines_of es
unfolding lines_of
lines-first e es = refl

no_lines : lines_of [] ≡ []
unfolding lines_of
no_lines = refl

bodies-first : (e : Entry) (es : List Entry) → length (bodies (e ∷ es)) ≡ length e.bytes + length (bodies es)
unfolding bodies
bodies-first e es = length-append e.bytes (bodies es)

module _ {o : List ℕ} {at : ℕ} {s : List ℕ} {n i body : ℕ} {d : List ℕ} {end : ℕ} (p : Printing o at s n i body d end) where
  pub can-read : i < n → Within s (body_at i) body end d
  can-read h = go p.left p.stands p.still p.room
    where
      go : (left : List Entry) → Left s (body_at i) body left → i + length left ≡ n → end + room_of left ≤ length o → Within s (body_at i) body end d
      go [] l k r = absurd (omega arith)
      go (e ∷ es) l k r =
          let f = first s (body_at i) body e es l in
          record { inside = f.inside; whole = omega (arith, f.size, f.whole); room = omega (arith, p.kept, f.size, bodies-first e es) }

  -- after a turn, which stored the line of the next entry
  pub printing-on : (r : ℕ) (d' : List ℕ) (size : ℕ) → i < n → size ≡ get_or s (body_at i + 3) 0 → get_or s (body_at i) 0 < 256 → length d' ≡ length d
      → Stored d end (line_of (get_or s (body_at i) 0) (take (body + size - body) (drop body s))) r d'
      → Printing o at s n (i + 1) (body + size) d' r
  printing-on r d' size h z b same st = go p.left p.stands p.still p.text p.room
    where
      go : (left : List Entry) → Left s (body_at i) body left → i + length left ≡ n → p.done ++ lines_of left ≡ lines_of (entries_in s)
          → end + room_of left ≤ length o → Printing o at s n (i + 1) (body + size) d' r
      go [] l k t m = absurd (omega arith)
      go (e ∷ es) l k t m =
          let f = first s (body_at i) body e es l in
          let long : size ≡ length e.bytes = z ∙ f.size in
          let taken : body + size - body ≡ length e.bytes = omega (arith, long) in
          let four : body_at (i + 1) ≡ body_at i + 4 = omega arith in
          let line : List ℕ = line_of e.number e.bytes in
          let printed : Stored d end line r d' = stored-as d d' _ _ end r (ap₂ line_of f.number (ap (λ (j : ℕ). take j (drop body s)) taken ∙ f.bytes)) st in
          record {
            left = es;
            done = p.done ++ line;
            stands = rw (four, long) f.others;
            still = omega arith;
            text = append_assoc p.done line (lines_of es) ∙ ap (λ (x : List ℕ). p.done ++ x) (sym (lines-first e es)) ∙ t;
            start = p.start;
            kept = same ∙ p.kept;
            laid = stored-then o d d' p.done line at end r p.start p.laid printed;
            room = omega (arith, printed.0, bodies-first e es, line-length e.number e.bytes (omega (arith, f.number)));
          }

  -- after the last turn every line is stored
  pub printing-ends : n ≤ i → Stored o at (lines_of (entries_in s)) end d
  printing-ends h = go p.left p.still p.text
    where
      go : (left : List Entry) → i + length left ≡ n → p.done ++ lines_of left ≡ lines_of (entries_in s) → Stored o at (lines_of (entries_in s)) end d
      go [] k t = stored-as o d _ _ at end (sym (append-nil p.done) ∙ ap (λ (x : List ℕ). p.done ++ x) (sym no_lines) ∙ t) p.laid
      go (e ∷ es) k t = absurd (omega arith)
