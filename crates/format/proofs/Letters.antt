-- Text against code points. `letter-rows`: the encoding of every letter is one whole row of the syntax. `row-letters`: whatever stands in a
-- row is the encoding of a letter, so no row has an overlong form, a surrogate, a value above 10FFFF or a control of the list.
use Rattle.std.specs.Prelude.{if◌then◌else◌}
use mathlib.Core.Path.{◌≡◌, refl, sym, ap, ap₂, ◌∙◌}
use mathlib.Core.Logic.{◌⊎◌, inl, inr}
use Prim.Native.Nat.{ℕ, zero, suc, ◌+◌, ◌-◌, ◌*◌, ◌/◌, ◌%◌, ◌≤◌, ◌<◌}
use native.Mathlib.Omega.{arith}
use mathlib.Core.Bool.{Bool, true, false, not, ◌&&◌, ◌||◌}
use mathlib.Core.List.{List, [], ◌∷◌, ◌++◌, append_assoc, append-nil}
use lib.Dec.{leb, ltb, eqb}
use lib.ListN.{length, take}
use borrow.Author.Tests.{leb-true, leb-false, ltb-true, eqb-false, le-leb, lt-leb, ne_eqb}
use Rattle.format.specs.Bytes.{all, between, joined}
use Rattle.format.specs.Text.{Range, ◌to◌, tail, Row, ◌then◌, rows, after, rows_from, text, scalar, control, letter, six, encode, encodings, Encoded}
use Rattle.format.proofs.Tests.{le-or-lt, never, and_l, and_r, and_i, and-iff, not_t, or-inv, or-false, or-f}
use Rattle.format.proofs.Text.{between-i, between-facts, between-over, between-under, between-no, leads}

-- ---- what a letter is

record Letter (v : ℕ) : Type 0 where
  low : 0x20 ≤ v
  seen : v ≡ 0x7F → ⊥
  top : v ≤ 0x10FFFF
  whole : (v < 0xD800) ⊎ (0xDFFF < v)

letter-facts : (v : ℕ) → letter v ≡ true → Letter v
unfolding letter scalar control
letter-facts v e =
    let surrogate : Bool = between 0xD800 0xDFFF v in
    let low : Bool = leb v 0x1F || eqb v 0x7F in
    let s = and_l (leb v 0x10FFFF && not surrogate) (not low) e in
    let c = or-false (leb v 0x1F) (eqb v 0x7F) (not_t low (and_r (leb v 0x10FFFF && not surrogate) (not low) e)) in
    record {
      low = omega (arith, leb-false v 0x1F c.0);
      seen = eqb-false v 0x7F c.1;
      top = leb-true v 0x10FFFF (and_l (leb v 0x10FFFF) (not surrogate) s);
      whole = between-no 0xD800 0xDFFF v (not_t surrogate (and_r (leb v 0x10FFFF) (not surrogate) s));
    }

letter-of : (v : ℕ) → Letter v → letter v ≡ true
unfolding letter scalar control
letter-of v l =
    and_i (and_i (le-leb v 0x10FFFF l.top) (rw (outside l.whole)))
    (rw (or-f (lt-leb v 0x1F (omega (arith, l.low))) (ne_eqb v 0x7F l.seen)))
  where
    outside : (v < 0xD800) ⊎ (0xDFFF < v) → between 0xD800 0xDFFF v ≡ false
    outside (inl h) = between-under 0xD800 0xDFFF v h
    outside (inr h) = between-over 0xD800 0xDFFF v h

-- ---- the encoding, by the length that the value asks

module _ (v : ℕ) where
  encode-1 : v ≤ 0x7F → encode v ≡ v ∷ []
  unfolding encode
  encode-1 h = rw (le-leb v 0x7F h)

  encode-2 : 0x7F < v → v ≤ 0x7FF → encode v ≡ (0xC0 + v / 64) ∷ six 1 v ∷ []
  unfolding encode
  encode-2 l h = rw (lt-leb v 0x7F l, le-leb v 0x7FF h)

  encode-3 : 0x7FF < v → v ≤ 0xFFFF → encode v ≡ (0xE0 + v / 4096) ∷ six 64 v ∷ six 1 v ∷ []
  unfolding encode
  encode-3 l h = rw (lt-leb v 0x7F (omega arith), lt-leb v 0x7FF l, le-leb v 0xFFFF h)

  encode-4 : 0xFFFF < v → encode v ≡ (0xF0 + v / 262144) ∷ six 4096 v ∷ six 64 v ∷ six 1 v ∷ []
  unfolding encode
  encode-4 l = rw (lt-leb v 0x7F (omega arith), lt-leb v 0x7FF (omega arith), lt-leb v 0xFFFF l)

-- ---- whole rows

-- bytes that stand in ranges, one in each
pub data Fits : List Range → List ℕ → Type 0 where
  end : Fits [] []
  also : {low high b : ℕ} {due : List Range} {f : List ℕ} → low ≤ b → b ≤ high → Fits due f → Fits (low to high ∷ due) (b ∷ f)

-- a byte, and behind it what its row says
pub record Sequence (s : List ℕ) : Type 0 where
  pub lead : ℕ
  pub follow : List ℕ
  pub is : s ≡ lead ∷ follow
  pub fits : Fits (after lead rows) follow

-- ---- every letter's encoding is a row

-- six bits are a tail
six-fits : {due : List Range} {f : List ℕ} (x : ℕ) → Fits due f → Fits (tail ∷ due) ((0x80 + x % 64) ∷ f)
six-fits x p =
    let l : 0x80 ≤ 0x80 + x % 64 = omega arith in
    let h : 0x80 + x % 64 ≤ 0xBF = omega arith in
    also l h p

module _ (v : ℕ) where
  by : (b : ℕ) (f : List ℕ) (due : List Range) → encode v ≡ b ∷ f → after b rows ≡ due → Fits due f → Sequence (encode v)
  by b f due is e p = record { lead = b; follow = f; is = is; fits = rw e p }

  three : 0x7FF < v → v ≤ 0xFFFF → (v < 0xD800) ⊎ (0xDFFF < v) → (v ≤ 0xFFF) ⊎ (0xFFF < v) → (v ≤ 0xCFFF) ⊎ (0xCFFF < v) → Sequence (encode v)
  unfolding rows all
  three l h w (inl k) m = by _ _ _ (encode-3 v l h) (leads 2 (0xE0 + v / 4096) refl refl (omega arith) (omega arith)) (also (omega arith) (omega arith) (six-fits (v / 1) end))
  three l h w (inr k) (inl m) = by _ _ _ (encode-3 v l h) (leads 3 (0xE0 + v / 4096) refl refl (omega arith) (omega arith)) (six-fits (v / 64) (six-fits (v / 1) end))
  three l h (inl w) (inr k) (inr m) = by _ _ _ (encode-3 v l h) (leads 4 (0xE0 + v / 4096) refl refl (omega arith) (omega arith)) (also (omega arith) (omega arith) (six-fits (v / 1) end))
  three l h (inr w) (inr k) (inr m) = by _ _ _ (encode-3 v l h) (leads 5 (0xE0 + v / 4096) refl refl (omega arith) (omega arith)) (six-fits (v / 64) (six-fits (v / 1) end))

  four : 0xFFFF < v → v ≤ 0x10FFFF → (v ≤ 0x3FFFF) ⊎ (0x3FFFF < v) → (v ≤ 0xFFFFF) ⊎ (0xFFFFF < v) → Sequence (encode v)
  unfolding rows all
  four l h (inl k) m = by _ _ _ (encode-4 v l) (leads 6 (0xF0 + v / 262144) refl refl (omega arith) (omega arith)) (also (omega arith) (omega arith) (six-fits (v / 64) (six-fits (v / 1) end)))
  four l h (inr k) (inl m) = by _ _ _ (encode-4 v l) (leads 7 (0xF0 + v / 262144) refl refl (omega arith) (omega arith)) (six-fits (v / 4096) (six-fits (v / 64) (six-fits (v / 1) end)))
  four l h (inr k) (inr m) = by _ _ _ (encode-4 v l) (leads 8 (0xF0 + v / 262144) refl refl (omega arith) (omega arith)) (also (omega arith) (omega arith) (six-fits (v / 64) (six-fits (v / 1) end)))

  pub letter-rows : letter v ≡ true → Sequence (encode v)
  unfolding rows all
  letter-rows e = go (letter-facts v e) (le-or-lt 0x7F v) (le-or-lt 0x7FF v) (le-or-lt 0xFFFF v)
    where
      go : Letter v → (v ≤ 0x7F) ⊎ (0x7F < v) → (v ≤ 0x7FF) ⊎ (0x7FF < v) → (v ≤ 0xFFFF) ⊎ (0xFFFF < v) → Sequence (encode v)
      go f (inl h) m n = by _ _ _ (encode-1 v h) (leads 0 v refl refl f.low (omega (arith, f.seen))) end
      go f (inr l) (inl h) n = by _ _ _ (encode-2 v l h) (leads 1 (0xC0 + v / 64) refl refl (omega arith) (omega arith)) (six-fits (v / 1) end)
      go f (inr l) (inr m) (inl h) = three m h f.whole (le-or-lt 0xFFF v) (le-or-lt 0xCFFF v)
      go f (inr l) (inr m) (inr h) = four h f.top (le-or-lt 0x3FFFF v) (le-or-lt 0xFFFFF v)

-- ---- whatever stands in a row is a letter's encoding

record Named (s : List ℕ) : Type 0 where
  code : ℕ
  good : letter code ≡ true
  is : encode code ≡ s

-- the value that two, three and four bytes spell; what their leading bits weigh is taken off
abbrev value2 : ℕ → ℕ → ℕ
value2 b c = b * 64 + c - 0x3080

abbrev value3 : ℕ → ℕ → ℕ → ℕ
value3 b c d = b * 4096 + c * 64 + d - 0xE2080

abbrev value4 : ℕ → ℕ → ℕ → ℕ → ℕ
value4 a b c d = a * 262144 + b * 4096 + c * 64 + d - 0x3C82080

-- Of a row: its bytes have the leading bits of their place; its least value is too large for fewer bytes; and between the least and the
-- greatest there are only letters.
abbrev spells : Row → Bool
spells ((low to high) then []) = leb 0x20 low && leb high 0x7E
spells ((low to high) then ((l to h) ∷ [])) = leb 0xC0 low && leb high 0xDF && leb 0x80 l && leb h 0xBF && ltb 0x7F (value2 low l)
spells ((low to high) then ((l to h) ∷ (m to n) ∷ [])) =
    leb 0xE0 low && leb high 0xEF && leb 0x80 l && leb h 0xBF && leb 0x80 m && leb n 0xBF
    && ltb 0x7FF (value3 low l m) && (ltb (value3 high h n) 0xD800 || ltb 0xDFFF (value3 low l m))
spells ((low to high) then ((l to h) ∷ (m to n) ∷ (p to q) ∷ [])) =
    leb 0xF0 low && leb high 0xF7 && leb 0x80 l && leb h 0xBF && leb 0x80 m && leb n 0xBF && leb 0x80 p && leb q 0xBF
    && ltb 0xFFFF (value4 low l m p) && leb (value4 high h n q) 0x10FFFF
spells (lead then (a ∷ b ∷ c ∷ d ∷ due)) = false

pub row-letters : all spells rows ≡ true
unfolding rows all
row-letters = refl

-- what stands in such a row is a letter's encoding
spelled : (low high : ℕ) (follow : List Range) → spells (low to high then follow) ≡ true
    → (b : ℕ) (f : List ℕ) → low ≤ b → b ≤ high → Fits follow f → Named (b ∷ f)
spelled low high [] e b _ p q end =
    let t = simp and-iff at e in
    record {
      code = b;
      good = letter-of b (record { low = omega (arith, leb-true); seen = λ z. omega (arith, leb-true); top = omega (arith, leb-true); whole = inl (omega (arith, leb-true)) });
      is = encode-1 b (omega (arith, leb-true));
    }
spelled low high ((l₁ to h₁) ∷ []) e b _ p q (also {b = c} m n end) =
    let t = simp and-iff at e in
    let v : ℕ = value2 b c in
    let short : 0x7F < v = omega (arith, leb-true, ltb-true) in
    let top : v ≤ 0x7FF = omega (arith, leb-true) in
    record {
      code = v;
      good = letter-of v (record { low = omega arith; seen = λ z. omega arith; top = omega arith; whole = inl (omega arith) });
      is = encode-2 v short top ∙ ap₂ (λ (x y : ℕ). x ∷ y ∷ []) (omega (arith, leb-true)) (omega (arith, leb-true));
    }
spelled low high ((l₁ to h₁) ∷ (l₂ to h₂) ∷ []) e b _ p q (also {b = c} m n (also {b = d} r s end)) =
    let t = simp and-iff at e in
    let v : ℕ = value3 b c d in
    let short : 0x7FF < v = omega (arith, leb-true, ltb-true) in
    let top : v ≤ 0xFFFF = omega (arith, leb-true) in
    let whole : (v < 0xD800) ⊎ (0xDFFF < v) = elim (or-inv (ltb (value3 high h₁ h₂) 0xD800) (ltb 0xDFFF (value3 low l₁ l₂)) t.1) [ inl k ↦ inl (omega (arith, leb-true, ltb-true)) | inr k ↦ inr (omega (arith, leb-true, ltb-true)) ] in
    record {
      code = v;
      good = letter-of v (record { low = omega arith; seen = λ z. omega arith; top = omega arith; whole = whole });
      is = encode-3 v short top ∙ ap₂ (λ (x : ℕ) (s : List ℕ). x ∷ s) (omega (arith, leb-true)) (ap₂ (λ (x y : ℕ). x ∷ y ∷ []) (omega (arith, leb-true)) (omega (arith, leb-true)));
    }
spelled low high ((l₁ to h₁) ∷ (l₂ to h₂) ∷ (l₃ to h₃) ∷ []) e a _ p q (also {b = b} m n (also {b = c} r s (also {b = d} j k end))) =
    let t = simp and-iff at e in
    let v : ℕ = value4 a b c d in
    let short : 0xFFFF < v = omega (arith, leb-true, ltb-true) in
    let top : v ≤ 0x10FFFF = omega (arith, leb-true) in
    record {
      code = v;
      good = letter-of v (record { low = omega arith; seen = λ z. omega arith; top = top; whole = inr (omega arith) });
      is = encode-4 v short ∙ ap₂ (λ (x y : List ℕ). x ++ y) (ap₂ (λ (x y : ℕ). x ∷ y ∷ []) (omega (arith, leb-true)) (omega (arith, leb-true))) (ap₂ (λ (x y : ℕ). x ∷ y ∷ []) (omega (arith, leb-true)) (omega (arith, leb-true)));
    }
spelled low high (r₁ ∷ r₂ ∷ r₃ ∷ r₄ ∷ due) e b f p q k = never (cc)

row_named : (b : ℕ) (f : List ℕ) (rs : List Row) → all spells rs ≡ true → Fits (after b rs) f → Named (b ∷ f)
unfolding all after
row_named b _ [] e (also l h end) = absurd (omega arith)
row_named b f (((low to high) then follow) ∷ rs) e q = go (between low high b) refl q (row_named b f rs (and_r (spells (low to high then follow)) (all spells rs) e))
  where
    go : (t : Bool) → between low high b ≡ t → Fits (if t then follow else after b rs) f → (Fits (after b rs) f → Named (b ∷ f)) → Named (b ∷ f)
    go true i k n =
        let h = between-facts low high b i in
        spelled low high follow (and_l (spells (low to high then follow)) (all spells rs) e) b f h.0 h.1 k
    go false i k n = n k

-- ---- so a text is a row of letters

-- the bytes that are due, and then letters
record Parsed (due : List Range) (s : List ℕ) : Type 0 where
  front : List ℕ
  fits : Fits due front
  codes : List ℕ
  letters : all letter codes ≡ true
  is : s ≡ front ++ encodings codes

parsed : (due : List Range) (s : List ℕ) → rows_from due s ≡ true → Parsed due s
unfolding rows_from all joined
parsed [] [] e = record { front = []; fits = end; codes = []; letters = refl; is = refl }
parsed [] (b ∷ s) e =
    let p = parsed (after b rows) s e in
    let n = row_named b p.front rows row-letters p.fits in
    record {
      front = [];
      fits = end;
      codes = n.code ∷ p.codes;
      letters = and_i n.good p.letters;
      is = ap (λ (x : List ℕ). b ∷ x) p.is ∙ sym (ap (λ (x : List ℕ). x ++ encodings p.codes) n.is);
    }
parsed (r ∷ due) [] e = never (cc)
parsed ((low to high) ∷ due) (b ∷ s) e =
    let p = parsed due s (and_r (between low high b) (rows_from due s) e) in
    let h = between-facts low high b (and_l (between low high b) (rows_from due s) e) in
    record {
      front = b ∷ p.front;
      fits = also h.0 h.1 p.fits;
      codes = p.codes;
      letters = p.letters;
      is = ap (λ (x : List ℕ). b ∷ x) p.is;
    }

pub text-letters : (s : List ℕ) → text s ≡ true → Encoded s
unfolding text
text-letters s e = let p = parsed [] s e in record { codes = p.codes; letters = p.letters; is = p.is ∙ ap (λ (x : List ℕ). x ++ encodings p.codes) (nil p.fits) }
  where
    nil : {f : List ℕ} → Fits [] f → f ≡ []
    nil end = refl

-- ---- and a row of letters is a text, unless the last is cut

fits-passed : {due : List Range} {f : List ℕ} (s : List ℕ) → Fits due f → rows_from due (f ++ s) ≡ rows_from [] s
unfolding rows_from
fits-passed s end = refl
fits-passed s (also l h p) = rw (between-i l h) (fits-passed s p)

fits_cut : {due : List Range} {f : List ℕ} (k : ℕ) → Fits due f → k < length f → rows_from due (take k f) ≡ false
unfolding rows_from
fits_cut k end h = absurd (omega arith)
fits_cut zero (also l u p) h = refl
fits_cut (suc k) (also l u p) h = rw (between-i l u) (fits_cut k p (omega arith))

-- letters do not matter before what follows
letters-passed : (vs s : List ℕ) → all letter vs ≡ true → rows_from [] (encodings vs ++ s) ≡ rows_from [] s
unfolding rows_from all joined
letters-passed [] s e = refl
letters-passed (v ∷ vs) s e =
    let q = letter-rows v (and_l (letter v) (all letter vs) e) in
    ap (rows_from []) (append_assoc (encode v) (encodings vs) s) ∙ ap (λ (x : List ℕ). rows_from [] (x ++ (encodings vs ++ s))) q.is ∙ fits-passed (encodings vs ++ s) q.fits
    ∙ letters-passed vs s (and_r (letter v) (all letter vs) e)

pub letters-text : (s : List ℕ) → Encoded s → text s ≡ true
unfolding text rows_from
letters-text s c = ap (rows_from []) (c.is ∙ sym (append-nil (encodings c.codes))) ∙ letters-passed c.codes [] c.letters

pub cut-letters : (s : List ℕ) (v k : ℕ) → Encoded s → letter v ≡ true → 0 < k → k < length (encode v) → text (s ++ take k (encode v)) ≡ false
unfolding text rows_from
cut-letters s v zero c f l h = absurd (omega arith)
cut-letters s v (suc k) c f l h =
    let q = letter-rows v f in
    ap (λ (x : List ℕ). rows_from [] (x ++ take (suc k) (encode v))) c.is ∙ letters-passed c.codes (take (suc k) (encode v)) c.letters
    ∙ ap (λ (x : List ℕ). rows_from [] (take (suc k) x)) q.is ∙ fits_cut k q.fits (omega (arith, ap length q.is))
