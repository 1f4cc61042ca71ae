-- Set information in digits and in bytes: the same two numbers, over the count of digits; and a part of the identifier that holds them.
use mathlib.Core.Path.{◌≡◌, refl, sym, ap, ap₂, subst, ◌∙◌}
use Prim.Native.Nat.{ℕ, ◌*◌, ◌/◌, ◌%◌, ◌≤◌, ◌<◌}
use native.Mathlib.Omega.{arith}
use mathlib.Core.Bool.{true, false, not}
use mathlib.Core.List.{List, [], ◌∷◌, ◌++◌}
use lib.ListN.{length, take, drop, get_or, length-append, length-drop, take-append-drop}
use lib.Seq.{take-append_seam, drop-append_seam, length-take-le}
use lib.Dec.{leb, eqb}
use borrow.Author.Tests.{le-leb, lt-leb, leb-true, leb-false, eqb-true, eq-eqb, ne_eqb}
use Rattle.format.specs.Bytes.{all, same, le16, word}
use Rattle.format.specs.Elements.{parts_of, ordinal_of, set_bytes, set_info, shape, form, value}
use Rattle.format.proofs.Tests.{never, and_i, and-iff, all_append, all_take, all_drop, all-mono, same-eq}
use Rattle.format.proofs.Text.{between-i, between-facts}
use Rattle.format.proofs.Values.{value_set}
use Rattle.words.proofs.Cases.{decide}
use Rattle.identifier.specs.Parts.{dot, dotless}
use Rattle.identifier.specs.SetDigits.{digit, digits, width, total_in, ordinal_in, says_set, set_part}
use Rattle.identifier.specs.Meaning.{Digits, Width, one-digit, two_digits, three-digits, SameNumbers, same_numbers, SetPart, set}
use Rattle.identifier.proofs.Digits.{tens, digits_number, digits-count, digits-all, digits-below, digits_are, are-digits, read-digits}

-- ---- how many digits

pub width_is : {t k : ℕ} → Width t k → width t ≡ k
unfolding width
width_is (one-digit {t} l h) = rw (le-leb t 9 h) refl
width_is (two_digits {t} l h) = rw (lt-leb t 9 (omega arith), le-leb t 99 h) refl
width_is (three-digits {t} l h) = rw (lt-leb t 9 (omega arith), lt-leb t 99 (omega arith)) refl

pub width-range : {t k : ℕ} → Width t k → (1 ≤ t) × (t ≤ 255)
width-range (one-digit l h) = (l, omega arith)
width-range (two_digits l h) = (omega arith, omega arith)
width-range (three-digits l h) = (omega arith, h)

pub width-below : {t k : ℕ} → Width t k → t < tens k
unfolding tens
width-below (one-digit l h) = omega arith
width-below (two_digits l h) = omega arith
width-below (three-digits l h) = omega arith

pub is-width : (t : ℕ) → 1 ≤ t → t ≤ 255 → Width t (width t)
unfolding width
is-width t l h =
    decide (leb t 9) (λ e. rw e (one-digit l (leb-true t 9 e)))
    (λ e. decide (leb t 99) (λ f. rw (e, f) (two_digits (leb-false t 9 e) (leb-true t 99 f))) (λ f. rw (e, f) (three-digits (leb-false t 99 f) h)))

pub width_few : (t : ℕ) → (1 ≤ width t) × (width t ≤ 3)
unfolding width
width_few t =
    decide (leb t 9) (λ e. rw e (omega arith, omega arith))
    (λ e. decide (leb t 99) (λ f. rw (e, f) (omega arith, omega arith)) (λ f. rw (e, f) (omega arith, omega arith)))

-- ---- element 4

-- its bytes
pub set-bytes : (t o : ℕ) → t ≤ 255 → o ≤ 255 → set_bytes t o ≡ t ∷ 0 ∷ o ∷ 0 ∷ []
unfolding le16
set-bytes t o h l =
    let a : t % 256 ≡ t = omega arith in
    let b : t / 256 % 256 ≡ 0 = omega arith in
    let c : o % 256 ≡ o = omega arith in
    let d : o / 256 % 256 ≡ 0 = omega arith in
    rw (a, b, c, d) refl

-- and the numbers in them
pub bytes-numbers : (t o : ℕ) → (parts_of (t ∷ 0 ∷ o ∷ 0 ∷ []) ≡ t) × (ordinal_of (t ∷ 0 ∷ o ∷ 0 ∷ []) ≡ o)
unfolding word
bytes-numbers t o = (omega arith, omega arith)

-- an element 4 is the bytes of its numbers
pub record Four (e : List ℕ) : Type 0 where
  pub whole : e ≡ parts_of e ∷ 0 ∷ ordinal_of e ∷ 0 ∷ []
  pub parts : parts_of e ≤ 255
  pub ordinal : ordinal_of e ≤ parts_of e

form-value : (e : List ℕ) → form 4 e ≡ true → value 4 e ≡ true
unfolding form shape set_info value
form-value [] f = f
form-value (x ∷ e) f = f

pub form-four : (e : List ℕ) → form 4 e ≡ true → Four e
form-four e f =
    let v = value_set e (form-value e f) in
    let t : ℕ = get_or e 0 0 in
    let o : ℕ = get_or e 2 0 in
    let bytes : e ≡ t ∷ 0 ∷ o ∷ 0 ∷ [] = sym v.whole ∙ set-bytes t o v.low (omega (arith, v.low, v.ordinal)) in
    let total : parts_of e ≡ t = ap parts_of bytes ∙ (bytes-numbers t o).0 in
    let ordinal : ordinal_of e ≡ o = ap ordinal_of bytes ∙ (bytes-numbers t o).1 in
    record {
      whole = bytes ∙ ap₂ (λ (x y : ℕ). x ∷ 0 ∷ y ∷ 0 ∷ []) (sym total) (sym ordinal);
      parts = omega (arith, total, v.low);
      ordinal = omega (arith, total, ordinal, v.ordinal);
    }

pub four-form : (t o : ℕ) → o ≤ t → t ≤ 255 → form 4 (t ∷ 0 ∷ o ∷ 0 ∷ []) ≡ true
unfolding form shape set_info
four-form t o l h =
    let b = bytes-numbers t o in
    rw (b.0, b.1) (and_i (and_i (and_i (le-leb t 255 h) (le-leb o 255 (omega arith))) (le-leb o t l)) refl)

-- ---- the same numbers, over the count of digits

pub same_length : {k : ℕ} {p e : List ℕ} → SameNumbers k p e → length p ≡ 2 * k
same_length (same_numbers {k} {t} {o} {a} {b} d f h l) = omega (arith, length-append a b, digits-count d, digits-count f)

pub same_digits : {k : ℕ} {p e : List ℕ} → SameNumbers k p e → all digit p ≡ true
same_digits (same_numbers {k} {t} {o} {a} {b} d f h l) = all_append digit a b (digits-all d) (digits-all f)

-- what is read of the digits are the bytes
pub halves-read : {k t o : ℕ} {a b : List ℕ} → Digits k t a → Digits k o b → (total_in (a ++ b) ≡ t) × (ordinal_in (a ++ b) ≡ o)
halves-read {k} {t} {o} {a} {b} d f =
    let half : length (a ++ b) / 2 ≡ length a = omega (arith, length-append a b, digits-count d, digits-count f) in
    rw (half, take-append_seam a b, drop-append_seam a b) (digits_number d, digits_number f)

pub same_read : {k : ℕ} {p e : List ℕ} → SameNumbers k p e → (total_in p ≡ parts_of e) × (ordinal_in p ≡ ordinal_of e)
same_read (same_numbers {k} {t} {o} {a} {b} d f h l) =
    let r = halves-read d f in
    let n = bytes-numbers t o in
    (r.0 ∙ sym n.0, r.1 ∙ sym n.1)

-- what is written of the bytes are the digits
pub same-written : {k : ℕ} {p e : List ℕ} → SameNumbers k p e → digits k (parts_of e) ++ digits k (ordinal_of e) ≡ p
same-written (same_numbers {k} {t} {o} {a} {b} d f h l) =
    let n = bytes-numbers t o in
    rw (n.0, n.1) (ap₂ (λ (x y : List ℕ). x ++ y) (digits_are d) (digits_are f))

pub same_bytes : {k : ℕ} {p e : List ℕ} → SameNumbers k p e → (parts_of e ≤ 255) × (ordinal_of e ≤ 255) × (set_bytes (parts_of e) (ordinal_of e) ≡ e)
same_bytes (same_numbers {k} {t} {o} {a} {b} d f h l) =
    let n = bytes-numbers t o in
    rw (n.0, n.1) (h, l, set-bytes t o h l)

pub same-below : {k : ℕ} {p e : List ℕ} → SameNumbers k p e → (parts_of e < tens k) × (ordinal_of e < tens k)
same-below (same_numbers {k} {t} {o} {a} {b} d f h l) = let n = bytes-numbers t o in rw (n.0, n.1) (digits-below d, digits-below f)

-- digits read, and bytes written
pub read_same : (k : ℕ) (p : List ℕ) → length p ≡ 2 * k → all digit p ≡ true → total_in p ≤ 255 → ordinal_in p ≤ 255
    → SameNumbers k p (total_in p ∷ 0 ∷ ordinal_in p ∷ 0 ∷ [])
read_same k p l e h i =
    let half : length p / 2 ≡ k = omega arith in
    let first : length (take (length p / 2) p) ≡ k = length-take-le (length p / 2) p (omega arith) ∙ half in
    let second : length (drop (length p / 2) p) ≡ k = omega (arith, length-drop (length p / 2) p) in
    let a : Digits k (total_in p) (take (length p / 2) p) = rw first at (read-digits (take (length p / 2) p) (all_take digit (length p / 2) p e)) in
    let b : Digits k (ordinal_in p) (drop (length p / 2) p) = rw second at (read-digits (drop (length p / 2) p) (all_drop digit (length p / 2) p e)) in
    let both : SameNumbers k (take (length p / 2) p ++ drop (length p / 2) p) (total_in p ∷ 0 ∷ ordinal_in p ∷ 0 ∷ []) = same_numbers a b h i in
    subst (λ (q : List ℕ). SameNumbers k q (total_in p ∷ 0 ∷ ordinal_in p ∷ 0 ∷ [])) (take-append-drop (length p / 2) p) both

pub written_same : (k t o : ℕ) → t ≤ 255 → o ≤ 255 → t < tens k → o < tens k → SameNumbers k (digits k t ++ digits k o) (t ∷ 0 ∷ o ∷ 0 ∷ [])
written_same k t o h i l m = same_numbers (are-digits k t l) (are-digits k o m) h i

-- ---- a part that is set information

-- the tests that it passes
pub record Says (p : List ℕ) : Type 0 where
  pub digits : all digit p ≡ true
  pub some : 1 ≤ total_in p
  pub most : total_in p ≤ 255
  pub long : length p ≡ 2 * width (total_in p)
  pub ordered : ordinal_in p ≤ total_in p

pub says_of : (p : List ℕ) → says_set p ≡ true → Says p
unfolding says_set
says_of p e =
    let h = simp and-iff at e in
    record {
      digits = h.0.0.0;
      some = leb-true 1 (total_in p) h.0.0.1.0;
      most = leb-true (total_in p) 255 h.0.0.1.1;
      long = eqb-true (length p) (2 * width (total_in p)) h.0.1;
      ordered = leb-true (ordinal_in p) (total_in p) h.1;
    }

pub of-says : (p : List ℕ) → Says p → says_set p ≡ true
unfolding says_set
of-says p s =
    and_i (and_i (and_i s.digits (between-i {low = 1} {high = 255} {b = total_in p} s.some s.most)) (eq-eqb (length p) (2 * width (total_in p)) s.long))
    (le-leb (ordinal_in p) (total_in p) s.ordered)

pub set-total : {p e : List ℕ} → SetPart p e → (1 ≤ parts_of e) × (parts_of e ≤ 255) × (ordinal_of e ≤ parts_of e)
set-total (set {k} {t} {o} {p} w l s) = let n = bytes-numbers t o in rw (n.0, n.1) ((width-range w).0, (width-range w).1, l)

pub set-numbers : {p e : List ℕ} → SetPart p e → (total_in p ≡ parts_of e) × (ordinal_in p ≡ ordinal_of e)
set-numbers (set w l s) = same_read s

pub set-of : {p e : List ℕ} → SetPart p e → set_bytes (total_in p) (ordinal_in p) ≡ e
set-of (set w l s) = ap₂ set_bytes (same_read s).0 (same_read s).1 ∙ (same_bytes s).2

pub set-said : {p e : List ℕ} → SetPart p e → says_set p ≡ true
set-said (set {k} {t} {o} {p} w l s) =
    let n = bytes-numbers t o in
    let total : total_in p ≡ t = (same_read s).0 ∙ n.0 in
    let ordinal : ordinal_in p ≡ o = (same_read s).1 ∙ n.1 in
    let range = width-range w in
    of-says p
    (record {
      digits = same_digits s;
      some = omega (arith, total, range);
      most = omega (arith, total, range);
      long = same_length s ∙ ap (λ (j : ℕ). 2 * j) (sym (ap width total ∙ width_is w));
      ordered = omega (arith, total, ordinal);
    })

pub said-set : (p : List ℕ) → says_set p ≡ true → SetPart p (total_in p ∷ 0 ∷ ordinal_in p ∷ 0 ∷ [])
said-set p e =
    let h = says_of p e in
    let most : ordinal_in p ≤ 255 = omega (arith, h.most, h.ordered) in
    set (is-width (total_in p) h.some h.most) h.ordered (read_same (width (total_in p)) p h.long h.digits h.most most)

-- element 4 of it, and the part of an element 4
pub set-form : {p e : List ℕ} → SetPart p e → form 4 e ≡ true
set-form (set {k} {t} {o} {p} w l s) = four-form t o l (width-range w).1

pub set-written : {p e : List ℕ} → SetPart p e → set_part (parts_of e) (ordinal_of e) ≡ p
unfolding set_part
set-written (set {k} {t} {o} {p} w l s) =
    let n = bytes-numbers t o in
    let count : width (parts_of (t ∷ 0 ∷ o ∷ 0 ∷ [])) ≡ k = ap width n.0 ∙ width_is w in
    rw count (same-written s)

pub written-set : (e : List ℕ) → form 4 e ≡ true → 1 ≤ parts_of e → SetPart (set_part (parts_of e) (ordinal_of e)) e
unfolding set_part
written-set e f l =
    let four = form-four e f in
    let t : ℕ = parts_of e in
    let o : ℕ = ordinal_of e in
    let w : Width t (width t) = is-width t l four.parts in
    let below : t < tens (width t) = width-below w in
    let made : SetPart (set_part t o) (t ∷ 0 ∷ o ∷ 0 ∷ []) =
    set w four.ordinal (written_same (width t) t o four.parts (omega (arith, four.parts, four.ordinal)) below (omega (arith, below, four.ordinal))) in
    subst (λ (b : List ℕ). SetPart (set_part t o) b) (sym four.whole) made

-- it holds no dot, and is not S
digit-other : (c : ℕ) → digit c ≡ true → not (eqb c dot) ≡ true
digit-other c h = rw (ne_eqb c dot (λ e. omega (arith, between-facts 0x30 0x39 c h))) refl

pub digits-whole : (p : List ℕ) → all digit p ≡ true → dotless p ≡ true
digits-whole p e = all-mono digit (λ c. not (eqb c dot)) digit-other p e

pub digits-not-s : (p : List ℕ) → all digit p ≡ true → same p (0x53 ∷ []) ≡ false
unfolding all
digits-not-s p e = decide (same p (0x53 ∷ [])) (λ h. never (cc (ap (all digit) (same-eq p (0x53 ∷ []) h), e))) (λ h. h)

pub set-whole : {p e : List ℕ} → SetPart p e → dotless p ≡ true
set-whole (set {k} {t} {o} {p} w l s) = digits-whole p (same_digits s)

pub set-not-s : {p e : List ℕ} → SetPart p e → same p (0x53 ∷ []) ≡ false
set-not-s (set {k} {t} {o} {p} w l s) = digits-not-s p (same_digits s)
