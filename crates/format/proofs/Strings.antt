-- Laws of byte strings: filled, stripped, parted.
use Rattle.std.specs.Prelude.{if◌then◌else◌}
use mathlib.Core.Path.{◌≡◌, refl, sym, ap, ap₂, ◌∙◌}
use Prim.Native.Nat.{ℕ, zero, suc, ◌+◌, ◌-◌, ◌/◌, ◌%◌, ◌≤◌, ◌<◌}
use native.Mathlib.Omega.{arith}
use native.Mathlib.Numerals.{add-one}
use mathlib.Core.Bool.{Bool, true, false, not}
use mathlib.Core.List.{List, [], ◌∷◌, ◌++◌}
use lib.ListN.{length, drop, get_or, replicate, length-append, length-replicate, length-take, length-drop}
use lib.Seq.{drop-cons}
use lib.Dec.{eqb}
use borrow.Author.Tests.{eqb-true, eqb-false, eq-eqb, ne_eqb}
use Rattle.format.specs.Bytes.{is_empty, all, le16, word, part, pad_with, pad, trim, strip, up_to, past}
use Rattle.format.proofs.Tests.{never, and_l, and_r, not_t}

-- ---- sixteen bits in two bytes

pub word-le16 : (n : ℕ) → n < 65536 → word (n % 256) (n / 256 % 256) ≡ n
unfolding word
word-le16 n h = omega arith

pub le16-word : (low high : ℕ) → low ≤ 255 → high ≤ 255 → le16 (word low high) ≡ low ∷ high ∷ []
unfolding le16 word
le16-word low high a b = ap₂ (λ (x y : ℕ). x ∷ y ∷ []) (omega arith) (omega arith)

pub le16-byte : (n : ℕ) → n ≤ 255 → le16 n ≡ n ∷ 0 ∷ []
unfolding le16
le16-byte n h = ap₂ (λ (x y : ℕ). x ∷ y ∷ []) (omega arith) (omega arith)

pub le16-length : (n : ℕ) → length (le16 n) ≡ 2
unfolding le16
le16-length n = refl

-- ---- lengths

pub nil-of : {A : Type 0} (l : List A) → length l ≡ 0 → l ≡ []
nil-of [] e = refl
nil-of (x ∷ l) e = absurd (omega arith)

-- what stands at the first k places, and then r
abbrev pub firsts : {A : Type 0} → ℕ → (ℕ → A) → List A → List A
firsts zero f r = r
firsts (suc k) f r = f 0 ∷ firsts k (λ i. f (suc i)) r

pub opened : {A : Type 0} (x : A) (k : ℕ) (l : List A) → k ≤ length l → l ≡ firsts k (λ i. get_or l i x) (drop k l)
opened x zero l h = refl
opened x (suc k) [] h = absurd (omega arith)
opened x (suc k) (y ∷ l) h = ap (λ (r : List _). y ∷ r) (opened x k l (omega arith))

-- of a list of that length, nothing is left
pub all-opened : {A : Type 0} (x : A) (k : ℕ) (l : List A) → length l ≡ k → l ≡ firsts k (λ i. get_or l i x) []
all-opened x k l e = opened x k l (omega arith) ∙ ap (firsts k (λ i. get_or l i x)) (nil-of (drop k l) (omega (arith, length-drop k l)))

pub empty_of : {A : Type 0} (l : List A) → is_empty l ≡ true → l ≡ []
empty_of [] e = refl
empty_of (x ∷ l) e = never (cc)

pub empty-length : {A : Type 0} (l : List A) → is_empty l ≡ eqb (length l) 0
empty-length [] = refl
empty-length (x ∷ l) = sym (ne_eqb (suc (length l)) 0 (omega arith))

pub is-empty : {A : Type 0} (l : List A) → length l ≡ 0 → is_empty l ≡ true
is-empty l e = empty-length l ∙ eq-eqb (length l) 0 e

pub not-empty : {A : Type 0} (l : List A) → (length l ≡ 0 → ⊥) → is_empty l ≡ false
not-empty l e = empty-length l ∙ ne_eqb (length l) 0 e

-- what is left from byte i on: that byte, and what is left behind it
pub rest-opened : (s : List ℕ) (i : ℕ) → i < length s → drop i s ≡ get_or s i 0 ∷ drop (i + 1) s
rest-opened s i h = rw add-one (drop-cons s i 0 h)

-- where something follows k bytes, there are more than k
pub some-behind : (k : ℕ) (s : List ℕ) → is_empty (drop k s) ≡ false → k < length s
some-behind k s e = omega (arith, eqb-false (length (drop k s)) 0 (sym (empty-length (drop k s)) ∙ e), length-drop k s)

pub part_length : (i n : ℕ) (s : List ℕ) → length (part i n s) ≤ n
part_length i n s = omega (arith, length-take n (drop i s))

trim-length : (x : ℕ) (r : List ℕ) → length (trim x r) ≤ suc (length r)
unfolding trim
trim-length zero [] = omega arith
trim-length zero (y ∷ r) = omega arith
trim-length (suc x) r = omega arith

pub strip-length : (s : List ℕ) → length (strip s) ≤ length s
unfolding strip
strip-length [] = omega arith
strip-length (x ∷ s) = omega (arith, trim-length x (strip s), strip-length s)

pub up-to-length : (b : ℕ) (s : List ℕ) → length (up_to b s) ≤ length s
unfolding up_to
up-to-length b [] = omega arith
up-to-length b (x ∷ s) = go (eqb x b) (up-to-length b s)
  where
    go : (t : Bool) → length (up_to b s) ≤ length s → length (if t then [] else x ∷ up_to b s) ≤ suc (length s)
    go true h = omega arith
    go false h = omega arith

pub past-length : (b : ℕ) (s : List ℕ) → length (past b s) ≤ length s
unfolding past
past-length b [] = omega arith
past-length b (x ∷ s) = go (eqb x b) (past-length b s)
  where
    go : (t : Bool) → length (past b s) ≤ length s → length (if t then s else past b s) ≤ suc (length s)
    go true h = omega arith
    go false h = omega arith

-- ---- filled and stripped

pub strip-zeros : (n : ℕ) → strip (replicate n 0) ≡ []
unfolding strip trim
strip-zeros zero = refl
strip-zeros (suc n) = rw (strip-zeros n)

-- what strips to nothing does not matter behind a string
pub strip-append : (s z : List ℕ) → strip z ≡ [] → strip (s ++ z) ≡ strip s
unfolding strip
strip-append [] z e = e
strip-append (x ∷ s) z e = ap (trim x) (strip-append s z e)

pub strip-pad : (n : ℕ) (s : List ℕ) → strip (pad n s) ≡ strip s
unfolding pad_with
strip-pad n s = strip-append s (replicate (n - length s) 0) (strip-zeros (n - length s))

pub length-pad : (b n : ℕ) (s : List ℕ) → length s ≤ n → length (pad_with b n s) ≡ n
unfolding pad_with
length-pad b n s h = simp (length-append, length-replicate) (omega arith)

pub trim-head : (x : ℕ) (r : List ℕ) → get_or (trim x r) 0 0 ≡ x
unfolding trim
trim-head zero [] = refl
trim-head zero (y ∷ ys) = refl
trim-head (suc x) r = refl

pub trim-drop : (x : ℕ) (r : List ℕ) → drop 1 (trim x r) ≡ r
unfolding trim
trim-drop zero [] = refl
trim-drop zero (y ∷ ys) = refl
trim-drop (suc x) r = refl

-- stripping twice strips once
pub trim-trim : (x : ℕ) (r : List ℕ) → strip r ≡ r → strip (trim x r) ≡ trim x r
unfolding trim strip
trim-trim zero [] e = refl
trim-trim zero (y ∷ ys) e = ap (trim zero) e
trim-trim (suc x) r e = ap (λ (s : List ℕ). suc x ∷ s) e

pub strip-strip : (s : List ℕ) → strip (strip s) ≡ strip s
unfolding strip
strip-strip [] = refl
strip-strip (x ∷ s) = trim-trim x (strip s) (strip-strip s)

-- a byte is trimmed only where it is 00 and nothing follows
pub trim-some : (x : ℕ) (r : List ℕ) → (length r ≡ 0 → ⊥) → trim x r ≡ x ∷ r
unfolding trim
trim-some zero [] n = absurd (n refl)
trim-some zero (y ∷ r) n = refl
trim-some (suc x) r n = refl

pub trim-other : (x : ℕ) (r : List ℕ) → (x ≡ 0 → ⊥) → trim x r ≡ x ∷ r
unfolding trim
trim-other zero r n = absurd (n refl)
trim-other (suc x) r n = refl

-- what ends in no 00 keeps all that stands before it
pub strip-behind : (s r : List ℕ) → (length r ≡ 0 → ⊥) → strip r ≡ r → strip (s ++ r) ≡ s ++ r
unfolding strip
strip-behind [] r n e = e
strip-behind (x ∷ s) r n e = ap (trim x) (strip-behind s r n e) ∙ trim-some x (s ++ r) (λ h. n (omega (arith, length-append s r)))

-- ---- parted at a byte

-- (`eqb` computes at literals only)
pub suc-other : (x : ℕ) → eqb (suc x) 0 ≡ false
suc-other x = ne_eqb (suc x) 0 (omega arith)

-- no byte is b
abbrev pub other : ℕ → ℕ → Bool
other b x = not (eqb x b)

abbrev pub without : ℕ → List ℕ → Bool
without b s = all (other b) s

-- no byte is 00
abbrev pub solid : List ℕ → Bool
solid s = without 0 s

pub up-to-before : (b : ℕ) (s r : List ℕ) → without b s ≡ true → up_to b (s ++ b ∷ r) ≡ s
unfolding all up_to
up-to-before b [] r e = rw (eq-eqb b b refl)
up-to-before b (x ∷ s) r e = rw (not_t (eqb x b) (and_l (other b x) (without b s) e)) (ap (λ (t : List ℕ). x ∷ t) (up-to-before b s r (and_r (other b x) (without b s) e)))

pub past-before : (b : ℕ) (s r : List ℕ) → without b s ≡ true → past b (s ++ b ∷ r) ≡ r
unfolding all past
past-before b [] r e = rw (eq-eqb b b refl)
past-before b (x ∷ s) r e = rw (not_t (eqb x b) (and_l (other b x) (without b s) e)) (past-before b s r (and_r (other b x) (without b s) e))

-- where something follows the b, both sides and the b are the string
pub parted : (b : ℕ) (s : List ℕ) → is_empty (past b s) ≡ false → s ≡ up_to b s ++ b ∷ past b s
unfolding up_to past
parted b [] e = never (cc)
parted b (x ∷ s) e = go (eqb x b) refl (parted b s) e
  where
    go : (t : Bool) → eqb x b ≡ t → (is_empty (past b s) ≡ false → s ≡ up_to b s ++ b ∷ past b s) → is_empty (if t then s else past b s) ≡ false
        → x ∷ s ≡ (if t then [] else x ∷ up_to b s) ++ b ∷ (if t then s else past b s)
    go true q ih h = ap (λ (y : ℕ). y ∷ s) (eqb-true x b q)
    go false q ih h = ap (λ (r : List ℕ). x ∷ r) (ih h)

pub solid-strip : (s : List ℕ) → solid s ≡ true → strip s ≡ s
unfolding all strip trim
solid-strip [] e = refl
solid-strip (zero ∷ s) e = never (cc)
solid-strip (suc x ∷ s) e = ap (λ (r : List ℕ). suc x ∷ r) (solid-strip s (and_r (other 0 (suc x)) (solid s) e))

trim-past : (x : ℕ) (r : List ℕ) → past 0 (trim x r) ≡ past 0 (x ∷ r)
unfolding trim past
trim-past zero [] = refl
trim-past zero (y ∷ ys) = refl
trim-past (suc x) r = refl

pub past-strip : (s : List ℕ) → past 0 (strip s) ≡ strip (past 0 s)
unfolding strip past
past-strip [] = refl
past-strip (zero ∷ s) = trim-past zero (strip s)
past-strip (suc x ∷ s) = trim-past (suc x) (strip s) ∙ rw (suc-other x) (past-strip s)
