-- Laws of tests: what `&&`, `||`, `not`, `if`, `all` and `same` say.
use Rattle.std.specs.Prelude.{if◌then◌else◌}
use mathlib.Core.Path.{◌≡◌, refl, sym, ap₂}
use mathlib.Core.Logic.{◌↔◌, ◌⊎◌, inl, inr}
use Prim.Native.Nat.{ℕ, zero, suc, ◌≤◌, ◌<◌}
use native.Mathlib.Nat.{suc-ne-zero}
use native.Mathlib.Omega.{arith}
use mathlib.Core.Bool.{Bool, true, false, not, ◌&&◌, ◌||◌, beq}
use mathlib.Core.List.{List, [], ◌∷◌, ◌++◌}
use lib.ListN.{length, take, drop, get_or}
use lib.Dec.{eqb, leb}
use borrow.Author.Tests.{eqb-true, eq-eqb, leb-true, leb-false, le-leb}
use Rattle.format.specs.Bytes.{all, same, bytes}

-- what is absurd proves anything
pub never : {A : Type 0} → ◌≡◌ {A = ℕ} 0 1 → A
never z = absurd (suc-ne-zero 0 (sym z))

pub le-or-lt : (n v : ℕ) → (v ≤ n) ⊎ (n < v)
le-or-lt n v = go (leb v n) refl
  where
    go : (t : Bool) → leb v n ≡ t → (v ≤ n) ⊎ (n < v)
    go true e = inl (leb-true v n e)
    go false e = inr (leb-false v n e)

pub and_l : (a b : Bool) → a && b ≡ true → a ≡ true
and_l true b e = refl
and_l false b e = e

pub and_r : (a b : Bool) → a && b ≡ true → b ≡ true
and_r true b e = e
and_r false b e = never (cc)

pub and_i : {a b : Bool} → a ≡ true → b ≡ true → a && b ≡ true
and_i p q = rw (p, q)

pub and-iff : (a b : Bool) → (a && b ≡ true) ↔ ((a ≡ true) × (b ≡ true))
and-iff a b = (λ e. (and_l a b e, and_r a b e), λ p. and_i p.0 p.1)

pub and_no : (a b : Bool) → b ≡ false → a && b ≡ false
and_no true b e = e
and_no false b e = refl

pub and_left : (a b : Bool) → a ≡ false → a && b ≡ false
and_left a b e = rw e

pub not_t : (a : Bool) → not a ≡ true → a ≡ false
not_t true e = sym e
not_t false e = refl

pub not_f : (a : Bool) → not a ≡ false → a ≡ true
not_f true e = refl
not_f false e = sym e

pub or-false : (a b : Bool) → a || b ≡ false → (a ≡ false) × (b ≡ false)
or-false true b e = never (cc)
or-false false b e = (refl, e)

pub or-f : {a b : Bool} → a ≡ false → b ≡ false → a || b ≡ false
or-f p q = rw (p, q)

pub or-inv : (x y : Bool) → x || y ≡ true → (x ≡ true) ⊎ (y ≡ true)
or-inv true y e = inl refl
or-inv false y e = inr e

pub or_l : (x y : Bool) → x ≡ true → x || y ≡ true
or_l x y e = rw e

pub or_r : (x y : Bool) → y ≡ true → x || y ≡ true
or_r true y e = refl
or_r false y e = e

pub if-inv : (t x y : Bool) → (if t then x else y) ≡ true → ((t ≡ true) × (x ≡ true)) ⊎ ((t ≡ false) × (y ≡ true))
if-inv true x y e = inl (refl, e)
if-inv false x y e = inr (refl, e)

-- two tests that are true together are the same
pub same_truth : (a b : Bool) → (a ≡ true → b ≡ true) → (b ≡ true → a ≡ true) → a ≡ b
same_truth true b f g = sym (f refl)
same_truth false true f g = g refl
same_truth false false f g = refl

pub beq-false : (x : Bool) → beq x false ≡ true → x ≡ false
beq-false true e = sym e
beq-false false e = refl

-- ---- all

pub all-mono : {A : Type 0} (f g : A → Bool) → ((x : A) → f x ≡ true → g x ≡ true) → (s : List A) → all f s ≡ true → all g s ≡ true
unfolding all
all-mono f g h [] e = refl
all-mono f g h (x ∷ s) e = and_i (h x (and_l (f x) (all f s) e)) (all-mono f g h s (and_r (f x) (all f s) e))

pub all_append : {A : Type 0} (f : A → Bool) (s r : List A) → all f s ≡ true → all f r ≡ true → all f (s ++ r) ≡ true
unfolding all
all_append f [] r a b = b
all_append f (x ∷ s) r a b = and_i (and_l (f x) (all f s) a) (all_append f s r (and_r (f x) (all f s) a) b)

pub all_take : {A : Type 0} (f : A → Bool) (n : ℕ) (s : List A) → all f s ≡ true → all f (take n s) ≡ true
unfolding all
all_take f zero s e = refl
all_take f (suc n) [] e = refl
all_take f (suc n) (x ∷ s) e = and_i (and_l (f x) (all f s) e) (all_take f n s (and_r (f x) (all f s) e))

pub all_drop : {A : Type 0} (f : A → Bool) (n : ℕ) (s : List A) → all f s ≡ true → all f (drop n s) ≡ true
unfolding all
all_drop f zero s e = e
all_drop f (suc n) [] e = refl
all_drop f (suc n) (x ∷ s) e = all_drop f n s (and_r (f x) (all f s) e)

-- ---- bytes

pub bytes-at : (i : ℕ) (s : List ℕ) → bytes s ≡ true → get_or s i 0 ≤ 255
unfolding all
bytes-at i [] e = omega arith
bytes-at zero (x ∷ s) e = leb-true x 255 (and_l (leb x 255) (bytes s) e)
bytes-at (suc i) (x ∷ s) e = bytes-at i s (and_r (leb x 255) (bytes s) e)

-- from what is known of a slice
pub bytes-all : (s : List ℕ) → ((i : ℕ) → i < length s → get_or s i 0 < 256) → bytes s ≡ true
unfolding all
bytes-all [] h = refl
bytes-all (x ∷ s) h = and_i (le-leb x 255 (omega (arith, h 0 (omega arith)))) (bytes-all s (λ i k. h (suc i) (omega arith)))

-- ---- same

pub same_refl : (a : List ℕ) → same a a ≡ true
unfolding same
same_refl [] = refl
same_refl (x ∷ xs) = and_i (eq-eqb x x refl) (same_refl xs)

pub same-eq : (a b : List ℕ) → same a b ≡ true → a ≡ b
unfolding same
same-eq [] [] e = refl
same-eq [] (y ∷ ys) e = never (cc)
same-eq (x ∷ xs) [] e = never (cc)
same-eq (x ∷ xs) (y ∷ ys) e =
    ap₂ (λ (a : ℕ) (b : List ℕ). a ∷ b) (eqb-true x y (and_l (eqb x y) (same xs ys) e)) (same-eq xs ys (and_r (eqb x y) (same xs ys) e))

pub eqb-sym : (a b : ℕ) → eqb a b ≡ eqb b a
eqb-sym a b = same_truth (eqb a b) (eqb b a) (λ e. eq-eqb b a (sym (eqb-true a b e))) (λ e. eq-eqb a b (sym (eqb-true b a e)))

pub same-sym : (a b : List ℕ) → same a b ≡ same b a
unfolding same
same-sym [] [] = refl
same-sym [] (y ∷ ys) = refl
same-sym (x ∷ xs) [] = refl
same-sym (x ∷ xs) (y ∷ ys) = ap₂ (λ (a b : Bool). a && b) (eqb-sym x y) (same-sym xs ys)
