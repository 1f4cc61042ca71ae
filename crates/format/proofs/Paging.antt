-- Pages that differ: the order of the two tags does not matter, and what no step changes no run changes.
use Rattle.std.specs.Prelude.{if◌then◌else◌}
use mathlib.Core.Path.{◌≡◌, refl, ap, ap₂, ◌∙◌}
use Prim.Native.Nat.{ℕ, zero, suc, ◌*◌, ◌/◌, ◌≤◌, ◌<◌}
use native.Mathlib.Omega.{arith}
use native.Mathlib.Nat.{not-suc-le-zero}
use mathlib.Core.Bool.{Bool, true, false, not, ◌&&◌}
use mathlib.Core.List.{List}
use lib.Dec.{ltb}
use lib.ListN.{length}
use borrow.Author.Tests.{ltb-true, ltb-false}
use Rattle.format.specs.Bytes.{same, part}
use Rattle.format.specs.Pages.{locked, differs, locked_differs, count, changed, locked_changed, open_pages, Kept}
use Rattle.format.proofs.Tests.{never, and_no, not_f, same-sym, same_refl, same-eq}

pub count-ext : (f g : ℕ → Bool) → ((i : ℕ) → f i ≡ g i) → (n : ℕ) → count f n ≡ count g n
unfolding count
count-ext f g h zero = refl
count-ext f g h (suc n) = ap₂ (λ (b : Bool) (k : ℕ). if b then suc k else k) (h n) (count-ext f g h n)

pub differs-sym : (p : ℕ) (a b : List ℕ) (i : ℕ) → differs p a b i ≡ differs p b a i
unfolding differs
differs-sym p a b i = ap not (same-sym (part (i * p) p a) (part (i * p) p b))

pub changed-sym : (p : ℕ) (a b : List ℕ) → length a ≡ length b → changed p a b ≡ changed p b a
unfolding changed
changed-sym p a b e = count-ext (differs p a b) (differs p b a) (differs-sym p a b) (length a / p) ∙ ap (λ (n : ℕ). count (differs p b a) (n / p)) e

locked-differs-sym : (p : ℕ) (l a b : List ℕ) (i : ℕ) → locked_differs p l a b i ≡ locked_differs p l b a i
unfolding locked_differs
locked-differs-sym p l a b i = rw (differs-sym p a b i)

pub locked-sym : (p : ℕ) (l a b : List ℕ) → length a ≡ length b → locked_changed p l a b ≡ locked_changed p l b a
unfolding locked_changed
locked-sym p l a b e =
    count-ext (locked_differs p l a b) (locked_differs p l b a) (locked-differs-sym p l a b) (length a / p)
    ∙ ap (λ (n : ℕ). count (locked_differs p l b a) (n / p)) e

-- a count is 0 exactly where the test fails at each
pub count-zero : (f : ℕ → Bool) (n : ℕ) → count f n ≡ 0 → (i : ℕ) → i < n → f i ≡ false
unfolding count
count-zero f zero e i h = absurd (not-suc-le-zero h)
count-zero f (suc n) e i h = go (f n) refl e (λ k l. count-zero f n k i l)
  where
    at : (t : Bool) → ltb i n ≡ t → f n ≡ false → (i < n → f i ≡ false) → f i ≡ false
    at true l e ih = ih (ltb-true i n l)
    at false l e ih = let same-i : i ≡ n = omega (arith, ltb-false i n l) in ap f same-i ∙ e

    go : (t : Bool) → f n ≡ t → (if t then suc (count f n) else count f n) ≡ 0 → (count f n ≡ 0 → i < n → f i ≡ false) → f i ≡ false
    go true e z ih = absurd (omega arith)
    go false e z ih = at (ltb i n) refl e (ih z)

-- no locked page differs
pub locked-kept : (p : ℕ) (l a b : List ℕ) → locked_changed p l a b ≡ 0 → Kept p l a b
unfolding locked_changed locked_differs differs Kept
locked-kept p l a b e i h k =
    let f : locked l i && differs p a b i ≡ false = count-zero (locked_differs p l a b) (length a / p) e i h in
    same-eq _ _ (not_f (same (part (i * p) p a) (part (i * p) p b)) (rw k at f))

pub kept_trans : (p : ℕ) (l a b c : List ℕ) → length a ≡ length b → Kept p l a b → Kept p l b c → Kept p l a c
unfolding Kept
kept_trans p l a b c e f g i h k = f i h k ∙ g i (rw e at h) k

pub kept_refl : (p : ℕ) (l a : List ℕ) → Kept p l a a
unfolding Kept
kept_refl p l a i h k = refl

-- ---- counts

pub zero-count : (f : ℕ → Bool) (n : ℕ) → ((i : ℕ) → i < n → f i ≡ false) → count f n ≡ 0
unfolding count
zero-count f zero h = refl
zero-count f (suc n) h = rw (h n (omega arith)) (zero-count f n (λ i k. h i (omega arith)))

pub count-le : (f g : ℕ → Bool) (n : ℕ) → ((i : ℕ) → i < n → f i ≡ true → g i ≡ true) → count f n ≤ count g n
unfolding count
count-le f g zero h = omega arith
count-le f g (suc n) h = go (f n) refl (g n) refl (count-le f g n (λ i k. h i (omega arith)))
  where
    go : (s : Bool) → f n ≡ s → (t : Bool) → g n ≡ t → count f n ≤ count g n → (if s then suc (count f n) else count f n) ≤ (if t then suc (count g n) else count g n)
    go true e true k l = omega arith
    go true e false k l = never (cc (h n (omega arith) e))
    go false e true k l = omega arith
    go false e false k l = l

differs-same : (p : ℕ) (a b : List ℕ) (i : ℕ) → part (i * p) p a ≡ part (i * p) p b → differs p a b i ≡ false
unfolding differs
differs-same p a b i e = ap not (ap (λ (x : List ℕ). same x (part (i * p) p b)) e ∙ same_refl (part (i * p) p b))

differs-self : (p : ℕ) (a : List ℕ) (i : ℕ) → differs p a a i ≡ false
differs-self p a i = differs-same p a a i refl

pub changed-self : (p : ℕ) (a : List ℕ) → changed p a a ≡ 0
unfolding changed
changed-self p a = zero-count (differs p a a) (length a / p) (λ i h. differs-self p a i)

pub locked-self : (p : ℕ) (l a : List ℕ) → locked_changed p l a a ≡ 0
unfolding locked_changed locked_differs
locked-self p l a = zero-count (locked_differs p l a a) (length a / p) (λ i h. and_no (locked l i) (differs p a a i) (differs-self p a i))

-- the pages that change are among the open ones
pub changed-open : (p : ℕ) (l a b : List ℕ) → length l ≡ length a / p → locked_changed p l a b ≡ 0 → changed p a b ≤ open_pages l
unfolding changed locked_changed locked_differs open_pages
changed-open p l a b n e =
    rw n (count-le (differs p a b) (λ i. not (locked l i)) (length a / p)
    (λ i h d. open_of (locked l i) (differs p a b i) d (count-zero (locked_differs p l a b) (length a / p) e i h)))
  where
    open_of : (x y : Bool) → y ≡ true → x && y ≡ false → not x ≡ true
    open_of true y d z = never (cc)
    open_of false y d z = refl

-- where no locked page differs, none is counted
pub kept-locked : (p : ℕ) (l a b : List ℕ) → Kept p l a b → locked_changed p l a b ≡ 0
unfolding Kept locked_changed locked_differs
kept-locked p l a b k = zero-count (λ i. locked l i && differs p a b i) (length a / p) (λ i h. go i h (locked l i) refl)
  where
    go : (i : ℕ) → i < length a / p → (x : Bool) → locked l i ≡ x → x && differs p a b i ≡ false
    go i h true e = differs-same p a b i (k i h e)
    go i h false e = refl
