-- Laws of bytes as one number, low byte first: pages compared as numbers.
use mathlib.Core.Path.{◌≡◌, refl, ap, ap₂, ◌∙◌}
use Prim.Native.Nat.{ℕ, suc, ◌+◌, ◌*◌, ◌≤◌, ◌<◌}
use native.Mathlib.Omega.{arith}
use mathlib.Core.Bool.{Bool, true, false, not, ◌&&◌}
use mathlib.Core.List.{List, [], ◌∷◌}
use lib.Dec.{eqb, leb}
use lib.ListN.{length, take, get_or, length-take, length-drop}
use borrow.Author.Tests.{eq-eqb, ne_eqb, eqb-true, eqb-false, leb-true}
use Rattle.format.specs.Bytes.{all, same, bytes, part}
use Rattle.format.specs.Pages.{differs}
use Rattle.format.proofs.Strings.{rest-opened}
use Rattle.format.proofs.Tests.{and_l, and_r, all_take, all_drop}
use Rattle.pages.specs.Storing.{number_at}

-- bytes as one number, low byte first
unfoldable as_number : List ℕ → ℕ
as_number [] = 0
as_number (x ∷ s) = x + 256 * as_number s

-- two numbers are equal exactly where their low bytes are and what stands above them
by-low-byte : (x y m n : ℕ) → x ≤ 255 → y ≤ 255 → eqb (x + 256 * m) (y + 256 * n) ≡ eqb x y && eqb m n
by-low-byte x y m n hx hy = go (eqb x y) refl (eqb m n) refl
  where
    go : (s : Bool) → eqb x y ≡ s → (t : Bool) → eqb m n ≡ t → eqb (x + 256 * m) (y + 256 * n) ≡ s && t
    go true p true q = eq-eqb (x + 256 * m) (y + 256 * n) (omega (arith, eqb-true x y p, eqb-true m n q))
    go true p false q = ne_eqb (x + 256 * m) (y + 256 * n) (λ e. eqb-false m n q (omega (arith, eqb-true x y p)))
    go false p t q = ne_eqb (x + 256 * m) (y + 256 * n) (λ e. eqb-false x y p (omega arith))

-- strings of one length are the same exactly where their numbers are equal
same-by-number : (a b : List ℕ) → length a ≡ length b → bytes a ≡ true → bytes b ≡ true → eqb (as_number a) (as_number b) ≡ same a b
unfolding as_number same all
same-by-number [] [] l p q = refl
same-by-number [] (y ∷ b) l p q = absurd (omega arith)
same-by-number (x ∷ a) [] l p q = absurd (omega arith)
same-by-number (x ∷ a) (y ∷ b) l p q =
    by-low-byte x y (as_number a) (as_number b) (leb-true x 255 (and_l (leb x 255) (bytes a) p)) (leb-true y 255 (and_l (leb y 255) (bytes b) q))
    ∙ ap (λ (t : Bool). eqb x y && t) (same-by-number a b (omega arith) (and_r (leb x 255) (bytes a) p) (and_r (leb y 255) (bytes b) q))

-- the number of the bytes from i on, by its first
number-opened : (n : ℕ) (s : List ℕ) (i j : ℕ) → i < length s → j ≡ i + 1 → as_number (part i (suc n) s) ≡ get_or s i 0 + 256 * as_number (part j n s)
unfolding as_number
number-opened n s i j h e = ap (λ (l : List ℕ). as_number (take (suc n) l)) (rest-opened s i h) ∙ rw e

page-number : (s : List ℕ) (at : ℕ) → at + 4 ≤ length s → number_at s at ≡ as_number (part at 4 s)
unfolding as_number
page-number s at h =
    omega (
      arith,
      number-opened 3 s at (at + 1) (omega arith) refl,
      number-opened 2 s (at + 1) (at + 2) (omega arith) (omega arith),
      number-opened 1 s (at + 2) (at + 3) (omega arith) (omega arith),
      number-opened 0 s (at + 3) (at + 4) (omega arith) (omega arith),
    )

-- so pages differ where their numbers do
pub differs-by-number : (a b : List ℕ) (i : ℕ) → i * 4 + 4 ≤ length a → i * 4 + 4 ≤ length b → bytes a ≡ true → bytes b ≡ true
    → not (eqb (number_at a (i * 4)) (number_at b (i * 4))) ≡ differs 4 a b i
unfolding differs
differs-by-number a b i h k f g =
    let long : length (part (i * 4) 4 a) ≡ length (part (i * 4) 4 b) = simp (length-take, length-drop) (omega arith) in
    ap₂ (λ (x y : ℕ). not (eqb x y)) (page-number a (i * 4) h) (page-number b (i * 4) k)
    ∙ ap not (same-by-number (part (i * 4) 4 a) (part (i * 4) 4 b) long (all_take _ 4 _ (all_drop _ (i * 4) a f)) (all_take _ 4 _ (all_drop _ (i * 4) b g)))
