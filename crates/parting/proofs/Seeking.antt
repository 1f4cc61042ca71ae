-- Looking for the first dot from a place on.
use mathlib.Core.Path.{◌≡◌, refl, sym, ap, ◌∙◌}
use Prim.Native.Nat.{ℕ, zero, suc, ◌+◌, ◌≤◌, ◌<◌}
use native.Mathlib.Omega.{arith}
use mathlib.Core.Bool.{true}
use mathlib.Core.List.{List, [], ◌∷◌, ◌++◌}
use lib.ListN.{length, take, drop, get_or, length-append, length-drop, take-append-drop}
use lib.Seq.{length-take-le, drop-drop}
use lib.Dec.{leb, ltb}
use borrow.Author.Tests.{eq-eqb, ne_eqb, leb-true, lt-ltb, le-ltb, ltb-true, ltb-false}
use Rattle.std.specs.Prelude.{None, Some}
use Rattle.format.specs.Bytes.{up_to}
use Rattle.format.proofs.Strings.{rest-opened}
use Rattle.format.proofs.Tests.{never}
use Rattle.words.proofs.Cases.{decide}
use Rattle.format.proofs.Tests.{and_l, and_r}
use Rattle.identifier.specs.Parts.{dot, dotless}
use Rattle.identifier.proofs.Splitting.{other, others}
use Rattle.parting.specs.Places.{sixteen, dot_at, Skips}

-- the first dot stands behind as many bytes as there are before it
pub first-dot : (s : List ℕ) (n : ℕ) → n < length s → get_or s n 0 ≡ dot → ((k : ℕ) → k < n → get_or s k 0 ≡ dot → ⊥) → n ≡ length (up_to dot s)
unfolding up_to
first-dot [] n h e before = absurd (omega arith)
first-dot (c ∷ s) zero h e before = rw (eq-eqb c dot e) refl
first-dot (c ∷ s) (suc n) h e before =
    rw (ne_eqb c dot (before 0 (omega arith))) (ap suc (first-dot s n (omega arith) e (λ k l. before (suc k) (omega arith))))

pub no-dot : (s : List ℕ) → ((k : ℕ) → k < length s → get_or s k 0 ≡ dot → ⊥) → length s ≡ length (up_to dot s)
unfolding up_to
no-dot [] none = refl
no-dot (c ∷ s) none = rw (ne_eqb c dot (none 0 (omega arith))) (ap suc (no-dot s (λ k h. none (suc k) (omega arith))))

-- ---- the place of the first dot from a place on

module _ (s : List ℕ) (at : ℕ) where
  abbrev first_at : ℕ
  first_at = at + length (up_to dot (drop at s))

  pub some-dot : (n : ℕ) → n ≡ first_at → n < length s → Some n ≡ dot_at s at
  unfolding dot_at
  some-dot n e h = rw (sym e, lt-ltb n (length s) h) refl

  pub none-dot : length s ≤ first_at → None ≡ dot_at s at
  unfolding dot_at
  none-dot h = rw (le-ltb first_at (length s) h) refl

  pub dot-some : {n : ℕ} → dot_at s at ≡ Some n → (n ≡ first_at) × (n < length s)
  unfolding dot_at
  dot-some {n} e =
      decide (ltb first_at (length s))
      (λ t. let is : first_at ≡ n = (let k = rw t at e in cc) in (sym is, omega (arith, is, ltb-true first_at (length s) t)))
      (λ t. let k = rw t at e in never (cc))

  pub dot-none : dot_at s at ≡ None → length s ≤ first_at
  unfolding dot_at
  dot-none e = decide (ltb first_at (length s)) (λ t. let k = rw t at e in never (cc)) (λ t. ltb-false first_at (length s) t)

-- ---- from a place on there is no dot

module _ (s : List ℕ) (at : ℕ) where
  pub skips-none : at ≤ length s → Skips s at at
  skips-none h = record { inside = h; first = refl }

  module _ (i : ℕ) (p : Skips s at i) where
    none_here : i < length s → (get_or s i 0 ≡ dot → ⊥) → up_to dot (drop i s) ≡ get_or s i 0 ∷ up_to dot (drop (i + 1) s)
    unfolding up_to
    none_here h e = rw (rest-opened s i h, ne_eqb (get_or s i 0) dot e) refl

    pub skips-one : i < length s → (get_or s i 0 ≡ dot → ⊥) → Skips s at (i + 1)
    skips-one h e = record { inside = omega arith; first = omega (arith, p.first, ap length (none_here h e)) }

-- bytes without a dot stand before the first
up-to-behind : (p r : List ℕ) → dotless p ≡ true → up_to dot (p ++ r) ≡ p ++ up_to dot r
unfolding up_to
up-to-behind [] r e = refl
up-to-behind (c ∷ p) r e = rw (other c p e, up-to-behind p r (others c p e)) refl

pub skips-sixteen : (s : List ℕ) (at i : ℕ) → Skips s at i → sixteen (drop i s) ≡ true → Skips s at (i + 16)
unfolding sixteen
skips-sixteen s at i p e =
    let r : List ℕ = drop i s in
    let long : 16 ≤ length r = leb-true 16 (length r) (and_l (leb 16 (length r)) (dotless (take 16 r)) e) in
    let front = ap (λ (l : List ℕ). length (up_to dot l)) (sym (take-append-drop 16 r)) ∙ ap length (up-to-behind (take 16 r) (drop 16 r) (and_r (leb 16 (length r)) (dotless (take 16 r)) e)) in
    let more = length-append (take 16 r) (up_to dot (drop 16 r)) in
    let behind = ap (λ (l : List ℕ). length (up_to dot l)) (drop-drop 16 i s) in
    record { inside = omega (arith, length-drop i s); first = omega (arith, p.first, front, more, length-take-le 16 r long, behind) }
