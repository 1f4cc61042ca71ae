-- Fields with a 00 between them: what the writer lays down, the reader finds; what the reader found, the writer lays down again.
use mathlib.Core.Path.{◌≡◌, refl, sym, ap, ap₂, ◌∙◌}
use mathlib.Core.Logic.{◌⊎◌, inl, inr}
use Prim.Native.Nat.{ℕ, zero, suc, ◌≤◌}
use native.Mathlib.Omega.{arith}
use mathlib.Core.Bool.{true}
use mathlib.Core.List.{List, [], ◌∷◌, ◌++◌, append-nil}
use lib.ListN.{length, take, drop, length-append}
use Rattle.format.specs.Bytes.{all, trim, strip, up_to, past}
use Rattle.format.specs.Chain.{fields_in, beyond, separated}
use Rattle.format.proofs.Tests.{never, and_l, and_r}
use Rattle.format.proofs.Strings.{other, solid, suc-other, trim-trim, past-strip}

-- ---- laid down and found: fields hold no 00

-- the first field, and what follows its separator
first_field : (f r : List ℕ) → solid f ≡ true → (up_to 0 (f ++ trim 0 r) ≡ f) × (past 0 (f ++ trim 0 r) ≡ r)
unfolding all up_to past trim
first_field [] [] e = (refl, refl)
first_field [] (y ∷ r) e = (refl, refl)
first_field (zero ∷ f) r e = never (cc)
first_field (suc x ∷ f) r e = let h = first_field f r (and_r (other 0 (suc x)) (solid f) e) in rw (suc-other x) (ap (◌∷◌ (suc x)) h.0, h.1)

nothing-beyond : (n : ℕ) → beyond n [] ≡ []
unfolding beyond past
nothing-beyond zero = refl
nothing-beyond (suc n) = nothing-beyond n

pub beyond-separated : (n : ℕ) (fs : List (List ℕ)) → all solid fs ≡ true → beyond n (separated fs) ≡ separated (drop n fs)
unfolding all beyond separated
beyond-separated zero fs e = refl
beyond-separated (suc n) [] e = nothing-beyond (suc n)
beyond-separated (suc n) (f ∷ fs) e = ap (beyond n) (first_field f (separated fs) (and_l (solid f) (all solid fs) e)).1 ∙ beyond-separated n fs (and_r (solid f) (all solid fs) e)

pub fields-separated : (n : ℕ) (fs : List (List ℕ)) → all solid fs ≡ true → n ≤ length fs → fields_in n (separated fs) ≡ take n fs
unfolding all fields_in separated
fields-separated zero fs e h = refl
fields-separated (suc n) [] e h = absurd (omega arith)
fields-separated (suc n) (f ∷ fs) e h =
    let first = first_field f (separated fs) (and_l (solid f) (all solid fs) e) in
    ap₂ ◌∷◌ first.0 (ap (fields_in n) first.1 ∙ fields-separated n fs (and_r (solid f) (all solid fs) e) (omega arith))

-- and no 00 is at the end
solid-front : (f r : List ℕ) → solid f ≡ true → strip r ≡ r → strip (f ++ r) ≡ f ++ r
unfolding all strip trim
solid-front [] r s e = e
solid-front (zero ∷ f) r s e = never (cc)
solid-front (suc x ∷ f) r s e = ap (◌∷◌ (suc x)) (solid-front f r (and_r (other 0 (suc x)) (solid f) s) e)

pub separated-strip : (fs : List (List ℕ)) → all solid fs ≡ true → strip (separated fs) ≡ separated fs
unfolding all separated strip
separated-strip [] e = refl
separated-strip (f ∷ fs) e =
    solid-front f (trim 0 (separated fs)) (and_l (solid f) (all solid fs) e) (trim-trim 0 (separated fs) (separated-strip fs (and_r (solid f) (all solid fs) e)))

-- ---- found and laid down again

again : (s : List ℕ) → strip s ≡ s → up_to 0 s ++ trim 0 (past 0 s) ≡ s
unfolding strip up_to past trim
again [] e = refl
again (zero ∷ s) e = go (strip s) e
  where
    go : (r : List ℕ) → trim 0 r ≡ 0 ∷ s → trim 0 s ≡ 0 ∷ s
    go [] e = never (cc)
    go (y ∷ r) e = rw (← (ap (drop 1) e)) refl
again (suc x ∷ s) e = rw (suc-other x) (ap (◌∷◌ (suc x)) (again s (ap (drop 1) e)))

pub beyond-strip : (n : ℕ) (s : List ℕ) → strip s ≡ s → strip (beyond n s) ≡ beyond n s
unfolding beyond
beyond-strip zero s e = e
beyond-strip (suc n) s e = beyond-strip n (past 0 s) (sym (past-strip s) ∙ ap (past 0) e)

-- the first n fields, and what follows them as the last
pub rebuilt : (n : ℕ) (s : List ℕ) → strip s ≡ s → separated (fields_in n s ++ (beyond n s ∷ [])) ≡ s
unfolding fields_in beyond separated trim
rebuilt zero s e = append-nil s
rebuilt (suc n) s e = ap (λ (r : List ℕ). up_to 0 s ++ trim 0 r) (rebuilt n (past 0 s) (sym (past-strip s) ∙ ap (past 0) e)) ∙ again s e

-- ---- some fields left out

-- each of them is there or empty
pub data Fewer : List (List ℕ) → List (List ℕ) → Type 0 where
  none : Fewer [] []
  next : {f g : List ℕ} {fs gs : List (List ℕ)} → (f ≡ g) ⊎ (f ≡ []) → Fewer fs gs → Fewer (f ∷ fs) (g ∷ gs)

pub trim-mono : (x : ℕ) (a b : List ℕ) → length a ≤ length b → length (trim x a) ≤ length (trim x b)
unfolding trim
trim-mono zero [] b h = omega arith
trim-mono zero (y ∷ a) [] h = absurd (omega arith)
trim-mono zero (y ∷ a) (z ∷ b) h = omega arith
trim-mono (suc x) a b h = omega arith

pub fewer-shorter : (fs gs : List (List ℕ)) → Fewer fs gs → length (separated fs) ≤ length (separated gs)
unfolding separated
fewer-shorter _ _ none = omega arith
fewer-shorter _ _ (next {f} {g} {fs} {gs} e h) =
    let shorter = trim-mono 0 (separated fs) (separated gs) (fewer-shorter fs gs h) in
    omega (arith, shorter, kept e, length-append f (trim 0 (separated fs)), length-append g (trim 0 (separated gs)))
  where
    kept : (f ≡ g) ⊎ (f ≡ []) → length f ≤ length g
    kept (inl e) = omega (arith, ap length e)
    kept (inr e) = omega (arith, ap length e)
