-- A test of all fails exactly where it fails at some place.
use mathlib.Core.Path.{◌≡◌}
use Prim.Native.Nat.{ℕ, zero, suc, ◌<◌}
use native.Mathlib.Omega.{arith}
use native.Mathlib.Nat.{not-suc-le-zero, le_of_suc-le-suc}
use mathlib.Core.Bool.{Bool, false}
use mathlib.Core.List.{List, [], ◌∷◌}
use lib.ListN.{length, get_or}
use Rattle.format.specs.Bytes.{all}
use Rattle.format.proofs.Tests.{never, and_left, and_no}
use Rattle.words.proofs.Cases.{decide}

abbrev Fails : (ℕ → Bool) → List ℕ → Type 0
Fails f s = (i : ℕ) × (i < length s) × (f (get_or s i 0) ≡ false)

module _ (f : ℕ → Bool) where
  pub some-fails : (s : List ℕ) → all f s ≡ false → Fails f s
  unfolding all
  some-fails [] e = never (cc)
  some-fails (x ∷ s) e =
      let rest = some-fails s in
      decide (f x)
      (λ t. let r = rest (rw t at e) in (suc r.0, omega (arith, r.1), r.2))
      (λ t. (0, omega arith, t))

  pub fails-all : (s : List ℕ) → Fails f s → all f s ≡ false
  unfolding all
  fails-all [] (i, h, t) = absurd (not-suc-le-zero h)
  fails-all (x ∷ s) (zero, h, t) = and_left (f x) (all f s) t
  fails-all (x ∷ s) (suc i, h, t) = and_no (f x) (all f s) (fails-all s (i, le_of_suc-le-suc h, t))
