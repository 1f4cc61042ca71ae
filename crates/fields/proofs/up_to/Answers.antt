-- The front ends where the library finds the first b.
use borrow.Author.Rules.{rules}
use borrow.Author.Tests.{eq-eqb, ne_eqb}
use mathlib.Core.Path.{◌≡◌, refl, ap}
use Prim.Native.Nat.{ℕ, zero, suc, ◌<◌}
use native.Mathlib.Omega.{arith}
use mathlib.Core.List.{List, [], ◌∷◌}
use lib.ListN.{take, length, get_or}
use Rattle.format.specs.Bytes.{up_to}
use Rattle.fields.proofs.up_to.Goals as goal

up-to-first : (b : ℕ) (s : List ℕ) (i : ℕ) → i < length s → get_or s i 0 ≡ b → ((k : ℕ) → k < i → get_or s k 0 ≡ b → ⊥) → take i s ≡ up_to b s
unfolding up_to
up-to-first b [] i h e before = absurd (omega arith)
up-to-first b (x ∷ s) zero h e before = rw (eq-eqb x b e)
up-to-first b (x ∷ s) (suc i) h e before =
    rw (ne_eqb x b (before 0 (omega arith)), up-to-first b s i (omega arith) e (λ k l. before (suc k) (omega arith)))

up-to-none : (b : ℕ) (s : List ℕ) → ((k : ℕ) → k < length s → get_or s k 0 ≡ b → ⊥) → s ≡ up_to b s
unfolding up_to
up-to-none b [] none = refl
up-to-none b (x ∷ s) none =
    rw (ne_eqb x b (none 0 (omega arith))) (ap (λ (l : List ℕ). x ∷ l) (up-to-none b s (λ k h. none (suc k) (omega arith))))

pub returns-in-Some : goal.returns-in-Some
returns-in-Some c = up-to-first c.args.b c.args.s.now c.in-Some.first (search rules) (search rules) (search rules)

pub returns-in-None : goal.returns-in-None
returns-in-None c = up-to-none c.args.b c.args.s.now (search rules)
