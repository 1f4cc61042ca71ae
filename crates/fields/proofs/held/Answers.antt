-- What is left ends with the last byte that is not 00.
use borrow.Author.Rules.{rules}
use mathlib.Core.Path.{◌≡◌, refl, sym}
use Prim.Native.Nat.{ℕ, zero, suc, ◌<◌}
use native.Mathlib.Omega.{arith}
use native.Mathlib.Numerals.{add-one}
use mathlib.Core.List.{List, [], ◌∷◌}
use lib.ListN.{take, length, get_or, length-take}
use Rattle.format.specs.Bytes.{trim, strip}
use Rattle.format.proofs.Strings.{trim-some, trim-other}
use Rattle.fields.proofs.held.Goals as goal

strip-none : (s : List ℕ) → ((k : ℕ) → k < length s → get_or s k 0 ≡ 0) → [] ≡ strip s
unfolding strip trim
strip-none [] none = refl
strip-none (x ∷ s) none = rw (none 0 (omega arith), ← (strip-none s (λ k h. none (suc k) (omega arith))))

strip-last : (s : List ℕ) (i : ℕ) → i < length s → (get_or s i 0 ≡ 0 → ⊥) → ((k : ℕ) → i < k → k < length s → get_or s k 0 ≡ 0) → take (suc i) s ≡ strip s
unfolding strip
strip-last [] i h some after = absurd (omega arith)
strip-last (x ∷ s) zero h some after = rw (← (strip-none s (λ k l. after (suc k) (omega arith) (omega arith)))) (sym (trim-other x [] some))
strip-last (x ∷ s) (suc i) h some after =
    let e : take (suc i) s ≡ strip s = strip-last s i (omega arith) some (λ k l m. after (suc k) (omega arith) (omega arith)) in
    rw (← e) (sym (trim-some x (take (suc i) s) (λ z. omega (arith, length-take (suc i) s))))

pub returns-in-Some : goal.returns-in-Some
returns-in-Some c = rw add-one (strip-last c.args.s.now c.in-Some.last (search rules) (search rules) (search rules))

pub returns-in-None : goal.returns-in-None
returns-in-None c = strip-none c.args.s.now (search rules)
