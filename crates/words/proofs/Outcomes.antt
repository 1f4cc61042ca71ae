-- A call of two steps that fills a buffer: its answer, and what its outcome is then. Both calls have this form.
use mathlib.Core.Path.{◌≡◌, sym, ◌∙◌}
use Prim.Native.Nat.{ℕ, ◌≤◌, ◌<◌}
use mathlib.Core.Bool.{Bool, true, false}
use mathlib.Core.List.{List, [], ◌∷◌}
use lib.ListN.{length}
use lib.Dec.{leb}
use Rattle.std.specs.Prelude.{Ok, Err}
use borrow.Author.Tests.{le-leb, lt-leb, leb-true, leb-false}
use Rattle.format.specs.Answers.{Answer, got, refused, plain, Step, need, in_order}
use Rattle.format.specs.Bytes.{filled}
use Rattle.format.specs.Numbers.{reason_number}
use Rattle.format.specs.declared.Reason.{Reason}
use Rattle.format.proofs.Answers.{next-ok, next-no, next-inv, none-ok, afterwards-got, afterwards-refused}
use Rattle.format.proofs.Tests.{never}
use Rattle.words.specs.Calls.{filling, Fills}
use Rattle.words.proofs.Cases.{decide}

plain-inj : {k n : ℕ} → ◌≡◌ {A = Answer ℕ} (refused (plain k)) (refused (plain n)) → k ≡ n
plain-inj e = cc

-- refusal k unless `good`, then 2 unless `out` has its room
abbrev pub two_steps : ℕ → Bool → ℕ → List ℕ → List Step
two_steps k good room out = need k good ∷ need 2 (leb (length out) room) ∷ []

module _ (k : ℕ) (good : Bool) (room : ℕ) (out : List ℕ) where
  pub answer-bad : good ≡ false → in_order (two_steps k good room out) (length out) ≡ refused (plain k)
  answer-bad e = next-no k good _ (length out) e

  pub answer-short : good ≡ true → room < length out → in_order (two_steps k good room out) (length out) ≡ refused (plain 2)
  answer-short e h = next-ok k good _ (length out) e ∙ next-no 2 _ [] (length out) (lt-leb (length out) room h)

  pub answer-good : good ≡ true → length out ≤ room → in_order (two_steps k good room out) (length out) ≡ got (length out)
  answer-good e h = next-ok k good _ (length out) e ∙ next-ok 2 _ [] (length out) (le-leb (length out) room h) ∙ none-ok (length out)

  -- where a number is got, all is good and there is room
  pub good-got : {n : ℕ} → in_order (two_steps k good room out) (length out) ≡ got n → good ≡ true
  good-got {n} e = (next-inv k good _ (length out) n e).0

  pub room-got : {n : ℕ} → in_order (two_steps k good room out) (length out) ≡ got n → length out ≤ room
  room-got {n} e = leb-true (length out) room (next-inv 2 _ [] (length out) n (next-inv k good _ (length out) n e).1).0

  -- k says that not all is good, and 2 that all is, and there is no room
  module _ (other : k ≡ 2 → ⊥) where
    pub bad-refused : in_order (two_steps k good room out) (length out) ≡ refused (plain k) → good ≡ false
    bad-refused e =
        decide good
        (λ g. decide (leb (length out) room) (λ l. never (cc (answer-good g (leb-true (length out) room l), e)))
        (λ l. absurd (other (plain-inj (sym e ∙ answer-short g (leb-false (length out) room l))))))
        (λ g. g)

    pub short-refused : in_order (two_steps k good room out) (length out) ≡ refused (plain 2) → (good ≡ true) × (room < length out)
    short-refused e =
        decide good
        (λ g. decide (leb (length out) room) (λ l. never (cc (answer-good g (leb-true (length out) room l), e))) (λ l. (g, leb-false (length out) room l)))
        (λ g. absurd (other (plain-inj (sym (answer-bad g) ∙ e))))

-- ---- the contract, once the answer is known

module _ (steps : List Step) (out buffer : List ℕ) where
  pub fills-refused : {r : Reason} → in_order steps (length out) ≡ refused (plain (reason_number r)) → Fills (filling steps out buffer) (Err r) buffer
  unfolding filling
  fills-refused {r} e = record { answered = sym e; left = sym (afterwards-refused _ (plain (reason_number r)) (filled out buffer) buffer e) }

  pub fills-done : {n : ℕ} (after : List ℕ) → in_order steps (length out) ≡ got n → after ≡ filled out buffer → Fills (filling steps out buffer) (Ok n) after
  unfolding filling
  fills-done {n} after e f = record { answered = sym e; left = f ∙ sym (afterwards-got _ n (filled out buffer) buffer e) }
