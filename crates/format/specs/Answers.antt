-- Answers and refusals: document 01, "Numbers given back" and "Order".
-- A call is a list of steps, one for each refusal, in the paper's order. The first that refuses ends the call.
use Rattle.std.specs.Prelude.{ℕ, Bool, true, false, List, [], ◌∷◌}

-- a refusal gives its number alone; one for damage its number and the place, the byte where the damaged block begins
pub data Refusal : Type 0 where
  plain : ℕ → Refusal
  placed : ℕ → ℕ → Refusal

pub data Answer (A : Type 0) : Type 0 where
  got : A → Answer A
  refused : Refusal → Answer A

-- a step of a call: passed, or a refusal
abbrev pub Step : Type 0
Step = Answer (Unit {0})

-- refusal n, unless the test holds
unfoldable pub need : ℕ → Bool → Step
need n true = got tt
need n false = refused (plain n)

-- refusal n with the place p, unless the test holds
unfoldable pub need_at : ℕ → ℕ → Bool → Step
need_at p n true = got tt
need_at p n false = refused (placed n p)

-- the first refusal met ends the call, and its number goes out unchanged
unfoldable pub in_order : {A : Type 0} → List Step → A → Answer A
in_order [] a = got a
in_order (got u ∷ steps) a = in_order steps a
in_order (refused x ∷ steps) a = refused x

-- every step is passed
pub data Passed : List Step → Type 0 where
  none : Passed []
  more : {ss : List Step} → Passed ss → Passed (got tt ∷ ss)

-- the first step that refuses does so with x; those before it are passed
pub data FirstRefusal (x : Refusal) : List Step → Type 0 where
  here : {ss : List Step} → FirstRefusal x (refused x ∷ ss)
  later : {ss : List Step} → FirstRefusal x ss → FirstRefusal x (got tt ∷ ss)

-- what is there after a call: `new`, or at a refusal what was there before
unfoldable pub afterwards : {A B : Type 0} → Answer A → B → B → B
afterwards (got a) new old = new
afterwards (refused x) new old = old

-- go on with what was got
unfoldable pub and_then : {A B : Type 0} → Answer A → (A → Answer B) → Answer B
and_then (got a) f = f a
and_then (refused x) f = refused x

-- what was got, or else the other
unfoldable pub or_else : {A : Type 0} → Answer A → A → A
or_else (got a) other = a
or_else (refused x) other = other

-- was anything got
unfoldable pub passed : {A : Type 0} → Answer A → Step
passed (got a) = got tt
passed (refused x) = refused x
