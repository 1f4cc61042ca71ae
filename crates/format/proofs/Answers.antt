-- Laws of answers and steps. The last two say for every call at once when it refuses and when it does its work.
use mathlib.Core.Path.{◌≡◌, refl, ap}
use mathlib.Core.Logic.{◌⊎◌, inl, inr}
use Prim.Native.Nat.{ℕ}
use mathlib.Core.Bool.{Bool, true, false}
use mathlib.Core.List.{List, [], ◌∷◌, ◌++◌}
use Rattle.format.specs.Answers.{Answer, Refusal, plain, placed, got, refused, Step, need, need_at, in_order, Passed, none, more, FirstRefusal, here, later, afterwards, and_then, or_else, passed}
use Rattle.format.proofs.Tests.{never}

-- (`cc` says it too, but computes all that is in reach: name it where much is)
pub got-inj : {A : Type 0} {a b : A} → got a ≡ got b → a ≡ b
got-inj e = cc

pub refused-inj : {A : Type 0} {x y : Refusal} → ◌≡◌ {A = Answer A} (refused x) (refused y) → x ≡ y
refused-inj e = cc

-- ---- one step

pub need-ok : (n : ℕ) (b : Bool) → b ≡ true → need n b ≡ got tt
unfolding need
need-ok n b e = rw e

pub need-no : (n : ℕ) (b : Bool) → b ≡ false → need n b ≡ refused (plain n)
unfolding need
need-no n b e = rw e

pub need-inv : (n : ℕ) (b : Bool) (u : Unit {0}) → need n b ≡ got u → b ≡ true
unfolding need
need-inv n true u e = refl
need-inv n false u e = never (cc)

pub need-refused : (n : ℕ) (b : Bool) (x : Refusal) → need n b ≡ refused x → (b ≡ false) × (x ≡ plain n)
unfolding need
need-refused n true x e = never (cc)
need-refused n false x e = (refl, cc)

pub need-at-ok : (p n : ℕ) (b : Bool) → b ≡ true → need_at p n b ≡ got tt
unfolding need_at
need-at-ok p n b e = rw e

pub need-at-inv : (p n : ℕ) (b : Bool) (u : Unit {0}) → need_at p n b ≡ got u → b ≡ true
unfolding need_at
need-at-inv p n true u e = refl
need-at-inv p n false u e = never (cc)

pub need-at-refused : (p n : ℕ) (b : Bool) (x : Refusal) → need_at p n b ≡ refused x → x ≡ placed n p
unfolding need_at
need-at-refused p n true x e = never (cc)
need-at-refused p n false x e = cc

-- ---- going on with what was got

pub then_ok : {A B : Type 0} (m : Answer A) (f : A → Answer B) (a : A) → m ≡ got a → and_then m f ≡ f a
unfolding and_then
then_ok m f a e = rw e

pub then-no : {A B : Type 0} (m : Answer A) (f : A → Answer B) (x : Refusal) → m ≡ refused x → and_then m f ≡ refused x
unfolding and_then
then-no m f x e = rw e

pub then-inv : {A B : Type 0} (m : Answer A) (f : A → Answer B) (b : B) → and_then m f ≡ got b → (a : A) × (m ≡ got a) × (f a ≡ got b)
unfolding and_then
then-inv (got a) f b e = (a, refl, e)
then-inv (refused x) f b e = never (cc)

pub then-refused : {A B : Type 0} (m : Answer A) (f : A → Answer B) (x : Refusal) → and_then m f ≡ refused x
    → (m ≡ refused x) ⊎ ((a : A) × (m ≡ got a) × (f a ≡ refused x))
unfolding and_then
then-refused (got a) f x e = inr (a, refl, e)
then-refused (refused y) f x e = inl (let k : y ≡ x = cc in ap refused k)

pub or-else-got : {A : Type 0} (m : Answer A) (a other : A) → m ≡ got a → or_else m other ≡ a
unfolding or_else
or-else-got m a other e = rw e

pub passed_ok : {A : Type 0} (m : Answer A) (a : A) → m ≡ got a → passed m ≡ got tt
unfolding passed
passed_ok m a e = rw e

pub passed-no : {A : Type 0} (m : Answer A) (x : Refusal) → m ≡ refused x → passed m ≡ refused x
unfolding passed
passed-no m x e = rw e

-- a passed step got something, and that is what stands for it
pub passed-inv : {A : Type 0} (m : Answer A) (other : A) (u : Unit {0}) → passed m ≡ got u → m ≡ got (or_else m other)
unfolding passed or_else
passed-inv (got a) other u e = refl
passed-inv (refused x) other u e = never (cc)

pub passed-refused : {A : Type 0} (m : Answer A) (x : Refusal) → passed m ≡ refused x → m ≡ refused x
unfolding passed
passed-refused (got a) x e = never (cc)
passed-refused (refused y) x e = let k : y ≡ x = cc in ap refused k

-- ---- steps in order

pub first-ok : {A : Type 0} (s : Step) (ss : List Step) (a : A) → s ≡ got tt → in_order (s ∷ ss) a ≡ in_order ss a
unfolding in_order
first-ok s ss a e = rw e

pub first-no : {A : Type 0} (s : Step) (ss : List Step) (a : A) (x : Refusal) → s ≡ refused x → in_order (s ∷ ss) a ≡ refused x
unfolding in_order
first-no s ss a x e = rw e

pub first-inv : {A : Type 0} (s : Step) (ss : List Step) (a b : A) → in_order (s ∷ ss) a ≡ got b → (s ≡ got tt) × (in_order ss a ≡ got b)
unfolding in_order
first-inv (got tt) ss a b e = (refl, e)
first-inv (refused x) ss a b e = never (cc)

pub none-ok : {A : Type 0} (a : A) → in_order [] a ≡ got a
unfolding in_order
none-ok a = refl

pub none-inv : {A : Type 0} (a b : A) → in_order [] a ≡ got b → a ≡ b
unfolding in_order
none-inv a b e = got-inj e

pub none-refuses : {A C : Type 0} (a : A) (x : Refusal) → in_order [] a ≡ refused x → C
unfolding in_order
none-refuses a x e = never (cc)

-- the last step is the answer
pub last_step : (s : Step) → in_order (s ∷ []) tt ≡ s
unfolding in_order
last_step (got tt) = refl
last_step (refused x) = refl

-- the test behind a first step, and the steps behind it
pub next-ok : {A : Type 0} (n : ℕ) (b : Bool) (ss : List Step) (a : A) → b ≡ true → in_order (need n b ∷ ss) a ≡ in_order ss a
next-ok n b ss a e = first-ok (need n b) ss a (need-ok n b e)

pub next-no : {A : Type 0} (n : ℕ) (b : Bool) (ss : List Step) (a : A) → b ≡ false → in_order (need n b ∷ ss) a ≡ refused (plain n)
next-no n b ss a e = first-no (need n b) ss a (plain n) (need-no n b e)

pub next-inv : {A : Type 0} (n : ℕ) (b : Bool) (ss : List Step) (a c : A) → in_order (need n b ∷ ss) a ≡ got c → (b ≡ true) × (in_order ss a ≡ got c)
next-inv n b ss a c e = let h = first-inv (need n b) ss a c e in (need-inv n b tt h.0, h.1)

-- some steps, and then others
pub in-order-append : {A : Type 0} (ss rs : List Step) (a : A) → in_order (ss ++ rs) a ≡ and_then (in_order {A = Unit {0}} ss tt) (λ _. in_order rs a)
unfolding in_order and_then
in-order-append [] rs a = refl
in-order-append (got u ∷ ss) rs a = in-order-append ss rs a
in-order-append (refused x ∷ ss) rs a = refl

-- ---- when a call refuses, and when it does its work

-- A call refuses with x exactly when a step refuses with x and no earlier one refuses.
pub refuses : {A : Type 0} (x : Refusal) (ss : List Step) (a : A) → FirstRefusal x ss → in_order ss a ≡ refused x
unfolding in_order
refuses x _ a here = refl
refuses x _ a (later f) = refuses x _ a f

pub refused-first : {A : Type 0} (x : Refusal) (ss : List Step) (a : A) → in_order ss a ≡ refused x → FirstRefusal x ss
unfolding in_order
refused-first x [] a e = never (cc)
refused-first x (got tt ∷ ss) a e = later (refused-first x ss a e)
refused-first x (refused y ∷ ss) a e = let k : y ≡ x = cc in rw k here

-- It does its work exactly when every step is passed.
pub works : {A : Type 0} (ss : List Step) (a : A) → Passed ss → in_order ss a ≡ got a
unfolding in_order
works _ a none = refl
works _ a (more p) = works _ a p

pub worked : {A : Type 0} (ss : List Step) (a b : A) → in_order ss a ≡ got b → Passed ss × (a ≡ b)
unfolding in_order
worked [] a b e = (none, got-inj e)
worked (got tt ∷ ss) a b e = let h = worked ss a b e in (more h.0, h.1)
worked (refused x ∷ ss) a b e = never (cc)

-- ---- buffers

pub afterwards-got : {A B : Type 0} (m : Answer A) (a : A) (new old : B) → m ≡ got a → afterwards m new old ≡ new
unfolding afterwards
afterwards-got m a new old e = rw e

pub afterwards-refused : {A B : Type 0} (m : Answer A) (x : Refusal) (new old : B) → m ≡ refused x → afterwards m new old ≡ old
unfolding afterwards
afterwards-refused m x new old e = rw e

-- ---- steps before others

pub refused-on : {A B : Type 0} (ss rs : List Step) (a : A) (b : B) (x : Refusal) → in_order ss a ≡ refused x → in_order (ss ++ rs) b ≡ refused x
unfolding in_order
refused-on [] rs a b x e = never (cc)
refused-on (got u ∷ ss) rs a b x e = refused-on ss rs a b x e
refused-on (refused y ∷ ss) rs a b x e = let k : y ≡ x = cc in ap refused k

pub passed_on : {A B : Type 0} (ss rs : List Step) (a c : A) (b : B) → in_order ss a ≡ got c → in_order (ss ++ rs) b ≡ in_order rs b
unfolding in_order
passed_on [] rs a c b e = refl
passed_on (got u ∷ ss) rs a c b e = passed_on ss rs a c b e
passed_on (refused y ∷ ss) rs a c b e = never (cc)

-- the same steps before another value
pub refused-with : {A B : Type 0} (ss : List Step) (a : A) (b : B) (x : Refusal) → in_order ss a ≡ refused x → in_order ss b ≡ refused x
refused-with ss a b x e = refuses x ss b (refused-first x ss a e)
