-- Each public function of `pages` has one answer, and leaves one content of each buffer.
use Rattle.std.specs.Prelude.{Result}
use mathlib.Core.Path.{◌≡◌, sym, ◌∙◌}
use mathlib.Core.Bool.{Bool, ◌&&◌}
use Prim.Native.Nat.{ℕ}
use mathlib.Core.List.{List}
use Rattle.format.specs.Answers.{need}
use Rattle.format.specs.Bytes.{same}
use Rattle.format.specs.Numbers.{given}
use Rattle.format.specs.Pages.{page_size, good_size, lock_map}
use Rattle.format.specs.declared.Reason.{Reason}
use Rattle.format.proofs.Given.{given-same}
use Rattle.pages.specs.Storing.{lock_judged, count_stored, tag_stored}

pub good-size-one : (n : ℕ) (r r₂ : Bool) → r ≡ good_size page_size n → r₂ ≡ good_size page_size n → r ≡ r₂
good-size-one n r r₂ a b = a ∙ sym b

pub good-locks-one : (locks : List ℕ) (n : ℕ) (r r₂ : Bool) → r ≡ lock_map page_size locks n → r₂ ≡ lock_map page_size locks n → r ≡ r₂
good-locks-one locks n r r₂ a b = a ∙ sym b

pub size-stage-one : (n : ℕ) (locks : List ℕ) (r r₂ : Result (Unit {0}) Reason) → given r ≡ need 1 (good_size page_size n && lock_map page_size locks n)
    → given r₂ ≡ need 1 (good_size page_size n && lock_map page_size locks n) → r ≡ r₂
size-stage-one n locks r r₂ a b = given-same r r₂ (a ∙ sym b)

pub same-one : (a b : List ℕ) (r r₂ : Bool) → r ≡ same a b → r₂ ≡ same a b → r ≡ r₂
same-one a b r r₂ e f = e ∙ sym f

pub lock-stage-one : (image tag locks : List ℕ) (r r₂ : Result (Unit {0}) Reason) → given r ≡ lock_judged page_size image tag locks → given r₂ ≡ lock_judged page_size image tag locks → r ≡ r₂
lock-stage-one image tag locks r r₂ a b = given-same r r₂ (a ∙ sym b)

pub store-one : (image tag : List ℕ) (r r₂ : ℕ) (tag' tag₂ : List ℕ)
    → ((r ≡ count_stored page_size image tag) × (tag' ≡ tag_stored page_size image tag))
    → ((r₂ ≡ count_stored page_size image tag) × (tag₂ ≡ tag_stored page_size image tag))
    → (r ≡ r₂) × (tag' ≡ tag₂)
store-one image tag r r₂ tag' tag₂ a b = (a.0 ∙ sym b.0, a.1 ∙ sym b.1)
