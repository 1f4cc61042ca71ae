-- Each public function of `image` has one answer, and leaves one content of each buffer.
use Rattle.std.specs.Prelude.{Result}
use mathlib.Core.Path.{◌≡◌, sym, ap, ◌∙◌}
use Prim.Native.Nat.{ℕ}
use mathlib.Core.List.{List, ◌++◌}
use lib.ListN.{length}
use Rattle.format.specs.Answers.{Step, afterwards}
use Rattle.format.specs.declared.Part.{Part}
use Rattle.format.specs.declared.Reason.{Reason}
use Rattle.format.proofs.Given.{given-same}
use Rattle.rows.specs.Rows.{slots_at}
use Rattle.image.specs.Drafting.{Drafted, sealing, unsealed}

pub draft-one : (src made : List ℕ) (row : List Part) (carried draft : List ℕ) (r r₂ : Result (Unit {0}) Reason) (draft' draft₂ : List ℕ) → Drafted src made row carried draft r draft' → Drafted src made row carried draft r₂ draft₂
    → (r ≡ r₂) × (draft' ≡ draft₂)
draft-one src made row carried draft r r₂ draft' draft₂ a b =
    let e = a.answered ∙ sym b.answered in
    (given-same r r₂ e, a.left ∙ ap (λ (s : Step). afterwards s (unsealed (length draft) (slots_at (src ++ made) row) carried) draft) e ∙ sym b.left)

pub seal-one : (draft draft' draft₂ : List ℕ) → draft' ≡ sealing draft → draft₂ ≡ sealing draft → draft' ≡ draft₂
seal-one draft draft' draft₂ a b = a ∙ sym b
