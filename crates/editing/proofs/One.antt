-- Editing: one answer, and one content of each buffer.
use Rattle.std.specs.Prelude.{Result}
use mathlib.Core.Path.{◌≡◌}
use Prim.Native.Nat.{ℕ}
use mathlib.Core.List.{List}
use Rattle.format.specs.Numbers.{Edits}
use Rattle.format.specs.declared.Edited.{Edited}
use Rattle.format.specs.declared.Refusal.{Refusal}
use Rattle.format.proofs.Promises.{edits-one}

pub edit-one : (tag locks : List ℕ) (number : ℕ) (bytes old : List ℕ) (r r₂ : Result Edited Refusal) (tag' tag₂ old' old₂ : List ℕ)
    → Edits tag locks number bytes old r tag' old'
    → Edits tag locks number bytes old r₂ tag₂ old₂
    → (r ≡ r₂) × (tag' ≡ tag₂) × (old' ≡ old₂)
edit-one = edits-one
