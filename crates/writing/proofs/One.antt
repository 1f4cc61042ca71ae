-- Writing: one answer, and one content of each buffer.
use Rattle.std.specs.Prelude.{Result}
use mathlib.Core.Path.{◌≡◌}
use Prim.Native.Nat.{ℕ}
use mathlib.Core.List.{List}
use Rattle.format.specs.Numbers.{Writes}
use Rattle.format.specs.declared.Reason.{Reason}
use Rattle.format.proofs.Promises.{writes_one}

pub write-one : (sheet tag locks : List ℕ) (r r₂ : Result ℕ Reason) (tag' tag₂ : List ℕ)
    → Writes sheet tag locks r tag'
    → Writes sheet tag locks r₂ tag₂
    → (r ≡ r₂) × (tag' ≡ tag₂)
write-one = writes_one
