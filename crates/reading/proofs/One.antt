-- Reading: one answer, and one content of each buffer.
use Rattle.std.specs.Prelude.{Result}
use mathlib.Core.Path.{◌≡◌}
use Prim.Native.Nat.{ℕ}
use mathlib.Core.List.{List}
use Rattle.format.specs.Numbers.{Reads}
use Rattle.format.specs.declared.Refusal.{Refusal}
use Rattle.format.proofs.Promises.{reads-one}

pub read_one : (tag sheet : List ℕ) (r r₂ : Result ℕ Refusal) (sheet' sheet₂ : List ℕ) → Reads tag sheet r sheet' → Reads tag sheet r₂ sheet₂ → (r ≡ r₂) × (sheet' ≡ sheet₂)
read_one = reads-one
