-- An identifier put together: one answer, and one content of the buffer.
use mathlib.Core.Path.{◌≡◌}
use mathlib.Core.List.{List}
use Prim.Native.Nat.{ℕ}
use Rattle.std.specs.Prelude.{Result}
use Rattle.format.specs.declared.Reason.{Reason}
use Rattle.words.specs.Calls.{Fills}
use Rattle.words.proofs.Promises.{fills_one}
use Rattle.identifier.specs.Elements.{three}
use Rattle.identifier.specs.Calls.{joining}

pub put-together-one : (item isil set text : List ℕ) (r r₂ : Result ℕ Reason) (text' text₂ : List ℕ)
    → Fills (joining (three item isil set) text) r text'
    → Fills (joining (three item isil set) text) r₂ text₂
    → (r ≡ r₂) × (text' ≡ text₂)
put-together-one item isil set text = fills_one (joining (three item isil set) text)
