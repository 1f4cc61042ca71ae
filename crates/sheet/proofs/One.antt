-- Each public function of `sheet` has one answer, and leaves one content of each buffer.
use Rattle.std.specs.Prelude.{Result}
use mathlib.Core.Path.{◌≡◌, sym, ◌∙◌}
use Prim.Native.Nat.{ℕ}
use mathlib.Core.List.{List}
use Rattle.format.specs.declared.Part.{Part}
use Rattle.format.specs.declared.Reason.{Reason}
use Rattle.format.proofs.Given.{given-same}
use Rattle.sheet.specs.Scanning.{Scanned}

pub scan-one : (sheet : List ℕ) (row : List Part) (r r₂ : Result ℕ Reason) (row' row₂ : List Part) → Scanned sheet row r row' → Scanned sheet row r₂ row₂ → (r ≡ r₂) × (row' ≡ row₂)
scan-one sheet row r r₂ row' row₂ a b = (given-same r r₂ (a.answered ∙ sym b.answered), a.row-left ∙ sym b.row-left)
