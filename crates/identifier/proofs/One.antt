-- Each public function of `identifier` has one answer.
use mathlib.Core.Path.{◌≡◌, sym, ◌∙◌}
use Prim.Native.Nat.{ℕ}
use mathlib.Core.Bool.{Bool}
use mathlib.Core.List.{List}
use Rattle.identifier.specs.Parts.{dotless}
use Rattle.identifier.specs.SetDigits.{width}

pub width_one : (total r r₂ : ℕ) → r ≡ width total → r₂ ≡ width total → r ≡ r₂
width_one total r r₂ a b = a ∙ sym b

pub is-dotless-one : (s : List ℕ) (r r₂ : Bool) → r ≡ dotless s → r₂ ≡ dotless s → r ≡ r₂
is-dotless-one s r r₂ a b = a ∙ sym b
