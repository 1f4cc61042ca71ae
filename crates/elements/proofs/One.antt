-- Each public function of `elements` has one answer.
use mathlib.Core.Path.{◌≡◌, sym, ◌∙◌}
use mathlib.Core.Bool.{Bool, ◌&&◌}
use Prim.Native.Nat.{ℕ}
use mathlib.Core.List.{List}
use Rattle.format.specs.Elements.{form, value, known}

pub formed-one : (number : ℕ) (value : List ℕ) (r r₂ : Bool) → r ≡ form number value → r₂ ≡ form number value → r ≡ r₂
formed-one number value r r₂ a b = a ∙ sym b

pub editable-one : (number : ℕ) (bytes : List ℕ) (r r₂ : Bool) → r ≡ known number && value number bytes → r₂ ≡ known number && value number bytes → r ≡ r₂
editable-one number bytes r r₂ a b = a ∙ sym b
