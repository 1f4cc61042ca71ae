-- The public function of `text` has one answer.
use mathlib.Core.Path.{◌≡◌, sym, ◌∙◌}
use mathlib.Core.Bool.{Bool}
use Prim.Native.Nat.{ℕ}
use mathlib.Core.List.{List}
use Rattle.format.specs.Text.{text}

pub is-text-one : (s : List ℕ) (r r₂ : Bool) → r ≡ text s → r₂ ≡ text s → r ≡ r₂
is-text-one s r r₂ a b = a ∙ sym b
