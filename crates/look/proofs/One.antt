-- Each public function of `look` has one answer, and leaves one content of each buffer.
use Rattle.std.specs.Prelude.{Result}
use mathlib.Core.Path.{◌≡◌, sym, ◌∙◌}
use Prim.Native.Nat.{ℕ}
use mathlib.Core.List.{List}
use Rattle.format.specs.declared.Part.{Part}
use Rattle.format.specs.declared.Refusal.{Refusal}
use Rattle.format.proofs.Given.{told-same}
use Rattle.look.specs.View.{Looked}
use Rattle.look.specs.declared.View.{View}

pub look-at-one : (tag : List ℕ) (row : List Part) (made : List ℕ) (r r₂ : Result View Refusal) (row' : List Part) (made' : List ℕ) (row₂ : List Part) (made₂ : List ℕ)
    → Looked tag row made r row' made'
    → Looked tag row made r₂ row₂ made₂
    → (r ≡ r₂) × (row' ≡ row₂) × (made' ≡ made₂)
look-at-one tag row made r r₂ row' made' row₂ made₂ a b =
    (told-same r r₂ (a.answered ∙ sym b.answered), a.row-left ∙ sym b.row-left, a.made-left ∙ sym b.made-left)
