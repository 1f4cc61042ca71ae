-- Each public function of `render` has one answer, and leaves one content of each buffer.
use mathlib.Core.Path.{◌≡◌, sym, ◌∙◌}
use Prim.Native.Nat.{ℕ}
use mathlib.Core.List.{List, ◌++◌}
use Rattle.std.specs.Prelude.{Result}
use Rattle.format.specs.Sheet.{entries}
use Rattle.format.specs.declared.Part.{Part}
use Rattle.format.specs.declared.Reason.{Reason}
use Rattle.format.proofs.Given.{given-same}
use Rattle.rows.specs.Rows.{slots_at}
use Rattle.render.specs.Rendering.{carried_on, Rendered}

pub render-one : (tag made : List ℕ) (row : List Part) (sheet : List ℕ) (r r₂ : Result ℕ Reason) (sheet' sheet₂ : List ℕ)
    → Rendered (entries (record { slots = slots_at (tag ++ made) row; carried = carried_on tag })) sheet r sheet'
    → Rendered (entries (record { slots = slots_at (tag ++ made) row; carried = carried_on tag })) sheet r₂ sheet₂
    → (r ≡ r₂) × (sheet' ≡ sheet₂)
render-one tag made row sheet r r₂ sheet' sheet₂ a b = (given-same r r₂ (a.answered ∙ sym b.answered), a.left ∙ sym b.left)
