-- Taking apart: one answer, and one content of each of the three buffers.
use mathlib.Core.Path.{◌≡◌, ap}
use Prim.Native.Nat.{ℕ}
use mathlib.Core.Bool.{Bool}
use mathlib.Core.List.{List}
use Rattle.std.specs.Prelude.{Result}
use Rattle.format.specs.declared.Reason.{Reason}
use Rattle.identifier.specs.declared.Parted.{Parted}
use Rattle.identifier.specs.Elements.{Elements, three}
use Rattle.identifier.specs.Calls.{parting, FillsThree}
use Rattle.identifier.proofs.Promises.{fills-three-one}

pub take-apart-one : (text : List ℕ) (leads : Bool) (item isil set : List ℕ) (r r₂ : Result Parted Reason) (item' isil' set' item₂ isil₂ set₂ : List ℕ)
    → FillsThree (parting leads text (three item isil set)) r (three item' isil' set')
    → FillsThree (parting leads text (three item isil set)) r₂ (three item₂ isil₂ set₂)
    → (r ≡ r₂) × (item' ≡ item₂) × (isil' ≡ isil₂) × (set' ≡ set₂)
take-apart-one text leads item isil set r r₂ item' isil' set' item₂ isil₂ set₂ x y =
    let h = fills-three-one (parting leads text (three item isil set)) r r₂ _ _ x y in
    (h.0, ap (λ (e : Elements). e.item) h.1, ap (λ (e : Elements). e.isil) h.1, ap (λ (e : Elements). e.set) h.1)
