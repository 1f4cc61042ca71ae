-- How much room is always enough: 255, 16 and 4 bytes for the elements, 279 for the identifier.
use mathlib.Core.Path.{◌≡◌, refl, ap}
use Prim.Native.Nat.{ℕ, ◌≤◌}
use native.Mathlib.Omega.{arith}
use mathlib.Core.Bool.{Bool, true}
use mathlib.Core.List.{List, [], ◌∷◌, ◌++◌}
use lib.ListN.{length, length-append}
use lib.Dec.{leb}
use borrow.Author.Tests.{leb-true}
use Rattle.format.specs.Bytes.{up_to, past}
use Rattle.format.specs.Fields.{hyphen, isil_of, isil}
use Rattle.format.specs.Elements.{shape, form}
use Rattle.format.proofs.Tests.{and_r, and-iff}
use Rattle.format.proofs.Fields.{isil-whole}
use Rattle.identifier.specs.Parts.{dot}
use Rattle.identifier.specs.Elements.{Elements}
use Rattle.identifier.specs.Meaning.{item, isil as led, Item, Ends, none, set, Holds, holds}
use Rattle.identifier.proofs.Sets.{width_is, width_few, same_length}
use Rattle.identifier.proofs.Holding.{form-isil}

isil-length : (i : List ℕ) → form 3 i ≡ true → length i ≤ 16
unfolding isil isil_of
isil-length i f =
    let p : List ℕ = up_to hyphen i in
    let u : List ℕ = past hyphen i in
    let h = simp and-iff at (form-isil i f) in
    let few = leb-true (length p) 4 h.0.0.0.1 in
    let fewer = leb-true (length u) 11 h.0.1.1 in
    omega (arith, ap length (isil-whole i (form-isil i f)), length-append p (hyphen ∷ u))

item-length : (x : List ℕ) → Item x → length x ≤ 255
unfolding form
item-length x it = leb-true (length x) 255 (and_r (shape 1 x) (leb (length x) 255) it.formed)

ends-length : {e back : List ℕ} → Ends e back → (length e ≡ 4) × (length back ≤ 7)
ends-length none = (refl, omega arith)
ends-length (set (set {t} w l s)) = (refl, omega (arith, width_is w, (width_few t).1, same_length s))

pub part_room : (leads : Bool) (s : List ℕ) (e : Elements) → Holds leads s e → (length e.item ≤ 255) × (length e.isil ≤ 16) × (length e.set ≡ 4)
part_room leads s e h = go h
  where
    go : {leads : Bool} {s : List ℕ} {e : Elements} → Holds leads s e → (length e.item ≤ 255) × (length e.isil ≤ 16) × (length e.set ≡ 4)
    go (holds {x} item it h) = (item-length x it, omega arith, (ends-length h).0)
    go (holds {x} (led {i} f) it h) = (item-length x it, isil-length i f, (ends-length h).0)

pub join-room : (leads : Bool) (s : List ℕ) (e : Elements) → Holds leads s e → length s ≤ 279
join-room leads s e h = go h
  where
    go : {leads : Bool} {s : List ℕ} {e : Elements} → Holds leads s e → length s ≤ 279
    go (holds {x} {back} item it h) = omega (arith, item-length x it, (ends-length h).1, length-append x back)
    go (holds {x} {back} (led {i} f) it h) =
        omega (arith, isil-length i f, item-length x it, (ends-length h).1, length-append x back, length-append i (dot ∷ []), length-append (i ++ (dot ∷ [])) (x ++ back))
