-- Each public function of `rows` has one answer.
use mathlib.Core.Path.{◌≡◌, sym, ◌∙◌}
use Prim.Native.Nat.{ℕ}
use mathlib.Core.List.{List, ◌++◌}
use lib.ListN.{get_or}
use denote.Ref.{Bor}
use Rattle.format.specs.declared.Part.{Part}
use Rattle.format.specs.Bytes.{part}
use Rattle.format.specs.Elements.{numbers, place}

pub number-at-one : (k r r₂ : ℕ) → r ≡ get_or numbers k 0 → r₂ ≡ get_or numbers k 0 → r ≡ r₂
number-at-one k r r₂ a b = a ∙ sym b

pub place-of-one : (number r r₂ : ℕ) → r ≡ place number → r₂ ≡ place number → r ≡ r₂
place-of-one number r r₂ a b = a ∙ sym b

pub piece-one : (src made : List ℕ) (element : Part) (r r₂ : Bor (List ℕ)) → r.now ≡ part element.at element.len (src ++ made) → r₂.now ≡ part element.at element.len (src ++ made) → r.now ≡ r₂.now
piece-one src made element r r₂ a b = a ∙ sym b
