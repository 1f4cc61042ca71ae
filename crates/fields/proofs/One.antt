-- Each public function of `fields` has one answer.
use mathlib.Core.Path.{◌≡◌, sym, ◌∙◌}
use mathlib.Core.Bool.{Bool}
use Prim.Native.Nat.{ℕ}
use mathlib.Core.List.{List}
use Rattle.format.specs.Fields.{isil, alternative}
use Rattle.std.specs.Prelude.{Result}
use Rattle.format.specs.declared.Reason.{Reason}
use Rattle.fields.specs.Forms.{item_form, owner_form, library_form}
use Rattle.fields.specs.declared.Item.{Item}
use Rattle.fields.specs.declared.Owner.{Owner}
use Rattle.fields.specs.declared.LibraryParts.{LibraryParts}

pub isil-one : (s : List ℕ) (r r₂ : Bool) → r ≡ isil s → r₂ ≡ isil s → r ≡ r₂
isil-one s r r₂ a b = a ∙ sym b

pub alternative-one : (s : List ℕ) (r r₂ : Bool) → r ≡ alternative s → r₂ ≡ alternative s → r ≡ r₂
alternative-one s r r₂ a b = a ∙ sym b

pub item-in-one : (field : List ℕ) (r r₂ : Result Item Reason) → r ≡ item_form field → r₂ ≡ item_form field → r ≡ r₂
item-in-one field r r₂ a b = a ∙ sym b

pub owner-in-one : (field : List ℕ) (r r₂ : Result Owner Reason) → r ≡ owner_form field → r₂ ≡ owner_form field → r ≡ r₂
owner-in-one field r r₂ a b = a ∙ sym b

pub library-in-one : (block : List ℕ) (r r₂ : Result LibraryParts Reason) → r ≡ library_form block → r₂ ≡ library_form block → r ≡ r₂
library-in-one block r r₂ a b = a ∙ sym b
