-- Each public function of `chain` has one answer. A part of a tag that is handed out has one content and one place.
use Rattle.std.specs.Prelude.{Result}
use mathlib.Core.Path.{◌≡◌, sym, ap₂, ◌∙◌}
use Prim.Native.Nat.{ℕ}
use mathlib.Core.Bool.{Bool}
use mathlib.Core.List.{List}
use lib.ListN.{get_or}
use denote.Ref.{Bor}
use Rattle.format.specs.Chain.{id_of}
use Rattle.format.specs.Numbers.{told}
use Rattle.format.specs.declared.Refusal.{Refusal}
use Rattle.format.proofs.Given.{told-same}
use Rattle.chain.specs.Part.{ThatPart}
use Rattle.chain.specs.Formed.{formed_by}
use Rattle.chain.specs.Survey.{survey_of}
use Rattle.chain.specs.declared.Chain.{Chain}

pub block-at-one : (tag : Bor (List ℕ)) (at : ℕ) (r r₂ : Bor (List ℕ))
    → ThatPart tag at (get_or tag.now at 0) r
    → ThatPart tag at (get_or tag.now at 0) r₂
    → (r.now ≡ r₂.now) × (r.ref_ptr ≡ r₂.ref_ptr)
block-at-one tag at r r₂ a b = (a.0 ∙ sym b.0, ap₂ (λ (x y : ℕ). (x, y)) (a.1 ∙ sym b.1) (a.2 ∙ sym b.2))

pub id-of-one : (block : List ℕ) (r r₂ : ℕ) → r ≡ id_of block → r₂ ≡ id_of block → r ≡ r₂
id-of-one block r r₂ a b = a ∙ sym b

pub formed-by-one : (block : List ℕ) (x : ℕ) (r r₂ : Bool) → r ≡ formed_by x block → r₂ ≡ formed_by x block → r ≡ r₂
formed-by-one block x r r₂ a b = a ∙ sym b

pub survey-of-one : (tag : List ℕ) (r r₂ : Result Chain Refusal) → told r ≡ survey_of tag → told r₂ ≡ survey_of tag → r ≡ r₂
survey-of-one tag r r₂ a b = told-same r r₂ (a ∙ sym b)
