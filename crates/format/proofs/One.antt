-- Each public function of `format`, which are conversions, has one answer.
use mathlib.Core.Path.{◌≡◌, sym, ◌∙◌}
use Prim.Native.Nat.{ℕ}
use Rattle.format.specs.Numbers.{reason_number, damage_number, refusal_number, refusal_given}
use Rattle.format.specs.declared.Reason.{Reason}
use Rattle.format.specs.declared.Damage.{Damage}
use Rattle.format.specs.declared.Refusal.{Refusal}
use Rattle.format.specs.declared.Refusal.TheVariants as code

pub u32-from-reason-one : (reason : Reason) (r r₂ : ℕ) → r ≡ reason_number reason → r₂ ≡ reason_number reason → r ≡ r₂
u32-from-reason-one reason r r₂ a b = a ∙ sym b

pub u32-from-damage-one : (damage : Damage) (r r₂ : ℕ) → r ≡ damage_number damage → r₂ ≡ damage_number damage → r ≡ r₂
u32-from-damage-one damage r r₂ a b = a ∙ sym b

pub u32-from-refusal-one : (refusal : Refusal) (r r₂ : ℕ) → r ≡ refusal_number (refusal_given refusal) → r₂ ≡ refusal_number (refusal_given refusal) → r ≡ r₂
u32-from-refusal-one refusal r r₂ a b = a ∙ sym b

pub refusal-from-reason-one : (reason : Reason) (r r₂ : Refusal) → r ≡ code.Plain reason → r₂ ≡ code.Plain reason → r ≡ r₂
refusal-from-reason-one reason r r₂ a b = a ∙ sym b
