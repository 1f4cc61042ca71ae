-- `image::sizes::is_basic` meets its contract: the first byte tells an alternative owner, the place of the hyphen the ISIL's prefix.
use Rattle.std.specs.Prelude.{◌≡◌, ℕ, ◌+◌, ◌-◌, ◌≤◌, ◌<◌, Bool, false, ◌||◌, List, leb, length, get_or}
use mathlib.Core.Path.{sym}
use native.Mathlib.Omega.{arith}
use Rattle.format.specs.Bytes.{is_empty}
use Rattle.format.specs.Fields.{hyphen, basic_owner}
use Rattle.image.specs.Laying.{OwnerOrNone}
use Rattle.image.proofs.OwnerForms.{prefixed-facts, low-alternate, high-isil, alternate-basic, one-capital, two-capitals, more-capitals}
use Rattle.image.proofs.sizes.is_basic.Goals as goal

module _ (width : ℕ) (o : List ℕ) (g : OwnerOrNone o) where
  abbrev basic : Bool
  basic = is_empty o || basic_owner width o

  low : 1 ≤ length o → get_or o 0 0 < 4 → leb (length o + 2) width ≡ basic
  low l h = sym (alternate-basic width o (low-alternate o g (λ z. omega arith) h))

  -- an owner that is no alternative has an ISIL's two sides
  module _ (h : 4 ≤ get_or o 0 0) where
    long : 3 ≤ length o
    long = (prefixed-facts (high-isil o g h)).0

    one : get_or o 1 0 ≡ hyphen → leb (length o) width ≡ basic
    one e = sym ((one-capital (high-isil o g h) e).basic width)

    two : (get_or o 1 0 ≡ hyphen → ⊥) → get_or o 2 0 ≡ hyphen → leb (length o - 1) width ≡ basic
    two n e = sym ((two-capitals (high-isil o g h) n e).basic width)

    more : (get_or o 1 0 ≡ hyphen → ⊥) → (get_or o 2 0 ≡ hyphen → ⊥) → false ≡ basic
    more n m = sym (more-capitals width (high-isil o g h) n m)

pub returns-in-0-to-3 : goal.returns-in-0-to-3
returns-in-0-to-3 c = low _ _ c.requires (grind arith) (grind arith)

pub returns-in-45 : goal.returns-in-45
returns-in-45 c = one _ _ c.requires (grind arith) (grind arith)

pub returns-in-45-2 : goal.returns-in-45-2
returns-in-45-2 c = two _ _ c.requires (omega arith) (λ e. omega arith) (omega arith)

-- with fewer bytes it would have no second side
pub returns-in_default : goal.returns-in_default
returns-in_default c = absurd (omega (arith, long c.args.width c.args.owner.now c.requires (omega arith)))

pub returns-in_default-2 : goal.returns-in_default-2
returns-in_default-2 c = absurd (omega (arith, long c.args.width c.args.owner.now c.requires (omega arith)))

pub returns-in_default-3 : goal.returns-in_default-3
returns-in_default-3 c = more _ _ c.requires (omega arith) (λ e. omega arith) (λ e. omega arith)
