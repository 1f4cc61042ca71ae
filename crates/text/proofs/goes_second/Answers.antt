-- Each answer is by the row that the byte leads.
use mathlib.Core.Path.{refl}
use mathlib.Core.Logic.{⊎_elim}
use native.Mathlib.Omega.{arith}
use Rattle.format.specs.Bytes.{all}
use Rattle.format.specs.Text.{rows}
use Rattle.format.proofs.Tests.{le-or-lt}
use Rattle.format.proofs.Text.{leads}
use Rattle.text.proofs.Letters.{second-three, second-four}
use Rattle.text.proofs.goes_second.Goals as goal

pub returns-in-224 : goal.returns-in-224
unfolding rows all
returns-in-224 c = second-three (omega arith) (leads 2 c.args.first refl refl (omega arith) (omega arith)) refl c.within.ensures

pub returns-in-237 : goal.returns-in-237
unfolding rows all
returns-in-237 c = second-three (omega arith) (leads 4 c.args.first refl refl (omega arith) (omega arith)) refl c.within-in-237.ensures

pub returns-in-240 : goal.returns-in-240
unfolding rows all
returns-in-240 c = second-four (omega arith) (leads 6 c.args.first refl refl (omega arith) (omega arith)) refl c.within-in-240.ensures

pub returns-in-244 : goal.returns-in-244
unfolding rows all
returns-in-244 c = second-four (omega arith) (leads 8 c.args.first refl refl (omega arith) (omega arith)) refl c.within-in-244.ensures

pub returns-in_default : goal.returns-in_default
unfolding rows all
returns-in_default c =
    let b = c.args.first in
    ⊎_elim
    (λ h. second-three (omega arith)
    (⊎_elim (λ k. leads 3 b refl refl (omega arith) (omega arith)) (λ k. leads 5 b refl refl (omega arith) (omega arith)) (le-or-lt 0xEC b)) refl c.goes_on.ensures)
    (λ h. second-four (omega arith) (leads 7 b refl refl (omega arith) (omega arith)) refl c.goes_on.ensures)
    (le-or-lt 0xEF b)
