-- The library's `all` is the definition's.
use mathlib.Core.Path.{◌∙◌}
use Rattle.std.proofs.Common.{rules, tests}
use Rattle.std.proofs.lemmas.Iterator.{YieldsList-from_slice}
use Rattle.std.proofs.lemmas.Iterator.Search.{all_from_yields_List}
use Rattle.format.proofs.Lists.{list_all-all}
use Rattle.identifier.specs.SetDigits.{digit}
use Rattle.parting.proofs.set.are_digits.Goals as goal

pub returns : goal.returns
returns c =
    all_from_yields_List digit _ _ _ c.all.ensures.ran (YieldsList-from_slice c.args.s.now cc) (λ x b q k. search (rules, tests))
    ∙ list_all-all digit c.args.s.now
