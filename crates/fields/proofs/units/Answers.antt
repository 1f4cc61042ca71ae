-- The library's `all` is the definition's.
use borrow.Author.Rules.{rules}
use borrow.Author.Tests.{tests}
use mathlib.Core.Path.{◌∙◌}
use Rattle.std.proofs.lemmas.Iterator.{YieldsList-from_slice}
use Rattle.std.proofs.lemmas.Iterator.Search.{all_from_yields_List}
use Rattle.format.specs.Fields.{unit_byte}
use Rattle.format.proofs.Lists.{list_all-all}
use Rattle.fields.proofs.units.Goals as goal

pub returns : goal.returns
returns c =
    all_from_yields_List unit_byte _ _ _ c.all.ensures.ran (YieldsList-from_slice c.args.s.now cc) (λ x b q k. search (rules, tests))
    ∙ list_all-all unit_byte c.args.s.now
