-- `pages::any_locked` meets its contract: the library's fold is the definition's.
use mathlib.Core.Path.{◌∙◌}
use mathlib.Core.Bool.{false, ◌||◌}
use lib.Dec.{eqb}
use borrow.Author.Rules.{rules}
use borrow.Author.Tests.{tests}
use Rattle.std.proofs.lemmas.Iterator.{YieldsList-from_slice}
use Rattle.std.proofs.lemmas.Iterator.Consumers.{fold_from_yields_List}
use Rattle.pages.proofs.Comparing.{fold-locked}
use Rattle.pages.proofs.any_locked.Goals as goal

pub returns : goal.returns
returns c =
    fold_from_yields_List _ (λ b x. b || eqb x 1) false _ c.fold.ensures.ran (YieldsList-from_slice c.args.locks.now (cc)) (λ b x r f k. search (rules, tests))
    ∙ fold-locked c.args.locks.now
