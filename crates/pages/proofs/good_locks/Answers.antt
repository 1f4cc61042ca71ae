-- `pages::good_locks` meets its contract: its tests are the definition's.
use mathlib.Core.Path.{◌∙◌}
use borrow.Author.Rules.{rules}
use borrow.Author.Tests.{tests, eq-eqb}
use lib.Dec.{leb}
use Rattle.std.proofs.lemmas.Iterator.{YieldsList-from_slice}
use Rattle.std.proofs.lemmas.Iterator.Search.{all_from_yields_List}
use Rattle.format.specs.Pages.{lock_map}
use Rattle.format.proofs.Lists.{list_all-all}
use Rattle.pages.proofs.good_locks.Goals as goal

pub returns-then-locks-n : goal.returns-then-locks-n
unfolding lock_map
returns-then-locks-n c =
    rw (eq-eqb _ _ c.if-locks-n.true)
    (all_from_yields_List (λ b. leb b 1) _ _ _ c.all.ensures.ran (YieldsList-from_slice c.args.locks.now (cc)) (λ x b f k. search (rules, tests))
    ∙ list_all-all (λ b. leb b 1) c.args.locks.now)
