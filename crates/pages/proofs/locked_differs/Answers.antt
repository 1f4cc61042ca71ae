-- `pages::locked_differs` meets its contract. The loop's invariant: no locked page that it has passed would get other bytes.
use mathlib.Core.Path.{sym, ◌∙◌}
use native.Mathlib.Omega.{arith}
use borrow.Author.Tests.{eq-eqb}
use Rattle.format.specs.Pages.{page_size}
use Rattle.pages.proofs.Counting.{one-locked}
use Rattle.pages.proofs.locked_differs.Goals as goal

pub returns-then-page_differs : goal.returns-then-page_differs
returns-then-page_differs c =
    let a = c.args in
    one-locked page_size a.locks.now a.tag.now a.image.now c.loop-i.i (omega arith) (eq-eqb _ 1 (omega arith))
    (sym c.page_differs.ensures ∙ c.if-page_differs.true)
