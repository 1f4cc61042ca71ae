-- `pages::locked_differs` meets its contract. The loop's invariant: no locked page that it has passed would get other bytes.
use mathlib.Core.Path.{◌≡◌}
use Prim.Native.Nat.{ℕ, ◌<◌}
use mathlib.Core.Bool.{false}
use Rattle.format.specs.Pages.{page_size, locked_differs}
use Rattle.pages.proofs.locked_differs.Given as goal

abbrev pub invariant-loop-i : goal.invariant-loop-i
invariant-loop-i l = (j : ℕ) → j < l.i → locked_differs page_size l.locks l.tag l.image j ≡ false
