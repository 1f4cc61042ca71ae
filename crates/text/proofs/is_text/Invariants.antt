-- The invariant: the letters so far stand, so what is left decides. The measure is what is left.
use mathlib.Core.Path.{◌≡◌}
use mathlib.Core.List.{[]}
use lib.ListN.{length}
use Rattle.format.specs.Text.{rows_from}
use Rattle.text.proofs.is_text.Given as goal

abbrev pub invariant-loop-rest : goal.invariant-loop-rest
invariant-loop-rest l = rows_from [] l.rest ≡ rows_from [] l.s

abbrev pub decreases-loop-rest : goal.decreases-loop-rest
decreases-loop-rest l = length l.rest
