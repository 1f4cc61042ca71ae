-- The invariant: the heads that come decide whether the sheet is right.
use Rattle.sheet.proofs.Walking.{Checking}
use Rattle.sheet.proofs.right.Given as goal

abbrev pub invariant-loop-i : goal.invariant-loop-i
invariant-loop-i l = Checking l.sheet l.at l.least l.i
