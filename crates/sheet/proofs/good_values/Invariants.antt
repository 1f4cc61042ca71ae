-- The invariant: the entries that come decide, with what was seen of 4 and 5.
use Rattle.sheet.proofs.Walking.{Judging}
use Rattle.sheet.proofs.good_values.Given as goal

abbrev pub invariant-loop-i : goal.invariant-loop-i
invariant-loop-i l = Judging l.sheet l.i l.at l.set l.usage
