-- The invariant: what is left of the entries and of the table gives what is left of the row.
use Rattle.sheet.proofs.Walking.{Filling}
use Rattle.sheet.proofs.fill_row.Given as goal

abbrev pub invariant-loop-k : goal.invariant-loop-k
invariant-loop-k l = Filling l.sheet l.next l.k l.at l.row
