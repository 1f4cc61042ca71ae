-- `put_lines`: a line is stored for each of the first i entries; the bytes of those that are left begin at `body`.
use Rattle.listing.proofs.Lines.{Printing}
use Rattle.listing.proofs.put_lines.Given as goal

abbrev pub invariant-loop-i : goal.invariant-loop-i
invariant-loop-i l = Printing l.initial.out l.at l.sheet l.count l.i l.body l.out l.end
