-- The invariant: the characters before `i` are marked.
use Rattle.encoding.proofs.Marks.{Marking}
use Rattle.encoding.proofs.mark_values.Given as goal

abbrev pub invariant-loop-i : goal.invariant-loop-i
invariant-loop-i l = Marking l.alphabet l.initial.values l.i l.values
