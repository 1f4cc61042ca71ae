-- The invariant: the digits passed say n.
use Rattle.parting.proofs.Numbers.{Reading}
use Rattle.parting.proofs.set.number_in.Given as goal

abbrev pub invariant-loop-c : goal.invariant-loop-c
invariant-loop-c l = Reading l.s l.c-index l.n
