-- `put_digits`: the digits are stored from the last to the first, and the buffer keeps its length.
use Rattle.joining.proofs.Digits.{Putting}
use Rattle.joining.proofs.put_digits.Given as goal

abbrev pub invariant-loop-i : goal.invariant-loop-i
invariant-loop-i l = Putting l.initial.text l.at l.count l.number l.i l.n l.text
