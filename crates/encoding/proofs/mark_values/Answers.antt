-- The invariant: the characters before `i` are marked.
use native.Mathlib.Omega.{arith}
use Rattle.encoding.proofs.Places.{low-at}
use Rattle.encoding.proofs.Marks.{marking-on, marking-ends}
use Rattle.encoding.proofs.mark_values.Goals as goal

pub bounds-values-from : goal.bounds-values-from
bounds-values-from c = rw c.from.ensures (low-at c.args.alphabet.now c.loop-i.i c.requires (omega arith))

pub loop-i-preserved : goal.loop-i-preserved
loop-i-preserved c = rw c.from.ensures (marking-on c.loop-i.invariant (omega arith))

pub returns : goal.returns
returns c = marking-ends c.loop-i.invariant (omega arith)
