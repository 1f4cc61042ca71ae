-- The invariant: the lengths so far are in place.
use native.Mathlib.Omega.{arith}
use Rattle.fields.proofs.Loops.{finding-start, finding-on, finding-end}
use Rattle.fields.proofs.find_fields.Goals as goal

pub loop-len-init : goal.loop-len-init
loop-len-init c = finding-start c.args.s.now c.args.lens.now

pub loop-len-preserved : goal.loop-len-preserved
loop-len-preserved c = finding-on c.loop-len.invariant _ _ c.up_to-field.ensures c.from-rest.ensures (omega arith)

pub returns : goal.returns
returns c = finding-end c.loop-len.invariant (omega arith)
