-- Three digits at most stay small; a turn takes one digit more.
use native.Mathlib.Omega.{arith}
use Rattle.parting.proofs.Numbers.{reading-starts, reading-few, digit-range, reading-on, reading-ends}
use Rattle.parting.proofs.set.number_in.Goals as goal

pub loop-c-init : goal.loop-c-init
loop-c-init c = reading-starts c.args.s.now

pub overflow_mul-n : goal.overflow_mul-n
overflow_mul-n c = omega (arith, reading-few c.loop-c.invariant c.requires.1)

pub overflow_sub-c : goal.overflow_sub-c
overflow_sub-c c = omega (arith, digit-range c.args.s.now c.loop-c.c-index c.requires.0 c.loop-c-test.true)

pub overflow_add-n : goal.overflow_add-n
overflow_add-n c = omega (arith, digit-range c.args.s.now c.loop-c.c-index c.requires.0 c.loop-c-test.true, reading-few c.loop-c.invariant c.requires.1)

pub loop-c-preserved : goal.loop-c-preserved
loop-c-preserved c =
    let l = c.loop-c in
    rw c.from.ensures (reading-on c.args.s.now l.c-index l.n l.invariant c.requires.0 c.loop-c-test.true)

pub returns : goal.returns
returns c =
    let l = c.loop-c in
    reading-ends c.args.s.now l.c-index l.n l.invariant c.loop-c-test.false
