-- `put_digits`: the digits are stored from the last to the first, and the buffer keeps its length.
use Rattle.joining.proofs.Digits.{putting-on, putting-all}
use Rattle.joining.proofs.put_digits.Goals as goal

pub loop-i-preserved : goal.loop-i-preserved
loop-i-preserved c = putting-on c.loop-i.invariant c.requires c.loop-i-test.true

pub returns : goal.returns
returns c = putting-all c.loop-i.invariant c.requires c.loop-i-test.false
