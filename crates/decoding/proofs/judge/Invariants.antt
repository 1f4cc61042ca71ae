-- `judge`: the words passed have a meaning, and their characters are counted.
use Rattle.decoding.proofs.Judging.{Judging}
use Rattle.decoding.proofs.judge.Given as goal

abbrev pub invariant-loop-w : goal.invariant-loop-w
invariant-loop-w l = Judging l.words l.w-index l.n
