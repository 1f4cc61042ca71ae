-- `put_text`: the text of the words passed is stored, and the buffer keeps its length.
use Rattle.decoding.proofs.Putting.{Putting}
use Rattle.decoding.proofs.Characters.put_text.Given as goal

abbrev pub invariant-loop-w : goal.invariant-loop-w
invariant-loop-w l = Putting l.words l.initial.text l.w-index l.end l.text
