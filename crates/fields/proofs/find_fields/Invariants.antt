-- The invariant: the lengths so far are in place.
use lib.ListN.{length}
use Rattle.fields.proofs.Loops.{Finding}
use Rattle.fields.proofs.find_fields.Given as goal

abbrev pub invariant-loop-len : goal.invariant-loop-len
invariant-loop-len l = Finding l.s (length l.initial.lens) l.lens l.rest l.len-index
