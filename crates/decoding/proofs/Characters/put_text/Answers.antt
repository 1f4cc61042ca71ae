-- `put_text`: the text of the words passed is stored, and the buffer keeps its length.
use Rattle.format.proofs.Passing.{passed-at}
use Rattle.words.specs.Code40.{meaningful}
use Rattle.decoding.proofs.Putting.{putting-start, room_at, putting-on}
use Rattle.decoding.proofs.Characters.put_text.Goals as goal

pub loop-w-init : goal.loop-w-init
loop-w-init c = putting-start _ _

pub put_word-end-requires : goal.put_word-end-requires
put_word-end-requires c =
    let pre = c.requires in
    let h = c.loop-w-test.true in
    (passed-at meaningful _ _ pre.0 h, room_at c.loop-w.invariant h pre.1)

pub loop-w-preserved : goal.loop-w-preserved
loop-w-preserved c = putting-on c.loop-w.invariant c.loop-w-test.true c.requires.1 _ _ c.put_word-end.ensures
