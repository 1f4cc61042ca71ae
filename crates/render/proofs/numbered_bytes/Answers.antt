-- `render::numbered_bytes` meets its contract: the bytes of the elements so far are stored.
use native.Mathlib.Omega.{arith}
use mathlib.Core.List.{◌++◌}
use lib.ListN.{drop_of_length-le}
use Rattle.format.proofs.Pieces.{stored-none}
use Rattle.rows.specs.Rows.{slots_at}
use Rattle.rows.proofs.Rows.{nowhere, row_at}
use Rattle.render.proofs.Storing.{storing-end, next-room, storing-next}
use Rattle.render.proofs.Lengths.{slots-turn}
use Rattle.render.proofs.numbered_bytes.Goals.{then-element-ne0, else-element-ne0}
use Rattle.render.proofs.numbered_bytes.Goals as goal

pub piece-requires : goal.piece-requires
piece-requires c = row_at c.args.tag.now c.args.made.now c.args.row.now c.requires.0 c.loop-element.element-index nowhere (omega arith)

pub put_bytes-end-requires : goal.put_bytes-end-requires
put_bytes-end-requires c =
    rw c.piece.ensures (next-room c.loop-element.invariant (slots-turn (c.args.tag.now ++ c.args.made.now) c.args.row.now c.loop-element.element-index nowhere (omega arith)))

pub loop-element-preserved : goal.loop-element-preserved
loop-element-preserved c =
    let i = c.loop-element.invariant in
    let turn = slots-turn (c.args.tag.now ++ c.args.made.now) c.args.row.now c.loop-element.element-index nowhere (omega arith) in
    elim c.if-element-ne0.branch [
      | then-element-ne0 w ↦ rw (w.sheet-is, w.end-is) (storing-next i turn (rw w.piece.ensures at w.put_bytes-end.ensures))
      | else-element-ne0 w ↦ rw (w.sheet-is, w.end-is) (storing-next i (rw w.if-element-ne0.false at turn) (stored-none _ _))
    ]

pub returns : goal.returns
unfolding slots_at
returns c = storing-end c.loop-element.invariant (rw (drop_of_length-le c.args.row.now {i = c.loop-element.element-index} (omega arith)))
