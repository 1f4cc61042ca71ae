-- `render::numbered_heads` meets its contract: the heads of the elements so far are stored, and `next` is the offset of the next.
use native.Mathlib.Omega.{arith}
use lib.ListN.{drop_of_length-le}
use Rattle.format.specs.Bytes.{le16}
use Rattle.format.specs.Elements.{numbers}
use Rattle.format.proofs.Pieces.{stored-none}
use Rattle.rows.proofs.Rows.{nowhere}
use Rattle.render.specs.Rendering.{heads_by}
use Rattle.render.proofs.Storing.{storing-end, next-room, storing-next}
use Rattle.render.proofs.Lengths.{length-at, heads-some, heads-none}
use Rattle.render.proofs.numbered_heads.Goals.{then-element-ne0, else-element-ne0}
use Rattle.render.proofs.numbered_heads.Goals as goal

pub put_head-end-requires : goal.put_head-end-requires
unfolding le16
put_head-end-requires c =
    let row = c.args.row.now in
    let l = c.loop-k in
    (length-at row l.k c.requires.1, next-room l.invariant.1 (heads-some l.next numbers row l.k nowhere c.loop-k-test.true (omega arith) c.if-element-ne0.true))

pub overflow_add-next : goal.overflow_add-next
overflow_add-next c = record { fits = omega (arith, length-at c.args.row.now c.loop-k.k c.requires.1) }

pub loop-k-preserved : goal.loop-k-preserved
loop-k-preserved c =
    let row = c.args.row.now in
    let l = c.loop-k in
    let small = length-at row l.k c.requires.1 in
    elim c.if-element-ne0.branch [
      | then-element-ne0 w ↦ rw (w.sheet-is, w.end-is, w.next-is)
          (omega arith, storing-next l.invariant.1 (heads-some l.next numbers row l.k nowhere c.loop-k-test.true (omega arith) w.if-element-ne0.true) (rw w.number_at.ensures at w.put_head-end.ensures))
      | else-element-ne0 w ↦ rw (w.sheet-is, w.end-is, w.next-is)
          (omega arith, storing-next l.invariant.1 (heads-none l.next numbers row l.k nowhere c.loop-k-test.true (omega arith) w.if-element-ne0.false) (stored-none _ _))
    ]

pub returns : goal.returns
unfolding heads_by
returns c = storing-end c.loop-k.invariant.1 (rw (drop_of_length-le numbers {i = c.loop-k.k} (omega arith)))
