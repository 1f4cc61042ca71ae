-- `render::carried_heads` meets its contract: the heads of the carried blocks before byte `from` are stored, and `next` is the offset of
-- the next one.
use mathlib.Core.Path.{refl, sym, ◌∙◌}
use native.Mathlib.Omega.{arith}
use Rattle.format.specs.Bytes.{le16}
use Rattle.render.specs.Rendering.{carried_on}
use Rattle.render.proofs.Carrying.{carrying-start, carrying-size, carrying-end, carrying-over, carrying-room, carrying-more}
use Rattle.render.proofs.Lengths.{carried_heads, heads-carried}
use Rattle.render.proofs.carried_heads.Goals.{then-is_carried, else-is_carried}
use Rattle.render.proofs.carried_heads.Goals as goal

pub loop-block-init : goal.loop-block-init
loop-block-init c = (omega arith, carrying-start c.args.tag.now (carried_heads c.args.offset) c.requires.0 (heads-carried c.args.offset (carried_on c.args.tag.now)) c.requires.3)

pub returns-then-block-eq0 : goal.returns-then-block-eq0
unfolding carried_heads
returns-then-block-eq0 c = carrying-end c.loop-block.invariant.1 c.block_at-block.ensures.0 refl c.if-block-eq0.true

pub put_head-end-requires : goal.put_head-end-requires
unfolding carried_heads le16
put_head-end-requires c =
    let l = c.loop-block in
    let b = c.block_at-block.ensures.0 in (
      omega (arith, c.type_inv.tag l.from, carrying-size l.invariant.1 b),
      carrying-room l.invariant.1 b c.if-block-eq0.false (sym c.is_carried.ensures ∙ c.if-is_carried.true) (λ bs. refl),
    )

pub loop-block-preserved : goal.loop-block-preserved
unfolding carried_heads
loop-block-preserved c =
    let i = c.loop-block.invariant in
    let b = c.block_at-block.ensures.0 in
    let test = sym c.is_carried.ensures in
    elim c.if-is_carried.branch [
      | then-is_carried w ↦ rw (w.sheet-is, w.end-is, w.next-is) (omega arith, carrying-more i.1 b c.if-block-eq0.false (test ∙ w.if-is_carried.true) (λ bs. refl) w.put_head-end.ensures)
      | else-is_carried w ↦ rw (w.sheet-is, w.end-is, w.next-is) (omega arith, carrying-over i.1 b c.if-block-eq0.false (test ∙ w.if-is_carried.false))
    ]
