-- `render::gather` meets its contract: the carried blocks before byte `from` are stored, one behind the other.
use mathlib.Core.Path.{refl, sym, ◌∙◌}
use Rattle.render.proofs.Carrying.{carrying-start, carrying-end, carrying-over, carrying-room, carrying-more}
use Rattle.render.proofs.gather.Goals.{then-is_carried, else-is_carried}
use Rattle.render.proofs.gather.Goals as goal

pub loop-block-init : goal.loop-block-init
loop-block-init c = carrying-start c.args.tag.now (λ bs. bs) c.requires.0 refl c.requires.1

pub returns-then-block-eq0 : goal.returns-then-block-eq0
returns-then-block-eq0 c = carrying-end c.loop-block.invariant c.block_at-block.ensures.0 refl c.if-block-eq0.true

pub put_bytes-end-requires : goal.put_bytes-end-requires
put_bytes-end-requires c =
    carrying-room c.loop-block.invariant c.block_at-block.ensures.0 c.if-block-eq0.false (sym c.is_carried.ensures ∙ c.if-is_carried.true) (λ bs. refl)

pub loop-block-preserved : goal.loop-block-preserved
loop-block-preserved c =
    let i = c.loop-block.invariant in
    let b = c.block_at-block.ensures.0 in
    let test = sym c.is_carried.ensures in
    elim c.if-is_carried.branch [
      | then-is_carried w ↦ rw (w.out-is, w.end-is) (carrying-more i b c.if-block-eq0.false (test ∙ w.if-is_carried.true) (λ bs. refl) w.put_bytes-end.ensures)
      | else-is_carried w ↦ rw (w.out-is, w.end-is) (carrying-over i b c.if-block-eq0.false (test ∙ w.if-is_carried.false))
    ]
