-- The next entry has this number, or another, or there is none.
use mathlib.Core.Path.{sym, ◌∙◌}
use native.Mathlib.Omega.{arith}
use Rattle.sheet.proofs.Walking.{filling-start, filling-none, filling-hit, filling-miss, filling-end}
use Rattle.sheet.proofs.fill_row.Goals.{then-next-count+then-head-number_at, then-next-count+else-head-number_at, else-next-count}
use Rattle.sheet.proofs.fill_row.Goals as goal

pub loop-k-init : goal.loop-k-init
loop-k-init c = rw c.requires.counted (filling-start c.args.sheet.now c.args.row.now c.requires.right c.told-row)

pub loop-k-preserved : goal.loop-k-preserved
loop-k-preserved c =
    let f = c.loop-k.invariant in
    let place = c.loop-k-test.true in
    elim c.if-next-count.branch [
      | then-next-count+then-head-number_at w ↦
          rw (w.next-is, w.len-is) (filling-hit f place (omega arith) w.head_at-head.ensures (w.if-head-number_at.true ∙ w.number_at.ensures))
      | then-next-count+else-head-number_at w ↦
          rw (w.next-is, w.len-is) (filling-miss f place (omega arith) w.head_at-head.ensures (λ e. w.if-head-number_at.false (e ∙ sym w.number_at.ensures)))
      | else-next-count w ↦ rw (w.next-is, w.len-is) (filling-none f place (omega arith))
    ]

pub returns : goal.returns
returns c = filling-end c.loop-k.invariant c.loop-k-test.false
