-- The invariant: the heads that come decide whether the sheet is right.
use mathlib.Core.Path.{◌≡◌}
use Prim.Native.Nat.{ℕ}
use native.Mathlib.Omega.{arith}
use Rattle.format.proofs.Tests.{bytes-all}
use Rattle.sheet.proofs.Heads.{least, least-is, short-wrong}
use Rattle.sheet.proofs.Walking.{checking-start, checking-low, checking-offset, checking-on, checking-end}
use Rattle.sheet.proofs.right.Goals.{then-head-least-via-then-head-least, then-head-least-via-else-head-least+then-head-at}
use Rattle.sheet.proofs.right.Goals as goal

pub returns-then-sheet-lt2 : goal.returns-then-sheet-lt2
returns-then-sheet-lt2 c = short-wrong c.args.sheet.now (omega arith)

pub returns-then-sheet-at : goal.returns-then-sheet-at
returns-then-sheet-at c = short-wrong c.args.sheet.now (omega arith)

pub loop-i-init : goal.loop-i-init
loop-i-init c =
    let s = c.args.sheet.now in
    rw c.count-count.ensures.0 (checking-start s (bytes-all s (λ i h. (c.type_inv.sheet i).fits)) (omega arith))

pub returns-then-head-least : goal.returns-then-head-least
returns-then-head-least c =
    let h = c.head_at-head.ensures in
    elim c.then-head-least.branch [
      | then-head-least-via-then-head-least w ↦ checking-low c.loop-i.invariant (omega arith) h w.if-head-least.true
      | then-head-least-via-else-head-least+then-head-at w ↦ checking-offset c.loop-i.invariant (omega arith) h w.if-head-at.true
    ]

pub loop-i-preserved : goal.loop-i-preserved
loop-i-preserved c =
    let n : ℕ = c.head_at-head.result.number in
    let next : c.saturating_add-least.result ≡ least n = omega (arith, c.saturating_add-least.ensures, least-is n (omega arith)) in
    rw next (checking-on c.loop-i.invariant (omega arith) c.head_at-head.ensures c.if-head-least.false c.if-head-at.false)

pub returns : goal.returns
returns c = checking-end c.loop-i.invariant (omega arith)
