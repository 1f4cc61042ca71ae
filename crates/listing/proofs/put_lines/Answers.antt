-- `put_lines`: a line is stored for each of the first i entries; the bytes of those that are left begin at `body`.
use native.Mathlib.Omega.{arith}
use Rattle.format.specs.Sheet.{body_at}
use Rattle.format.proofs.Sheets.{body-length}
use Rattle.listing.proofs.Lines.{Within, printing-starts, can-read, printing-on, printing-ends}
use Rattle.listing.proofs.put_lines.Goals.{In-loop-i}
use Rattle.listing.proofs.put_lines.Goals as goal

-- what a turn reads and stores has its place
can : (c : In-loop-i) → Within c.args.sheet.now (body_at c.loop-i.i) c.loop-i.body c.loop-i.end c.loop-i.out
can c = can-read c.loop-i.invariant (omega (arith, c.loop-i-test.true))

pub overflow_mul-body : goal.overflow_mul-body
overflow_mul-body c = omega (arith, body-length c.args.sheet.now c.requires.0)

pub overflow_add-body : goal.overflow_add-body
overflow_add-body c = omega (arith, body-length c.args.sheet.now c.requires.0)

pub loop-i-init : goal.loop-i-init
loop-i-init c =
    let a = c.args in
    printing-starts a.out.now a.at a.sheet.now a.count c.requires.0 c.requires.1 c.requires.2

pub overflow_mul-head : goal.overflow_mul-head
overflow_mul-head c = let r = can (goal.at.overflow_mul-head c).In-loop-i in record { fits = omega arith }

pub overflow_add-head : goal.overflow_add-head
overflow_add-head c = let r = can (goal.at.overflow_add-head c).In-loop-i in record { fits = omega arith }

pub overflow_add-head-in-loop-i : goal.overflow_add-head-in-loop-i
overflow_add-head-in-loop-i c = let r = can (goal.at.overflow_add-head-in-loop-i c).In-loop-i in record { fits = omega arith }

pub bounds-sheet-head : goal.bounds-sheet-head
bounds-sheet-head c = let r = can (goal.at.bounds-sheet-head c).In-loop-i in omega arith

pub bounds-sheet-head-in-loop-i : goal.bounds-sheet-head-in-loop-i
bounds-sheet-head-in-loop-i c = let r = can (goal.at.bounds-sheet-head-in-loop-i c).In-loop-i in omega arith

pub slice_bounds-put_line-end : goal.slice_bounds-put_line-end
slice_bounds-put_line-end c = let r = can (goal.at.slice_bounds-put_line-end c).In-loop-i in omega (arith, c.from.ensures)

pub put_line-end-requires : goal.put_line-end-requires
put_line-end-requires c = let r = can (goal.at.put_line-end-requires c).In-loop-i in omega (arith, c.from.ensures)

pub loop-i-preserved : goal.loop-i-preserved
loop-i-preserved c =
    let l = c.loop-i in
    let line = c.put_line-end in
    printing-on l.invariant _ _ _ (omega (arith, c.loop-i-test.true)) c.from.ensures (omega (arith, c.type_inv.sheet (body_at l.i))) line.auto.out line.ensures

pub returns : goal.returns
returns c = printing-ends c.loop-i.invariant (omega arith)
