-- `image::item_in` meets its contract.
use native.Mathlib.Omega.{arith}
use Rattle.rows.proofs.Rows.{lengths-are}
use Rattle.image.proofs.Placing.{held-at, item-long, item-short}
use Rattle.image.proofs.item_in.Goals as goal

pub returns-then-row-gt16 : goal.returns-then-row-gt16
returns-then-row-gt16 c src made r = held-at r 0 (omega arith) (item-long _ _ (lengths-are src made c.args.row.now r) c.if-row-gt16.true)

pub returns-else-row-gt16 : goal.returns-else-row-gt16
returns-else-row-gt16 c src made r = held-at r 5 (omega arith) (item-short _ _ (lengths-are src made c.args.row.now r) c.if-row-gt16.false)
