-- `image::owner_in` meets its contract.
use native.Mathlib.Omega.{arith}
use Rattle.rows.proofs.Rows.{lengths-are}
use Rattle.image.proofs.Placing.{held-at, owner-other, owner-isil}
use Rattle.image.proofs.owner_in.Goals as goal

pub returns-then-row-eq0 : goal.returns-then-row-eq0
returns-then-row-eq0 c src made r = held-at r 6 (omega arith) (owner-other _ _ (lengths-are src made c.args.row.now r) c.if-row-eq0.true)

pub returns-else-row-eq0 : goal.returns-else-row-eq0
returns-else-row-eq0 c src made r = held-at r 1 (omega arith) (owner-isil _ _ (lengths-are src made c.args.row.now r) c.if-row-eq0.false)
