-- `set_length`: nothing, or a dot and twice the width of the total.
use mathlib.Core.Path.{◌≡◌}
use Prim.Native.Nat.{◌+◌, ◌*◌}
use native.Mathlib.Omega.{arith}
use lib.ListN.{length}
use Rattle.identifier.proofs.Sets.{width_few}
use Rattle.joining.specs.Laying.{set_end}
use Rattle.joining.proofs.Pieces.{set-end-length}
use Rattle.joining.proofs.set_length.Goals.{After-width}
use Rattle.joining.proofs.set_length.Goals as goal

-- one byte, and two for each digit of the width
long : (c : After-width) → length (set_end c.args.total 0) ≡ 1 + 2 * c.width.result
long c = set-end-length c.args.total 0 c.width.result c.width.ensures c.if-total-eq0.false

pub returns-in-1 : goal.returns-in-1
returns-in-1 c = (omega (arith, long (goal.at.returns-in-1 c).After-width, c.in-1.is), omega arith)

pub returns-in-2 : goal.returns-in-2
returns-in-2 c = (omega (arith, long (goal.at.returns-in-2 c).After-width, c.in-2.is), omega arith)

pub returns-in_default : goal.returns-in_default
returns-in_default c = (omega (arith, long (goal.at.returns-in_default c).After-width, c.width.ensures, width_few c.args.total), omega arith)
