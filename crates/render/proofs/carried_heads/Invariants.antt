-- `render::carried_heads` meets its contract: the heads of the carried blocks before byte `from` are stored, and `next` is the offset of
-- the next one.
use Prim.Native.Nat.{◌+◌, ◌-◌, ◌≤◌}
use lib.ListN.{length}
use Rattle.format.specs.Sheet.{heads, carried_entries}
use Rattle.render.specs.Rendering.{carried_on}
use Rattle.render.proofs.Carrying.{Carrying}
use Rattle.render.proofs.Lengths.{carried_heads}
use Rattle.render.proofs.carried_heads.Given as goal

abbrev pub invariant-loop-block : goal.invariant-loop-block
invariant-loop-block l = (l.next ≤ l.offset + l.from) × Carrying l.tag l.initial.sheet l.at (heads l.offset (carried_entries (carried_on l.tag))) (carried_heads l.next) l.sheet l.from l.end

abbrev pub decreases-loop-block : goal.decreases-loop-block
decreases-loop-block l = length l.tag - l.from
