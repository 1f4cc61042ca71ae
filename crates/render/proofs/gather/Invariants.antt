-- `render::gather` meets its contract: the carried blocks before byte `from` are stored, one behind the other.
use Prim.Native.Nat.{◌-◌}
use lib.ListN.{length}
use Rattle.format.specs.Bytes.{joined}
use Rattle.render.specs.Rendering.{carried_on}
use Rattle.render.proofs.Carrying.{Carrying}
use Rattle.render.proofs.gather.Given as goal

abbrev pub invariant-loop-block : goal.invariant-loop-block
invariant-loop-block l = Carrying l.tag l.initial.out l.at (joined (carried_on l.tag)) (λ bs. bs) l.out l.from l.end

abbrev pub decreases-loop-block : goal.decreases-loop-block
decreases-loop-block l = length l.tag - l.from
