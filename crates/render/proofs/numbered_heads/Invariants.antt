-- `render::numbered_heads` meets its contract: the heads of the elements so far are stored, and `next` is the offset of the next.
use Prim.Native.Nat.{◌+◌, ◌*◌, ◌≤◌}
use lib.ListN.{drop}
use Rattle.format.specs.Bytes.{joined}
use Rattle.format.specs.Elements.{numbers}
use Rattle.render.specs.Rendering.{heads_by}
use Rattle.render.proofs.Storing.{Storing}
use Rattle.render.proofs.numbered_heads.Given as goal

abbrev pub invariant-loop-k : goal.invariant-loop-k
invariant-loop-k l = (l.next ≤ 65535 + 255 * l.k) × Storing l.initial.sheet l.at (joined (heads_by l.offset numbers l.row)) l.sheet (heads_by l.next (drop l.k numbers) (drop l.k l.row)) l.end
