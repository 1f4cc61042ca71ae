-- `render::numbered_bytes` meets its contract: the bytes of the elements so far are stored.
use mathlib.Core.List.{◌++◌}
use lib.ListN.{drop}
use Rattle.format.specs.Bytes.{joined}
use Rattle.rows.specs.Rows.{slots_at}
use Rattle.render.proofs.Storing.{Storing}
use Rattle.render.proofs.numbered_bytes.Given as goal

abbrev pub invariant-loop-element : goal.invariant-loop-element
invariant-loop-element l = Storing l.initial.sheet l.at (joined (slots_at (l.tag ++ l.made) l.row)) l.sheet (slots_at (l.tag ++ l.made) (drop l.element-index l.row)) l.end
