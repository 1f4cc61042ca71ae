-- `image::blocks::put_fields` meets its contract: the fields before this one are laid down, and it belongs at `to`.
use Prim.Native.Nat.{◌+◌, ◌*◌, ◌≤◌}
use mathlib.Core.List.{◌++◌}
use lib.ListN.{drop}
use Rattle.rows.specs.Rows.{slots_at}
use Rattle.image.specs.Laying.{content}
use Rattle.image.proofs.Contents.{Laying}
use Rattle.image.proofs.blocks.put_fields.Given as goal

abbrev pub invariant-loop-field : goal.invariant-loop-field
invariant-loop-field l = (l.to ≤ l.at + 256 * l.field-index) × Laying l.initial.draft l.at (content l.src l.made l.fields) l.draft l.to (slots_at (l.src ++ l.made) (drop l.field-index l.fields))
