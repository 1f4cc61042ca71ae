-- `image::blocks::fields_size` meets its contract: the fields that came, from the last on, have `size` bytes.
use Rattle.std.specs.Slice.Iter.{iter_rest}
use Rattle.image.proofs.Contents.{Counted}
use Rattle.image.proofs.blocks.fields_size.Given as goal

abbrev pub invariant-loop-field : goal.invariant-loop-field
invariant-loop-field l = Counted l.fields (iter_rest l.field-iterator.iter) l.size
