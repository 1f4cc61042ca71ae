-- `image::blocks::fields_size` meets its contract: the fields that came, from the last on, have `size` bytes.
use native.Mathlib.Omega.{arith}
use Rattle.image.proofs.Contents.{counted-start, counted-end, counted-small, counted-fits, counted-more}
use Rattle.image.proofs.blocks.fields_size.Goals as goal

pub loop-field-init : goal.loop-field-init
loop-field-init c = rw (c.into_iter-field-iterator.ensures.into_iter_gives, c.rev-field-items.ensures.source, c.iter.ensures.rest) (counted-start c.args.fields.now)

pub overflow_add-size : goal.overflow_add-size
overflow_add-size c = record { fits = omega (arith, counted-small c.requires c.loop-field.invariant _ _ c.in-Some.ensures.steps _ c.from.ensures) }

pub overflow_add-size-in-loop-field : goal.overflow_add-size-in-loop-field
overflow_add-size-in-loop-field c = record { fits = omega (arith, counted-fits c.requires c.loop-field.invariant _ _ c.in-Some.ensures.steps _ c.from.ensures) }

pub loop-field-preserved : goal.loop-field-preserved
loop-field-preserved c = counted-more c.requires c.loop-field.invariant _ _ c.in-Some.ensures.steps _ c.from.ensures

pub returns : goal.returns
returns c = counted-end _ _ _ c.in-None.ensures.steps.0 c.requires.count c.loop-field.invariant
