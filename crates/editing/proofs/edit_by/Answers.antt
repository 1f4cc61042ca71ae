-- `editing::edit_by` lends the front of its draft.
use native.Mathlib.Omega.{arith}
use Rattle.image.proofs.Laws.{front-fresh}
use Rattle.editing.proofs.edit_by.Goals as goal

pub whole_as_front-edit_on : goal.whole_as_front-edit_on
whole_as_front-edit_on N c = (c.requires.1, omega (arith, c.requires.2))

pub edit_on-requires : goal.edit_on-requires
edit_on-requires N c = (front-fresh _ N.row.N c.requires.1, c.requires.0)
