-- An item that breaks its form: less is opened than for the others.
use native.Mathlib.Omega.{arith}
use Rattle.std.proofs.lemmas.Grind.{common_steps}
use Rattle.format.specs.Answers.{need, in_order}
use Rattle.format.specs.Reading.{good_fields}
use Rattle.fields.specs.Forms.{item_form}
use Rattle.look.proofs.judge.Tag.find_fields.Goals as goal

pub returns-in_err-item : goal.returns-in_err-item
unfolding need in_order good_fields item_form
returns-in_err-item c = grind (arith, common_steps)
