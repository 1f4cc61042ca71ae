-- Block 1 is judged by its parts, each cut at its first 00.
use native.Mathlib.Omega.{arith}
use Rattle.format.specs.Chain.{payload, fields_in, library_in, good_library}
use Rattle.fields.specs.Forms.{library_parts, library_form}
use Rattle.fields.proofs.Rules.{cuts}
use Rattle.fields.proofs.library_in.Goals as goal

pub returns-then-last-gt1 : goal.returns-then-last-gt1
unfolding library_form library_parts good_library library_in fields_in payload
returns-then-last-gt1 c = grind (arith, cuts)

pub returns : goal.returns
unfolding library_form library_parts good_library library_in fields_in payload
returns c = grind (arith, cuts)
