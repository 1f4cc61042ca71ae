-- Each test is that of `agree`.
use native.Mathlib.Omega.{arith}
use Rattle.std.proofs.lemmas.Bool.Decides.{nat_tests}
use Rattle.format.specs.Answers.{need}
use Rattle.look.proofs.Steps.{agree_by}
use Rattle.look.proofs.judge.Tag.agree_stage.Goals as goal

pub returns-then-library-eq0 : goal.returns-then-library-eq0
unfolding need
returns-then-library-eq0 c = rw (agree_by c.requires) (grind (arith, nat_tests))

pub returns-then-owner_marked-library : goal.returns-then-owner_marked-library
unfolding need
returns-then-owner_marked-library c = rw (agree_by c.requires) (grind (arith, nat_tests))

pub returns-then-library-self : goal.returns-then-library-self
unfolding need
returns-then-library-self c = rw (agree_by c.requires) (grind (arith, nat_tests))

pub returns : goal.returns
unfolding need
returns c = rw (agree_by c.requires) (grind (arith, nat_tests))
