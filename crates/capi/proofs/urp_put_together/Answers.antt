-- `urp_put_together` takes the answer apart: the number and the result are what the call's contract says.
use Rattle.capi.proofs.Given.{filled-refused, filled-done}
use Rattle.capi.proofs.urp_put_together.Goals as goal

pub returns-in_default : goal.returns-in_default
returns-in_default c = filled-refused _ _ _ _ c.put_together-answer.ensures _ c.in_default.is c.number_of.ensures

pub returns : goal.returns
returns c = filled-done _ _ _ _ c.put_together-answer.ensures c.in-Ok.is
