-- `urp_take_apart` takes the answer apart: the number and the results are what the call's contract says.
use Rattle.capi.proofs.Given.{three-refused, three-done}
use Rattle.capi.proofs.urp_take_apart.Goals as goal

pub returns-in_default : goal.returns-in_default
returns-in_default c = three-refused _ _ _ _ c.take_apart-answer.ensures _ c.in_default.is c.number_of.ensures

pub returns : goal.returns
returns c = three-done _ _ _ _ c.take_apart-answer.ensures c.in-Ok.is
