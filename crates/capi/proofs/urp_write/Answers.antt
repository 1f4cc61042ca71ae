-- `urp_write` takes the answer apart: the number and the results are what the call's contract says.
use mathlib.Core.Path.{sym, ap, ◌∙◌}
use Rattle.format.specs.Numbers.{number_of, given}
use Rattle.capi.proofs.Given.{result-got, result-refused}
use Rattle.capi.proofs.urp_write.Goals as goal

pub returns-in_default : goal.returns-in_default
returns-in_default c =
    let e = c.write-answer.ensures in
    let told = sym e.answered ∙ ap given c.in_default.is in
    record {
      answered = c.number_of.ensures ∙ ap number_of e.answered;
      left = e.left;
      result = result-refused _ _ _ _ told;
    }

pub returns : goal.returns
returns c =
    let e = c.write-answer.ensures in
    let told = sym e.answered ∙ ap given c.in-Ok.is in
    record {
      answered = ap number_of (sym told);
      left = e.left;
      result = result-got _ _ _ _ told;
    }
