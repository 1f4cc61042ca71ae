-- `urp_read` takes the answer apart: the number and the results are what the call's contract says.
use mathlib.Core.Path.{sym, ap, ◌∙◌}
use Rattle.format.specs.Numbers.{told, number_of, place_of}
use Rattle.capi.proofs.Given.{result-got, result-refused, place-got}
use Rattle.capi.proofs.urp_read.Goals as goal

pub returns-in_default : goal.returns-in_default
returns-in_default c =
    let e = c.read-answer.ensures in
    let refused = sym e.answered ∙ ap told c.in_default.is in
    record {
      answered = c.tell.ensures.0 ∙ ap number_of e.answered;
      left = e.left;
      result = result-refused _ _ _ _ refused;
      at_place = c.tell.ensures.1 ∙ ap (λ m. place_of m c.args.place.now) e.answered;
    }

pub returns : goal.returns
returns c =
    let e = c.read-answer.ensures in
    let got = sym e.answered ∙ ap told c.in-Ok.is in
    record {
      answered = ap number_of (sym got);
      left = e.left;
      result = result-got _ _ _ _ got;
      at_place = place-got _ _ _ got;
    }
