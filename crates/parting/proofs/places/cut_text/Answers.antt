-- What begins the identifier is refused, or cut from there on.
use mathlib.Core.Path.{◌∙◌}
use Rattle.std.proofs.lemmas.Result.{err_from_is_err_and}
use Rattle.parting.proofs.places.cut_text.Goals as goal

pub returns-in_err-begin : goal.returns-in_err-begin
returns-in_err-begin c =
    let p = err_from_is_err_and c.from_residual.result c.from_residual.ensures.1 in
    rw (p.1, p.2) c.in_err-begin.ensures

pub cut_from-requires : goal.cut_from-requires
cut_from-requires c = c.in_ok-begin.ensures.0

pub returns : goal.returns
returns c = c.cut_from.ensures ∙ c.in_ok-begin.ensures.1
