-- `lists` compares the text that `list` laid down at the front of its buffer.
use mathlib.Core.Path.{sym, ◌∙◌}
use native.Mathlib.Omega.{arith}
use Rattle.listing.proofs.Printed.{printed-fits, printed-front}
use Rattle.listing_test.proofs.lists.Goals as goal

pub slice_bounds-same-end : goal.slice_bounds-same-end
slice_bounds-same-end c = let h = printed-fits _ _ _ _ c.list-n.ensures in omega arith

pub returns : goal.returns
returns c =
    let f = printed-front _ _ _ _ c.list-n.ensures in
    (λ e. sym f ∙ c.same.ensures.0 e, λ e. c.same.ensures.1 (f ∙ e))
