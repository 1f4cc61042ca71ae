-- A turn skips sixteen bytes without a dot.
use mathlib.Core.Path.{sym, ◌∙◌}
use native.Mathlib.Omega.{arith}
use Rattle.parting.proofs.Seeking.{skips-sixteen}
use Rattle.parting.proofs.places.skip_dotless.Goals as goal

pub loop-i-smaller : goal.loop-i-smaller
loop-i-smaller c =
    let on = skips-sixteen c.args.text.now c.args.at c.loop-i.i c.loop-i.invariant (sym c.sixteen_dotless.ensures ∙ c.loop-i-test.true) in
    omega (arith, on.inside)

pub loop-i-preserved : goal.loop-i-preserved
loop-i-preserved c =
    skips-sixteen c.args.text.now c.args.at c.loop-i.i c.loop-i.invariant (sym c.sixteen_dotless.ensures ∙ c.loop-i-test.true)
