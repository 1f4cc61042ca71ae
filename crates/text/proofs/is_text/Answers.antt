-- The invariant: the letters so far stand, so what is left decides. The measure is what is left.
use mathlib.Core.Path.{sym, ◌∙◌}
use borrow.Author.Tests.{eqb-true}
use Rattle.format.specs.Text.{rows_from, text}
use Rattle.format.proofs.Strings.{nil-of}
use Rattle.format.proofs.Text.{text-plain}
use Rattle.text.proofs.is_text.Goals as goal

-- all bytes are 20 to 7E
pub returns-then-is_plain : goal.returns-then-is_plain
returns-then-is_plain c = sym (text-plain c.args.s.now (sym c.is_plain.ensures ∙ c.if-is_plain.true))

pub returns-in_default : goal.returns-in_default
unfolding text
returns-in_default c = rw (← c.loop-rest.invariant, c.in_default.ensures)

pub returns : goal.returns
unfolding text rows_from
returns c =
    let e = nil-of c.loop-rest.rest.now (eqb-true _ _ (sym c.is_empty.ensures ∙ c.loop-rest-test.false)) in
    rw (← c.loop-rest.invariant, e)
