-- Each way out is a case of the rule.
use mathlib.Core.Path.{sym, ◌∙◌}
use Rattle.encoding.proofs.Places.{valued}
use Rattle.encoding.proofs.Taking.{takes-held, takes_one, takes_two, takes-three}
use Rattle.encoding.proofs.Words.first.Goals as goal

pub returns-then-a-eq0 : goal.returns-then-a-eq0
returns-then-a-eq0 c =
    rw c.from.ensures (takes-held c.args.self.now.text.now c.requires (sym c.value_at-a.ensures.0 ∙ c.if-a-eq0.true))

pub returns-then-b-eq0 : goal.returns-then-b-eq0
returns-then-b-eq0 c =
    takes_one c.args.self.now.text.now
    (valued _ _ _ c.value_at-a.ensures.0 c.if-a-eq0.false)
    (sym c.value_at-b.ensures.0 ∙ c.if-b-eq0.true)

pub returns-then-c-eq0 : goal.returns-then-c-eq0
returns-then-c-eq0 c =
    takes_two c.args.self.now.text.now
    (valued _ _ _ c.value_at-a.ensures.0 c.if-a-eq0.false)
    (valued _ _ _ c.value_at-b.ensures.0 c.if-b-eq0.false)
    (sym c.value_at-c.ensures.0 ∙ c.if-c-eq0.true)

pub returns : goal.returns
returns c =
    takes-three c.args.self.now.text.now
    (valued _ _ _ c.value_at-a.ensures.0 c.if-a-eq0.false)
    (valued _ _ _ c.value_at-b.ensures.0 c.if-b-eq0.false)
    (valued _ _ _ c.value_at-c.ensures.0 c.if-c-eq0.false)
