-- Whether all characters are at most 7F.
use mathlib.Core.Path.{sym, ◌∙◌}
use Rattle.std.proofs.Common.{rules, tests}
use Rattle.std.proofs.lemmas.Iterator.{YieldsList-from_slice}
use Rattle.std.proofs.lemmas.Iterator.Search.{all_from_yields_List}
use Rattle.format.proofs.Answers.{need-ok, need-no}
use Rattle.format.proofs.Lists.{list_all-all}
use Rattle.words.specs.Code40.{is646}
use Rattle.encoding.proofs.character_stage.Goals as goal

pub returns-then-low : goal.returns-then-low
returns-then-low c =
    let e = all_from_yields_List is646 _ _ _ c.all-low.ensures.ran (YieldsList-from_slice c.args.text.now cc) (λ x b q k. search (rules, tests)) ∙ list_all-all is646 c.args.text.now in
    sym (need-ok 21 _ (sym e ∙ c.if-low.true))

pub returns-else-low : goal.returns-else-low
returns-else-low c =
    let e = all_from_yields_List is646 _ _ _ c.all-low.ensures.ran (YieldsList-from_slice c.args.text.now cc) (λ x b q k. search (rules, tests)) ∙ list_all-all is646 c.args.text.now in
    sym (need-no 21 _ (sym e ∙ c.if-low.false))
