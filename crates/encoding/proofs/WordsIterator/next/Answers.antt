-- No character, no word. What is left of a text keeps its fact.
use Rattle.std.proofs.Common.{rules}
use borrow.Author.Tests.{tests}
use mathlib.Core.Path.{ap, ◌∙◌}
use Rattle.std.proofs.lemmas.List.{take_rest}
use Rattle.format.specs.Bytes.{all}
use Rattle.format.proofs.Tests.{all_drop}
use Rattle.words.specs.Code40.{is646}
use Rattle.encoding.proofs.Turns.{no-words}
use Rattle.encoding.proofs.WordsIterator.next.Goals as goal

pub returns-then-is_empty-clause-steps : goal.returns-then-is_empty-clause-steps
returns-then-is_empty-clause-steps c =
    let none = no-words c.args.self.now.text.now (search (rules, tests)) in
    (none, none)

pub invariant_of-self-clause-low : goal.invariant_of-self-clause-low
invariant_of-self-clause-low c =
    let s = c.args.self.now.text.now in
    let n = c.first-taken.result.characters in
    ap (all is646) (take_rest s n) ∙ all_drop is646 n s c.args.self.now.low
