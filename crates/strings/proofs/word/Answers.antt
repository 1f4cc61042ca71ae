-- The definition's sum.
use borrow.Author.Rules.{rules}
use Rattle.format.specs.Bytes.{word}
use Rattle.strings.proofs.word.Goals as goal

pub returns : goal.returns
unfolding word
returns c = search rules
