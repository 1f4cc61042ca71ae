-- The library's fold by XOR is the definition's.
use borrow.Author.Rules.{rules}
use Rattle.format.proofs.Lists.{fold-xor}
use Rattle.strings.proofs.xor_of.Goals as goal

pub returns : goal.returns
returns c = search (rules, fold-xor)
