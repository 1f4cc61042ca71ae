-- The invariant: the words that came are stored, and the iterator has those that are left.
use Rattle.words.specs.Code40.{words_of}
use Rattle.encoding.proofs.Turns.{Storing}
use Rattle.encoding.proofs.text_to_words.Given as goal

abbrev pub invariant-loop-n : goal.invariant-loop-n
invariant-loop-n l = Storing (words_of l.text) l.initial.words l.n-iterator.count (words_of l.n-iterator.iter.text.now) l.words
