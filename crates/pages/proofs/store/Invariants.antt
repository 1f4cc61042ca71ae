-- `pages::store` meets its contract. The loop's invariant: the image's pages that it has passed stand on the tag, and those that differed are counted.
use Rattle.format.specs.Pages.{page_size}
use Rattle.pages.proofs.Storing.{FirstPages}
use Rattle.pages.proofs.store.Given as goal

abbrev pub invariant-loop-i : goal.invariant-loop-i
invariant-loop-i l = FirstPages page_size l.image l.initial.tag l.tag l.n l.i
