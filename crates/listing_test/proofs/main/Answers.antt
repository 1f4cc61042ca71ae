-- `main`: each text is the definition's, computed.
use Rattle.listing.proofs.Examples.{examples}
use Rattle.listing_test.proofs.main.Goals as goal

pub expect-requires : goal.expect-requires
expect-requires c = c.lists.ensures.1 examples.0

pub expect-requires-2 : goal.expect-requires-2
expect-requires-2 c = c.lists-2.ensures.1 examples.1

pub expect-requires-3 : goal.expect-requires-3
expect-requires-3 c = c.lists-3.ensures.1 examples.2

pub expect-requires-4 : goal.expect-requires-4
expect-requires-4 c = c.lists-4.ensures.1 examples.3

pub expect-requires-5 : goal.expect-requires-5
expect-requires-5 c = c.lists-5.ensures.1 examples.4

pub expect-requires-6 : goal.expect-requires-6
expect-requires-6 c = c.lists-6.ensures.1 examples.5
