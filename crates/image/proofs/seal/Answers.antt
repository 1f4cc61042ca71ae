-- `image::seal` meets its contract: the two bytes of the CRC in its place.
use mathlib.Core.Path.{sym}
use lib.Seq.{drop-drop}
use borrow.Author.Tests.{lt-leb}
use Rattle.format.specs.Bytes.{le16}
use Rattle.image.specs.Drafting.{sealing}
use Rattle.image.proofs.Laws.{sealing-long}
use Rattle.image.proofs.seal.Goals as goal

pub returns-then-draft-lt21 : goal.returns-then-draft-lt21
unfolding sealing
returns-then-draft-lt21 c = rw (lt-leb 21 _ c.if-draft-lt21.true)

pub returns : goal.returns
unfolding le16
returns c = rw (c.copy_from_slice.ensures.after, c.to_le_bytes.ensures, c.of_tag.ensures, drop-drop 2 19 c.args.draft.now) (sym (sealing-long c.args.draft.now c.if-draft-lt21.false))
