-- `put_placed` stores the word, the number, and a blank with the place.
use native.Mathlib.Omega.{arith}
use mathlib.Core.List.{◌∷◌, [], ◌++◌, append_assoc}
use Rattle.format.proofs.Pieces.{stored-then, stored-as}
use Rattle.listing.specs.Listing.{decimal, refused_word, counted, placed_text}
use Rattle.listing.proofs.Text.{decimal-length}
use Rattle.listing.proofs.put_placed.Goals as goal

pub put_counted-requires : goal.put_counted-requires
put_counted-requires c =
    (omega (arith, decimal-length c.args.number c.requires.1, c.put_decimal-blank.ensures.0, c.put_bytes-at.ensures.0), c.requires.2)

pub returns : goal.returns
unfolding placed_text
returns c =
    let a = c.args in
    let o = a.out.now in
    let blank = counted (0x20 ∷ []) a.place in
    stored-as o _ _ _ 0 _ (append_assoc refused_word (decimal a.number) blank)
    (stored-then o _ _ (refused_word ++ decimal a.number) blank 0 _ _ (omega arith)
    (stored-then o _ _ refused_word (decimal a.number) 0 _ _ (omega arith) c.put_bytes-at.ensures c.put_decimal-blank.ensures) c.put_counted.ensures)
