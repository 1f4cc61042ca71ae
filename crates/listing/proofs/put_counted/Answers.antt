-- `put_counted` stores a word, a number and the line's end.
use native.Mathlib.Omega.{arith}
use mathlib.Core.List.{◌∷◌, [], ◌++◌, append_assoc}
use Rattle.format.proofs.Pieces.{stored-then, stored-as}
use Rattle.listing.specs.Listing.{decimal}
use Rattle.listing.proofs.Text.{decimal-length}
use Rattle.listing.proofs.put_counted.Goals as goal

pub put_bytes-requires : goal.put_bytes-requires
put_bytes-requires c =
    omega (arith, decimal-length c.args.n c.requires.1)

pub returns : goal.returns
returns c =
    let a = c.args in
    let o = a.out.now in
    let w = a.word.now in
    let p1 = c.put_bytes-number in
    let p2 = c.put_decimal-end in
    let p3 = c.put_bytes in
    stored-as o _ _ _ a.at _ (append_assoc w (decimal a.n) (0x0A ∷ []))
    (stored-then o _ _ (w ++ decimal a.n) (0x0A ∷ []) a.at _ _ (omega arith)
    (stored-then o _ _ w (decimal a.n) a.at _ _ (omega arith) p1.ensures p2.ensures) p3.ensures)
