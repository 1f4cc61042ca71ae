-- `put_decimal` stores the digits that a number below 10,000 has, highest first.
use native.Mathlib.Omega.{arith}
use mathlib.Core.Path.{sym}
use mathlib.Core.List.{◌++◌}
use Rattle.format.proofs.Pieces.{stored-then, stored-as}
use Rattle.listing.specs.Listing.{leading}
use Rattle.listing.proofs.Text.{last, decimal-leading}
use Rattle.listing.proofs.put_decimal.Goals as goal

pub returns : goal.returns
returns c =
    let a = c.args in
    let n = a.n in
    let o = a.out.now in
    let p1 = c.put_digit-thousands in
    let p2 = c.put_digit-hundreds in
    let p3 = c.put_digit-tens in
    let p4 = c.put_bytes in
    stored-as o _ _ _ a.at _ (sym (decimal-leading n c.requires.1))
    (stored-then o _ _ ((leading 1000 n ++ leading 100 n) ++ leading 10 n) (last n) a.at _ _ (omega arith)
    (stored-then o _ _ (leading 1000 n ++ leading 100 n) (leading 10 n) a.at _ _ (omega arith)
    (stored-then o _ _ (leading 1000 n) (leading 100 n) a.at _ _ (omega arith) p1.ensures p2.ensures) p3.ensures) p4.ensures)
