-- `put_line` stores a number, a blank, the hex of some bytes and the line's end.
use native.Mathlib.Omega.{arith}
use mathlib.Core.Path.{◌≡◌}
use mathlib.Core.List.{List, ◌∷◌, [], ◌++◌, append_assoc}
use Prim.Native.Nat.{ℕ}
use Rattle.format.proofs.Pieces.{stored-then, stored-as}
use Rattle.listing.specs.Listing.{decimal, hex_of, line_of}
use Rattle.listing.proofs.Text.{decimal-length, hex-length}
use Rattle.listing.proofs.put_line.Goals as goal

grouped : (d h : List ℕ) → ((d ++ (0x20 ∷ [])) ++ h) ++ (0x0A ∷ []) ≡ d ++ (0x20 ∷ (h ++ (0x0A ∷ [])))
grouped d h = simp append_assoc

pub put_bytes-hex-requires : goal.put_bytes-hex-requires
put_bytes-hex-requires c = omega (arith, decimal-length c.from.result (omega (arith, c.from.ensures)))

pub put_hex-end-requires : goal.put_hex-end-requires
put_hex-end-requires c =
    let a = c.args in
    omega (arith, decimal-length c.from.result (omega (arith, c.from.ensures)), hex-length a.bytes.now)

pub put_bytes-requires : goal.put_bytes-requires
put_bytes-requires c =
    let a = c.args in
    omega (arith, decimal-length c.from.result (omega (arith, c.from.ensures)), hex-length a.bytes.now)

pub returns : goal.returns
unfolding line_of
returns c =
    let a = c.args in
    let o = a.out.now in
    let d = decimal a.number in
    let h = hex_of a.bytes.now in
    let p1 = c.put_decimal-blank in
    let p2 = c.put_bytes-hex in
    let p3 = c.put_hex-end in
    let p4 = c.put_bytes in
    stored-as o _ _ _ a.at _ (grouped d h)
    (stored-then o _ _ ((d ++ (0x20 ∷ [])) ++ h) (0x0A ∷ []) a.at _ _ (omega arith)
    (stored-then o _ _ (d ++ (0x20 ∷ [])) h a.at _ _ (omega arith)
    (stored-then o _ _ d (0x20 ∷ []) a.at _ _ (omega arith) (rw c.from.ensures at p1.ensures) p2.ensures) p3.ensures) p4.ensures)
