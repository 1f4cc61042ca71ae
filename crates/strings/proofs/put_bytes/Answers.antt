-- `strings::put_bytes` meets its contract: a copy to a part of the buffer is one piece.
use Prim.Native.Nat.{◌+◌, ◌-◌}
use mathlib.Core.Path.{◌≡◌}
use native.Mathlib.Omega.{arith}
use lib.ListN.{length}
use Rattle.format.proofs.Pieces.{stored-copy}
use Rattle.strings.proofs.put_bytes.Goals as goal

pub returns : goal.returns
returns c =
    let a = c.args in
    let k : a.at + length a.piece.now - a.at ≡ length a.piece.now = omega arith in
    stored-copy a.out.now a.piece.now _ a.at _ k c.requires c.copy.ensures.1
