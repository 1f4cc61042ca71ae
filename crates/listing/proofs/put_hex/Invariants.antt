-- `put_hex`: the hex of the bytes so far is stored, and the buffer keeps its length.
use Prim.Native.Nat.{◌+◌, ◌*◌}
use mathlib.Core.Path.{◌≡◌}
use lib.ListN.{take}
use Rattle.format.specs.Pieces.{Stored}
use Rattle.listing.specs.Listing.{hex_of}
use Rattle.listing.proofs.put_hex.Given as goal

abbrev pub invariant-loop-b : goal.invariant-loop-b
invariant-loop-b l = (l.end ≡ l.at + 2 * l.b-index) × Stored l.initial.out l.at (hex_of (take l.b-index l.s)) l.end l.out
