-- `put_hex`: the hex of the bytes so far is stored; a turn stores two digits more.
use mathlib.Core.Path.{sym, ap}
use native.Mathlib.Omega.{arith}
use lib.ListN.{take}
use lib.Seq.{take_all}
use Rattle.format.proofs.Pieces.{stored-none, stored-then, stored-as}
use Rattle.listing.specs.Listing.{hex_of}
use Rattle.listing.proofs.Text.{hex-length, hex-next}
use Rattle.listing.proofs.put_hex.Goals as goal

pub loop-b-init : goal.loop-b-init
unfolding hex_of
loop-b-init c = (omega arith, stored-none c.args.out.now c.args.at)

pub put_bytes-end-requires : goal.put_bytes-end-requires
put_bytes-end-requires c = omega (arith, hex-length c.args.s.now)

pub loop-b-preserved : goal.loop-b-preserved
loop-b-preserved c =
    let a = c.args in
    let l = c.loop-b in
    let turn = sym (hex-next a.s.now l.b-index c.loop-b-test.true) in (
      omega (arith, c.put_bytes-end.ensures.0),
      stored-as a.out.now _ _ _ a.at _ turn
          (stored-then a.out.now l.out _ (hex_of (take l.b-index a.s.now)) _ a.at l.end _ (omega (arith, hex-length a.s.now)) l.invariant.1 (rw (c.hex_digit.ensures, c.hex_digit-in-loop-b.ensures) at c.put_bytes-end.ensures)),
    )

pub returns : goal.returns
returns c =
    let a = c.args in
    let l = c.loop-b in
    stored-as a.out.now l.out _ _ a.at l.end (ap hex_of (take_all l.b-index a.s.now (omega arith))) l.invariant.1
