-- A short tag has all that is left of the field.
use mathlib.Core.Path.{◌≡◌}
use Prim.Native.Nat.{◌-◌, min}
use native.Mathlib.Omega.{arith}
use lib.ListN.{length, drop, length-drop}
use Rattle.std.proofs.lemmas.List.{take_min}
use Rattle.look.proofs.judge.Tag.owner_field.Goals as goal

pub returns : goal.returns
returns c =
    let t = c.args.self.now.bytes.now in
    let e : c.min.result - 21 ≡ min 13 (length (drop 21 t)) = omega (arith, c.min.ensures, length-drop 21 t) in
    rw e (take_min 13 (drop 21 t))
