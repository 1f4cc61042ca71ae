-- What the check searches with.
use mathlib.Core.Path.{◌≡◌, refl}
use Prim.Native.Nat.{ℕ, ◌≤◌}
use native.Mathlib.Omega.{arith}
use mathlib.Core.Bool.{false}
use mathlib.Core.List.{List, [], ◌∷◌}
use lib.Dec.{eqb}
use lib.ListN.{length}
use Rattle.format.specs.Bytes.{same}
use Rattle.format.specs.Fields.{marked}
use Rattle.format.proofs.Tests.{and_no}
use Rattle.fields.proofs.Places.{up-to-take, past-drop}

-- a string cut at the first of a byte
pub ruleset cuts = (up-to-take, past-drop)

-- more than one byte is no marker
pub unmarked : (s : List ℕ) → 2 ≤ length s → marked s ≡ false
unfolding same
unmarked [] h = absurd (omega arith)
unmarked (x ∷ []) h = absurd (omega arith)
unmarked (x ∷ y ∷ s) h = and_no (eqb x 1) false refl
