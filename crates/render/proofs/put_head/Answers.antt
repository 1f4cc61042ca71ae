-- `render::put_head` meets its contract: four stores are one piece, the head.
use mathlib.Core.Path.{◌≡◌, refl, ◌∙◌}
use mathlib.Core.List.{List, [], ◌∷◌, append_assoc}
use Prim.Native.Nat.{ℕ, suc, ◌+◌, ◌≤◌}
use native.Mathlib.Omega.{arith}
use lib.ListN.{length, take, drop, set}
use lib.Seq.{sets-eq}
use Rattle.format.specs.Bytes.{le16}
use Rattle.format.specs.Pieces.{Stored}
use Rattle.render.proofs.put_head.Goals as goal

four : (o : List ℕ) (at x y z w : ℕ) → at + 4 ≤ length o → Stored o at (x ∷ y ∷ z ∷ w ∷ []) (at + 4) (set (set (set (set o at x) (at + 1) y) (at + 2) z) (at + 3) w)
four o at x y z w h =
    let one : at + 1 ≡ suc at = omega arith in
    let two : at + 2 ≡ suc (suc at) = omega arith in
    let three : at + 3 ≡ suc (suc (suc at)) = omega arith in
    let s = x ∷ y ∷ z ∷ w ∷ [] in
    (refl, rw (one, two, three) (sets-eq s o at h ∙ append_assoc (take at o) s (drop (at + 4) o)))

pub returns : goal.returns
unfolding le16
returns c = let a = c.args in rw c.low_two.ensures (four a.sheet.now a.at a.number _ _ a.len c.requires.1)
