-- `image::blocks::seal_block` meets its contract: length, ID and checksum come in the place of the first, second and fourth byte.
use mathlib.Core.Path.{◌≡◌, ap, ap₂, ◌∙◌}
use Prim.Native.Nat.{ℕ, ◌+◌, ◌≤◌}
use native.Mathlib.Omega.{arith}
use mathlib.Core.List.{List, ◌∷◌}
use lib.ListN.{length, set}
use lib.Bits.{bit_xor, xor_zero_l}
use Rattle.format.specs.Bytes.{xor_all}
use Rattle.format.specs.Chain.{sealed}
use Rattle.format.proofs.Strings.{le16-byte}
use Rattle.image.proofs.blocks.seal_block.Goals as goal

-- a 00 in the checksum's place does not count
ended : (id sum : ℕ) (d p : List ℕ) → id ≤ 100 → d ≡ 0 ∷ 0 ∷ 0 ∷ 0 ∷ p → sum ≡ xor_all (set (set d 0 (length d)) 1 id) → set (set (set d 0 (length d)) 1 id) 3 sum ≡ sealed id p
unfolding sealed xor_all
ended id sum d p small e h =
    let n : length d ≡ length p + 4 = ap length e ∙ omega arith in
    let headed : set (set d 0 (length d)) 1 id ≡ (length p + 4) ∷ id ∷ 0 ∷ 0 ∷ p = ap₂ (λ (y : List ℕ) (m : ℕ). set (set y 0 m) 1 id) e n in
    let summed = h ∙ ap xor_all headed ∙ ap (λ (y : ℕ). bit_xor (length p + 4) (bit_xor id (bit_xor 0 y))) (xor_zero_l (xor_all p)) in
    rw (le16-byte id (omega arith)) (ap₂ (λ (y : List ℕ) (z : ℕ). set y 3 z) headed summed)

pub returns : goal.returns
returns c p e = ended c.args.id _ c.args.block.now p c.requires.0 e c.xor_of.ensures
