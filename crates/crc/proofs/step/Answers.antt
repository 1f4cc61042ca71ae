-- `crc::step`: the byte meets the register's high end, and eight bits go on.
use mathlib.Core.Path.{◌≡◌, sym, ap₂, ◌∙◌}
use Prim.Native.Nat.{ℕ, ◌*◌}
use native.Mathlib.Omega.{arith}
use lib.Bits.{bit_xor}
use Rattle.format.specs.Crc.{crc_bits, crc_byte}
use Rattle.format.proofs.Xor.{xor-up}
use Rattle.crc.specs.Register.{upper, Becomes}
use Rattle.crc.proofs.step.Goals as goal

-- m is the byte at the high end
met : (r b m : ℕ) → m ≡ upper (b * 256) → Becomes r (λ x. bit_xor x (b * 256)) (bit_xor r m)
met r b m up x e = ap₂ bit_xor e up ∙ sym (xor-up 16 x (b * 256))

pub returns : goal.returns
unfolding crc_byte crc_bits
returns c x e =
    let one = c.bit.ensures _ (met _ c.args.byte _ (omega arith) x e) in
    let four = c.bit-4.ensures _ (c.bit-3.ensures _ (c.bit-2.ensures _ one)) in
    c.bit-8.ensures _ (c.bit-7.ensures _ (c.bit-6.ensures _ (c.bit-5.ensures _ four)))
