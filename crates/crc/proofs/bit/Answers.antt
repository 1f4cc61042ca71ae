-- `crc::bit`: in the upper half a bit is shifted out of the 32, and the polynomial stands there too.
use mathlib.Core.Path.{◌≡◌, sym, ap, ap₂, ◌∙◌}
use Prim.Native.Nat.{ℕ, ◌*◌, ◌/◌, ◌%◌, ◌<◌}
use native.Mathlib.Omega.{arith}
use lib.Bits.{bit_xor, xor_comm}
use Rattle.format.specs.Crc.{polynomial, crc_bit}
use Rattle.format.proofs.Crc.{bit_is}
use Rattle.format.proofs.Xor.{xor-up}
use Rattle.crc.specs.Register.{upper, Becomes}
use Rattle.crc.proofs.bit.Goals as goal

shifted : (r : ℕ) → r < 4294967296 → Becomes r crc_bit (bit_xor (r * 2 % 4294967296) (r / 2147483648 * upper polynomial))
shifted r h x e =
    let left : r * 2 % 4294967296 ≡ upper (x * 2 % 65536) = omega arith in
    let right : r / 2147483648 * upper polynomial ≡ upper (x / 32768 * polynomial) = omega arith in
    ap₂ bit_xor left right
    ∙ sym (xor-up 16 (x * 2 % 65536) (x / 32768 * polynomial))
    ∙ ap upper (xor_comm (x * 2 % 65536) (x / 32768 * polynomial) ∙ sym (bit_is x (omega arith)))

pub overflow_mul-result : goal.overflow_mul-result
overflow_mul-result c = omega arith

pub returns : goal.returns
returns c = shifted _ c.ranges.register.fits
