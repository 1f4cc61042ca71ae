-- The CRC's register. Its step is linear, which a later request needs (E11, how much damage is caught). Nothing here depends on which polynomial it
-- is, but that it fits sixteen bits.
use Rattle.std.specs.Prelude.{if◌then◌else◌}
use mathlib.Core.Path.{◌≡◌, refl, sym, ap, ap₂, ◌∙◌}
use Prim.Native.Nat.{ℕ, zero, suc, ◌*◌, ◌/◌, ◌%◌, ◌<◌}
use native.Mathlib.Nat.{mod-lt, zero-lt-suc}
use native.Mathlib.Omega.{arith}
use mathlib.Core.Bool.{Bool, true, false}
use mathlib.Core.List.{List, [], ◌∷◌, ◌++◌}
use lib.Dec.{leb}
use lib.Bits.{bit_xor, xor_lt, xor_shr, xor_mod}
use borrow.Author.Tests.{leb-true, leb-false}
use Rattle.format.specs.Crc.{polynomial, crc_bit, crc_bits, crc_byte, crc_from}
use Rattle.format.proofs.Xor.{xor-swap, xor-up}

-- ---- one bit

-- what comes in where the bit b goes out, b * polynomial, is linear too
brought-lt : (b : ℕ) → b < 2 → b * polynomial < 65536
brought-lt b h = omega arith

brought-xor : (a b : ℕ) → a < 2 → b < 2 → bit_xor a b * polynomial ≡ bit_xor (a * polynomial) (b * polynomial)
brought-xor zero b ha hb = refl
brought-xor (suc zero) zero ha hb = refl
brought-xor (suc zero) (suc zero) ha hb = refl
brought-xor (suc zero) (suc (suc b)) ha hb = absurd (omega arith)
brought-xor (suc (suc a)) b ha hb = absurd (omega arith)

-- the step without a choice
pub bit_is : (r : ℕ) → r < 65536 → crc_bit r ≡ bit_xor (r / 32768 * polynomial) (r * 2 % 65536)
unfolding crc_bit
bit_is r h = go (leb 32768 r) refl
  where
    go : (t : Bool) → leb 32768 r ≡ t → (if t then bit_xor polynomial (r * 2 % 65536) else r * 2) ≡ bit_xor (r / 32768 * polynomial) (r * 2 % 65536)
    go true e = let q : r / 32768 ≡ 1 = omega (arith, leb-true 32768 r e) in rw q
    go false e =
        let q : r / 32768 ≡ 0 = omega (arith, leb-false 32768 r e) in
        let m : r * 2 % 65536 ≡ r * 2 = omega (arith, leb-false 32768 r e) in
        rw (q, m)

pub bit-lt : (r : ℕ) → r < 65536 → crc_bit r < 65536
bit-lt r h = rw (bit_is r h) (xor_lt 16 (r / 32768 * polynomial) (r * 2 % 65536) (brought-lt (r / 32768) (omega arith)) (mod-lt (r * 2) (zero-lt-suc 65535)))

-- the step is linear
pub bit-xor : (x y : ℕ) → x < 65536 → y < 65536 → crc_bit (bit_xor x y) ≡ bit_xor (crc_bit x) (crc_bit y)
bit-xor x y hx hy =
    bit_is (bit_xor x y) (xor_lt 16 x y hx hy)
    ∙ ap₂ bit_xor
    (ap (λ (b : ℕ). b * polynomial) (xor_shr x y 15) ∙ brought-xor (x / 32768) (y / 32768) (omega arith) (omega arith))
    (ap (λ (k : ℕ). k % 65536) (xor-up 1 x y) ∙ xor_mod (x * 2) (y * 2) 16)
    ∙ xor-swap (x / 32768 * polynomial) (y / 32768 * polynomial) (x * 2 % 65536) (y * 2 % 65536)
    ∙ sym (ap₂ bit_xor (bit_is x hx) (bit_is y hy))

-- ---- n bits

pub bits-xor : (n x y : ℕ) → x < 65536 → y < 65536 → crc_bits n (bit_xor x y) ≡ bit_xor (crc_bits n x) (crc_bits n y)
unfolding crc_bits
bits-xor zero x y hx hy = refl
bits-xor (suc n) x y hx hy = ap (crc_bits n) (bit-xor x y hx hy) ∙ bits-xor n (crc_bit x) (crc_bit y) (bit-lt x hx) (bit-lt y hy)

-- ---- a string

pub from-append : (r : ℕ) (s t : List ℕ) → crc_from r (s ++ t) ≡ crc_from (crc_from r s) t
unfolding crc_from
from-append r [] t = refl
from-append r (b ∷ s) t = from-append (crc_byte r b) s t
