-- The CRC: document 01, "The first 34 bytes". Polynomial 1021 hex, start FFFF, the high bit of each byte first, no final inversion.
use Rattle.std.specs.Prelude.{ℕ, zero, suc, ◌*◌, ◌%◌, List, [], ◌∷◌, ◌++◌, take, leb, if◌then◌else◌}
use Rattle.std.specs.Int.Bits.{bit_xor}
use Rattle.format.specs.Bytes.{part, pad}

abbrev pub polynomial : ℕ
polynomial = 0x1021

-- the register shifted by one bit; the polynomial goes in where a bit goes out
unfoldable pub crc_bit : ℕ → ℕ
crc_bit r = if leb 0x8000 r then bit_xor polynomial (r * 2 % 0x10000) else r * 2

unfoldable pub crc_bits : ℕ → ℕ → ℕ
crc_bits zero r = r
crc_bits (suc n) r = crc_bits n (crc_bit r)

-- a byte goes in at the register's high end
unfoldable pub crc_byte : ℕ → ℕ → ℕ
crc_byte r b = crc_bits 8 (bit_xor r (b * 256))

unfoldable pub crc_from : ℕ → List ℕ → ℕ
crc_from r [] = r
crc_from r (b ∷ bs) = crc_from (crc_byte r b) bs

unfoldable pub crc : List ℕ → ℕ
crc bs = crc_from 0xFFFF bs

-- what it covers of a tag: bytes 0 to 18 and then 21 to 33; bytes that a 32-byte tag lacks count as 00
unfoldable pub covered : List ℕ → List ℕ
covered t = take 19 t ++ pad 13 (part 21 13 t)
