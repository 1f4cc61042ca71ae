-- The CRC's register as the code has it: in the upper half of 32 bits.
use Rattle.std.specs.Prelude.{◌≡◌, ℕ, ◌*◌}

abbrev pub upper : ℕ → ℕ
upper r = r * 0x10000

-- r becomes q as f has it: where r is the register x in the upper half, q is f x there
abbrev pub Becomes : ℕ → (ℕ → ℕ) → ℕ → Type 0
Becomes r f q = (x : ℕ) → r ≡ upper x → q ≡ upper (f x)
