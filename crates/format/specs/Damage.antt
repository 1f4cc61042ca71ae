-- Where a chain is damaged, and why: request E1. `walk` finds the place; here is what is found.
use Rattle.std.specs.Prelude.{◌≡◌, ℕ, ◌+◌, ◌%◌, ◌≤◌, true, List, [], ◌∷◌, get_or, eqb}
use Rattle.format.specs.Answers.{placed, Passed, FirstRefusal}
use Rattle.format.specs.Bytes.{same, le16, part}
use Rattle.format.specs.Crc.{crc, covered}
use Rattle.format.specs.Chain.{id_of, damage_steps}

-- the block that begins at byte p of tag t, as far as the tag has it
abbrev pub block_at : List ℕ → ℕ → List ℕ
block_at t p = part p (get_or t p 0) t

-- from byte 34, going from block to block and over fillers, one comes to byte p, and no block before it is damaged; `seen`: their IDs
pub data Reached (t : List ℕ) : ℕ → List ℕ → Type 0 where
  start : Reached t 34 []
  filler : {p : ℕ} {seen : List ℕ} → Reached t p seen → get_or t p 0 ≡ 1 → Reached t (p + 1) seen
  block : {p : ℕ} {seen : List ℕ} → Reached t p seen → 2 ≤ get_or t p 0 → Passed (damage_steps p seen (block_at t p))
      → Reached t (p + get_or t p 0) (id_of (block_at t p) ∷ seen)

-- the first damaged block of tag t begins at byte p, and k is the first of its damages
pub record Damaged (t : List ℕ) (k p : ℕ) : Type 0 where
  pub seen : List ℕ
  pub reached : Reached t p seen
  pub begins : 2 ≤ get_or t p 0
  pub broken : FirstRefusal (placed k p) (damage_steps p seen (block_at t p))

-- and neither 3 nor 4 holds: a tag of good size is refused for it
pub record Spoilt (t : List ℕ) (k p : ℕ) : Type 0 where
  pub parameter : eqb (get_or t 0 0 % 16) 1 ≡ true
  pub check : same (part 19 2 t) (le16 (crc (covered t))) ≡ true
  pub damage : Damaged t k p
