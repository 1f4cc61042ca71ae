-- How code finds bytes and lays them down: parts of a string, and pieces in a buffer, one behind the other. No rule of document 01 stands
-- here.
use Rattle.std.specs.Prelude.{◌≡◌, ℕ, ◌+◌, ◌≤◌, List, ◌++◌, length, take, drop}
use Rattle.format.specs.Bytes.{part}
use Rattle.format.specs.declared.Part.{Part}

-- the buffer `before`, with `piece` stored from byte `at` on, is `after`; r is the place behind the piece
abbrev pub Stored : List ℕ → ℕ → List ℕ → ℕ → List ℕ → Type 0
Stored before at piece r after =
    (r ≡ at + length piece) × (after ≡ take at before ++ (piece ++ drop (at + length piece) before))

-- `len` bytes from `at` on; and none
abbrev pub from : ℕ → ℕ → Part
from at len = record { at = at; len = len }

abbrev pub nowhere : Part
nowhere = from 0 0

-- a part that lies inside t holds s
pub record Held (t : List ℕ) (p : Part) (s : List ℕ) : Type 0 where
  pub inside : p.at + p.len ≤ length t
  pub is : part p.at p.len t ≡ s
