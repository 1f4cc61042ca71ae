-- The pieces of an identifier as code lays them down. No rule of document 02 stands here; proofs/Pieces.antt says that together they are the
-- identifier.
use Rattle.std.specs.Prelude.{ℕ, List, [], ◌∷◌, ◌++◌, eqb, if◌then◌else◌}
use Rattle.format.specs.Bytes.{is_empty}
use Rattle.identifier.specs.Parts.{dot}
use Rattle.identifier.specs.SetDigits.{set_part}

-- the ISIL and a dot; no ISIL has neither
abbrev pub isil_front : List ℕ → List ℕ
isil_front i = if is_empty i then [] else i ++ (dot ∷ [])

-- a dot and the set information; no set has neither
abbrev pub set_end : ℕ → ℕ → List ℕ
set_end total ordinal = if eqb total 0 then [] else dot ∷ set_part total ordinal
