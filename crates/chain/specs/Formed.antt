-- A block as the code judges it: x is the XOR of the bytes behind the first, which is the first where the XOR of all is 00.
use Rattle.std.specs.Prelude.{ℕ, Bool, true, false, not, ◌&&◌, List, Option, None, Some, length, leb, eqb, if◌then◌else◌}
use Rattle.format.specs.declared.Damage.{Damage}
use Rattle.format.specs.Chain.{length_of, id_of, whole, structured}
use Rattle.format.specs.Numbers.{damage_number}

-- the number of the damage, if there is any, 0 for none
abbrev pub number_by : Option Damage → ℕ
number_by None = 0
number_by (Some d) = damage_number d

-- the number of the damage of a structured block, 0 for none: it has n bytes, as it says, and the ID `id`; `seen`: a
-- block of this ID came before, and it may stand once
unfoldable pub damage_by : ℕ → ℕ → ℕ → Bool → ℕ
damage_by n id x seen =
    if eqb id 0 then 17 else
    if not (leb 4 n) then 17 else
    if not (eqb x n) then 18 else
    if seen then 19 else
    0

-- b is well formed
unfoldable pub formed_by : ℕ → List ℕ → Bool
formed_by x b = leb 3 (length b) && whole b && (if structured b then eqb (damage_by (length_of b) (id_of b) x false) 0 else true)
