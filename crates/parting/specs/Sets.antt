-- The set information as code has it: two numbers, or the refusal.
use Rattle.std.specs.Prelude.{ℕ, not, List, [], ◌∷◌}
use Rattle.format.specs.Answers.{Answer, need, in_order}
use Rattle.identifier.specs.SetDigits.{total_in, ordinal_in, says_set}
use Rattle.identifier.specs.Elements.{pointing, good_set}
use Rattle.parting.specs.declared.set.Set.{Set}

-- what a part says, or 6
unfoldable pub read_in : List ℕ → Answer Set
read_in p = in_order (need 6 (says_set p) ∷ []) (record { total = total_in p; ordinal = ordinal_in p })

-- the numbers of the part in the set's place, 0 and 0 for none
unfoldable pub numbers_in : List (List ℕ) → Set
numbers_in [] = record { total = 0; ordinal = 0 }
numbers_in (p ∷ ps) = record { total = total_in p; ordinal = ordinal_in p }

-- what stands there: its numbers, or 6 or 23
unfoldable pub stands_in : List (List ℕ) → Answer Set
stands_in ps = in_order (need 6 (good_set ps) ∷ need 23 (not (pointing ps)) ∷ []) (numbers_in ps)
