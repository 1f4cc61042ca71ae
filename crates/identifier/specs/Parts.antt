-- A text in parts: document 02, E5. A text is a string of bytes.
use Rattle.std.specs.Prelude.{ℕ, Bool, not, List, [], ◌∷◌, ◌++◌, eqb, if◌then◌else◌}
use Rattle.format.specs.Bytes.{all}

abbrev pub dot : ℕ
dot = 0x2E

abbrev pub dotless : List ℕ → Bool
dotless p = all (λ c. not (eqb c dot)) p

-- c, and then the first part
unfoldable pub on_first : ℕ → List (List ℕ) → List (List ℕ)
on_first c [] = (c ∷ []) ∷ []
on_first c (p ∷ ps) = (c ∷ p) ∷ ps

-- "Parts are split at dots": one more than there are dots
unfoldable pub parts : List ℕ → List (List ℕ)
parts [] = [] ∷ []
parts (c ∷ s) = if eqb c dot then [] ∷ parts s else on_first c (parts s)

-- and the way back: a dot between parts
unfoldable pub dotted : List (List ℕ) → List ℕ
dotted [] = []
dotted (p ∷ []) = p
dotted (p ∷ q ∷ ps) = p ++ (dot ∷ dotted (q ∷ ps))
