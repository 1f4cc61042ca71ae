-- The identifier of a UHF tag and its elements 1, 3 and 4, in their sheet forms: document 02, E5 (source document 003, 6.2).
use Rattle.std.specs.Prelude.{ℕ, ◌+◌, Bool, true, false, not, ◌&&◌, ◌||◌, List, [], ◌∷◌, ◌++◌, length, drop, get_or, eqb, if◌then◌else◌}
use Rattle.format.specs.Bytes.{is_empty, same, between}
use Rattle.format.specs.Elements.{parts_of, ordinal_of, set_bytes, form, value}
use Rattle.identifier.specs.Parts.{dotless, dotted}
use Rattle.identifier.specs.SetDigits.{total_in, ordinal_in, says_set, set_part}

-- one thing for each: element 1, the identifier; element 3, the ISIL; element 4, the set information
pub record Three (A : Type 0) : Type 0 where
  pub item : A
  pub isil : A
  pub set : A

abbrev pub three : {A : Type 0} → A → A → A → Three A
three a b c = record { item = a; isil = b; set = c }

-- their bytes; without an ISIL element 3 is empty
abbrev pub Elements : Type 0
Elements = Three (List ℕ)

-- ---- taken apart

-- "The caller says if an ISIL leads": how many parts stand before the identifier
abbrev pub before : Bool → ℕ
before leads = if leads then 1 else 0

-- "then it is ISIL and identifier, with or without set information after; otherwise identifier, with or without it"
unfoldable pub right_count : Bool → List (List ℕ) → Bool
right_count leads ps = between (before leads + 1) (before leads + 2) (length ps)

abbrev pub isil_part : Bool → List (List ℕ) → List ℕ
isil_part leads ps = if leads then get_or ps 0 [] else []

abbrev pub item_part : Bool → List (List ℕ) → List ℕ
item_part leads ps = get_or ps (before leads) []

-- the part in the set's place, or none
abbrev pub set_place : Bool → List (List ℕ) → List (List ℕ)
set_place leads ps = drop (before leads + 1) ps

-- "A final S in the set's place points to another bank"
abbrev pub is_s : List ℕ → Bool
is_s p = same p (0x53 ∷ [])

unfoldable pub pointing : List (List ℕ) → Bool
pointing [] = false
pointing (p ∷ ps) = is_s p

-- a good part in the set's place, or none
unfoldable pub good_set : List (List ℕ) → Bool
good_set [] = true
good_set (p ∷ ps) = is_s p || says_set p

-- every part has the form of its place
unfoldable pub good_parts : Bool → List (List ℕ) → Bool
good_parts leads ps = (not leads || form 3 (isil_part leads ps)) && form 1 (item_part leads ps) && good_set (set_place leads ps)

-- "None means 0 and 0"
unfoldable pub set_of : List (List ℕ) → List ℕ
set_of [] = set_bytes 0 0
set_of (p ∷ ps) = set_bytes (total_in p) (ordinal_in p)

abbrev pub elements_of : Bool → List (List ℕ) → Elements
elements_of leads ps = three (item_part leads ps) (isil_part leads ps) (set_of (set_place leads ps))

-- ---- put together

-- "Identifiers hold no dot here"
unfoldable pub good_elements : Elements → Bool
good_elements e = form 1 e.item && dotless e.item && value 3 e.isil && form 4 e.set

unfoldable pub parts_for : Elements → List (List ℕ)
parts_for e =
    (if is_empty e.isil then [] else (e.isil ∷ []))
    ++ (e.item ∷ (if eqb (parts_of e.set) 0 then [] else (set_part (parts_of e.set) (ordinal_of e.set) ∷ [])))

abbrev pub identifier_of : Elements → List ℕ
identifier_of e = dotted (parts_for e)
