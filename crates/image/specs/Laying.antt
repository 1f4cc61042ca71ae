-- Laying elements down on a draft: what the private functions rely on. No rule of document 01 stands here: the layout is `format`'s.
use Rattle.std.specs.Prelude.{◌≡◌, ◌⊎◌, ℕ, suc, ◌+◌, ◌-◌, ◌≤◌, true, List, [], ◌∷◌, ◌++◌, map, eqb, length, drop, get_or, replicate, if◌then◌else◌}
use Rattle.format.specs.Bytes.{bytes, part}
use Rattle.format.specs.Fields.{is_owner, basic_owner}
use Rattle.format.specs.Chain.{separated}
use Rattle.format.specs.Layout.{owner_width}
use Rattle.format.specs.declared.Part.{Part}
use Rattle.rows.specs.Rows.{slots_at, Stands, Row}

-- ---- elements

-- the strings are as long as the parts say
abbrev pub Lengths : List (List ℕ) → List Part → Type 0
Lengths ss row = map length ss ≡ map (λ (p : Part). p.len) row

-- a part stands in the source or in what was made, and its bytes are s
pub record Holds (src made : List ℕ) (p : Part) (s : List ℕ) : Type 0 where
  pub stands : Stands src made p
  pub is : part p.at p.len (src ++ made) ≡ s

-- an owner, as long as an element may be, or nothing
pub record OwnerOrNone (o : List ℕ) : Type 0 where
  pub kind : (o ≡ []) ⊎ (is_owner o ≡ true)
  pub short : length o ≤ 255

-- ---- a draft

-- n bytes 00
abbrev pub zeros : ℕ → List ℕ
zeros n = replicate n 0

-- from byte `at` on all is 00
abbrev pub Blank : ℕ → List ℕ → Type 0
Blank at d = drop at d ≡ zeros (length d - at)

-- an owner or nothing, and the owner field of d is 00
pub record OwnerFits (o d : List ℕ) : Type 0 where
  pub size : 32 ≤ length d
  pub blank : Blank 21 d
  pub good : OwnerOrNone o

-- and it holds the owner, which is no alternative and so an ISIL, in a basic form
pub record IsilFits (o d : List ℕ) : Type 0 where
  pub field : OwnerFits o d
  pub high : 4 ≤ get_or o 0 0
  pub held : basic_owner (owner_width (length d)) o ≡ true

-- ---- the fields of a block

-- how many bytes fields of these lengths have with a 00 between them, and none behind the last that is there
unfoldable pub fields_size : List Part → ℕ
fields_size [] = 0
fields_size (p ∷ ps) = p.len + (if eqb (fields_size ps) 0 then 0 else suc (fields_size ps))

-- no more than a block has, none longer than an element
pub record Few (fields : List Part) : Type 0 where
  pub count : length fields ≤ 4
  pub short : bytes (map (λ (p : Part). p.len) fields) ≡ true

-- what they hold: they stand in the source or in what was made
abbrev pub content : List ℕ → List ℕ → List Part → List ℕ
content src made fields = separated (slots_at (src ++ made) fields)

-- they have room from byte `at` of d on
pub record FieldsFit (src made : List ℕ) (fields : List Part) (at : ℕ) (d : List ℕ) : Type 0 where
  pub few : Few fields
  pub row : Row src made fields
  pub blank : Blank at d
  pub room : at + length (content src made fields) ≤ length d

-- and they are all that d, which is 00, has room for as block 1, behind its head and a byte
pub record BlockFits (src made : List ℕ) (fields : List Part) (d : List ℕ) : Type 0 where
  pub few : Few fields
  pub row : Row src made fields
  pub blank : Blank 0 d
  pub is : length d ≡ 5 + length (content src made fields)
  pub short : length d ≤ 255
