-- The writer's own layout of a row of elements, on a draft: what is answered, and what the draft then holds. The layout is `format`'s.
use Rattle.std.specs.Prelude.{◌≡◌, ℕ, ◌≤◌, true, not, List, [], ◌∷◌, ◌++◌, Result, leb, length, take, drop, replicate, if◌then◌else◌}
use Rattle.format.specs.Answers.{Step, need, in_order, afterwards}
use Rattle.format.specs.Bytes.{le16}
use Rattle.format.specs.Crc.{crc, covered}
use Rattle.format.specs.Elements.{numbers, clash, values_at}
use Rattle.format.specs.Layout.{layout, has_layout}
use Rattle.format.specs.Numbers.{given}
use Rattle.format.specs.declared.Part.{Part}
use Rattle.format.specs.declared.Reason.{Reason}
use Rattle.rows.specs.Rows.{slots_at, Row}

-- ---- the CRC's place in a draft

-- d with the bytes s in the CRC's place
abbrev pub with_check : List ℕ → List ℕ → List ℕ
with_check s d = take 19 d ++ (s ++ drop 21 d)

-- d with the CRC over what it holds there, low byte first
abbrev pub checked : List ℕ → List ℕ
checked d = with_check (le16 (crc (covered d))) d

-- where it has that place
unfoldable pub sealing : List ℕ → List ℕ
sealing d = if leb 21 (length d) then checked d else d

-- ---- drafting

-- the layout, with 00 in the CRC's place
unfoldable pub unsealed : ℕ → List (List ℕ) → List ℕ → List ℕ
unsealed n ss blocks = with_check (0 ∷ 0 ∷ []) (layout n ss blocks)

-- 10 Clash and 11 Large, in order
unfoldable pub drafting : ℕ → List (List ℕ) → List ℕ → Step
drafting n ss blocks = in_order (need 10 (not (clash ss)) ∷ need 11 (has_layout n ss blocks) ∷ []) tt

-- d is a draft of 00 for the tag t
pub record Fresh (d t : List ℕ) : Type 0 where
  pub long : length d ≡ length t
  pub blank : d ≡ replicate (length d) 0

-- a row of values, and a draft of 00 as long as a tag at least
pub record Draftable (src made : List ℕ) (elements : List Part) (draft : List ℕ) : Type 0 where
  pub row : Row src made elements
  pub values : values_at numbers (slots_at (src ++ made) elements) ≡ true
  pub size : 32 ≤ length draft
  pub blank : draft ≡ replicate (length draft) 0

-- drafting the row's elements, with these blocks behind them, answered r and left draft'
pub record Drafted (src made : List ℕ) (row : List Part) (blocks draft : List ℕ) (r : Result (Unit {0}) Reason) (draft' : List ℕ) : Type 0 where
  pub answered : given r ≡ drafting (length draft) (slots_at (src ++ made) row) blocks
  pub left : draft' ≡ afterwards (given r) (unsealed (length draft) (slots_at (src ++ made) row) blocks) draft
