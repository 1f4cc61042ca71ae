-- What looking at a tag finds.
use Rattle.std.specs.Prelude.{◌≡◌, ℕ, List, ◌∷◌, length, Result}
use Rattle.format.specs.Answers.{Answer, got, Step, in_order, need, afterwards}
use Rattle.format.specs.Bytes.{filled}
use Rattle.format.specs.Pages.{page_size, good_size}
use Rattle.format.specs.Reading.{tag_steps}
use Rattle.format.specs.Numbers.{told}
use Rattle.format.specs.declared.Part.{Part}
use Rattle.format.specs.declared.Refusal.{Refusal}
use Rattle.chain.specs.declared.Chain.{Chain}
use Rattle.chain.specs.Survey.{found_on}
use Rattle.look.specs.declared.View.{View}
use Rattle.look.specs.Row.{piece_by, row_by, made_by}
use Rattle.look.specs.Looking.{owner_parts_on, library_parts_on, fields_on}

-- ---- what the tag t holds and where

abbrev pub row_in : List ℕ → List Part
row_in t = row_by t (found_on t).library.at (fields_on t)

abbrev pub made_in : List ℕ → List ℕ
made_in t = made_by t (owner_parts_on t) (library_parts_on t)

-- the carried blocks
unfoldable pub view_in : List ℕ → View
view_in t = let c : Chain = found_on t in record { count = c.count; size = c.size; blocks = piece_by c }

-- ---- the answer

-- the steps 1, 3, 4, 15 to 19, 6 and 7 in order
abbrev pub look_steps : List ℕ → List Step
look_steps t = need 1 (good_size page_size (length t)) ∷ tag_steps t

abbrev pub judged : List ℕ → Step
judged t = in_order (look_steps t) tt

-- what looking at a tag answers: these steps in order, or what it holds
unfoldable pub looking : List ℕ → Answer View
looking t = in_order (look_steps t) (view_in t)

-- looking at tag t answered r, and left its row of elements; at a refusal what was there
pub record Looked (t : List ℕ) (row : List Part) (made : List ℕ) (r : Result View Refusal) (row' : List Part) (made' : List ℕ) : Type 0 where
  pub answered : told r ≡ looking t
  pub row-left : row' ≡ afterwards (looking t) (row_in t) row
  pub made-left : made' ≡ afterwards (looking t) (filled (made_in t) made) made

-- looking saw the tag t, and this is what it left, where `lent` was lent for what is made
pub record Sighted (t lent : List ℕ) (row : List Part) (made : List ℕ) (v : View) : Type 0 where
  pub seen : judged t ≡ got tt
  pub view-is : v ≡ view_in t
  pub row-is : row ≡ row_in t
  pub made-is : made ≡ filled (made_in t) lent
