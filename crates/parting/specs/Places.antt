-- Where code finds the parts of an identifier. No rule of document 02 stands here; proofs/Finding.antt and Cutting.antt say that these are the parts.
use Rattle.std.specs.Prelude.{◌≡◌, ℕ, ◌+◌, ◌≤◌, Bool, ◌&&◌, List, [], ◌∷◌, length, take, drop, leb, ltb, if◌then◌else◌, Option, None, Some, Result, Ok, Err}
use Rattle.format.specs.Answers.{Answer, plain, refused, need, in_order}
use Rattle.format.specs.Bytes.{up_to, past}
use Rattle.format.specs.Numbers.{reason_number}
use Rattle.format.specs.declared.Reason.{Reason}
use Rattle.identifier.specs.Parts.{dot, dotless, parts}
use Rattle.identifier.specs.Elements.{right_count}
use Rattle.parting.specs.declared.places.Begin.{Begin}
use Rattle.parting.specs.declared.places.Cut.{Cut}

-- the ISIL, where one leads
abbrev pub isil_in : Bool → List ℕ → List ℕ
isil_in leads s = if leads then up_to dot s else []

-- what stands behind it
abbrev pub rest_in : Bool → List ℕ → List ℕ
rest_in leads s = if leads then past dot s else s

-- the part in the set's place, from what stands behind the identifier: a dot and the part, or nothing
unfoldable pub place_in : List ℕ → List (List ℕ)
place_in [] = []
place_in (c ∷ p) = p ∷ []

-- ---- as places in the text

-- 16 bytes at the front, without a dot
unfoldable pub sixteen : List ℕ → Bool
sixteen s = leb 16 (length s) && dotless (take 16 s)

-- the place of the first dot from `at` on
unfoldable pub dot_at : List ℕ → ℕ → Option ℕ
dot_at s at = let n : ℕ = at + length (up_to dot (drop at s)) in if ltb n (length s) then Some n else None

-- from `at` to r there is no dot
pub record Skips (s : List ℕ) (at r : ℕ) : Type 0 where
  pub inside : r ≤ length s
  pub first : r + length (up_to dot (drop r s)) ≡ at + length (up_to dot (drop at s))

-- an identifier that begins at a place, where no more than one part follows
unfoldable pub cut_from : List ℕ → ℕ → ℕ → Answer Cut
cut_from s isil at = in_order (need 22 (leb (length (parts (drop at s))) 2) ∷ []) (record { isil = isil; item = at; end = at + length (up_to dot (drop at s)) })

-- where the identifier begins
abbrev pub item_at : Bool → List ℕ → ℕ
item_at leads s = if leads then length (up_to dot s) + 1 else 0

unfoldable pub cut_in : Bool → List ℕ → Answer Cut
cut_in leads s =
    let at : ℕ = item_at leads s in
    in_order (need 22 (right_count leads (parts s)) ∷ []) (record { isil = length (isil_in leads s); item = at; end = at + length (up_to dot (drop at s)) })

-- where it begins, as the text's beginning or the first dot says; or the refusal of the whole
abbrev pub Begins : Bool → List ℕ → Result Begin Reason → Type 0
Begins leads s (Ok b) = (b.item ≤ length s) × (cut_from s b.isil b.item ≡ cut_in leads s)
Begins leads s (Err r) = refused (plain (reason_number r)) ≡ cut_in leads s
