-- The two calls: document 02, E5. For each, its refusals in the paper's order, and its outcome. And what the contracts say of that.
use Rattle.std.specs.Prelude.{◌≡◌, ℕ, Bool, not, ◌&&◌, List, [], ◌∷◌, length, leb, Result, Ok, Err}
use Rattle.format.specs.Answers.{Answer, plain, got, refused, Step, need, in_order, afterwards, or_else}
use Rattle.format.specs.Bytes.{filled}
use Rattle.format.specs.Numbers.{Gives, alone, number_of, reason_number}
use Rattle.format.specs.declared.Reason.{Reason}
use Rattle.words.specs.Calls.{Outcome, filling}
use Rattle.identifier.specs.declared.Parted as code
use Rattle.identifier.specs.Parts.{parts}
use Rattle.identifier.specs.Elements.{Three, three, Elements, right_count, pointing, good_parts, set_place, elements_of, good_elements, identifier_of}

-- ---- Taking apart: 22 number of parts, 6 a bad part, 23 S, then 2

abbrev pub Lengths : Type 0
Lengths = Three ℕ

abbrev pub lengths : Elements → Lengths
lengths e = three (length e.item) (length e.isil) (length e.set)

-- each of the three has its room
unfoldable pub room_for : Lengths → Elements → Bool
room_for room e = leb (length e.item) room.item && leb (length e.isil) room.isil && leb (length e.set) room.set

unfoldable pub part_steps : Bool → Lengths → List (List ℕ) → List Step
part_steps leads room ps =
    need 22 (right_count leads ps) ∷
    need 6 (good_parts leads ps) ∷
    need 23 (not (pointing (set_place leads ps))) ∷
    need 2 (room_for room (elements_of leads ps)) ∷
    []

unfoldable pub part_gives : List Gives
part_gives = alone 22 ∷ alone 6 ∷ alone 23 ∷ alone 2 ∷ []

pub record Parted : Type 0 where
  pub answer : Answer Lengths
  pub buffers : Elements

-- the elements at the front of the buffers
abbrev pub filled_all : Elements → Elements → Elements
filled_all e buffers = three (filled e.item buffers.item) (filled e.isil buffers.isil) (filled e.set buffers.set)

-- each buffer is filled with its element and otherwise left alone; at a refusal all are
unfoldable pub parting : Bool → List ℕ → Elements → Parted
parting leads s buffers =
    let e : Elements = elements_of leads (parts s) in
    let answer : Answer Lengths = in_order (part_steps leads (lengths buffers) (parts s)) (lengths e) in
    record { answer = answer; buffers = afterwards answer (filled_all e buffers) buffers }

-- ---- Putting together: 9 for a bad element or a dot, then 2

unfoldable pub join_steps : ℕ → Elements → List Step
join_steps room e =
    need 9 (good_elements e) ∷
    need 2 (leb (length (identifier_of e)) room) ∷
    []

unfoldable pub join_gives : List Gives
join_gives = alone 9 ∷ alone 2 ∷ []

abbrev pub joining : Elements → List ℕ → Outcome
joining e buffer = filling (join_steps (length buffer) e) (identifier_of e) buffer

-- ---- the contracts; that of putting together is `Fills`, and `FillsC` in C

abbrev pub parted_given : Result code.Parted Reason → Answer Lengths
parted_given (Ok p) = got (three p.item p.isil p.set)
parted_given (Err r) = refused (plain (reason_number r))

-- a call answered r and left `after` in the three buffers, as the outcome says
pub record FillsThree (o : Parted) (r : Result code.Parted Reason) (after : Elements) : Type 0 where
  pub answered : parted_given r ≡ o.answer
  pub left : after ≡ o.buffers

-- and the exported call: `r` is the number returned, `used` the results before, `used'` the results afterwards
pub record FillsThreeC (o : Parted) (used : Lengths) (r : ℕ) (after : Elements) (used' : Lengths) : Type 0 where
  pub answered : r ≡ number_of o.answer
  pub left : after ≡ o.buffers
  pub result : used' ≡ or_else o.answer used
