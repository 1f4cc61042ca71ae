-- The paper's number and values for each case of the answers (document 01, last paragraph), and what the contract of each call says of
-- its answer and of the buffers.
use Rattle.std.specs.Prelude.{◌≡◌, ℕ, Bool, true, false, ◌||◌, eqb, List, [], ◌∷◌, Result, Ok, Err}
use Rattle.format.specs.Answers.{Answer, Refusal, plain, placed, got, refused, Step}
use Rattle.format.specs.Bytes.{one_of}
use Rattle.format.specs.Pages.{page_size}
use Rattle.format.specs.Calls.{reading, writing, editing}
use Rattle.format.specs.declared.Reason.{Reason}
use Rattle.format.specs.declared.Reason.TheVariants as reason
use Rattle.format.specs.declared.Damage.{Damage}
use Rattle.format.specs.declared.Damage.TheVariants as block
use Rattle.format.specs.declared.Refusal as code
use Rattle.format.specs.declared.Refusal.TheVariants as refusal
use Rattle.format.specs.declared.Edited.{Edited}

abbrev pub reason_number : Reason → ℕ
reason_number reason.Size = 1
reason_number reason.Room = 2
reason_number reason.Content = 3
reason_number reason.Check = 4
reason_number reason.Field = 6
reason_number reason.Mismatch = 7
reason_number reason.Sheet = 8
reason_number reason.Value = 9
reason_number reason.Clash = 10
reason_number reason.Large = 11
reason_number reason.Locked = 12
reason_number reason.Loose = 13
reason_number reason.Offset = 14
reason_number reason.Word = 20
reason_number reason.Character = 21
reason_number reason.Parts = 22
reason_number reason.Bank = 23

abbrev pub damage_number : Damage → ℕ
damage_number block.Length = 15
damage_number block.End = 16
damage_number block.Id = 17
damage_number block.Checksum = 18
damage_number block.Second = 19

abbrev pub refusal_given : code.Refusal → Refusal
refusal_given (refusal.Plain r) = plain (reason_number r)
refusal_given (refusal.Placed d p) = placed (damage_number d) p

-- the answer of a call, or of a stage of one, which is a step: what it got, or its refusal. `given` where no refusal has a place
abbrev pub given : {A : Type 0} → Result A Reason → Answer A
given (Ok a) = got a
given (Err r) = refused (plain (reason_number r))

abbrev pub told : {A : Type 0} → Result A code.Refusal → Answer A
told (Ok a) = got a
told (Err x) = refused (refusal_given x)

-- the numbers of damage
unfoldable pub damage_numbers : List ℕ
damage_numbers = 15 ∷ 16 ∷ 17 ∷ 18 ∷ 19 ∷ []

-- what a step may refuse with: a number alone; or a number of damage, and a place with it
pub data Gives : Type 0 where
  alone : ℕ → Gives
  damage : Gives

unfoldable pub gives : Gives → Refusal → Bool
gives (alone n) (plain k) = eqb k n
gives (alone n) (placed k p) = false
gives damage (plain k) = false
gives damage (placed k p) = one_of damage_numbers k

unfoldable pub one_gives : List Gives → Refusal → Bool
one_gives [] x = false
one_gives (g ∷ gs) x = gives g x || one_gives gs x

-- the refusals that each call can give, in its order
unfoldable pub read_gives : List Gives
read_gives = alone 1 ∷ alone 3 ∷ alone 4 ∷ damage ∷ alone 6 ∷ alone 7 ∷ alone 14 ∷ alone 2 ∷ []

unfoldable pub write_gives : List Gives
write_gives = alone 1 ∷ alone 8 ∷ alone 9 ∷ alone 10 ∷ alone 11 ∷ alone 12 ∷ []

unfoldable pub edit_gives : List Gives
edit_gives = alone 1 ∷ alone 3 ∷ alone 4 ∷ damage ∷ alone 6 ∷ alone 7 ∷ alone 13 ∷ alone 2 ∷ alone 9 ∷ alone 10 ∷ alone 11 ∷ alone 12 ∷ []

-- the steps refuse with these, each with its own
pub data Each : List Gives → List Step → Type 0 where
  none : Each [] []
  next : {g : Gives} {s : Step} {gs : List Gives} {ss : List Step} → ((x : Refusal) → s ≡ refused x → gives g x ≡ true) → Each gs ss → Each (g ∷ gs) (s ∷ ss)

-- the refusal of an answer, number 0 for none
abbrev pub refusal_of : {A : Type 0} → Answer A → Refusal
refusal_of (got a) = plain 0
refusal_of (refused x) = x

-- its number, and its place behind a pointer: without one, what stood there
abbrev pub refusal_number : Refusal → ℕ
refusal_number (plain k) = k
refusal_number (placed k p) = k

abbrev pub refusal_place : Refusal → ℕ → ℕ
refusal_place (plain k) before = before
refusal_place (placed k p) before = p

-- for a C host: 0 when the work is done, else the number of the refusal
abbrev pub number_of : {A : Type 0} → Answer A → ℕ
number_of (got a) = 0
number_of (refused x) = refusal_number x

-- the place of damage, at any other answer what stood there
abbrev pub place_of : {A : Type 0} → Answer A → ℕ → ℕ
place_of (got a) before = before
place_of (refused x) before = refusal_place x before

-- and a result behind a pointer: the value, or at a refusal what stood there
abbrev pub result_of : {A : Type 0} → (A → ℕ) → Answer A → ℕ → ℕ
result_of f (got a) before = f a
result_of f (refused x) before = before

-- ---- the contracts

-- reading tag t into the lent sheet buffer answered r and left `sheet` in the buffer
pub record Reads (t buffer : List ℕ) (r : Result ℕ code.Refusal) (sheet : List ℕ) : Type 0 where
  pub answered : told r ≡ (reading page_size t buffer).answer
  pub left : sheet ≡ (reading page_size t buffer).sheet

-- writing sheet s onto tag t answered r and left `tag` there
pub record Writes (s t locks : List ℕ) (r : Result ℕ Reason) (tag : List ℕ) : Type 0 where
  pub answered : given r ≡ (writing page_size s t locks).answer
  pub left : tag ≡ (writing page_size s t locks).tag

-- editing element n of tag t answered r, left `tag` there and `old` in the old-element buffer
pub record Edits (t locks : List ℕ) (n : ℕ) (s buffer : List ℕ) (r : Result Edited code.Refusal) (tag old : List ℕ) : Type 0 where
  pub answered : told r ≡ (editing page_size t locks n s buffer).answer
  pub left : tag ≡ (editing page_size t locks n s buffer).tag
  pub handed : old ≡ (editing page_size t locks n s buffer).old

-- ---- and those of the exported calls: `r` is the number returned, the last arguments the results before and after

pub record ReadsC (t buffer : List ℕ) (used place r : ℕ) (sheet : List ℕ) (used' place' : ℕ) : Type 0 where
  pub answered : r ≡ number_of (reading page_size t buffer).answer
  pub left : sheet ≡ (reading page_size t buffer).sheet
  pub result : used' ≡ result_of (λ n. n) (reading page_size t buffer).answer used
  pub at_place : place' ≡ place_of (reading page_size t buffer).answer place

pub record WritesC (s t locks : List ℕ) (pages r : ℕ) (tag : List ℕ) (pages' : ℕ) : Type 0 where
  pub answered : r ≡ number_of (writing page_size s t locks).answer
  pub left : tag ≡ (writing page_size s t locks).tag
  pub result : pages' ≡ result_of (λ n. n) (writing page_size s t locks).answer pages

pub record EditsC (t locks : List ℕ) (n : ℕ) (s buffer : List ℕ) (pages used place r : ℕ) (tag old : List ℕ) (pages' used' place' : ℕ) : Type 0 where
  pub answered : r ≡ number_of (editing page_size t locks n s buffer).answer
  pub left : tag ≡ (editing page_size t locks n s buffer).tag
  pub handed : old ≡ (editing page_size t locks n s buffer).old
  pub result : pages' ≡ result_of (λ e. e.pages) (editing page_size t locks n s buffer).answer pages
  pub old-length : used' ≡ result_of (λ e. e.old) (editing page_size t locks n s buffer).answer used
  pub at_place : place' ≡ place_of (editing page_size t locks n s buffer).answer place
