-- The table of values, marked from the alphabet. `Marking` is what the loop keeps.
use mathlib.Core.Path.{◌≡◌, refl, sym, ap, ◌∙◌}
use Prim.Native.Nat.{ℕ, ◌+◌, ◌≤◌, ◌<◌}
use native.Mathlib.Numerals.{add-one}
use mathlib.Core.Bool.{Bool, true}
use mathlib.Core.List.{List}
use lib.ListN.{length, drop, get_or, set, replicate, drop_of_length-le}
use lib.Dec.{eqb}
use borrow.Author.Tests.{eqb-true}
use Rattle.format.proofs.Strings.{rest-opened}
use Rattle.words.specs.Code40.{value_of}
use Rattle.words.proofs.Alphabet.{characters}
use Rattle.words.proofs.Values.{below, below_at}
use Rattle.encoding.specs.Walk.{marked, Table}

-- the characters before i are marked, so marking the others comes to marking all
pub record Marking (alphabet before : List ℕ) (i : ℕ) (values : List ℕ) : Type 0 where
  pub rest : marked (i + 1) (drop i alphabet) values ≡ marked 1 alphabet before

pub marking-starts : (alphabet before : List ℕ) → Marking alphabet before 0 before
marking-starts alphabet before = record { rest = refl }

pub marking-on : {alphabet before : List ℕ} {i : ℕ} {values : List ℕ} → Marking alphabet before i values → i < length alphabet
    → Marking alphabet before (i + 1) (set values (get_or alphabet i 0) (i + 1))
unfolding marked
marking-on {alphabet} {before} {i} {values} m h =
    record { rest = rw (add-one (i + 1)) (sym (ap (λ (s : List ℕ). marked (i + 1) s values) (rest-opened alphabet i h)) ∙ m.rest) }

pub marking-ends : {alphabet before : List ℕ} {i : ℕ} {values : List ℕ} → Marking alphabet before i values → length alphabet ≤ i
    → values ≡ marked 1 alphabet before
unfolding marked
marking-ends {alphabet} {before} {i} {values} m h = sym (ap (λ (s : List ℕ). marked (i + 1) s values) (drop_of_length-le alphabet h)) ∙ m.rest

-- ---- the table that comes of the alphabet

-- a table in which nothing is marked
unfoldable pub unmarked : List ℕ
unmarked = replicate 128 0

-- at c stands the value of c
unfoldable right_place : List ℕ → ℕ → Bool
right_place values c = eqb (get_or values c 0) (value_of c)

right-places : below (right_place (marked 1 characters unmarked)) 0x80 ≡ true
unfolding below right_place marked characters unmarked value_of
right-places = refl

pub marked-table : (values : List ℕ) → values ≡ marked 1 characters unmarked → Table values
unfolding right_place
marked-table values e =
    let right = below_at (right_place (marked 1 characters unmarked)) 0x80 right-places in
    record { at-character = λ c h. ap (λ (t : List ℕ). get_or t c 0) e ∙ eqb-true _ (value_of c) (right c h) }
