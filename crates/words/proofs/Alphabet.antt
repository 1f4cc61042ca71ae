-- The 39 characters as the code lends them stand in the order of their values: a test that is computed over their places.
use mathlib.Core.Path.{◌≡◌, refl, ap, ◌∙◌}
use Prim.Native.Nat.{ℕ, ◌+◌, ◌-◌, ◌<◌}
use native.Mathlib.Omega.{arith}
use mathlib.Core.Bool.{Bool, true}
use mathlib.Core.List.{List, [], ◌∷◌}
use lib.ListN.{get_or}
use lib.Dec.{eqb}
use borrow.Author.Tests.{eqb-true}
use Rattle.format.specs.Bytes.{all}
use Rattle.words.specs.Code40.{character_of, is646}
use Rattle.words.proofs.Values.{below, below_at}

-- `ALPHABET`: a proof cannot name a constant of the code, so its numbers stand here again; where the code lends it, they have to agree
unfoldable pub characters : List ℕ
characters =
    0x41 ∷ 0x42 ∷ 0x43 ∷ 0x44 ∷ 0x45 ∷ 0x46 ∷ 0x47 ∷ 0x48 ∷ 0x49 ∷ 0x4A ∷ 0x4B ∷ 0x4C ∷ 0x4D ∷
    0x4E ∷ 0x4F ∷ 0x50 ∷ 0x51 ∷ 0x52 ∷ 0x53 ∷ 0x54 ∷ 0x55 ∷ 0x56 ∷ 0x57 ∷ 0x58 ∷ 0x59 ∷ 0x5A ∷
    0x2D ∷ 0x2E ∷ 0x3A ∷
    0x30 ∷ 0x31 ∷ 0x32 ∷ 0x33 ∷ 0x34 ∷ 0x35 ∷ 0x36 ∷ 0x37 ∷ 0x38 ∷ 0x39 ∷ []

unfoldable right_place : ℕ → Bool
right_place i = eqb (get_or characters i 0) (character_of (i + 1))

right-places : below right_place 39 ≡ true
unfolding below right_place characters character_of
right-places = refl

pub character-at : (v : ℕ) → 0 < v → v < 40 → get_or characters (v - 1) 0 ≡ character_of v
unfolding right_place
character-at v l h =
    let e : v - 1 + 1 ≡ v = omega arith in
    eqb-true (get_or characters (v - 1) 0) (character_of (v - 1 + 1)) (below_at right_place 39 right-places (v - 1) (omega arith)) ∙ ap character_of e

pub characters-low : all is646 characters ≡ true
unfolding all characters
characters-low = refl
