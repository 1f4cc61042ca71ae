-- How the bytes of a text are taken, one after the other.
use mathlib.Core.Path.{◌≡◌, refl, sym, ap, ◌∙◌}
use mathlib.Core.Logic.{⊎_elim}
use Prim.Native.Nat.{ℕ, suc, ◌≤◌, ◌<◌}
use native.Mathlib.Omega.{arith}
use mathlib.Core.Bool.{Bool, true, false, ◌&&◌}
use mathlib.Core.List.{List, [], ◌∷◌}
use borrow.Author.Tests.{le-leb, lt-leb}
use lib.ListN.{length, drop, get_or, drop_of_length-le, get_or-eq_default}
use lib.Seq.{drop-cons}
use Rattle.std.specs.Bool.{then_some}
use Rattle.format.specs.Text.{Range, inside, tail, rows, nothing, after, rows_from}
use Rattle.format.proofs.Tests.{never, le-or-lt}
use Rattle.format.proofs.Text.{nothing-follows}
use Rattle.text.specs.Letters.{Stands, Letter, behind, Second}

-- ---- the first byte

-- b leads a row
pub stands-led : {s : List ℕ} {b : ℕ} {due : List Range} → 0 < length s → b ≡ get_or s 0 0 → after b rows ≡ due → Stands s due 1
unfolding rows_from
stands-led {s} {b} {due} h at e =
    let w : after (get_or s 0 0) rows ≡ due = rw (← at) e in
    record {
      within = omega arith;
      rest = ap (rows_from []) (drop-cons s 0 0 h) ∙ ap (λ (d : List Range). rows_from d (drop 1 s)) w;
    }

-- or none
pub none-led : (s : List ℕ) {b : ℕ} → 0 < length s → b ≡ get_or s 0 0 → after b rows ≡ nothing → rows_from [] s ≡ false
none-led s h at e = (stands-led h at e).rest ∙ nothing-follows (drop 1 s)

-- ---- the others

-- r is due at n, and b stands there, or is 00 past the end; t says whether r has b
module _ (s : List ℕ) {r : Range} {due : List Range} {b : ℕ} {t : Bool} (n : ℕ) (p : Stands s (r ∷ due) n) (z : inside r 0 ≡ false) (at : b ≡ get_or s n 0) (is : t ≡ inside r b) where
  judged : rows_from [] s ≡ t && rows_from due (drop (suc n) s)
  unfolding rows_from
  judged =
      p.rest
      ∙ ⊎_elim (λ h. ap (rows_from (r ∷ due)) (drop_of_length-le s h) ∙ sym (rw (is, at ∙ get_or-eq_default s 0 h, z)))
      (λ h. ap (rows_from (r ∷ due)) (drop-cons s n 0 h) ∙ rw (is, at))
      (le-or-lt n (length s))

  pub stands_on : t ≡ true → Stands s due (suc n)
  stands_on e =
      record {
        within = ⊎_elim (λ h. never (cc (get_or-eq_default s 0 h))) (λ h. omega arith) (le-or-lt n (length s));
        rest = judged ∙ rw e;
      }

  pub stands-not : t ≡ false → rows_from [] s ≡ false
  stands-not e = judged ∙ rw e

-- b is the last of the letter
pub letter-last : (s : List ℕ) {r : Range} {b : ℕ} (n : ℕ) → Stands s (r ∷ []) n → inside r 0 ≡ false → b ≡ get_or s n 0 → (t : Bool) → t ≡ inside r b
    → Letter s (then_some t (suc n))
letter-last s n p z at true is = (omega arith, stands_on s n p z at is refl)
letter-last s n p z at false is = stands-not s n p z at is refl

-- the second byte, by the row of the first
module _ {lead b : ℕ} {range : Range} {r : Bool} where
  pub second-three : lead ≤ 0xEF → after lead rows ≡ range ∷ tail ∷ [] → inside range 0 ≡ false → r ≡ inside range b → Second lead (behind lead) b r
  second-three l row z is = rw (le-leb lead 0xEF l) (record { range = range; row = row; zero-not = z; is = is })

  pub second-four : 0xEF < lead → after lead rows ≡ range ∷ tail ∷ tail ∷ [] → inside range 0 ≡ false → r ≡ inside range b → Second lead (behind lead) b r
  second-four l row z is = rw (lt-leb lead 0xEF l) (record { range = range; row = row; zero-not = z; is = is })
