-- Laws of counts, and of the locked pages that would get other bytes, over the page size p.
use Rattle.std.specs.Prelude.{if◌then◌else◌}
use mathlib.Core.Path.{◌≡◌, refl, sym, ap}
use Prim.Native.Nat.{ℕ, zero, suc, ◌+◌, ◌/◌, ◌≤◌, ◌<◌, min}
use native.Mathlib.Numerals.{add-one}
use native.Mathlib.Omega.{arith}
use mathlib.Core.Bool.{Bool, true, false, not}
use mathlib.Core.List.{List, [], ◌∷◌}
use lib.Dec.{eqb, ltb}
use lib.ListN.{length, get_or-eq_default}
use borrow.Author.Tests.{eq-eqb, ne_eqb, ltb-true, ltb-false}
use Rattle.format.specs.Bytes.{all}
use Rattle.format.specs.Pages.{locked, differs, locked_differs, count, locked_changed}
use Rattle.format.proofs.Tests.{never, and_l, and_r, and_i, and_left, not_t, not_f}
use Rattle.format.proofs.Paging.{count-zero, zero-count}
use Rattle.pages.specs.Storing.{is_open}

-- the next number passes the test, or fails it
pub count-passed : (f : ℕ → Bool) (i : ℕ) → f i ≡ true → count f (i + 1) ≡ count f i + 1
unfolding count
count-passed f i e = rw (add-one i, e, add-one)

pub count-failed : (f : ℕ → Bool) (i : ℕ) → f i ≡ false → count f (i + 1) ≡ count f i
unfolding count
count-failed f i e = rw (add-one, e)

pub count-at-most : (f : ℕ → Bool) (n : ℕ) → count f n ≤ n
unfolding count
count-at-most f zero = omega arith
count-at-most f (suc n) = go (f n) (count-at-most f n)
  where
    go : (t : Bool) → count f n ≤ n → (if t then suc (count f n) else count f n) ≤ suc n
    go true h = omega arith
    go false h = omega arith

-- one that passes makes a count more than 0
pub counted-one : (f : ℕ → Bool) (n i : ℕ) → i < n → f i ≡ true → eqb (count f n) 0 ≡ false
counted-one f n i h e = ne_eqb (count f n) 0 (λ z. never (cc (count-zero f n z i h)))

-- ---- the pages that are locked

-- pages that the lock map does not reach are open
pub open-beyond : (locks : List ℕ) (i : ℕ) → length locks ≤ i → locked locks i ≡ false
open-beyond locks i h = rw (get_or-eq_default locks 0 h)

open_at : (locks : List ℕ) (i : ℕ) → all is_open locks ≡ true → not (locked locks i) ≡ true
unfolding all
open_at [] i e = refl
open_at (x ∷ locks) zero e = and_l (is_open x) (all is_open locks) e
open_at (x ∷ locks) (suc i) e = open_at locks i (and_r (is_open x) (all is_open locks) e)

module _ (p : ℕ) (locks t image : List ℕ) where
  pub one-locked : (i : ℕ) → i < length t / p → locked locks i ≡ true → differs p t image i ≡ true → true ≡ not (eqb (locked_changed p locks t image) 0)
  unfolding locked_changed locked_differs
  one-locked i h l d = sym (ap not (counted-one (locked_differs p locks t image) (length t / p) i h (and_i l d)))

  -- none up to page i, and none locked from there
  pub none-locked : (i : ℕ) → ((j : ℕ) → j < i → locked_differs p locks t image j ≡ false) → ((j : ℕ) → i ≤ j → j < length t / p → locked locks j ≡ false)
      → false ≡ not (eqb (locked_changed p locks t image) 0)
  unfolding locked_changed locked_differs
  none-locked i below beyond = sym (ap not (eq-eqb _ 0 (zero-count (locked_differs p locks t image) (length t / p) (λ j h. each j (ltb j i) refl h))))
    where
      each : (j : ℕ) (b : Bool) → ltb j i ≡ b → j < length t / p → locked_differs p locks t image j ≡ false
      each j true e h = below j (ltb-true j i e)
      each j false e h = and_left _ _ (beyond j (ltb-false j i e) h)

  -- none of those that both have, as far as page i
  pub none_locked : (i : ℕ) → min (length t / p) (length locks) ≤ i → ((j : ℕ) → j < i → locked_differs p locks t image j ≡ false)
      → false ≡ not (eqb (locked_changed p locks t image) 0)
  none_locked i all below = none-locked i below (λ j h k. open-beyond locks j (omega arith))

  -- where every lock byte is open, no locked page gets other bytes
  pub all_open : all is_open locks ≡ true → eqb (locked_changed p locks t image) 0 ≡ true
  unfolding locked_differs
  all_open e = not_f _ (sym (none_locked (min (length t / p) (length locks)) (omega arith) (λ j h. and_left _ _ (not_t _ (open_at locks j e)))))
