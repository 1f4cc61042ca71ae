-- Each call refuses with what its list says, in that order.
use mathlib.Core.Path.{◌≡◌, refl, sym, ap, ◌∙◌}
use mathlib.Core.Logic.{inl, inr}
use Prim.Native.Nat.{ℕ}
use mathlib.Core.Bool.{Bool, true, false, not, ◌&&◌}
use mathlib.Core.List.{List, [], ◌∷◌}
use lib.Dec.{eqb}
use lib.ListN.{length}
use borrow.Author.Tests.{eq-eqb, eqb-true}
use Rattle.format.specs.Answers.{Answer, Refusal, plain, placed, got, refused, Step, need, in_order, passed}
use Rattle.format.specs.Pages.{good_size, lock_map}
use Rattle.format.specs.Reading.{walked, tag_steps}
use Rattle.format.specs.Damage.{Damaged, Spoilt}
use Rattle.format.specs.Calls.{read_steps, laying_steps, write_steps, edit_steps}
use Rattle.format.specs.Bytes.{one_of}
use Rattle.format.specs.Numbers.{damage_numbers, Gives, alone, damage, gives, one_gives, read_gives, write_gives, edit_gives, Each, none, next, number_of, place_of}
use Rattle.format.proofs.Tests.{never, and_l, and_r, or_l, or_r, or-inv, not_t}
use Rattle.format.proofs.Answers.{worked, need-refused, passed-refused}
use Rattle.format.proofs.Damages.{no_zero, refused-damage, damage-number, place-past, on-spoilt}

-- ---- in order

alone-gives : (n : ℕ) → gives (alone n) (plain n) ≡ true
unfolding gives
alone-gives n = eq-eqb n n refl

damage-gives : (k p : ℕ) → one_of damage_numbers k ≡ true → gives damage (placed k p) ≡ true
unfolding gives
damage-gives k p e = e

pub test : {gs : List Gives} {ss : List Step} (n : ℕ) (b : Bool) → Each gs ss → Each (alone n ∷ gs) (need n b ∷ ss)
test n b r = next (λ x e. ap (gives (alone n)) (need-refused n b x e).1 ∙ alone-gives n) r

walk_step : {gs : List Gives} {ss : List Step} (t : List ℕ) → Each gs ss → Each (damage ∷ gs) (passed (walked t) ∷ ss)
walk_step t r =
    next (λ x e.
    let d = refused-damage t x (passed-refused (walked t) x e) in
    ap (gives damage) d.2 ∙ damage-gives d.0 d.1 (damage-number t d.0 d.1 d.3)) r

-- Reading: 1, 3, 4, 15 to 19, 6, 7, 14, 2
pub read-order : (p room : ℕ) (t : List ℕ) → Each read_gives (read_steps p room t)
unfolding read_gives read_steps tag_steps
read-order p room t = test 1 _ (test 3 _ (test 4 _ (walk_step t (test 6 _ (test 7 _ (test 14 _ (test 2 _ none)))))))

-- Writing: 1, 8, 9, 10, 11, 12
pub write-order : (p : ℕ) (s t locks : List ℕ) → Each write_gives (write_steps p s t locks)
unfolding write_gives write_steps laying_steps
write-order p s t locks = test 1 _ (test 8 _ (test 9 _ (test 10 _ (test 11 _ (test 12 _ none)))))

-- Editing: 1, 3, 4, 15 to 19, 6, 7, 13, 2, 9, 10, 11, 12
pub edit-order : (p room : ℕ) (t locks : List ℕ) (n : ℕ) (s : List ℕ) → Each edit_gives (edit_steps p room t locks n s)
unfolding edit_gives edit_steps tag_steps laying_steps
edit-order p room t locks n s = test 1 _ (test 3 _ (test 4 _ (walk_step t (test 6 _ (test 7 _ (test 13 _ (test 2 _ (test 9 _ (test 10 _ (test 11 _ (test 12 _ none)))))))))))

-- a refusal is one of the list
pub listed : {A : Type 0} (gs : List Gives) (ss : List Step) (a : A) (x : Refusal) → Each gs ss → in_order ss a ≡ refused x → one_gives gs x ≡ true
unfolding in_order one_gives
listed _ _ a x none e = never (cc)
listed (g ∷ gs) (got u ∷ ss) a x (next f r) e = or_r (gives g x) (one_gives gs x) (listed gs ss a x r e)
listed (g ∷ gs) (refused y ∷ ss) a x (next f r) e = let k : y ≡ x = cc in or_l (gives g x) (one_gives gs x) (f x (ap refused k))

-- no damage has the number 0
no-zero-damage : (gs : List Gives) (p : ℕ) → one_gives gs (placed 0 p) ≡ false
unfolding one_gives gives one_of damage_numbers
no-zero-damage [] p = refl
no-zero-damage (alone n ∷ gs) p = no-zero-damage gs p
no-zero-damage (damage ∷ gs) p = no-zero-damage gs p

-- so where 0 is not in the list, a number 0 says that the work is done
pub zero-done : {A : Type 0} (gs : List Gives) (ss : List Step) (a : A) → Each gs ss → one_gives gs (plain 0) ≡ false → number_of (in_order ss a) ≡ 0 → in_order ss a ≡ got a
zero-done {A} gs ss a r z e = go (in_order ss a) refl e
  where
    go : (m : Answer A) → in_order ss a ≡ m → number_of m ≡ 0 → m ≡ got a
    go (got b) h n = ap got (sym (worked ss a b h).1)
    go (refused (plain k)) h n = never (cc (listed gs ss a (plain k) r h, n, z))
    go (refused (placed k p)) h n = never (cc (listed gs ss a (placed k p) r h, n, no-zero-damage gs p))

-- ---- a place

-- a list without damage
unplaced : List Gives → Bool
unplaced [] = true
unplaced (alone n ∷ gs) = unplaced gs
unplaced (damage ∷ gs) = false

unplaced-gives : (gs : List Gives) (k p : ℕ) → unplaced gs ≡ true → one_gives gs (placed k p) ≡ false
unfolding unplaced one_gives gives
unplaced-gives [] k p u = refl
unplaced-gives (alone n ∷ gs) k p u = unplaced-gives gs k p u
unplaced-gives (damage ∷ gs) k p u = never (cc)

-- gives no place
no_place : {A : Type 0} (gs : List Gives) (ss : List Step) (a : A) (k p : ℕ) → unplaced gs ≡ true → Each gs ss → in_order ss a ≡ refused (placed k p) → ⊥
no_place gs ss a k p u r e = never (cc (listed gs ss a (placed k p) r e, unplaced-gives gs k p u))

pub read-spoilt : {A : Type 0} (p room : ℕ) (t : List ℕ) (a : A) (k at : ℕ) → in_order (read_steps p room t) a ≡ refused (placed k at)
    → (good_size p (length t) ≡ true) × Spoilt t k at
unfolding read_steps unplaced
read-spoilt p room t a k at e =
    let h = place-past _ _ _ a k at e in
    (h.0, on-spoilt t _ a k at (no_place (alone 14 ∷ alone 2 ∷ []) _ a k at refl (test 14 _ (test 2 _ none))) h.1)

pub edit-spoilt : {A : Type 0} (p room : ℕ) (t locks : List ℕ) (n : ℕ) (s : List ℕ) (a : A) (k at : ℕ) → in_order (edit_steps p room t locks n s) a ≡ refused (placed k at)
    → (good_size p (length t) && lock_map p locks (length t) ≡ true) × Spoilt t k at
unfolding edit_steps laying_steps unplaced
edit-spoilt p room t locks n s a k at e =
    let h = place-past _ _ _ a k at e in (
      h.0,
      on-spoilt t _ a k at
          (no_place (alone 13 ∷ alone 2 ∷ alone 9 ∷ alone 10 ∷ alone 11 ∷ alone 12 ∷ []) _ a k at refl (test 13 _ (test 2 _ (test 9 _ (test 10 _ (test 11 _ (test 12 _ none)))))))
          h.1,
    )

-- ---- what a C host finds

-- a list with no number of damage alone
pub apart : List Gives → Bool
apart [] = true
apart (alone n ∷ gs) = not (one_of damage_numbers n) && apart gs
apart (damage ∷ gs) = apart gs

pub reads-apart : apart read_gives ≡ true
unfolding apart one_of damage_numbers read_gives
reads-apart = refl

pub edits-apart : apart edit_gives ≡ true
unfolding apart one_of damage_numbers edit_gives
edits-apart = refl

apart-plain : (gs : List Gives) (k : ℕ) → apart gs ≡ true → one_gives gs (plain k) ≡ true → one_of damage_numbers k ≡ false
unfolding apart one_gives gives
apart-plain [] k u e = never (cc)
apart-plain (alone n ∷ gs) k u e = elim (or-inv (eqb k n) (one_gives gs (plain k)) e) [
  | inl h ↦ ap (one_of damage_numbers) (eqb-true k n h) ∙ not_t (one_of damage_numbers n) (and_l (not (one_of damage_numbers n)) (apart gs) u)
  | inr h ↦ apart-plain gs k (and_r (not (one_of damage_numbers n)) (apart gs) u) h
]
apart-plain (damage ∷ gs) k u e = apart-plain gs k u e

-- the place where the number is one of damage, and else what stood there
pub place-told : {A : Type 0} (t : List ℕ) (gs : List Gives) (m : Answer A) (r place place' : ℕ) → apart gs ≡ true → ((x : Refusal) → m ≡ refused x → one_gives gs x ≡ true)
    → ((k at : ℕ) → m ≡ refused (placed k at) → Damaged t k at) → r ≡ number_of m → place' ≡ place_of m place
    → (one_of damage_numbers r ≡ true → Damaged t r place') × (one_of damage_numbers r ≡ false → place' ≡ place)
place-told t gs (got a) r place place' u l d n e = (λ h. never (cc (ap (one_of damage_numbers) n, no_zero)), λ h. e)
place-told t gs (refused (plain k)) r place place' u l d n e =
    (λ h. never (cc (ap (one_of damage_numbers) n, apart-plain gs k u (l (plain k) refl))), λ h. e)
place-told t gs (refused (placed k at)) r place place' u l d n e =
    (λ h. rw (n, e) (d k at refl), λ h. never (cc (ap (one_of damage_numbers) n, damage-number t k at (d k at refl))))
