-- Laws for callers: a good size is whole pages; and what judging the locks and storing come to where the image is as long as the tag.
-- Over the page size p.
use mathlib.Core.Path.{◌≡◌, ap, ap₂, ◌∙◌}
use mathlib.Core.Logic.{⊎_elim}
use Prim.Native.Nat.{ℕ, ◌*◌, ◌/◌, ◌%◌, ◌≤◌}
use native.Mathlib.Nat.{div-add-mod'}
use native.Mathlib.Omega.{arith}
use mathlib.Core.Bool.{true, ◌&&◌}
use mathlib.Core.List.{List, ◌++◌, append-nil}
use lib.Dec.{eqb}
use lib.ListN.{length, drop_of_length-le}
use lib.Seq.{take_all}
use borrow.Author.Tests.{eq-eqb, eqb-true}
use Rattle.format.specs.Answers.{need}
use Rattle.format.specs.Bytes.{between}
use Rattle.format.specs.Pages.{good_size, differs, count, changed, locked_changed}
use Rattle.format.proofs.Tests.{and_l, or-inv}
use Rattle.format.proofs.Answers.{last_step, next-ok}
use Rattle.pages.specs.Storing.{lock_judged, shared_pages, count_stored, tag_stored}

-- a tag of good size is a whole number of pages: 32 is one
pub good-size-whole : (p n : ℕ) → 32 % p ≡ 0 → good_size p n ≡ true → n % p ≡ 0
unfolding good_size
good-size-whole p n z e =
    ⊎_elim (λ a. ap (λ (k : ℕ). k % p) (eqb-true n 32 a) ∙ z) (λ b. eqb-true (n % p) 0 (and_l (eqb (n % p) 0) (between 36 2048 n) b))
    (or-inv (eqb n 32) (eqb (n % p) 0 && between 36 2048 n) e)

module _ (p : ℕ) (image t : List ℕ) (long : length image ≡ length t) where
  -- judging the locks is the one step 12
  pub lock-step : (locks : List ℕ) → lock_judged p image t locks ≡ need 12 (eqb (locked_changed p locks t image) 0)
  unfolding lock_judged
  lock-step locks = next-ok 1 _ _ tt (eq-eqb (length image) (length t) long) ∙ last_step (need 12 (eqb (locked_changed p locks t image) 0))

  all-shared : shared_pages p image t ≡ length t / p
  unfolding shared_pages
  all-shared = rw long (omega arith)

  -- storing counts the pages that differ
  pub stored-count : count_stored p image t ≡ changed p t image
  unfolding count_stored changed
  stored-count = ap (count (differs p t image)) all-shared

  -- and leaves the image, where the tag is whole pages
  pub stored-tag : length t % p ≡ 0 → tag_stored p image t ≡ image
  unfolding tag_stored
  stored-tag z =
      let whole : shared_pages p image t * p ≡ length t = ap (λ (k : ℕ). k * p) all-shared ∙ omega (arith, div-add-mod' (length t) p) in
      let a : length image ≤ shared_pages p image t * p = omega arith in
      let b : length t ≤ shared_pages p image t * p = omega arith in
      ap₂ (λ (x y : List ℕ). x ++ y) (take_all (shared_pages p image t * p) image a) (drop_of_length-le t b) ∙ append-nil image
