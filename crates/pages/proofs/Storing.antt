-- Laws of storing page by page, over the page size p: what stands on the tag after each page, and how many differed.
use mathlib.Core.Path.{◌≡◌, refl, sym, ap, ap₂, ◌∙◌}
use Prim.Native.Nat.{ℕ, ◌+◌, ◌*◌, ◌≤◌}
use native.Mathlib.Nat.{zero-mul, suc-mul}
use native.Mathlib.Numerals.{add-one}
use native.Mathlib.Omega.{arith}
use mathlib.Core.Bool.{true, false, not}
use mathlib.Core.List.{List, ◌++◌, append_assoc}
use lib.ListN.{length, take, drop, length-append, length-take, length-drop, take-append-drop}
use lib.Seq.{take_at, drop_at, take-add, drop-drop, length-take-le}
use Rattle.format.specs.Bytes.{same, part}
use Rattle.format.specs.Pages.{differs, count}
use Rattle.format.proofs.Tests.{not_f, same-eq}
use Rattle.pages.specs.Storing.{shared_pages, count_stored, tag_stored, with_page}
use Rattle.pages.proofs.Counting.{count-passed, count-failed}

-- ---- one page

pub next-page : (p i : ℕ) → (i + 1) * p ≡ i * p + p
next-page p i = rw (add-one, suc-mul)

-- where the page does not differ, the tag has it already
pub page-there : (p : ℕ) (image t : List ℕ) (i : ℕ) → differs p t image i ≡ false → t ≡ with_page p image t i
unfolding differs
page-there p image t i e =
    let own : part (i * p) p t ≡ part (i * p) p image = same-eq _ _ (not_f (same (part (i * p) p t) (part (i * p) p image)) e) in
    sym (ap (λ (l : List ℕ). take (i * p) t ++ (l ++ drop p (drop (i * p) t))) (sym own)
    ∙ ap (λ (l : List ℕ). take (i * p) t ++ l) (take-append-drop p (drop (i * p) t)) ∙ take-append-drop (i * p) t)

-- ---- the pages in turn

-- The image's first i pages stand on the tag t₀, which thereby is t, and n of them differed.
pub record FirstPages (p : ℕ) (image t₀ t : List ℕ) (n i : ℕ) : Type 0 where
  pub held : i * p ≤ length image
  pub within : i * p ≤ length t₀
  pub long : length t ≡ length t₀
  pub stored : t ≡ take (i * p) image ++ drop (i * p) t₀
  pub counted : n ≡ count (differs p t₀ image) i

pub no-pages : (p : ℕ) (image t : List ℕ) → FirstPages p image t t 0 0
unfolding count
no-pages p image t = record { held = rw zero-mul (omega arith); within = rw zero-mul (omega arith); long = refl; stored = rw zero-mul; counted = refl }

module _ (p : ℕ) (image t₀ t : List ℕ) (n i : ℕ) (so_far : FirstPages p image t₀ t n i) where
  front : take (i * p) t ≡ take (i * p) image
  front = ap (take (i * p)) so_far.stored ∙ take_at (take (i * p) image) (drop (i * p) t₀) (i * p) (length-take-le (i * p) image so_far.held)

  back : drop (i * p) t ≡ drop (i * p) t₀
  back = ap (drop (i * p)) so_far.stored ∙ drop_at (take (i * p) image) (drop (i * p) t₀) (i * p) (length-take-le (i * p) image so_far.held)

  -- the page to come is still as it was at first
  pub to-come : differs p t image i ≡ differs p t₀ image i
  unfolding differs
  to-come = ap (λ (l : List ℕ). not (same (take p l) (part (i * p) p image))) back

  with-page : with_page p image t i ≡ take ((i + 1) * p) image ++ drop ((i + 1) * p) t₀
  with-page =
      ap₂ (λ (a b : List ℕ). a ++ (part (i * p) p image ++ drop p b)) front back
      ∙ sym (append_assoc (take (i * p) image) (part (i * p) p image) (drop p (drop (i * p) t₀)))
      ∙ ap₂ (λ (a b : List ℕ). a ++ b) (sym (take-add (i * p) p image)) (drop-drop p (i * p) t₀)
      ∙ ap (λ (m : ℕ). take m image ++ drop m t₀) (sym (next-page p i))

  module _ (more : (i + 1) * p ≤ length image) (room : (i + 1) * p ≤ length t₀) where
    joined_length : length (take ((i + 1) * p) image ++ drop ((i + 1) * p) t₀) ≡ length t₀
    joined_length = simp (length-append, length-take, length-drop) (omega arith)

    -- a page that differs is stored, and counted
    pub one-stored : (t' : List ℕ) → differs p t image i ≡ true → t' ≡ with_page p image t i → FirstPages p image t₀ t' (n + 1) (i + 1)
    one-stored t' d e =
        record {
          held = more;
          within = room;
          long = ap length (e ∙ with-page) ∙ joined_length;
          stored = e ∙ with-page;
          counted = ap (λ (k : ℕ). k + 1) so_far.counted ∙ sym (count-passed (differs p t₀ image) i (sym to-come ∙ d));
        }

    -- one that does not stands there already
    pub one-there : differs p t image i ≡ false → FirstPages p image t₀ t n (i + 1)
    one-there d =
        record {
          held = more;
          within = room;
          long = so_far.long;
          stored = page-there p image t i d ∙ with-page;
          counted = so_far.counted ∙ sym (count-failed (differs p t₀ image) i (sym to-come ∙ d));
        }

  -- with the pages stored that both have, storing is done
  pub all-stored : i ≡ shared_pages p image t₀ → (n ≡ count_stored p image t₀) × (t ≡ tag_stored p image t₀)
  unfolding count_stored tag_stored
  all-stored e = (so_far.counted ∙ ap (count (differs p t₀ image)) e, so_far.stored ∙ ap (λ (k : ℕ). take (k * p) image ++ drop (k * p) t₀) e)
