-- More than 2,048 bytes are refused 1, whatever they are. So the front of 2,049 bytes, which `taglist` reads, is printed as the whole input.
use mathlib.Core.Path.{◌≡◌, refl, sym, ap, ◌∙◌}
use Prim.Native.Nat.{ℕ, ◌≤◌, ◌<◌}
use native.Mathlib.Omega.{arith}
use mathlib.Core.Bool.{Bool, true, false}
use mathlib.Core.List.{List}
use lib.ListN.{length, take}
use lib.Dec.{leb}
use lib.Seq.{take_all, length-take-le}
use borrow.Author.Tests.{leb-true, leb-false}
use Rattle.format.specs.Answers.{plain}
use Rattle.format.specs.Pages.{page_size, good_size}
use Rattle.format.specs.Calls.{read_steps}
use Rattle.format.proofs.Answers.{need-no, first-no}
use Rattle.format.proofs.Layouts.{size-most}
use Rattle.listing.specs.Listing.{counted, refused_word, listed, listing}

bad-size : (n : ℕ) → 2048 < n → good_size page_size n ≡ false
bad-size n h = go (good_size page_size n) refl
  where
    go : (b : Bool) → good_size page_size n ≡ b → good_size page_size n ≡ false
    go true e = let m : n ≤ 2048 = size-most page_size n e in absurd (omega arith)
    go false e = e

pub too_long : (t : List ℕ) → 2048 < length t → listing t ≡ counted refused_word 1
unfolding listing read_steps listed
too_long t h = ap (listed t) (first-no _ _ tt (plain 1) (need-no 1 (good_size page_size (length t)) (bad-size (length t) h)))

pub front-is-enough : (t : List ℕ) → listing (take 2049 t) ≡ listing t
front-is-enough t = go (leb (length t) 2049) refl
  where
    go : (b : Bool) → leb (length t) 2049 ≡ b → listing (take 2049 t) ≡ listing t
    go true e = ap listing (take_all 2049 t (leb-true (length t) 2049 e))
    go false e =
        let h : 2049 < length t = leb-false (length t) 2049 e in
        let n : length (take 2049 t) ≡ 2049 = length-take-le 2049 t (omega arith) in
        too_long (take 2049 t) (omega arith) ∙ sym (too_long t (omega arith))
