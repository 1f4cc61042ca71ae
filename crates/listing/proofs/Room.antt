-- The room for the sheet is never short and no offset too large: whatever the tag, neither `refused 2` nor `refused 14` is printed.
use mathlib.Core.Path.{◌≡◌, refl, sym, ap, ◌∙◌}
use Prim.Native.Nat.{ℕ}
use mathlib.Core.Bool.{true}
use mathlib.Core.List.{List, [], ◌∷◌}
use lib.ListN.{length}
use borrow.Author.Tests.{le-leb}
use Rattle.format.specs.Answers.{got, refused, Step, need, in_order}
use Rattle.format.specs.Bytes.{bytes}
use Rattle.format.specs.Pages.{page_size, good_size}
use Rattle.format.specs.Reading.{tag_steps, Readable}
use Rattle.format.specs.Calls.{sheet_in, read_steps}
use Rattle.format.proofs.Answers.{next-inv, next-ok, none-ok, refused-on, passed_on}
use Rattle.format.proofs.Readable.{on-readable}
use Rattle.format.proofs.Offsets.{read_short, read-fitting}
use Rattle.listing.specs.Listing.{sheet_room, listed, listing}

-- the refusals 1, 3, 4, 15 to 19, 6 and 7
abbrev pub tag_refusals : List ℕ → List Step
tag_refusals t = need 1 (good_size page_size (length t)) ∷ tag_steps t

-- what the steps come to
abbrev pub through : List Step → Step
through ss = in_order ss tt

readable : (t : List ℕ) → through (tag_refusals t) ≡ got tt → (good_size page_size (length t) ≡ true) × Readable t
unfolding tag_steps
readable t e = let h = next-inv _ _ _ tt tt e in (h.0, (on-readable t [] tt tt h.1).0)

same_answer : (t : List ℕ) → bytes t ≡ true → through (read_steps page_size sheet_room t) ≡ through (tag_refusals t)
unfolding read_steps
same_answer t y = go (through (tag_refusals t)) refl
  where
    go : (a : Step) → through (tag_refusals t) ≡ a → through (read_steps page_size sheet_room t) ≡ through (tag_refusals t)
    go (got tt) e =
        let r = readable t e in
        passed_on (tag_refusals t) _ tt tt tt e
        ∙ next-ok 14 _ _ tt (read-fitting page_size t y r.0 r.1)
        ∙ next-ok 2 _ [] tt (le-leb (length (sheet_in t)) sheet_room (read_short page_size t y r.0 r.1))
        ∙ none-ok tt
        ∙ sym e
    go (refused x) e = refused-on (tag_refusals t) _ tt tt x e ∙ sym e

pub room-enough : (t : List ℕ) → bytes t ≡ true → listing t ≡ listed t (through (tag_refusals t))
unfolding listing
room-enough t y = ap (listed t) (same_answer t y)
