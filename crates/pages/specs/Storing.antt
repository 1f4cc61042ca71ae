-- Storing an image on a tag, page by page: the last step of writing and editing. Document 01, "Numbers given back", 12 Locked, and the
-- count of pages changed. The tests and the count are `format`'s. `p` is the page size.
use Rattle.std.specs.Prelude.{ℕ, ◌+◌, ◌*◌, ◌/◌, ◌≤◌, ◌≡◌, min, Bool, true, not, ◌&&◌, List, [], ◌∷◌, ◌++◌, length, take, drop, get_or, eqb}
use Rattle.format.specs.Answers.{Step, need, in_order}
use Rattle.format.specs.Bytes.{part}
use Rattle.format.specs.Pages.{page_size, good_size, lock_map, differs, count, locked_changed}

-- 1 where the image is not as long as the tag t, 12 where a locked page would get other bytes
unfoldable pub lock_judged : ℕ → List ℕ → List ℕ → List ℕ → Step
lock_judged p image t locks =
    in_order
    (need 1 (eqb (length image) (length t)) ∷
    need 12 (eqb (locked_changed p locks t image) 0) ∷
    [])
    tt

-- a tag t that a call may write to: 1 is passed
abbrev pub Sized : List ℕ → List ℕ → Type 0
Sized t locks = good_size page_size (length t) && lock_map page_size locks (length t) ≡ true

-- how many pages both have
unfoldable pub shared_pages : ℕ → List ℕ → List ℕ → ℕ
shared_pages p image t = min (length t / p) (length image / p)

-- storing counts those of them that differ, and leaves the image's in the place of the tag's
unfoldable pub count_stored : ℕ → List ℕ → List ℕ → ℕ
count_stored p image t = count (differs p t image) (shared_pages p image t)

unfoldable pub tag_stored : ℕ → List ℕ → List ℕ → List ℕ
tag_stored p image t = let stored : ℕ = shared_pages p image t * p in take stored image ++ drop stored t

-- ---- what the contracts of private functions cite

-- both have page i
abbrev pub SharedPage : List ℕ → List ℕ → ℕ → Type 0
SharedPage image t i = (i * page_size + page_size ≤ length image) × (i * page_size + page_size ≤ length t)

-- r pages are those that both have
pub record SharedPages (image t : List ℕ) (r : ℕ) : Type 0 where
  pub pages-are : r ≡ shared_pages page_size image t
  pub in_image : r * page_size ≤ length image
  pub in-tag : r * page_size ≤ length t

-- the tag t with the image's page i in the place of its own
abbrev pub with_page : ℕ → List ℕ → List ℕ → ℕ → List ℕ
with_page p image t i = take (i * p) t ++ (part (i * p) p image ++ drop p (drop (i * p) t))

-- a byte of the lock map leaves its page open
abbrev pub is_open : ℕ → Bool
is_open b = not (eqb b 1)

-- the four bytes at `at` as one number, low byte first
abbrev pub number_at : List ℕ → ℕ → ℕ
number_at s at = get_or s at 0 + 256 * get_or s (at + 1) 0 + 65536 * get_or s (at + 2) 0 + 16777216 * get_or s (at + 3) 0
