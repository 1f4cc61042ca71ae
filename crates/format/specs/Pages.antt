-- Sizes and pages: document 01, "Sizes", and the count of pages changed. Everything is over the page size p.
use Rattle.std.specs.Prelude.{ℕ, zero, suc, ◌*◌, ◌/◌, ◌%◌, ◌<◌, Bool, true, not, ◌&&◌, ◌||◌, ◌≡◌, List, length, get_or, leb, eqb, if◌then◌else◌}
use Rattle.format.specs.Bytes.{all, same, between, part}

-- a page is 4 bytes
abbrev pub page_size : ℕ
page_size = 4

-- 32 bytes, or a multiple of the page size from 36 to 2,048
unfoldable pub good_size : ℕ → ℕ → Bool
good_size p n = eqb n 32 || (eqb (n % p) 0 && between 36 2048 n)

-- the lock map of a tag of n bytes has one byte for each page: 0 open, 1 locked
unfoldable pub lock_map : ℕ → List ℕ → ℕ → Bool
lock_map p locks n = eqb (length locks) (n / p) && all (λ b. leb b 1) locks

abbrev pub locked : List ℕ → ℕ → Bool
locked locks i = eqb (get_or locks i 0) 1

-- page i of the two differs
unfoldable pub differs : ℕ → List ℕ → List ℕ → ℕ → Bool
differs p a b i = not (same (part (i * p) p a) (part (i * p) p b))

-- how many of the numbers below n pass a test
unfoldable pub count : (ℕ → Bool) → ℕ → ℕ
count f zero = 0
count f (suc n) = if f n then suc (count f n) else count f n

-- the count of pages changed: those whose bytes differ before and after
unfoldable pub changed : ℕ → List ℕ → List ℕ → ℕ
changed p a b = count (differs p a b) (length a / p)

-- how many locked pages would get other bytes
unfoldable pub locked_differs : ℕ → List ℕ → List ℕ → List ℕ → ℕ → Bool
locked_differs p locks a b i = locked locks i && differs p a b i

unfoldable pub locked_changed : ℕ → List ℕ → List ℕ → List ℕ → ℕ
locked_changed p locks a b = count (locked_differs p locks a b) (length a / p)

-- how many pages are open
unfoldable pub open_pages : List ℕ → ℕ
open_pages locks = count (λ i. not (locked locks i)) (length locks)

-- no locked page has changed
unfoldable pub Kept : ℕ → List ℕ → List ℕ → List ℕ → Type 0
Kept p locks a b = (i : ℕ) → i < length a / p → locked locks i ≡ true → part (i * p) p a ≡ part (i * p) p b
