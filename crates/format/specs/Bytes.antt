-- The few operations on strings of bytes that the rules are written with; no rule of document 01 stands here. Bytes are numbers, a
-- string of bytes is a list.
use Rattle.std.specs.Prelude.{ℕ, zero, suc, ◌+◌, ◌-◌, ◌*◌, ◌/◌, ◌%◌, Bool, true, false, ◌&&◌, ◌||◌, List, [], ◌∷◌, ◌++◌, length, take, drop, replicate, leb, eqb, if◌then◌else◌}
use Rattle.std.specs.Int.Bits.{bit_xor}

-- ---- tests

abbrev pub is_empty {ℓ} : {A : Type ℓ} → List A → Bool
is_empty [] = true
is_empty (x ∷ xs) = false

unfoldable pub all {ℓ} : {A : Type ℓ} → (A → Bool) → List A → Bool
all f [] = true
all f (x ∷ xs) = f x && all f xs

unfoldable pub same : List ℕ → List ℕ → Bool
same [] [] = true
same [] (y ∷ ys) = false
same (x ∷ xs) [] = false
same (x ∷ xs) (y ∷ ys) = eqb x y && same xs ys

-- one of the numbers of a list
unfoldable pub one_of : List ℕ → ℕ → Bool
one_of [] k = false
one_of (n ∷ ns) k = eqb k n || one_of ns k

abbrev pub between : ℕ → ℕ → ℕ → Bool
between a b n = leb a n && leb n b

-- each is a byte
abbrev pub bytes : List ℕ → Bool
bytes s = all (λ b. leb b 255) s

-- ---- numbers in two bytes, low byte first

unfoldable pub le16 : ℕ → List ℕ
le16 n = n % 256 ∷ n / 256 % 256 ∷ []

unfoldable pub word : ℕ → ℕ → ℕ
word low high = low + 256 * high

-- ---- parts

-- the part of n bytes from byte i
abbrev pub part : ℕ → ℕ → List ℕ → List ℕ
part i n s = take n (drop i s)

-- filled up to n bytes with the byte b
unfoldable pub pad_with : ℕ → ℕ → List ℕ → List ℕ
pad_with b n s = s ++ replicate (n - length s) b

-- filled up to n bytes with 00
abbrev pub pad : ℕ → List ℕ → List ℕ
pad n s = pad_with 0 n s

-- x and then r, but nothing where that would be a 00 at the end
unfoldable pub trim : ℕ → List ℕ → List ℕ
trim zero [] = []
trim zero (y ∷ ys) = zero ∷ y ∷ ys
trim (suc x) r = suc x ∷ r

-- without the 00 bytes at its end
unfoldable pub strip : List ℕ → List ℕ
strip [] = []
strip (x ∷ xs) = trim x (strip xs)

-- the bytes before the first b: all, where there is none
unfoldable pub up_to : ℕ → List ℕ → List ℕ
up_to b [] = []
up_to b (x ∷ xs) = if eqb x b then [] else x ∷ up_to b xs

-- the bytes behind the first b
unfoldable pub past : ℕ → List ℕ → List ℕ
past b [] = []
past b (x ∷ xs) = if eqb x b then xs else past b xs

unfoldable pub xor_all : List ℕ → ℕ
xor_all [] = 0
xor_all (x ∷ xs) = bit_xor x (xor_all xs)

unfoldable pub joined : List (List ℕ) → List ℕ
joined [] = []
joined (b ∷ bs) = b ++ joined bs

-- a buffer of which the front is filled with s
abbrev pub filled : List ℕ → List ℕ → List ℕ
filled s buffer = s ++ drop (length s) buffer
