-- Exclusive or: it may be regrouped, and what goes in twice goes out.
use mathlib.Core.Path.{◌≡◌, refl, sym, ap, ap₂, ◌∙◌}
use Prim.Native.Nat.{ℕ, zero, suc, ◌+◌, ◌*◌, ◌/◌, ◌%◌, ◌^◌, ◌≤◌, ◌<◌}
use native.Mathlib.Nat.{add-zero, mod-lt, zero-lt-suc}
use native.Mathlib.Omega.{arith}
use native.Mathlib.Numerals.{add-one}
use mathlib.Core.List.{List, [], ◌∷◌, ◌++◌}
use lib.Arith.{bin_ind}
use lib.ListN.{length, drop, get_or, drop_of_length-le}
use lib.Seq.{drop-cons}
use lib.Bits.{bit_xor, xor_step, xor_comm, xor_self, xor_zero_r, xor_block, differ}
use lib.Pow.{pow_pos}
use Rattle.format.specs.Bytes.{xor_all}

differ-assoc : (x y z : ℕ) → x < 2 → y < 2 → z < 2 → differ (differ x y) z ≡ differ x (differ y z)
differ-assoc zero y z hx hy hz = refl
differ-assoc (suc zero) zero z hx hy hz = refl
differ-assoc (suc zero) (suc zero) zero hx hy hz = refl
differ-assoc (suc zero) (suc zero) (suc zero) hx hy hz = refl
differ-assoc (suc zero) (suc zero) (suc (suc z)) hx hy hz = absurd (omega arith)
differ-assoc (suc zero) (suc (suc y)) z hx hy hz = absurd (omega arith)
differ-assoc (suc (suc x)) y z hx hy hz = absurd (omega arith)

differ-lt : (x y : ℕ) → x < 2 → y < 2 → differ x y < 2
differ-lt zero y hx hy = hy
differ-lt (suc zero) zero hx hy = hx
differ-lt (suc zero) (suc zero) hx hy = omega arith
differ-lt (suc zero) (suc (suc y)) hx hy = absurd (omega arith)
differ-lt (suc (suc x)) y hx hy = absurd (omega arith)

xor-half : (a b : ℕ) → (bit_xor a b / 2 ≡ bit_xor (a / 2) (b / 2)) × (bit_xor a b % 2 ≡ differ (a % 2) (b % 2))
xor-half a b =
    let d = differ-lt (a % 2) (b % 2) (mod-lt a (zero-lt-suc 1)) (mod-lt b (zero-lt-suc 1)) in
    (omega (arith, xor_step a b, d), omega (arith, xor_step a b, d))

pub xor_assoc : (a b c : ℕ) → bit_xor (bit_xor a b) c ≡ bit_xor a (bit_xor b c)
xor_assoc =
    bin_ind (λ (a : ℕ). (b c : ℕ) → bit_xor (bit_xor a b) c ≡ bit_xor a (bit_xor b c)) (λ b c. refl)
    (λ a ih b c.
    xor_step (bit_xor a b) c
    ∙ ap₂ (λ (x y : ℕ). x * 2 + y)
    (ap (λ (q : ℕ). bit_xor q (c / 2)) (xor-half a b).0 ∙ ih (b / 2) (c / 2) ∙ ap (bit_xor (a / 2)) (sym (xor-half b c).0))
    (ap (λ (q : ℕ). differ q (c % 2)) (xor-half a b).1
    ∙ differ-assoc (a % 2) (b % 2) (c % 2) (mod-lt a (zero-lt-suc 1)) (mod-lt b (zero-lt-suc 1)) (mod-lt c (zero-lt-suc 1))
    ∙ ap (differ (a % 2)) (sym (xor-half b c).1))
    ∙ sym (xor_step a (bit_xor b c)))

-- (a b) (c d) as (a c) (b d)
pub xor-swap : (a b c d : ℕ) → bit_xor (bit_xor a b) (bit_xor c d) ≡ bit_xor (bit_xor a c) (bit_xor b d)
xor-swap a b c d =
    xor_assoc a b (bit_xor c d)
    ∙ ap (bit_xor a) (sym (xor_assoc b c d) ∙ ap (λ (x : ℕ). bit_xor x d) (xor_comm b c) ∙ xor_assoc c b d)
    ∙ sym (xor_assoc a c (bit_xor b d))

-- both moved up by k bits
pub xor-up : (k x y : ℕ) → bit_xor x y * 2 ^ k ≡ bit_xor (x * 2 ^ k) (y * 2 ^ k)
xor-up k x y = sym (simp add-zero at (xor_block k x y 0 0 (pow_pos k) (pow_pos k)))

-- ---- of a string

pub xor-append : (a b : List ℕ) → xor_all (a ++ b) ≡ bit_xor (xor_all a) (xor_all b)
unfolding xor_all
xor-append [] b = refl
xor-append (x ∷ a) b = ap (bit_xor x) (xor-append a b) ∙ sym (xor_assoc x (xor_all a) (xor_all b))

-- byte by byte: x is the XOR so far, r that of all
pub xor-more : (s : List ℕ) (i x r : ℕ) → i < length s → bit_xor x (xor_all (drop i s)) ≡ r → bit_xor (bit_xor x (get_or s i 0)) (xor_all (drop (i + 1) s)) ≡ r
unfolding xor_all
xor-more s i x r h e = rw add-one (xor_assoc x (get_or s i 0) _ ∙ sym (ap (λ (l : List ℕ). bit_xor x (xor_all l)) (drop-cons s i 0 h)) ∙ e)

pub xor-over : (s : List ℕ) (i x r : ℕ) → length s ≤ i → bit_xor x (xor_all (drop i s)) ≡ r → x ≡ r
unfolding xor_all
xor-over s i x r h e = sym (xor_zero_r x) ∙ sym (ap (λ (l : List ℕ). bit_xor x (xor_all l)) (drop_of_length-le s h)) ∙ e

-- a string with its own XOR put in somewhere comes to 0
pub xor-closed : (a b : List ℕ) → xor_all (a ++ (xor_all (a ++ b) ∷ b)) ≡ 0
unfolding xor_all
xor-closed a b =
    xor-append a (xor_all (a ++ b) ∷ b)
    ∙ ap (bit_xor (xor_all a)) (ap (λ (q : ℕ). bit_xor q (xor_all b)) (xor-append a b)
    ∙ xor_assoc (xor_all a) (xor_all b) (xor_all b) ∙ ap (bit_xor (xor_all a)) (xor_self (xor_all b)) ∙ xor_zero_r (xor_all a))
    ∙ xor_self (xor_all a)
