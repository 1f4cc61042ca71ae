-- The library's words for lists beside the paper's: what an iterator's method answers is what the definitions say.
use mathlib.Core.Path.{◌≡◌, refl, sym, ap, ◌∙◌}
use Prim.Native.Nat.{ℕ}
use mathlib.Core.Bool.{Bool, ◌&&◌}
use mathlib.Core.List.{List, [], ◌∷◌}
use Rattle.std.specs.List.{fold, list_all}
use Rattle.std.specs.Int.Bits.{bit_xor}
use lib.Bits.{xor_zero_r, xor_zero_l}
use Rattle.format.specs.Bytes.{all, xor_all}
use Rattle.format.proofs.Xor.{xor_assoc}

pub list_all-all : (f : ℕ → Bool) (xs : List ℕ) → list_all f xs ≡ all f xs
unfolding all
list_all-all f [] = refl
list_all-all f (x ∷ xs) = ap (λ b. f x && b) (list_all-all f xs)

xor-on : (a : ℕ) (xs : List ℕ) → fold bit_xor a xs ≡ bit_xor a (xor_all xs)
unfolding xor_all
xor-on a [] = sym (xor_zero_r a)
xor-on a (x ∷ xs) = xor-on (bit_xor a x) xs ∙ xor_assoc a x (xor_all xs)

pub fold-xor : (xs : List ℕ) → fold bit_xor 0 xs ≡ xor_all xs
fold-xor xs = xor-on 0 xs ∙ xor_zero_l (xor_all xs)
