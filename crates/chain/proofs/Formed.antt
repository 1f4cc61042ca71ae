-- A block is judged rightly where the XOR of the bytes behind the first is right.
use Rattle.std.specs.Prelude.{if◌then◌else◌}
use mathlib.Core.Path.{◌≡◌, refl, sym, ap, ◌∙◌}
use Prim.Native.Nat.{ℕ, ◌≤◌, ◌<◌}
use native.Mathlib.Omega.{arith}
use mathlib.Core.Bool.{Bool, true, false, not, ◌&&◌}
use mathlib.Core.List.{List, [], ◌∷◌}
use lib.Bits.{bit_xor, xor_self, xor_zero_r}
use lib.Dec.{eqb, leb}
use lib.ListN.{length, get_or, drop}
use borrow.Author.Tests.{eqb-true, eq-eqb, ne_eqb, leb-true, leb-false}
use Rattle.format.specs.Bytes.{one_of, xor_all}
use Rattle.format.specs.Answers.{placed, got, refused, need_at, in_order}
use Rattle.format.specs.Chain.{length_of, id_of, whole, structured, named, summed, well_formed, single, damage_steps, damage_of}
use Rattle.format.specs.Numbers.{number_of}
use Rattle.format.proofs.Tests.{same_truth, and_i, and_left}
use Rattle.format.proofs.Damages.{number-none}
use Rattle.format.proofs.Xor.{xor_assoc}
use Rattle.chain.specs.Formed.{damage_by, formed_by}

-- what two bytes come to is 0 only where they are the same
xor_same : (a b : ℕ) → bit_xor a b ≡ 0 → a ≡ b
xor_same a b e = sym (xor_zero_r a) ∙ ap (bit_xor a) (sym (xor_self b)) ∙ sym (xor_assoc a b b) ∙ ap (λ (x : ℕ). bit_xor x b) e

-- the XOR of all bytes is 0 exactly where that of those behind the first is the first
xor-behind : (b : List ℕ) → eqb (xor_all (drop 1 b)) (get_or b 0 0) ≡ eqb (xor_all b) 0
unfolding xor_all
xor-behind [] = refl
xor-behind (y ∷ r) =
    same_truth (eqb (xor_all r) y) (eqb (bit_xor y (xor_all r)) 0) (λ e. eq-eqb (bit_xor y (xor_all r)) 0 (ap (bit_xor y) (eqb-true (xor_all r) y e) ∙ xor_self y))
    (λ e. eq-eqb (xor_all r) y (sym (xor_same y (xor_all r) (eqb-true (bit_xor y (xor_all r)) 0 e))))

-- ---- a block that is as long as it says

numbered : (p : ℕ) (seen : List ℕ) (b : List ℕ) → (length_of b ≡ 2 → ⊥) → length_of b ≡ length b → (n s o : Bool) → named b ≡ n → summed b ≡ s → single (id_of b) && one_of seen (id_of b) ≡ o
    → number_of (damage_of p seen b) ≡ (if not n then 17 else if not s then 18 else if o then 19 else 0)
unfolding damage_steps need_at in_order
numbered p seen b two says false s o en es eo = rw (ne_eqb (length_of b) 2 two, eq-eqb (length_of b) (length b) says, en)
numbered p seen b two says true false o en es eo = rw (ne_eqb (length_of b) 2 two, eq-eqb (length_of b) (length b) says, en, es)
numbered p seen b two says true true true en es eo = rw (ne_eqb (length_of b) 2 two, eq-eqb (length_of b) (length b) says, en, es, eo)
numbered p seen b two says true true false en es eo = rw (ne_eqb (length_of b) 2 two, eq-eqb (length_of b) (length b) says, en, es, eo)

-- an ID above 100 is good, and asks for no checksum
module _ (b : List ℕ) (high : structured b ≡ false) where
  high-id : id_of b ≡ 0 → ⊥
  high-id e = let h : 100 < id_of b = leb-false (id_of b) 100 high in omega arith

  high-named : named b ≡ true
  unfolding named
  high-named = rw (high, ne_eqb (id_of b) 0 high-id)

  high-summed : summed b ≡ true
  unfolding summed
  high-summed = rw high

  high-many : single (id_of b) ≡ false
  high-many = ne_eqb (id_of b) 1 (λ e. let h : 100 < id_of b = leb-false (id_of b) 100 high in omega arith)

  pub unstructured : (p : ℕ) (seen : List ℕ) → (length_of b ≡ 2 → ⊥) → length_of b ≡ length b → damage_of p seen b ≡ got tt
  unstructured p seen two says = number-none p seen b (numbered p seen b two says true true false high-named high-summed (and_left (single (id_of b)) _ high-many))

-- an ID of 1 to 100 asks for both
module _ (b : List ℕ) (x : ℕ) (low : structured b ≡ true) (says : length_of b ≡ length b) (sum : x ≡ xor_all (drop 1 b)) where
  by_tests : (seen : Bool) → damage_by (length_of b) (id_of b) x seen ≡ (if not (named b) then 17 else if not (summed b) then 18 else if seen then 19 else 0)
  unfolding damage_by named summed
  by_tests seen = rw (low, sum, xor-behind b, ← says) (go (eqb (id_of b) 0) (leb 4 (length_of b)))
    where
      rest : ℕ
      rest = if not (eqb (xor_all b) 0) then 18 else if seen then 19 else 0

      go : (z f : Bool) → (if z then 17 else if not f then 17 else rest) ≡ (if not (not z && f) then 17 else rest)
      go true f = refl
      go false true = refl
      go false false = refl

  pub damage-by : (p : ℕ) (seen : List ℕ) → (length_of b ≡ 2 → ⊥) → damage_by (length_of b) (id_of b) x (single (id_of b) && one_of seen (id_of b)) ≡ number_of (damage_of p seen b)
  damage-by p seen two = by_tests _ ∙ sym (numbered p seen b two says (named b) (summed b) _ refl refl refl)

  well-by : (n s : Bool) → eqb (if not n then 17 else if not s then 18 else 0) 0 ≡ n && s
  well-by false s = refl
  well-by true false = refl
  well-by true true = refl

  by-well : eqb (damage_by (length_of b) (id_of b) x false) 0 ≡ named b && summed b
  by-well = ap (λ (k : ℕ). eqb k 0) (by_tests false) ∙ well-by (named b) (summed b)

-- a block without damage is well formed
pub formed-well : (b : List ℕ) (x : ℕ) → (id_of b ≤ 100 → x ≡ xor_all (drop 1 b)) → formed_by x b ≡ well_formed b
unfolding formed_by well_formed
formed-well b x h = all_there (leb 3 (length b)) (whole b) _ (named b) (summed b) (λ w. tail w (structured b) refl)
  where
    tail : whole b ≡ true → (t : Bool) → structured b ≡ t → (if t then eqb (damage_by (length_of b) (id_of b) x false) 0 else true) ≡ named b && summed b
    tail w true e = by-well b x e (eqb-true (length_of b) (length b) w) (h (leb-true (id_of b) 100 e))
    tail w false e = sym (and_i (high-named b e) (high-summed b e))

    all_there : (l w t n s : Bool) → (w ≡ true → t ≡ n && s) → l && w && t ≡ l && w && n && s
    all_there false w t n s k = refl
    all_there true false t n s k = refl
    all_there true true t n s k = k refl

-- ---- what the number tells

pub length_two : (p : ℕ) (seen : List ℕ) (b : List ℕ) → length_of b ≡ 2 → damage_of p seen b ≡ refused (placed 15 p)
unfolding damage_steps need_at in_order
length_two p seen b e = rw (eq-eqb (length_of b) 2 e)

pub cut_short : (p : ℕ) (seen : List ℕ) (b : List ℕ) → (length_of b ≡ 2 → ⊥) → (length_of b ≡ length b → ⊥) → damage_of p seen b ≡ refused (placed 16 p)
unfolding damage_steps need_at in_order
cut_short p seen b two w = rw (ne_eqb (length_of b) 2 two, ne_eqb (length_of b) (length b) w)
