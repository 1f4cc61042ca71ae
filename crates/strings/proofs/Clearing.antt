-- Bytes that are 00, and bytes made so one after the other.
use mathlib.Core.Path.{◌≡◌, refl, sym, ap, ap₂, ◌∙◌}
use Prim.Native.Nat.{ℕ, suc, ◌+◌, ◌-◌, ◌≤◌, ◌<◌}
use native.Mathlib.Omega.{arith}
use mathlib.Core.List.{List, [], ◌∷◌, ◌++◌, append_assoc, append-nil}
use lib.ListN.{length, take, drop, set, replicate, length-append, length-drop, length-replicate, drop_of_length-le, replicate-append-replicate}
use lib.Seq.{set_split, take_at, drop-append-add, drop-drop}

abbrev zeros : ℕ → List ℕ
zeros n = replicate n 0

-- the first n bytes of an array of 00, as they are lent
pub front-zeros : (n m : ℕ) → n ≤ m → take (n - 0) (zeros m) ≡ zeros n
front-zeros n m h =
    let k : n - 0 ≡ n = omega arith in
    let e : m ≡ n + (m - n) = omega arith in
    ap₂ (λ (i j : ℕ). take i (zeros j)) k e ∙ ap (take n) (sym (replicate-append-replicate n (m - n) 0)) ∙ take_at (zeros n) (zeros (m - n)) n (length-replicate n 0)

-- the first i bytes of `out` are 00, the others are those of `before`
pub record Cleared (before out : List ℕ) (i : ℕ) : Type 0 where
  pub inside : i ≤ length before
  pub is : out ≡ zeros i ++ drop i before

pub cleared-start : (before : List ℕ) → Cleared before before 0
cleared-start before = record { inside = omega arith; is = refl }

module _ (before out : List ℕ) (i : ℕ) (c : Cleared before out i) where
  pub cleared-length : length out ≡ length before
  cleared-length = ap length c.is ∙ omega (arith, c.inside, length-append (zeros i) (drop i before), length-replicate {A = ℕ} i 0, length-drop i before)

  pub cleared-on : i < length before → Cleared before (set out i 0) (i + 1)
  cleared-on h =
      let l : length (zeros i) ≡ i = length-replicate i 0 in
      let front : take i out ≡ (zeros i) = ap (take i) c.is ∙ take_at (zeros i) (drop i before) i l in
      let n : suc i ≡ length (zeros i) + 1 = omega (arith, l) in
      let back : drop (suc i) out ≡ drop (i + 1) before =
      ap₂ drop n c.is ∙ drop-append-add (zeros i) (drop i before) 1 ∙ drop-drop 1 i before in
      record {
        inside = omega (arith, h);
        is = set_split out i 0 (omega (arith, h, cleared-length)) ∙ ap₂ (λ (x y : List ℕ). x ++ (0 ∷ y)) front back
            ∙ sym (append_assoc (zeros i) (0 ∷ []) (drop (i + 1) before))
            ∙ ap (λ (x : List ℕ). x ++ drop (i + 1) before) (replicate-append-replicate i 1 0);
      }

  pub cleared-all : length before ≤ i → out ≡ zeros (length before)
  cleared-all h =
      let e : i ≡ length before = omega (arith, h, c.inside) in
      c.is ∙ ap (λ (x : List ℕ). (zeros i) ++ x) (drop_of_length-le before {i = i} h) ∙ append-nil (zeros i) ∙ ap (λ (n : ℕ). zeros n) e
