-- What a part in the set's place says: its tests one by one, and its outcome by them.
use mathlib.Core.Path.{◌≡◌, refl, sym, ap, ap₂, ◌∙◌}
use Prim.Native.Nat.{ℕ, ◌-◌, ◌/◌, ◌≤◌}
use native.Mathlib.Omega.{arith}
use mathlib.Core.Bool.{Bool, true, false}
use mathlib.Core.List.{List, [], ◌∷◌}
use lib.Dec.{eqb}
use borrow.Author.Tests.{ne_eqb}
use lib.ListN.{length, get_or, take, drop, length-take, length-drop}
use Rattle.std.proofs.lemmas.List.{take_rest}
use Rattle.format.specs.Answers.{plain, got, refused, need, in_order}
use Rattle.format.specs.Bytes.{all, same}
use Rattle.format.proofs.Answers.{next-ok, next-no, none-ok}
use Rattle.format.proofs.Tests.{never, and_no, same_truth, all_take, all_drop}
use Rattle.identifier.specs.SetDigits.{digit, number_in, total_in, ordinal_in, says_set}
use Rattle.identifier.specs.Elements.{pointing, good_set}
use Rattle.identifier.proofs.Sets.{Says, says_of, of-says}
use Rattle.parting.specs.Places.{place_in}
use Rattle.parting.specs.declared.set.Set.{Set}
use Rattle.parting.specs.Sets.{read_in, numbers_in, stands_in}

abbrev numbers : ℕ → ℕ → Set
numbers t o = record { total = t; ordinal = o }

-- ---- digits

pub read-said : (p : List ℕ) (t o : ℕ) → t ≡ total_in p → o ≡ ordinal_in p → Says p → got (numbers t o) ≡ read_in p
unfolding read_in
read-said p t o et eo s =
    ap₂ (λ (x y : ℕ). got (numbers x y)) et eo ∙ sym (next-ok 6 (says_set p) [] (numbers (total_in p) (ordinal_in p)) (of-says p s) ∙ none-ok _)

pub read-bad : (p : List ℕ) → (Says p → ⊥) → refused (plain 6) ≡ read_in p
unfolding read_in
read-bad p n =
    let e : says_set p ≡ false = same_truth (says_set p) false (λ t. absurd (n (says_of p t))) (λ t. never (cc)) in
    sym (next-no 6 (says_set p) [] (numbers (total_in p) (ordinal_in p)) e)

-- ---- the halves as code takes them

module _ (p : List ℕ) where
  abbrev half : ℕ
  half = length p / 2

  pub ordinal-read : number_in (take (length p - half) (drop half p)) ≡ ordinal_in p
  ordinal-read = ap number_in (take_rest p half)

  module _ (d : all digit p ≡ true) (few : length p ≤ 6) where
    pub front-digits : (all digit (take half p) ≡ true) × (length (take half p) ≤ 3)
    front-digits = (all_take digit half p d, omega (arith, length-take half p))

    pub back-digits : (all digit (take (length p - half) (drop half p)) ≡ true) × (length (take (length p - half) (drop half p)) ≤ 3)
    back-digits = rw (take_rest p half) (all_drop digit half p d, omega (arith, length-drop half p))

-- ---- the set's place

not-s : (p : List ℕ) → (length p ≡ 1 → get_or p 0 0 ≡ 0x53 → ⊥) → same p (0x53 ∷ []) ≡ false
unfolding same
not-s [] n = refl
not-s (c ∷ []) n = rw (ne_eqb c 0x53 (n refl)) refl
not-s (c ∷ d ∷ p) n = and_no (eqb c 0x53) false refl

other-stands : (p : List ℕ) → same p (0x53 ∷ []) ≡ false → read_in p ≡ stands_in (p ∷ [])
unfolding stands_in good_set pointing numbers_in read_in in_order need
other-stands p e = rw e (go (says_set p))
  where
    go : (b : Bool) → in_order (need 6 b ∷ []) (numbers (total_in p) (ordinal_in p))
        ≡ in_order (need 6 b ∷ need 23 true ∷ []) (numbers (total_in p) (ordinal_in p))
    go true = refl
    go false = refl

-- behind a dot stands a part that is not S
pub other-behind : (s p : List ℕ) → 1 ≤ length s → p ≡ take (length s - 1) (drop 1 s) → (length p ≡ 1 → get_or p 0 0 ≡ 0x53 → ⊥) → read_in p ≡ stands_in (place_in s)
unfolding place_in
other-behind [] p h e n = absurd (omega arith)
other-behind (c ∷ s) p h e n = other-stands p (not-s p n) ∙ ap (λ (q : List ℕ). stands_in (q ∷ [])) (e ∙ take_rest (c ∷ s) 1)
