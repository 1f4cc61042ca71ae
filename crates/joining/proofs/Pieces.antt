-- The pieces that code lays down are together the identifier; and how long they are.
use Rattle.std.specs.Prelude.{if◌then◌else◌}
use mathlib.Core.Path.{◌≡◌, refl, sym, ap, ◌∙◌}
use Prim.Native.Nat.{ℕ, zero, suc, ◌+◌, ◌*◌, ◌/◌, ◌≤◌}
use native.Mathlib.Omega.{arith}
use mathlib.Core.Bool.{Bool, true, false}
use mathlib.Core.List.{List, [], ◌∷◌, ◌++◌, append_assoc, append-nil}
use lib.ListN.{length, length-append}
use lib.Dec.{eqb}
use borrow.Author.Tests.{eq-eqb, ne_eqb}
use Rattle.format.specs.Bytes.{is_empty}
use Rattle.format.specs.Elements.{parts_of, ordinal_of}
use Rattle.format.proofs.Strings.{is-empty, not-empty}
use Rattle.identifier.specs.Parts.{dot, dotted}
use Rattle.identifier.specs.SetDigits.{digits, width, set_part}
use Rattle.identifier.specs.Elements.{three, parts_for, identifier_of}
use Rattle.joining.specs.Laying.{isil_front, set_end}

-- ---- the identifier

module _ (x : List ℕ) where
  together : (i s : List ℕ) (t : Bool)
      → dotted ((if is_empty i then [] else (i ∷ [])) ++ (x ∷ (if t then [] else (s ∷ [])))) ≡ isil_front i ++ (x ++ (if t then [] else (dot ∷ s)))
  unfolding dotted
  together [] s true = sym (append-nil x)
  together [] s false = refl
  together (y ∷ i) s true = ap (λ (r : List ℕ). (y ∷ i) ++ (dot ∷ r)) (sym (append-nil x)) ∙ sym (append_assoc (y ∷ i) (dot ∷ []) (x ++ []))
  together (y ∷ i) s false = sym (append_assoc (y ∷ i) (dot ∷ []) (x ++ (dot ∷ s)))

pub identifier-pieces : (x i e : List ℕ) → identifier_of (three x i e) ≡ isil_front i ++ (x ++ set_end (parts_of e) (ordinal_of e))
unfolding parts_for
identifier-pieces x i e = together x i (set_part (parts_of e) (ordinal_of e)) (eqb (parts_of e) 0)

-- ---- the ISIL and its dot

pub no-isil : (i : List ℕ) → length i ≡ 0 → isil_front i ≡ []
no-isil i e = rw (is-empty i e)

pub some-isil : (i : List ℕ) → (length i ≡ 0 → ⊥) → isil_front i ≡ i ++ (dot ∷ [])
some-isil i e = rw (not-empty i e)

pub isil-front-length : (i : List ℕ) → (length i ≡ 0 → ⊥) → length (isil_front i) ≡ length i + 1
isil-front-length i e = ap length (some-isil i e) ∙ length-append i (dot ∷ [])

pub isil-front-short : (i : List ℕ) → length (isil_front i) ≤ length i + 1
isil-front-short [] = omega arith
isil-front-short (y ∷ i) = omega (arith, length-append (y ∷ i) (dot ∷ []))

-- ---- the dot and the set information

pub digits-length : (k n : ℕ) → length (digits k n) ≡ k
unfolding digits
digits-length zero n = refl
digits-length (suc k) n = length-append (digits k (n / 10)) _ ∙ omega (arith, digits-length k (n / 10))

pub no-set : (total ordinal : ℕ) → total ≡ 0 → set_end total ordinal ≡ []
no-set total ordinal e = rw (eq-eqb total 0 e)

-- w is the total's width
module _ (total ordinal w : ℕ) (is : w ≡ width total) (some : total ≡ 0 → ⊥) where
  pub some-set : set_end total ordinal ≡ ((dot ∷ []) ++ digits w total) ++ digits w ordinal
  unfolding set_part
  some-set = rw (ne_eqb total 0 some, is)

  pub set-end-length : length (set_end total ordinal) ≡ 1 + 2 * w
  set-end-length =
      ap length some-set
      ∙ length-append ((dot ∷ []) ++ digits w total) (digits w ordinal)
      ∙ omega (arith, digits-length w total, digits-length w ordinal)

set-part-length : (total ordinal : ℕ) → length (set_part total ordinal) ≡ 2 * width total
unfolding set_part
set-part-length total ordinal =
    let w : ℕ = width total in
    length-append (digits w total) (digits w ordinal) ∙ omega (arith, digits-length w total, digits-length w ordinal)

-- whatever the ordinal
pub any-ordinal : (total ordinal : ℕ) → length (set_end total ordinal) ≡ length (set_end total 0)
any-ordinal total ordinal = go (eqb total 0)
  where
    go : (t : Bool) → length (if t then [] else (dot ∷ set_part total ordinal)) ≡ length (if t then [] else (dot ∷ set_part total 0))
    go true = refl
    go false = ap suc (set-part-length total ordinal ∙ sym (set-part-length total 0))
