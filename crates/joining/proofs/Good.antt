-- Good elements: how long they are, and what their identifier is.
use mathlib.Core.Path.{◌≡◌, sym, ap, ap₂, ◌∙◌}
use Prim.Native.Nat.{ℕ, ◌+◌, ◌≤◌}
use native.Mathlib.Omega.{arith}
use mathlib.Core.Bool.{true}
use mathlib.Core.List.{List, ◌++◌, append_assoc}
use lib.ListN.{length, get_or, length-append}
use borrow.Author.Tests.{eqb-true, leb-true}
use Rattle.format.specs.Bytes.{word}
use Rattle.format.specs.Elements.{parts_of, ordinal_of, set_info, shape, form}
use Rattle.format.proofs.Tests.{and-iff}
use Rattle.format.proofs.Values.{value-short}
use Rattle.identifier.specs.Elements.{three, good_elements, identifier_of}
use Rattle.joining.specs.Laying.{isil_front, set_end}
use Rattle.joining.proofs.Pieces.{identifier-pieces, any-ordinal}

-- ---- good elements

-- how long they are; and a number of the set information is its low byte
pub record Facts (x i s : List ℕ) : Type 0 where
  pub item : length x ≤ 255
  pub isil : length i ≤ 255
  pub set : length s ≡ 4
  pub parts : parts_of s ≡ get_or s 0 0
  pub ordinal : ordinal_of s ≡ get_or s 2 0

pub good-facts : (x i s : List ℕ) → good_elements (three x i s) ≡ true → Facts x i s
unfolding good_elements form shape set_info word
good-facts x i s e =
    let h = simp and-iff at e in
    let p = leb-true (parts_of s) 255 h.1.0.0.0.1 in
    let o = leb-true (ordinal_of s) 255 h.1.0.0.1 in
    record {
      item = leb-true (length x) 255 h.0.0.0.1;
      isil = value-short 3 i h.0.1;
      set = eqb-true (length s) 4 h.1.0.0.0.0;
      parts = omega arith;
      ordinal = omega arith;
    }

module _ (x i s : List ℕ) (f : Facts x i s) where
  pub good-pieces : identifier_of (three x i s) ≡ (isil_front i ++ x) ++ set_end (get_or s 0 0) (get_or s 2 0)
  good-pieces =
      identifier-pieces x i s
      ∙ ap₂ (λ (p o : ℕ). isil_front i ++ (x ++ set_end p o)) f.parts f.ordinal
      ∙ sym (append_assoc (isil_front i) x (set_end (get_or s 0 0) (get_or s 2 0)))

  pub good_length : length (identifier_of (three x i s)) ≡ length (isil_front i) + length x + length (set_end (get_or s 0 0) 0)
  good_length =
      let e : List ℕ = set_end (get_or s 0 0) (get_or s 2 0) in
      ap length good-pieces ∙ length-append (isil_front i ++ x) e ∙ omega (arith, length-append (isil_front i) x, any-ordinal (get_or s 0 0) (get_or s 2 0))
