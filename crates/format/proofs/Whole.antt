-- The texts of a tag that reads, and of elements, are whole letters: each field is judged by itself.
use mathlib.Core.Path.{◌≡◌, refl}
use mathlib.Core.Logic.{◌⊎◌, inl, inr}
use Prim.Native.Nat.{ℕ}
use mathlib.Core.Bool.{true, ◌||◌}
use native.Mathlib.Omega.{arith}
use mathlib.Core.List.{List, [], ◌∷◌}
use lib.ListN.{drop}
use lib.Seq.{drop-drop}
use borrow.Author.Tests.{ne_eqb, le-leb}
use Rattle.format.specs.Bytes.{is_empty, same}
use Rattle.format.specs.Text.{text, Encoded}
use Rattle.format.specs.Fields.{alternate, alternative, is_owner, marked, good_item, good_owner}
use Rattle.format.specs.Elements.{Content, known, el, shape, sound}
use Rattle.format.specs.Reading.{item_in, owner_in, library_on, Readable}
use Rattle.format.proofs.Tests.{never, or-inv}
use Rattle.format.proofs.Text.{between-facts}
use Rattle.format.proofs.Letters.{text-letters}
use Rattle.format.proofs.Fields.{text-nil, alternative-facts}
use Rattle.format.proofs.Slots.{sound-facts}
use Rattle.format.proofs.Values.{value-text, value-alternative}
use Rattle.format.proofs.Sound.{library-tests, fields-parts}

-- an alternative owner is letters behind its first byte
alternative-whole : (o : List ℕ) → alternative o ≡ true → Encoded (drop 1 o)
alternative-whole o e = text-letters (drop 1 o) (alternative-facts o e).texts

item-whole : (i : List ℕ) → good_item i ≡ true → (marked i ≡ true) ⊎ Encoded i
unfolding good_item
item-whole i e = elim (or-inv (text i) (marked i) e) [ inl h ↦ inr (text-letters i h) | inr h ↦ inl h ]

-- an owner field whose third byte is 02 or 03 holds an alternative owner
field-alternative : (o : List ℕ) → good_owner o ≡ true → alternate (drop 2 o) ≡ true → alternative (drop 2 o) ≡ true
unfolding good_owner same
field-alternative [] e a = never (cc)
field-alternative (x ∷ []) e a = never (cc)
field-alternative (x ∷ y ∷ []) e a = never (cc)
field-alternative (x ∷ y ∷ z ∷ s) e a =
    let h = between-facts 2 3 z a in
    rw (ne_eqb z 1 (omega arith), le-leb z 3 h.1) at e

-- so does an owner in block 1 that begins so
owner-alternative : (o : List ℕ) → is_empty o || is_owner o ≡ true → alternate o ≡ true → alternative o ≡ true
unfolding is_owner
owner-alternative [] e a = never (cc)
owner-alternative (x ∷ s) e a = rw a at e

pub tag-whole : (t : List ℕ) → Readable t
    → ((marked (item_in t) ≡ true) ⊎ Encoded (item_in t)) × Encoded (library_on t).item
    × (alternate (drop 2 (owner_in t)) ≡ true → Encoded (drop 3 (owner_in t))) × (alternate (library_on t).owner ≡ true → Encoded (drop 1 (library_on t).owner))
tag-whole t r =
    let f = fields-parts t r.fields in
    let l = library-tests _ f.library in (
      item-whole (item_in t) f.item,
      text-letters _ l.1,
      λ a. rw drop-drop at (alternative-whole (drop 2 (owner_in t)) (field-alternative (owner_in t) f.owner a)),
      λ a. alternative-whole (library_on t).owner (owner-alternative (library_on t).owner l.2 a),
    )

pub content-whole : (c : Content) → sound c ≡ true → Encoded (el c 1) × Encoded (el c 22) × Encoded (drop 1 (el c 23))
unfolding known shape
content-whole c s =
    let k = sound-facts c s in
    let behind : Encoded (drop 1 (el c 23)) =
    elim (value-alternative (el c 23) (k.values 23 refl)) [ inl e ↦ rw e (text-letters [] text-nil) | inr e ↦ alternative-whole (el c 23) e ] in
    (text-letters (el c 1) (value-text 1 (el c 1) refl (k.values 1 refl)), text-letters (el c 22) (value-text 22 (el c 22) refl (k.values 22 refl)), behind)
