-- Where the parts stand that judging a field tells of.
use Rattle.std.specs.Prelude.{if◌then◌else◌, Ok, Err}
use mathlib.Core.Path.{◌≡◌, refl, sym, ap, ap₂, subst, ◌∙◌}
use Prim.Native.Nat.{ℕ, zero, suc, ◌+◌, ◌-◌, ◌≤◌}
use native.Mathlib.Omega.{arith}
use native.Mathlib.Numerals.{add-one}
use mathlib.Core.Bool.{Bool, true, false}
use mathlib.Core.List.{List, [], ◌∷◌, ◌++◌, map}
use lib.ListN.{length, take, drop, get_or, length-take, length-drop}
use lib.Seq.{drop-drop, take-take}
use lib.Dec.{eqb, leb}
use borrow.Author.Tests.{eqb-false, ne_eqb, le-leb, lt-leb, leb-false}
use Rattle.format.specs.Answers.{need, in_order}
use Rattle.format.specs.Bytes.{is_empty, all, same, part, trim, strip, up_to, past}
use Rattle.format.specs.Fields.{capital, hyphen, blank, alternate, marked, good_item, prefix_in, owner_said, good_owner}
use Rattle.format.specs.Chain.{payload, fields_in, library_in, good_library}
use Rattle.format.proofs.Tests.{never, and_l}
use Rattle.format.proofs.Strings.{empty_of}
use Rattle.format.proofs.Fields.{capital-ge, alternative-facts, isil-facts}
use Rattle.format.specs.declared.Reason.TheVariants as reason
use Rattle.format.specs.Numbers.{given}
use Rattle.fields.specs.declared.Item.{Item}
use Rattle.fields.specs.declared.Item.TheVariants as item
use Rattle.fields.specs.declared.Owner.{Owner}
use Rattle.fields.specs.declared.Owner.TheVariants as owner
use Rattle.fields.specs.declared.LibraryParts.{LibraryParts}
use Rattle.fields.specs.Forms.{item_parts, item_marked, item_form, owner_parts, owner_marked, owner_form, library_parts, library_form}

-- ---- parts of a string

-- r is the front of s
abbrev Front : List ℕ → List ℕ → Type 0
Front r s = r ≡ take (length r) s

trim-take : (x : ℕ) (r s : List ℕ) → Front r s → Front (trim x r) (x ∷ s)
unfolding trim
trim-take zero [] s e = refl
trim-take zero (y ∷ r) s e = ap (λ (l : List ℕ). zero ∷ l) e
trim-take (suc x) r s e = ap (λ (l : List ℕ). suc x ∷ l) e

-- without the 00 at its end a string is its front
pub strip-take : (s : List ℕ) → Front (strip s) s
unfolding strip
strip-take [] = refl
strip-take (x ∷ s) = trim-take x (strip s) s (strip-take s)

-- what stands before the first b is the front
pub up-to-take : (b : ℕ) (s : List ℕ) → Front (up_to b s) s
unfolding up_to
up-to-take b [] = refl
up-to-take b (x ∷ s) = go (eqb x b) (up-to-take b s)
  where
    go : (t : Bool) → Front (up_to b s) s → Front (if t then [] else x ∷ up_to b s) (x ∷ s)
    go true e = refl
    go false e = ap (λ (l : List ℕ). x ∷ l) e

-- what stands behind the first b is what is left behind it
pub past-drop : (b : ℕ) (s : List ℕ) → past b s ≡ drop (length (up_to b s) + 1) s
unfolding up_to past
past-drop b [] = refl
past-drop b (x ∷ s) = go (eqb x b) (past-drop b s)
  where
    go : (t : Bool) → past b s ≡ drop (length (up_to b s) + 1) s
        → (if t then s else past b s) ≡ drop (length (if t then [] else x ∷ up_to b s) + 1) (x ∷ s)
    go true e = refl
    go false e = rw add-one (rw add-one at e)

front-within : (r s : List ℕ) → Front r s → length r ≤ length s
front-within r s e = omega (arith, ap length e, length-take (length r) s)

front-drop : (i : ℕ) (r s : List ℕ) → Front r s → Front (drop i r) (drop i s)
front-drop zero r s e = e
front-drop (suc i) [] s e = refl
front-drop (suc i) (x ∷ r) [] e = never (cc)
front-drop (suc i) (x ∷ r) (y ∷ s) e = front-drop i r s (ap (drop 1) e)

front-take : (k : ℕ) (r s : List ℕ) → Front r s → Front (take k r) s
front-take zero r s e = refl
front-take (suc k) [] s e = refl
front-take (suc k) (x ∷ r) [] e = never (cc)
front-take (suc k) (x ∷ r) (y ∷ s) e =
    ap₂ (λ (z : ℕ) (l : List ℕ). z ∷ l) (ap (λ (l : List ℕ). get_or l 0 0) e) (front-take k r s (ap (drop 1) e))

front-trans : (q r s : List ℕ) → Front q r → Front r s → Front q s
front-trans q r s d e = d ∙ ap (take (length q)) e ∙ take-take (length q) (length r) s (front-within q r d)

-- where the front begins with a byte that is not 00, that byte stands there
front-first : (r s : List ℕ) → Front r s → (get_or r 0 0 ≡ 0 → ⊥) → get_or r 0 0 ∷ [] ≡ take 1 s
front-first [] s e h = absurd (h refl)
front-first (x ∷ r) [] e h = never (cc)
front-first (x ∷ r) (y ∷ s) e h = ap (λ (l : List ℕ). get_or l 0 0 ∷ []) e

-- s is n bytes of b from byte i on; they lie inside b, if there are any
pub record Within (b : List ℕ) (i n : ℕ) (s : List ℕ) : Type 0 where
  pub is : part i n b ≡ s
  pub inside : n ≤ length b - i

pub within-length : {b s : List ℕ} {i n : ℕ} → Within b i n s → length s ≡ n
within-length {b} {s} {i} {n} w = omega (arith, ap length w.is, length-take n (drop i b), length-drop i b, w.inside)

front-lies : (b : List ℕ) (i : ℕ) (s : List ℕ) → Front s (drop i b) → Within b i (length s) s
front-lies b i s e = record { is = sym e; inside = omega (arith, front-within s (drop i b) e, length-drop i b) }

-- ---- fields with a 00 between them

-- where field k of these lengths begins, the first of them at byte i
unfoldable pub field_at : ℕ → ℕ → List ℕ → ℕ
field_at i zero ls = i
field_at i (suc k) [] = i
field_at i (suc k) (l ∷ ls) = field_at (i + 1 + l) k ls

-- there it stands, where what the fields are in stands at byte i
pub field-lies : (n k i : ℕ) (s b : List ℕ) → Front s (drop i b)
    → let ls : List ℕ = map length (fields_in n s) in Within b (field_at i k ls) (get_or ls k 0) (get_or (fields_in n s) k [])
unfolding fields_in field_at
field-lies zero k i s b e = front-lies b _ [] refl
field-lies (suc n) zero i s b e = front-lies b i (up_to 0 s) (front-trans (up_to 0 s) s (drop i b) (up-to-take 0 s) e)
field-lies (suc n) (suc k) i s b e =
    let l : ℕ = length (up_to 0 s) in
    let next : i + (l + 1) ≡ i + 1 + l = omega arith in
    field-lies n k (i + 1 + l) (past 0 s) b (rw (past-drop 0 s, ← next, ← (drop-drop (l + 1) i b)) (front-drop (l + 1) s (drop i b) e))

-- ---- each form is its parts, or refusal 6

given-if : {A : Type 0} (good : Bool) (parts : A) → given (if good then Ok parts else Err reason.Field) ≡ in_order (need 6 good ∷ []) parts
unfolding need in_order
given-if true parts = refl
given-if false parts = refl

pub item-given : (f : List ℕ) → given (item_form f) ≡ in_order (need 6 (good_item (strip f)) ∷ []) (item_parts f)
unfolding item_form
item-given f = given-if (good_item (strip f)) (item_parts f)

pub owner-given : (f : List ℕ) → given (owner_form f) ≡ in_order (need 6 (good_owner (strip f)) ∷ []) (owner_parts f)
unfolding owner_form
owner-given f = given-if (good_owner (strip f)) (owner_parts f)

pub library-given : (b : List ℕ) → given (library_form b) ≡ in_order (need 6 (good_library b) ∷ []) (library_parts b)
unfolding library_form
library-given b = given-if (good_library b) (library_parts b)

-- ---- the item field

-- where its text stands
abbrev pub ItemAt : List ℕ → Item → Type 0
ItemAt f item.Marker = Unit {0}
ItemAt f (item.Text n) = Within f 0 n (strip f)

-- it holds the marker, or text at its front
pub record ItemStands (f : List ℕ) (p : Item) : Type 0 where
  pub marks : marked (strip f) ≡ item_marked p
  pub here : ItemAt f p

pub item-stands : (f : List ℕ) → ItemStands f (item_parts f)
unfolding item_parts
item-stands f = go (marked (strip f)) refl
  where
    go : (m : Bool) → marked (strip f) ≡ m → ItemStands f (if m then item.Marker else item.Text (length (strip f)))
    go true e = record { marks = e; here = tt }
    go false e = record { marks = e; here = front-lies f 0 (strip f) (strip-take f) }

-- ---- the owner field

-- an ISIL o: its prefix in front, its unit from the third byte on
pub record IsilAt (f : List ℕ) (p u : ℕ) (o : List ℕ) : Type 0 where
  pub kind : alternate o ≡ false
  pub is : take p f ++ hyphen ∷ part 2 u f ≡ o
  pub prefix-some : 1 ≤ p
  pub prefix-few : p ≤ 2
  pub unit-few : u ≤ 11
  pub unit-inside : u ≤ length f - 2

-- an alternative owner o, from the third byte on
pub record AlternativeAt (f : List ℕ) (n : ℕ) (o : List ℕ) : Type 0 where
  pub kind : alternate o ≡ true
  pub here : Within f 2 n o

-- where o stands, what the field says
abbrev pub OwnerAt : List ℕ → Owner → List ℕ → Type 0
OwnerAt f owner.Nothing o = o ≡ []
OwnerAt f owner.Marker o = Unit {0}
OwnerAt f (owner.Isil p u) o = IsilAt f p u o
OwnerAt f (owner.Alternative n) o = AlternativeAt f n o

-- it holds nothing, the marker, an ISIL or an alternative owner
pub record OwnerStands (f : List ℕ) (p : Owner) : Type 0 where
  pub marks : marked (owner_said (strip f)) ≡ owner_marked p
  pub here : OwnerAt f p (owner_said (strip f))

-- what begins with a capital is neither an alternative owner nor the marker
capital-first : (p r : List ℕ) → 1 ≤ length p → all capital p ≡ true → (alternate (p ++ r) ≡ false) × (marked (p ++ r) ≡ false)
unfolding all same
capital-first [] r l c = absurd (omega arith)
capital-first (x ∷ p) r l c =
    let h : 65 ≤ x = capital-ge x (and_l (capital x) (all capital p) c) in
    (rw (le-leb 2 x (omega arith), lt-leb x 3 (omega arith)), rw (ne_eqb x 1 (omega arith)))

third-high : (t : List ℕ) → leb (get_or t 2 0) 3 ≡ false → (is_empty t ≡ false) × (marked (drop 2 t) ≡ false)
unfolding same
third-high [] l = never (cc)
third-high (a ∷ []) l = never (cc)
third-high (a ∷ b ∷ []) l = never (cc)
third-high (a ∷ b ∷ x ∷ s) l = (refl, rw (ne_eqb x 1 (omega (arith, leb-false x 3 l))))

module _ (f : List ℕ) where
  abbrev t : List ℕ
  t = strip f

  -- what begins at the third byte
  abbrev rest : List ℕ
  rest = drop 2 t

  rest-lies : Within f 2 (length rest) rest
  rest-lies = front-lies f 2 rest (front-drop 2 t f (strip-take f))

  prefix-lies : Front (prefix_in t) f × (length (prefix_in t) ≤ 2)
  unfolding prefix_in
  prefix-lies = go (eqb (get_or t 1 0) blank)
    where
      go : (b : Bool) → let p : List ℕ = if b then take 1 t else take 2 t in Front p f × (length p ≤ 2)
      go true = (front-take 1 t f (strip-take f), omega (arith, length-take 1 t))
      go false = (front-take 2 t f (strip-take f), omega (arith, length-take 2 t))

  -- the parts by the tests
  abbrev chosen : Bool → Bool → Bool → Owner
  chosen e m l =
      if e then owner.Nothing else
      if m then owner.Marker else
      if l then owner.Alternative (length rest) else
      owner.Isil (length (prefix_in t)) (length rest)

  module _ (g : good_owner t ≡ true) where
    stands : (e m l : Bool) → is_empty t ≡ e → marked rest ≡ m → leb (get_or t 2 0) 3 ≡ l → OwnerStands f (chosen e m l)
    unfolding good_owner owner_said same
    stands true m l e h k = let n : t ≡ [] = empty_of t e in record { marks = rw n; here = rw n }
    stands false true true e h k = record { marks = rw k h; here = tt }
    stands false true false e h k = never (cc (third-high t k).1)
    stands false false true e h k =
        record {
          marks = rw k h;
          here = rw k (record { kind = (alternative-facts rest (rw (e, h, k) at g)).kind; here = rest-lies });
        }
    stands false false false e h k =
        let i = isil-facts (prefix_in t) rest (rw (e, h, k) at g) in
        let c = capital-first (prefix_in t) (hyphen ∷ rest) i.some i.capitals in
        record {
          marks = rw k c.1;
          here = rw k (record {
            kind = c.0;
            is = ap₂ (λ (p u : List ℕ). p ++ hyphen ∷ u) (sym prefix-lies.0) rest-lies.is;
            prefix-some = i.some;
            prefix-few = prefix-lies.1;
            unit-few = i.unit-few;
            unit-inside = rest-lies.inside;
          });
        }

pub owner-stands : (f : List ℕ) → good_owner (strip f) ≡ true → OwnerStands f (owner_parts f)
unfolding owner_parts
owner-stands f g = stands f g (is_empty (strip f)) (marked (rest f)) (leb (get_or (strip f) 2 0) 3) refl refl refl

-- ---- block 1

-- its fields stand in the block: the media byte at 4, the item from 5 on, the owner behind the 00 that follows
pub record LibraryStands (b : List ℕ) (p : LibraryParts) : Type 0 where
  pub media : let m : ℕ = (library_in b).media in Within b 4 (if eqb p.media 0 then 0 else 1) (if eqb m 0 then [] else m ∷ [])
  pub item : Within b 5 p.item (library_in b).item
  pub owner : Within b (6 + p.item) p.owner (library_in b).owner
  pub usage : (library_in b).usage ≡ p.usage

module _ (b : List ℕ) where
  payload-lies : Front (payload b) (drop 4 b)
  unfolding payload
  payload-lies = strip-take (drop 4 b)

  fields_lie : Front (drop 1 (payload b)) (drop 5 b)
  fields_lie = subst (Front (drop 1 (payload b))) (drop-drop 1 4 b) (front-drop 1 (payload b) (drop 4 b) payload-lies)

  media-lies : (z : Bool) → eqb (library_in b).media 0 ≡ z → Within b 4 (if z then 0 else 1) (if z then [] else (library_in b).media ∷ [])
  unfolding library_in
  media-lies true e = record { is = refl; inside = omega arith }
  media-lies false e = front-lies b 4 ((library_in b).media ∷ []) (front-first (payload b) (drop 4 b) payload-lies (eqb-false (library_in b).media 0 e))

  pub library-stands : LibraryStands b (library_parts b)
  unfolding library_parts library_in fields_in field_at
  library-stands =
      record {
        media = media-lies (eqb (library_in b).media 0) refl;
        item = field-lies 2 0 5 (drop 1 (payload b)) b fields_lie;
        owner = field-lies 2 1 5 (drop 1 (payload b)) b fields_lie;
        usage = refl;
      }
