-- What the value of each element is, and how the elements come back from the fields that they are placed in.
use Rattle.std.specs.Prelude.{if◌then◌else◌}
use mathlib.Core.Path.{◌≡◌, refl, sym, ap₂, ◌∙◌}
use mathlib.Core.Logic.{◌⊎◌, inl, inr}
use Prim.Native.Nat.{ℕ, ◌+◌, ◌*◌, ◌/◌, ◌%◌, ◌≤◌, ◌<◌}
use native.Mathlib.Omega.{arith}
use mathlib.Core.Bool.{Bool, true, false, not, ◌&&◌, ◌||◌, beq, and-true}
use mathlib.Core.List.{List, [], ◌∷◌, ◌++◌}
use lib.Dec.{eqb, leb}
use lib.ListN.{length, get_or}
use borrow.Author.Tests.{eqb-true, eq-eqb, ne_eqb, leb-true, le-leb, lt-leb, eqb-false}
use Rattle.format.specs.Bytes.{is_empty, all, same, le16, word}
use Rattle.format.specs.Text.{text}
use Rattle.format.specs.Fields.{isil, alternate, alternative, is_owner, marker, marked, long, basic_owner}
use Rattle.format.specs.Elements.{parts_of, ordinal_of, set_bytes, set_info, some_text, required, shape, form, value}
use Rattle.format.specs.Layout.{first_byte}
use Rattle.format.proofs.Tests.{never, and_l, and_r, and_i, and-iff, and_no, and_left, not_t, not_f, or_r}
use Rattle.format.proofs.Strings.{all-opened, empty_of, not-empty, solid, le16-byte}
use Rattle.format.proofs.Fields.{text-nil, text-unmarked, isil-first, alternative-facts, owner-facts, spoken}

-- ---- a value is nothing, or has its number's shape and at most 255 bytes

pub value-shape : (n : ℕ) (s : List ℕ) → value n s ≡ true → (s ≡ []) ⊎ (shape n s ≡ true)
unfolding value form
value-shape n [] v = inl refl
value-shape n (x ∷ s) v = inr (and_l (shape n (x ∷ s)) (leb (length (x ∷ s)) 255) v)

-- what is always present has its shape
pub required-shape : (n : ℕ) (s : List ℕ) → required n ≡ true → value n s ≡ true → shape n s ≡ true
unfolding value form
required-shape n [] r v = never (cc (rw r at v))
required-shape n (x ∷ s) r v = and_l (shape n (x ∷ s)) (leb (length (x ∷ s)) 255) v

pub value-short : (n : ℕ) (s : List ℕ) → value n s ≡ true → length s ≤ 255
unfolding value form
value-short n [] v = omega arith
value-short n (x ∷ s) v = leb-true (length (x ∷ s)) 255 (and_r (shape n (x ∷ s)) (leb (length (x ∷ s)) 255) v)

-- what has the form of text
pub value-text : (n : ℕ) (s : List ℕ) → shape n s ≡ some_text s → value n s ≡ true → text s ≡ true
value-text n s is v = elim (value-shape n s v) [ inl e ↦ rw e text-nil | inr e ↦ and_r (not (is_empty s)) (text s) (sym is ∙ e) ]

pub text-value : (n : ℕ) (s : List ℕ) → required n ≡ false → shape n s ≡ some_text s → text s ≡ true → length s ≤ 255 → value n s ≡ true
unfolding value form
text-value n [] r is t l = rw r
text-value n (x ∷ s) r is t l = and_i (is ∙ t) (le-leb (length (x ∷ s)) 255 l)

pub value-usage : (s : List ℕ) → value 5 s ≡ true → s ≡ get_or s 0 0 ∷ []
unfolding shape
value-usage s v = all-opened 0 1 s (eqb-true (length s) 1 (required-shape 5 s refl v))

pub value-media : (s : List ℕ) → value 19 s ≡ true → (if eqb (get_or s 0 0) 0 then [] else get_or s 0 0 ∷ []) ≡ s
unfolding shape
value-media s v = elim (value-shape 19 s v) [
  | inl e ↦ rw e refl
  | inr e ↦
      let l = eqb-true (length s) 1 (and_l (eqb (length s) 1) (not (eqb (get_or s 0 0) 0)) e) in
      rw (not_t (eqb (get_or s 0 0) 0) (and_r (eqb (length s) 1) (not (eqb (get_or s 0 0) 0)) e)) (sym (all-opened 0 1 s l))
]

pub record SetInfo (s : List ℕ) : Type 0 where
  pub parts : parts_of s ≤ 255
  pub low : get_or s 0 0 ≤ 255
  pub ordinal : get_or s 2 0 ≤ get_or s 0 0
  pub whole : set_bytes (get_or s 0 0) (get_or s 2 0) ≡ s

pub value_set : (s : List ℕ) → value 4 s ≡ true → SetInfo s
unfolding shape set_info word
value_set s v =
    let h = simp and-iff at (required-shape 4 s refl v) in
    let l = all-opened 0 4 s (eqb-true (length s) 4 h.0.0.0) in
    let p = leb-true (parts_of s) 255 h.0.0.1 in
    let q = leb-true (ordinal_of s) 255 h.0.1 in
    let o = leb-true (ordinal_of s) (parts_of s) h.1 in
    let b : get_or s 1 0 ≡ 0 = omega arith in
    let d : get_or s 3 0 ≡ 0 = omega arith in
    record {
      parts = p;
      low = omega arith;
      ordinal = omega arith;
      whole = ap₂ (λ (x y : List ℕ). x ++ y) (le16-byte (get_or s 0 0) (omega arith)) (le16-byte (get_or s 2 0) (omega arith))
          ∙ sym (l ∙ ap₂ (λ (x y : ℕ). get_or s 0 0 ∷ x ∷ get_or s 2 0 ∷ y ∷ []) b d);
    }

-- no field holds more than 255 parts or an ordinal above them
pub set-held : (s : List ℕ) → (255 < parts_of s) ⊎ ((255 < ordinal_of s) ⊎ (parts_of s < ordinal_of s)) → set_info s ≡ false
unfolding set_info
set-held s (inl h) = and_left _ _ (and_left _ _ (and_no (eqb (length s) 4) (leb (parts_of s) 255) (lt-leb (parts_of s) 255 h)))
set-held s (inr (inl h)) = and_left _ _ (and_no (eqb (length s) 4 && leb (parts_of s) 255) (leb (ordinal_of s) 255) (lt-leb (ordinal_of s) 255 h))
set-held s (inr (inr h)) = and_no (eqb (length s) 4 && leb (parts_of s) 255 && leb (ordinal_of s) 255) (leb (ordinal_of s) (parts_of s)) (lt-leb (ordinal_of s) (parts_of s) h)

-- so such an element 4 is no value
pub set-no-value : (s : List ℕ) → (255 < parts_of s) ⊎ ((255 < ordinal_of s) ⊎ (parts_of s < ordinal_of s)) → value 4 s ≡ false
unfolding value form shape
set-no-value [] h = refl
set-no-value (x ∷ s) h = and_left (set_info (x ∷ s)) (leb (length (x ∷ s)) 255) (set-held (x ∷ s) h)

pub set_value : (p q : ℕ) → q ≤ p → p ≤ 255 → value 4 (set_bytes p q) ≡ true
unfolding value form shape set_info le16 word
set_value p q h l =
    let x : ℕ = p % 256 + 256 * (p / 256 % 256) in
    let y : ℕ = q % 256 + 256 * (q / 256 % 256) in
    let a : x ≡ p = omega arith in
    let b : y ≡ q = omega arith in
    and_i (and_i (and_i (le-leb x 255 (omega arith)) (le-leb y 255 (omega arith))) (le-leb y x (omega arith))) refl

-- ---- the item: element 1 in the item field or under the marker in block 1, and element 22

module _ (s r : List ℕ) (ts : text s ≡ true) where
  -- what the item field says, and block 1's item
  abbrev said_item : List ℕ
  said_item = if long s then marker else s

  abbrev block_item : List ℕ
  block_item = if long s then s else r

  pub item-content : not (is_empty r) && long s ≡ false
      → ((if marked said_item then block_item else said_item) ≡ s) × ((if marked said_item then [] else block_item) ≡ r)
  unfolding same
  item-content c = go (long s) refl
    where
      go : (l : Bool) → long s ≡ l → ((if marked (if l then marker else s) then (if l then s else r) else (if l then marker else s)) ≡ s)
          × ((if marked (if l then marker else s) then [] else (if l then s else r)) ≡ r)
      go true e = (refl, sym (empty_of r (not_f (is_empty r) (sym (and-true (not (is_empty r))) ∙ rw e at c))))
      go false e = (rw (text-unmarked s ts), rw (text-unmarked s ts))

  pub item-agrees : text r ≡ true → (text block_item ≡ true) × (not (marked said_item && is_empty block_item) ≡ true)
  unfolding same
  item-agrees tr = go (long s) refl
    where
      go : (l : Bool) → long s ≡ l → (text (if l then s else r) ≡ true) × (not (marked (if l then marker else s) && is_empty (if l then s else r)) ≡ true)
      go true e = (ts, rw (not-empty s (λ z. omega (arith, z, leb-true 17 (length s) e))))
      go false e = (tr, rw (text-unmarked s ts))

-- ---- the owner: element 3 or 23

pub value-isil : (s : List ℕ) → value 3 s ≡ true → (s ≡ []) ⊎ (isil s ≡ true)
unfolding shape
value-isil s v = value-shape 3 s v

pub value-alternative : (s : List ℕ) → value 23 s ≡ true → (s ≡ []) ⊎ (alternative s ≡ true)
unfolding shape
value-alternative s v = value-shape 23 s v

-- one of the two is empty; which one stands there is seen from the first byte
module _ (s r : List ℕ) (is : (s ≡ []) ⊎ (isil s ≡ true)) (ir : (r ≡ []) ⊎ (alternative r ≡ true)) (clear : not (is_empty s) && not (is_empty r) ≡ false) where
  abbrev either : List ℕ
  either = if is_empty s then r else s

  pub owner-content : ((if alternate either then [] else either) ≡ s) × ((if alternate either then either else []) ≡ r)
  owner-content = elim is [
    | inl e ↦ elim ir [ inl k ↦ rw (e, k) (refl, refl) | inr k ↦ rw e (rw (alternative-facts r k).kind (refl, refl)) ]
    | inr e ↦
        let f = isil-first s e in
        let n : r ≡ [] = empty_of r (not_f (is_empty r) (rw f.1 at clear)) in
        rw (f.1, n) (rw f.0 (refl, refl))
  ]

  pub owner-either : (either ≡ []) ⊎ (is_owner either ≡ true)
  unfolding is_owner
  owner-either = elim is [
    | inl e ↦ elim ir [ inl k ↦ inl (rw (e, k)) | inr k ↦ inr (rw e (rw (alternative-facts r k).kind k)) ]
    | inr e ↦
        let f = isil-first s e in
        inr (rw f.1 (rw f.0 e))
  ]

-- the owner in block 1, and with what the owner field says
pub record OwnerPlaced (w : ℕ) (o fo : List ℕ) : Type 0 where
  pub good : is_empty fo || is_owner fo ≡ true
  pub solid-all : solid fo ≡ true
  pub agrees : beq (marked (spoken w o)) (not (is_empty fo)) ≡ true
  pub back : (if is_empty fo then spoken w o else fo) ≡ o

pub owner-placed : (w : ℕ) (o : List ℕ) → (o ≡ []) ⊎ (is_owner o ≡ true) → OwnerPlaced w o (if is_empty o || basic_owner w o then [] else o)
unfolding spoken same all
owner-placed w [] e = record { good = refl; solid-all = refl; agrees = refl; back = refl }
owner-placed w (x ∷ s) (inl e) = never (cc)
owner-placed w (x ∷ s) (inr e) = go (basic_owner w (x ∷ s)) refl
  where
    o : List ℕ
    o = x ∷ s

    go : (t : Bool) → basic_owner w o ≡ t → OwnerPlaced w o (if t then [] else o)
    go true h = let f = owner-facts o e in record { good = refl; solid-all = refl; agrees = rw h (rw f.unmarked); back = rw h }
    go false h = record { good = e; solid-all = (owner-facts o e).solid-all; agrees = rw h; back = refl }

-- ---- the usage: the main qualifier in byte 0, the whole byte in block 1 where the sub qualifier is not 0

abbrev block_usage : ℕ → ℕ
block_usage u = if eqb (u % 16) 0 then 0 else u

pub usage-content : (u : ℕ) → (if eqb (block_usage u) 0 then first_byte u / 16 * 16 else block_usage u) ≡ u
usage-content u = go (eqb (u % 16) 0) refl
  where
    go : (t : Bool) → eqb (u % 16) 0 ≡ t → (if eqb (if t then 0 else u) 0 then first_byte u / 16 * 16 else (if t then 0 else u)) ≡ u
    go true e = omega (arith, eqb-true (u % 16) 0 e)
    go false e = rw (ne_eqb u 0 (λ h. eqb-false (u % 16) 0 e (omega arith)))

pub usage-agrees : (u : ℕ) → eqb (block_usage u) 0 || eqb (block_usage u / 16) (first_byte u / 16) ≡ true
usage-agrees u = go (eqb (u % 16) 0)
  where
    go : (t : Bool) → eqb (if t then 0 else u) 0 || eqb ((if t then 0 else u) / 16) (first_byte u / 16) ≡ true
    go true = refl
    go false = or_r (eqb u 0) _ (eq-eqb (u / 16) (first_byte u / 16) (omega arith))
