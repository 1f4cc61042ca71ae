-- What the elements give the layout, as the code finds it: by the row, by their lengths, and by their values.
use Rattle.std.specs.Prelude.{if◌then◌else◌}
use mathlib.Core.Path.{◌≡◌, refl, sym, ap, ap₂, ◌∙◌}
use mathlib.Core.Logic.{inl, inr}
use Prim.Native.Nat.{ℕ, zero, suc, ◌+◌, ◌-◌, ◌%◌, ◌≤◌, ◌<◌}
use native.Mathlib.Nat.{zero-add}
use native.Mathlib.Omega.{arith}
use mathlib.Core.Bool.{Bool, true, false, not, ◌&&◌, ◌||◌}
use mathlib.Core.List.{List, [], ◌∷◌, ◌++◌, map, append_assoc}
use lib.Dec.{eqb, leb}
use lib.ListN.{length, drop, get_or, length-append, get_or-map}
use borrow.Author.Tests.{eqb-false, eq-eqb, ne_eqb, le-leb, lt-leb, leb-true}
use Rattle.format.specs.Bytes.{is_empty, all, le16, part, trim}
use Rattle.format.specs.Fields.{long, item_field, basic_owner, owner_field}
use Rattle.format.specs.Chain.{separated, sealed, block_with, Library, library_fields, library_bytes, block_one}
use Rattle.format.specs.Elements.{places, numbers, place, slot, value, clash}
use Rattle.format.specs.Layout.{owner_width, owner_of, usage_of, library, first_byte, front, basic, laid_out, has_layout}
use Rattle.format.specs.Pieces.{Stored, nowhere}
use Rattle.format.specs.declared.Part.{Part}
use Rattle.format.proofs.Tests.{and_l, and_r, and_i, or-false}
use Rattle.format.proofs.Strings.{nil-of, empty-length, trim-other}
use Rattle.format.proofs.Slots.{values_length, values-at}
use Rattle.format.proofs.Values.{value-short, value-isil, value-alternative, value-usage, value_set, owner-either}
use Rattle.format.proofs.Blocks.{sealed-length}
use Rattle.format.proofs.Layouts.{owner-length, basic-length}
use Rattle.format.proofs.Pieces.{stored-none}
use Rattle.rows.specs.Rows.{slots_at, Stands, Row, none, next}
use Rattle.rows.proofs.Rows.{slots_length, row_at, slot_at, standing-length, lengths-are}
use Rattle.image.specs.Laying.{Lengths, Holds, OwnerOrNone, content, Few, zeros}
use Rattle.image.specs.Drafting.{Draftable, unsealed}
use Rattle.image.proofs.Drafts.{On, drop-zeros, blank-all, start, on-length, put, gap}
use Rattle.image.proofs.Laws.{front_length, own, tail, shape-front, shape_behind}

-- ---- by the lengths

module _ (ss : List (List ℕ)) (row : List Part) (s : Lengths ss row) where
  length_at : (k : ℕ) → length (get_or ss k []) ≡ (get_or row k nowhere).len
  length_at k = sym (get_or-map length ss k []) ∙ ap (λ (l : List ℕ). get_or l k 0) s ∙ get_or-map (λ (p : Part). p.len) row k nowhere

  empty-at : (k : ℕ) → is_empty (get_or ss k []) ≡ eqb (get_or row k nowhere).len 0
  empty-at k = empty-length (get_or ss k []) ∙ ap (λ (n : ℕ). eqb n 0) (length_at k)

  pub clash-lengths : clash ss ≡ (not (eqb (get_or row (place 3) nowhere).len 0) && not (eqb (get_or row (place 23) nowhere).len 0))
      || (not (eqb (get_or row (place 22) nowhere).len 0) && leb 17 (get_or row (place 1) nowhere).len)
  unfolding clash
  clash-lengths = rw (empty-at (place 3), empty-at (place 23), empty-at (place 22), length_at (place 1))

  pub owner-other : (get_or row (place 3) nowhere).len ≡ 0 → slot ss 23 ≡ owner_of ss
  owner-other e = rw (empty-at (place 3), eq-eqb (get_or row (place 3) nowhere).len 0 e)

  pub owner-isil : ((get_or row (place 3) nowhere).len ≡ 0 → ⊥) → slot ss 3 ≡ owner_of ss
  owner-isil n = rw (empty-at (place 3), ne_eqb (get_or row (place 3) nowhere).len 0 n)

  pub item-long : 16 < (get_or row (place 1) nowhere).len → slot ss 1 ≡ (if long (slot ss 1) then slot ss 1 else slot ss 22)
  item-long h = rw (length_at (place 1), le-leb 17 (get_or row (place 1) nowhere).len h)

  pub item-short : (get_or row (place 1) nowhere).len ≤ 16 → slot ss 22 ≡ (if long (slot ss 1) then slot ss 1 else slot ss 22)
  item-short h = rw (length_at (place 1), lt-leb 17 (get_or row (place 1) nowhere).len (omega arith))

-- ---- by the row, and the values

-- the element at place k of a row
pub held-at : {src made : List ℕ} {row : List Part} → Row src made row → (k : ℕ) → k < length row → {x : List ℕ} → get_or (slots_at (src ++ made) row) k [] ≡ x
    → Holds src made (get_or row k nowhere) x
held-at {src} {made} {row} r k h e = record { stands = row_at src made row r k nowhere h; is = sym (slot_at (src ++ made) row k nowhere h) ∙ e }

pub held-length : {src made : List ℕ} {p : Part} {x : List ℕ} → Holds src made p x → length x ≡ p.len
held-length {src} {made} {p} h = ap length (sym h.is) ∙ standing-length src made p h.stands

-- what holds of both holds of either
either : (P : List ℕ → Type 0) (t : Bool) (x y : List ℕ) → P x → P y → P (if t then x else y)
either P true x y p q = p
either P false x y p q = q

-- these are block 1's fields
pub record Fielded (src made : List ℕ) (fields : List Part) (f : Library) : Type 0 where
  pub row : Row src made fields
  pub few : Few fields
  pub are : slots_at (src ++ made) fields ≡ library_fields f

at_most : (t : Bool) (n : ℕ) → (if t then 0 else n) ≤ n
at_most true n = omega arith
at_most false n = omega arith

-- the part p, or nothing of it
shorter : (src made : List ℕ) (p : Part) → Stands src made p → (n : ℕ) → n ≤ p.len → Stands src made (record p { len = n })
shorter src made p s n h = elim s [ inl e ↦ inl (omega (arith, e, h)) | inr e ↦ inr (e.0, omega (arith, e.1, h)) ]

module _ {src made : List ℕ} {row : List Part} {d : List ℕ} (p : Draftable src made row d) where
  abbrev pub ss : List (List ℕ)
  ss = slots_at (src ++ made) row

  pub sized : Lengths ss row
  sized = lengths-are src made row p.row

  each : length row ≡ places
  each = sym (slots_length (src ++ made) row) ∙ values_length numbers ss p.values

  -- the element at each place
  pub element : (k : ℕ) → k < places → Holds src made (get_or row k nowhere) (get_or ss k [])
  element k h = held-at p.row k (omega (arith, each)) refl

  value-at : (k : ℕ) → k < places → value (get_or numbers k 0) (get_or ss k []) ≡ true
  value-at k h = values-at numbers ss p.values k h

  pub set-four : length (slot ss 4) ≡ 4
  unfolding le16
  set-four = sym (ap length (value_set (slot ss 4) (value-at (place 4) (omega arith))).whole)

  pub usage-one : length (slot ss 5) ≡ 1
  usage-one = ap length (value-usage (slot ss 5) (value-at (place 5) (omega arith)))

  module _ (clear : clash ss ≡ false) where
    pub owner-good : OwnerOrNone (owner_of ss)
    unfolding clash
    owner-good =
        let isil : List ℕ = slot ss 3 in
        let other : List ℕ = slot ss 23 in
        let v3 = value-at (place 3) (omega arith) in
        let v23 = value-at (place 23) (omega arith) in
        record {
          kind = owner-either isil other (value-isil isil v3) (value-alternative other v23) (or-false _ _ clear).0;
          short = either (λ s. length s ≤ 255) (is_empty isil) other isil (value-short 23 other v23) (value-short 3 isil v3);
        }

  short-slot : (n : ℕ) → place n < places → get_or numbers (place n) 0 ≡ n → length (slot ss n) ≤ 255
  short-slot n h e = value-short n (slot ss n) (rw e at (value-at (place n) h))

  -- block 1's fields, as the code finds them: the item, the owner's length if it belongs there, the usage byte's
  module _ (n : ℕ) (item name : Part) (behind code : ℕ) (ei : Holds src made item (library n ss).item) (en : Holds src made name (owner_of ss))
      (eb : behind ≡ (if is_empty (owner_of ss) || basic_owner (owner_width n) (owner_of ss) then 0 else length (owner_of ss))) (ec : code ≡ (if eqb (usage_of ss % 16) 0 then 0 else 1)) where
    abbrev usage : Part
    usage = get_or row (place 5) nowhere

    abbrev fields : List Part
    fields = item ∷ record name { len = behind } ∷ record usage { len = code } ∷ []

    usage-held : Holds src made usage (slot ss 5)
    usage-held = element (place 5) (omega arith)

    owner-some : behind ≤ name.len
    owner-some = omega (arith, eb, held-length en, at_most (is_empty (owner_of ss) || basic_owner (owner_width n) (owner_of ss)) (length (owner_of ss)))

    usage-some : code ≤ 1
    usage-some = omega (arith, ec, at_most (eqb (usage_of ss % 16) 0) 1)

    fields-row : Row src made fields
    fields-row = next ei.stands (next (shorter src made name en.stands behind owner-some) (next (shorter src made usage usage-held.stands code (omega (arith, usage-some, held-length usage-held, usage-one))) none))

    fields-few : (length (owner_of ss) ≤ 255) → Few fields
    unfolding all library
    fields-few o = record {
      count = omega arith;
      short = and_i (le-leb item.len 255 (omega (arith, held-length ei, either (λ s. length s ≤ 255) (long (slot ss 1)) (slot ss 1) (slot ss 22) (short-slot 1 (omega arith) refl) (short-slot 22 (omega arith) refl))))
          (and_i (le-leb behind 255 (omega (arith, owner-some, held-length en, o))) (and_i (le-leb code 255 (omega (arith, usage-some))) refl));
    }

    owner-field : part name.at behind (src ++ made) ≡ (library n ss).owner
    unfolding library
    owner-field = go (is_empty (owner_of ss) || basic_owner (owner_width n) (owner_of ss)) eb
      where
        go : (t : Bool) → behind ≡ (if t then 0 else length (owner_of ss)) → part name.at behind (src ++ made) ≡ (if t then [] else owner_of ss)
        go true e = rw e
        go false e = rw (e ∙ held-length en) en.is

    usage-field : part usage.at code (src ++ made) ≡ trim (library n ss).usage []
    unfolding library trim
    usage-field = go (eqb (usage_of ss % 16) 0) refl ec
      where
        go : (t : Bool) → eqb (usage_of ss % 16) 0 ≡ t → code ≡ (if t then 0 else 1) → part usage.at code (src ++ made) ≡ trim (if t then 0 else usage_of ss) []
        go true z e = rw e
        go false z e =
            let some : usage_of ss ≡ 0 → ⊥ = λ h. eqb-false (usage_of ss % 16) 0 z (rw h) in
            rw (e ∙ sym usage-one ∙ held-length usage-held) (usage-held.is ∙ value-usage (slot ss 5) (value-at (place 5) (omega arith))) ∙ sym (trim-other (usage_of ss) [] some)

    pub fields-found : (length (owner_of ss) ≤ 255) → Fielded src made fields (library n ss)
    unfolding slots_at
    fields-found o = record { row = fields-row; few = fields-few o; are = rw (ei.is, owner-field, usage-field) }

-- ---- block 1

-- it holds an owner where the basic forms do not
pub behind-told : (w : ℕ) (o : List ℕ) (behind : ℕ) → behind ≡ (if is_empty o || basic_owner w o then 0 else length o) → not (eqb behind 0) ≡ not (is_empty o || basic_owner w o)
behind-told w o behind e = ap (λ (k : ℕ). not (eqb k 0)) e ∙ ap not (go (basic_owner w o) o)
  where
    go : (t : Bool) (s : List ℕ) → eqb (if is_empty s || t then 0 else length s) 0 ≡ is_empty s || t
    go t [] = refl
    go true (x ∷ s) = refl
    go false (x ∷ s) = ne_eqb (suc (length s)) 0 (λ z. omega arith)

-- with a byte before its fields, if it has anything
block-some : (m : ℕ) (r : List ℕ) → (length (block_with 1 (trim m r)) ≡ 0 → ⊥) → (block_with 1 (trim m r) ≡ sealed 1 (m ∷ r)) × (length (block_with 1 (trim m r)) ≡ 5 + length r)
unfolding block_with trim
block-some zero [] n = absurd (n refl)
block-some zero (y ∷ r) n = (refl, sealed-length 1 (zero ∷ y ∷ r) ∙ omega arith)
block-some (suc m) r n = (refl, sealed-length 1 (suc m ∷ r) ∙ omega arith)

-- its size, by the code, and its bytes
module _ {src made : List ℕ} {fields : List Part} {f : Library} (h : Fielded src made fields f) (media size : ℕ) (em : media ≡ f.media)
    (es : (fs : List (List ℕ)) → Lengths fs fields → size ≡ length (block_with 1 (trim media (separated fs)))) where
  pub size_is : size ≡ length (block_one f)
  unfolding library_bytes
  size_is = es (library_fields f) (ap (map length) (sym h.are) ∙ lengths-are src made fields h.row) ∙ rw em

  module _ (some : size ≡ 0 → ⊥) where
    filled : (block_one f ≡ sealed 1 (f.media ∷ separated (library_fields f))) × (length (block_one f) ≡ 5 + length (separated (library_fields f)))
    unfolding library_bytes
    filled = block-some f.media (separated (library_fields f)) (λ z. some (size_is ∙ z))

    pub block-is : sealed 1 (media ∷ content src made fields) ≡ block_one f
    block-is = rw (em, h.are) (sym filled.0)

    pub content-long : size ≡ 5 + length (content src made fields)
    content-long = rw h.are (size_is ∙ filled.1)

-- ---- room

module _ (n : ℕ) (ss : List (List ℕ)) (blocks : List ℕ) (least : 32 ≤ n) where
  abbrev one : ℕ
  one = length (block_one (library n ss))

  pub laid-size : length (laid_out n ss blocks) ≡ 21 + owner_width n + one + length blocks
  unfolding laid_out
  laid-size =
      let f = basic-length n (record { slots = ss; carried = [] }) (omega arith) in
      omega (arith, length-append (basic n ss) (block_one (library n ss) ++ blocks), length-append (block_one (library n ss)) blocks)

  pub room-is : (size : ℕ) → size ≡ one → leb size 255 && leb (21 + owner_width n + size + length blocks) n ≡ has_layout n ss blocks
  unfolding has_layout
  room-is size e = rw (e, laid-size)

  pub room-told : has_layout n ss blocks ≡ true → (one ≤ 255) × (21 + owner_width n + one + length blocks ≤ n)
  room-told e =
      let f = room-is one refl ∙ e in
      (leb-true one 255 (and_l (leb one 255) _ f), leb-true _ n (and_r (leb one 255) (leb (21 + owner_width n + one + length blocks) n) f))

-- ---- the layout piece by piece: the front, the owner field behind the CRC's place, block 1 and the carried blocks

-- d₀ is 00, and the layout has room on it
pub record Ready (ss : List (List ℕ)) (blocks d₀ : List ℕ) : Type 0 where
  pub least : 32 ≤ length d₀
  pub blank : d₀ ≡ zeros (length d₀)
  pub fit : has_layout (length d₀) ss blocks ≡ true

module _ {ss : List (List ℕ)} {blocks d₀ : List ℕ} (p : Ready ss blocks d₀) where
  abbrev n : ℕ
  n = length d₀

  abbrev pub headed : List ℕ
  headed = front ss ++ (0 ∷ 0 ∷ [])

  abbrev pub owned : List ℕ
  owned = headed ++ owner_field (owner_width n) (owner_of ss)

  abbrev pub blocked : List ℕ
  blocked = owned ++ block_one (library n ss)

  pub first : (item info d₁ : List ℕ) (usage : ℕ) → item ≡ slot ss 1 → info ≡ slot ss 4 → usage ≡ get_or (slot ss 5) 0 0
      → Stored d₀ 0 (first_byte usage ∷ get_or info 0 0 ∷ get_or info 2 0 ∷ item_field item) 19 d₁ → On 0 d₀ headed 21 d₁
  unfolding front
  first item info d₁ usage ei es eu e =
      let l = p.least in
      gap (put (start 0 d₀ (omega arith) (blank-all d₀ p.blank)) (front ss) d₁ 19 (omega arith) (rw (ei, es, eu) at e)) 2 (omega arith)

  module _ (at : ℕ) (is : at ≡ 21 + owner_width n) where
    pub second : (owner d₁ d₂ : List ℕ) → owner ≡ owner_of ss → On 0 d₀ headed 21 d₁
        → Stored d₁ 21 (owner_field (owner_width (length d₁)) owner) (21 + owner_width (length d₁)) d₂ → On 0 d₀ owned at d₂
    second owner d₁ d₂ eo x e =
        let l = p.least in
        let f : Stored d₁ 21 (owner_field (owner_width n) (owner_of ss)) (21 + owner_width n) d₂ = rw (on-length x, eo) at e in
        put x (owner_field (owner_width n) (owner_of ss)) d₂ at (omega arith) (is ∙ f.0, f.1)

    module _ (size : ℕ) (long : size ≡ length (block_one (library n ss))) (d₂ : List ℕ) (x : On 0 d₀ owned at d₂) where
      pub third : (d₃ : List ℕ) → Stored d₂ at (block_one (library n ss)) (at + size) d₃ → On 0 d₀ blocked (at + size) d₃
      third d₃ e = put x (block_one (library n ss)) d₃ (at + size) (omega (arith, (room-told n ss blocks p.least p.fit).1)) e

      pub no_third : size ≡ 0 → On 0 d₀ blocked (at + size) d₂
      no_third z =
          let e : at + size ≡ at = omega arith in
          third d₂ (rw (e, nil-of (block_one (library n ss)) (sym long ∙ z)) (stored-none d₂ at))

  module _ (m : ℕ) (d₃ : List ℕ) (x : On 0 d₀ blocked m d₃) where
    abbrev laid : List ℕ
    laid = blocked ++ blocks

    laid-long : length laid ≡ length (laid_out n ss blocks)
    laid-long =
        let l = p.least in
        let o = owner-length (owner_width n) (owner_of ss) (omega arith) in
        simp length-append (omega (arith, front_length ss, laid-size n ss blocks p.least))

    pub last_fits : m + length blocks ≤ n
    last_fits = omega (arith, x.is.0, laid-long, length-append blocked blocks, laid-size n ss blocks p.least, (room-told n ss blocks p.least p.fit).1)

    pub last : (d₄ : List ℕ) (r : ℕ) → Stored d₃ m blocks r d₄ → d₄ ≡ unsealed n ss blocks
    unfolding unsealed
    last d₄ r e =
        let y = put x blocks d₄ r (omega (arith, e.0, last_fits)) e in
        let z : drop (0 + length laid) d₀ ≡ zeros (n - length (laid_out n ss blocks)) =
        ap (drop (0 + length laid)) p.blank ∙ drop-zeros (0 + length laid) n ∙ ap (λ (k : ℕ). zeros (n - k)) (zero-add (length laid) ∙ laid-long) in
        let s : laid ++ zeros (n - length (laid_out n ss blocks)) ≡ front ss ++ (0 ∷ 0 ∷ (own n ss blocks ++ tail n ss blocks)) = simp append_assoc in
        y.is.1 ∙ ap (λ (w : List ℕ). laid ++ w) z ∙ s ∙ sym (ap₂ (λ (u v : List ℕ). u ++ (0 ∷ 0 ∷ v)) (shape-front n ss blocks) (shape_behind n ss blocks))
