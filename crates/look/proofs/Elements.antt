-- The elements of a readable tag, each at its place of the row.
use Rattle.std.specs.Prelude.{if◌then◌else◌}
use mathlib.Core.Path.{◌≡◌, refl, sym, ap, ap₂, ◌∙◌}
use Prim.Native.Nat.{ℕ, ◌+◌, ◌≤◌}
use native.Mathlib.Nat.{add-zero, add_assoc}
use native.Mathlib.Omega.{arith}
use mathlib.Core.Bool.{Bool, true, false}
use mathlib.Core.List.{List, [], ◌∷◌, ◌++◌}
use lib.ListN.{length, take, drop, get_or, length-take, length-drop, length-append, get_or-append}
use lib.Seq.{take_at, get_or-take, get_or-drop}
use lib.Dec.{eqb}
use borrow.Author.Tests.{eqb-false}
use Rattle.format.specs.declared.Part.{Part}
use Rattle.format.specs.Bytes.{is_empty, part, bytes, filled}
use Rattle.format.specs.Pieces.{from, nowhere, Held}
use Rattle.format.specs.Fields.{hyphen, alternate, owner_said}
use Rattle.format.specs.Chain.{block_of}
use Rattle.format.specs.Elements.{set_bytes}
use Rattle.format.specs.Reading.{item_in, owner_in, blocks_in, library_on, agree, owner_on, content_in}
use Rattle.format.proofs.Tests.{never, bytes-at, beq-false}
use Rattle.format.proofs.Strings.{le16-byte, empty-length}
use Rattle.format.proofs.Sound.{agree-owner}
use Rattle.fields.specs.declared.Item.{Item}
use Rattle.fields.specs.declared.Item.TheVariants as item
use Rattle.fields.specs.declared.Owner.{Owner}
use Rattle.fields.specs.declared.Owner.TheVariants as owner
use Rattle.fields.specs.declared.LibraryParts.{LibraryParts}
use Rattle.fields.specs.Forms.{item_marked, owner_marked}
use Rattle.fields.proofs.Places.{Within, within-length, ItemAt, IsilAt, OwnerAt}
use Rattle.look.specs.Row.{item_by, alternative_item_by, isil_made, isil_said, isil_bytes, isil_behind, isil_by, alternative_length, alternative_owner_by, media_length, usage_by, row_by, front_made, made_by, IsilLies, FieldLies, OwnerLies, RowLies}
use Rattle.look.specs.declared.judge.Fields.{Fields}
use Rattle.look.specs.Looking.{Sized, FieldsOf}
use Rattle.look.proofs.Standing.{part-part, held-length, Lies, lies-as, in-made, no_bytes, in-part, Holds, done, more}
use Rattle.look.proofs.Steps.{item_of, owner_of_lem, library-of}

module _ (t : List ℕ) (block : Part) (h : Held t block (block_of 1 (blocks_in t))) (f : Fields) (g : FieldsOf t f) (sized : Sized t) where
  abbrev o : Owner
  o = f.owner

  abbrev l : LibraryParts
  l = f.library

  -- what the owner field says
  abbrev said : List ℕ
  said = owner_said (owner_in t)

  field : FieldLies t o
  field =
      let long = length-take 13 (drop 21 t) in
      let rest = length-drop 21 t in
      record { isil = λ p u e. let w : IsilAt (part 21 13 t) p u said = rw e at (owner_of_lem g).here in record { some = w.prefix-some; short = w.prefix-few; fits = w.unit-few; inside = omega arith } }

  pub row_lies : RowLies t block.at f
  row_lies =
      let b = held-length h in
      let lies : OwnerLies t (block.at + 6 + l.item) o l = record { size = sized.most; field = field; block = λ s. omega (arith, (library-of g).owner.inside) } in
      record { least = sized.least; begins = omega arith; item = omega (arith, (library-of g).item.inside); owner = lies }

  -- the lengths of an ISIL's sides
  isil-made-length : (p u : ℕ) → IsilLies t p u → length (isil_made t p u) ≡ p + 1 + u
  unfolding isil_made
  isil-made-length p u w =
      omega (arith, length-append (part 21 p t) (hyphen ∷ part 23 u t), length-take p (drop 21 t), length-drop 21 t, length-take u (drop 23 t), length-drop 23 t, w.short, w.inside)

  isil-length : length (isil_bytes t o l) ≤ 14
  isil-length = go (eqb l.owner 0) o refl
    where
      go : (x : Bool) (q : Owner) → o ≡ q → length (if x then isil_said t q else []) ≤ 14
      go false q e = omega arith
      go true owner.Nothing e = omega arith
      go true owner.Marker e = omega arith
      go true (owner.Isil p u) e = let w = field.isil p u e in omega (arith, isil-made-length p u w, w.short, w.fits)
      go true (owner.Alternative n) e = omega arith

  -- m is what was made: set information, usage and an ISIL at the front of a buffer of 19 bytes
  module _ (made : List ℕ) (long : length made ≡ 19) (agreed : agree t ≡ true) where
    abbrev m : List ℕ
    m = filled (made_by t o l) made

    pub made-length : length m ≡ 19
    unfolding made_by
    made-length =
        let s : List ℕ = front_made t l ++ isil_bytes t o l in
        omega (arith, isil-length, length-append s (drop (length s) made), length-drop (length s) made)

    -- n bytes from byte k of block 1
    in_block : (k n : ℕ) (s : List ℕ) → Within (block_of 1 (blocks_in t)) k n s → (n ≡ 0 → k ≤ 19) → Lies t m (from (block.at + k) n) s
    in_block k n s w z = in-part t m block.at block.len (omega (arith, h.inside)) k n s (rw h.is w) (λ e. omega (arith, z e, made-length))

    item-block : Lies t m (from (block.at + 5) l.item) (library_on t).item
    item-block = in_block 5 l.item (library_on t).item (library-of g).item (λ e. omega arith)

    none : Lies t m nowhere []
    none = no_bytes t m 0 (omega arith)

    -- both items
    abbrev ItemsLaid : Item → Type 0
    ItemsLaid i =
        Lies t m (item_by block.at i l) (if item_marked i then (library_on t).item else item_in t)
        × Lies t m (alternative_item_by block.at i l) (if item_marked i then [] else (library_on t).item)

    items-laid : (i : Item) → ItemAt (part 3 16 t) i → ItemsLaid i
    items-laid item.Marker w = (item-block, none)
    items-laid (item.Text n) w = (in-part t m 3 16 (omega (arith, sized.least)) 0 n (item_in t) w (λ z. omega arith), item-block)

    set-lies : bytes t ≡ true → Lies t m (from (length t) 4) (set_bytes (get_or t 1 0) (get_or t 2 0))
    unfolding made_by
    set-lies y =
        rw (le16-byte (get_or t 1 0) (bytes-at 1 t y), le16-byte (get_or t 2 0) (bytes-at 2 t y), ← add-zero (length t))
        (in-made t m 0 4 (omega (arith, made-length)))

    usage-lies : Lies t m (from (length t + 4) 1) (usage_by t l ∷ [])
    unfolding made_by
    usage-lies = in-made t m 4 1 (omega (arith, made-length))

    -- ---- the owner, which stands in block 1 from byte `at` on if it has one

    abbrev at : ℕ
    at = block.at + 6 + l.item

    owner-empty : is_empty (library_on t).owner ≡ eqb l.owner 0
    owner-empty = empty-length (library_on t).owner ∙ ap (λ (n : ℕ). eqb n 0) (within-length (library-of g).owner)

    -- both elements of the owner s, an ISIL at the part p or another at q
    abbrev OwnerLaid : Part → Part → List ℕ → Type 0
    OwnerLaid p q s = Lies t m p (if alternate s then [] else s) × Lies t m q (if alternate s then s else [])

    module _ (some : eqb l.owner 0 ≡ false) where
      block-owner : Lies t m (from at l.owner) (library_on t).owner
      block-owner = rw add_assoc (in_block (6 + l.item) l.owner (library_on t).owner (library-of g).owner (λ e. absurd (eqb-false l.owner 0 some e)))

      -- its first byte tells its kind
      kind : alternate (library_on t).owner ≡ alternate (get_or t at 0 ∷ [])
      kind =
          let n : 1 ≤ l.owner = omega (arith, eqb-false l.owner 0 some) in
          let first : get_or (library_on t).owner 0 0 ≡ get_or t at 0 =
          ap (λ (s : List ℕ). get_or s 0 0) (sym block-owner.is) ∙ get_or-take l.owner (drop at (t ++ m)) 0 0 n ∙ get_or-drop at (t ++ m) 0 0
          ∙ ap (λ (k : ℕ). get_or (t ++ m) k 0) (add-zero at) ∙ get_or-append t m 0 at (omega (arith, row_lies.owner.block (eqb-false l.owner 0 some))) in
          ap (λ (b : ℕ). alternate (b ∷ [])) first

      in-block-one : let y : Bool = alternate (get_or t at 0 ∷ []) in OwnerLaid (if y then nowhere else from at l.owner) (if y then from at l.owner else nowhere) (library_on t).owner
      in-block-one = rw kind (go (alternate (get_or t at 0 ∷ [])))
        where
          go : (y : Bool) → Lies t m (if y then nowhere else from at l.owner) (if y then [] else (library_on t).owner)
              × Lies t m (if y then from at l.owner else nowhere) (if y then (library_on t).owner else [])
          go true = (none, block-owner)
          go false = (block-owner, none)

    module _ (no : eqb l.owner 0 ≡ true) where
      unmarked : owner_marked o ≡ false
      unmarked = sym (owner_of_lem g).marks ∙ beq-false _ (rw (owner-empty ∙ no) at (agree-owner t agreed))

      -- its ISIL was made
      isil-lies : (p u : ℕ) → o ≡ owner.Isil p u → Lies t m (from (length t + 5) (p + 1 + u)) (isil_made t p u)
      unfolding made_by
      isil-lies p u e =
          let s : List ℕ = isil_made t p u in
          let w = field.isil p u e in
          let r : isil_bytes t o l ≡ s = rw (no, e) in
          lies-as (in-made t m 5 (p + 1 + u) (omega (arith, made-length, w.short, w.fits)))
          (ap (λ (x : List ℕ). take (p + 1 + u) (x ++ drop (length (made_by t o l)) made)) r ∙ take_at s _ _ (isil-made-length p u w))

      -- an ISIL of the field is what was made
      isil-is : (p u : ℕ) → IsilAt (part 21 13 t) p u said → isil_made t p u ≡ said
      unfolding isil_made
      isil-is p u w =
          ap₂ (λ (x y : List ℕ). x ++ hyphen ∷ y) (sym (part-part 0 p 21 13 t (omega (arith, w.prefix-few)))) (sym (part-part 2 u 21 13 t (omega (arith, w.unit-few)))) ∙ w.is

      no-other : Lies t m (from 23 0) []
      no-other = no_bytes t m 23 (omega (arith, sized.least))

      in-owner-field : (q : Owner) → o ≡ q → owner_marked q ≡ false → OwnerAt (part 21 13 t) q said → OwnerLaid (isil_behind t q) (from 23 (alternative_length q)) said
      in-owner-field owner.Nothing e u w = rw w (none, no-other)
      in-owner-field owner.Marker e u w = never (cc)
      in-owner-field (owner.Isil p u) e v w = rw w.kind (lies-as (isil-lies p u e) (isil-is p u w), no-other)
      in-owner-field (owner.Alternative n) e u w = rw w.kind (none, in-part t m 21 13 (omega (arith, sized.least)) 2 n _ w.here (λ z. omega (arith, made-length)))

    owner-laid : OwnerLaid (isil_by t at o l) (alternative_owner_by t at o l) (owner_on t)
    unfolding owner_on
    owner-laid = rw owner-empty (go (eqb l.owner 0) refl)
      where
        go : (x : Bool) → eqb l.owner 0 ≡ x
            → let y : Bool = alternate (get_or t at 0 ∷ []) in
            OwnerLaid (if x then isil_behind t o else if y then nowhere else from at l.owner) (if x then from 23 (alternative_length o) else if y then from at l.owner else nowhere)
            (if x then said else (library_on t).owner)
        go true e = in-owner-field e o refl (unmarked e) (owner_of_lem g).here
        go false e = in-block-one e

    pub elements_lie : bytes t ≡ true → Holds t m (row_by t block.at f) (content_in t).slots
    unfolding row_by content_in
    elements_lie y =
        let i = items-laid f.item (item_of g).here in
        rw ((item_of g).marks, (library-of g).usage)
        (more i.0
        (more owner-laid.0
        (more (set-lies y)
        (more usage-lies
        (more (in_block 4 (media_length l.media) _ (library-of g).media (λ e. omega arith))
        (more i.1
        (more owner-laid.1 done)))))))
