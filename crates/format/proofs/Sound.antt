-- Whatever a readable tag holds is sound: a value for each number, blocks that can be carried, no clash.
use Rattle.std.specs.Prelude.{if◌then◌else◌}
use mathlib.Core.Path.{◌≡◌, refl, sym, ap, ◌∙◌}
use mathlib.Core.Logic.{◌⊎◌, inl, inr}
use Prim.Native.Nat.{ℕ, zero, suc, ◌≤◌}
use native.Mathlib.Omega.{arith}
use mathlib.Core.Bool.{Bool, true, false, not, ◌&&◌, ◌||◌, beq}
use mathlib.Core.List.{List, [], ◌∷◌, ◌++◌}
use lib.Dec.{eqb, leb}
use lib.ListN.{length, take, drop, get_or, length-take, length-drop, length-append}
use borrow.Author.Tests.{ne_eqb, leb-true, le-leb, lt-leb}
use Rattle.format.specs.Answers.{got}
use Rattle.format.specs.Bytes.{is_empty, all, bytes, same, part, strip, past}
use Rattle.format.specs.Text.{text}
use Rattle.format.specs.Fields.{capital, isil_of, isil, hyphen, blank, alternate, alternative, is_owner, marker, marked, good_item, prefix_in, owner_said, good_owner, long}
use Rattle.format.specs.Chain.{id_of, well_formed, taken_apart, carriable, block_of, other_blocks, payload, fields_in, last_field, library_in, good_library}
use Rattle.format.specs.Elements.{shape, form, value, clash, values_at, sound}
use Rattle.format.specs.Damage.{block_at}
use Rattle.format.specs.Reading.{item_in, owner_in, blocks_in, library_on, good_fields, agree, owner_on, content_in, Readable}
use Rattle.format.proofs.Tests.{never, and_l, and_r, and_i, and_no, or-f, or-inv, if-inv, bytes-at}
use Rattle.format.proofs.Strings.{part_length, strip-length, up-to-length, past-length, other, without, up-to-before, past-before}
use Rattle.format.proofs.Fields.{capital-ge, isil-facts, isil-first, alternative-facts, said-cases}
use Rattle.format.proofs.Chains.{chain_from, walked_from, Ahead, by-places}
use Rattle.format.proofs.Slots.{parts-sound}
use Rattle.format.proofs.Values.{text-value, set_value}

-- ---- the owner field

pub capitals-unhyphened : (p : List ℕ) → all capital p ≡ true → without hyphen p ≡ true
unfolding all
capitals-unhyphened [] e = refl
capitals-unhyphened (x ∷ p) e =
    let h : other hyphen x ≡ true = rw (ne_eqb x hyphen (omega (arith, capital-ge x (and_l (capital x) (all capital p) e)))) in
    and_i h (capitals-unhyphened p (and_r (capital x) (all capital p) e))

-- two sides and a hyphen between them make an ISIL
pub isil-made : (p u : List ℕ) → isil_of p u ≡ true → isil (p ++ hyphen ∷ u) ≡ true
unfolding isil
isil-made p u e =
    let w = capitals-unhyphened p (isil-facts p u e).capitals in
    rw (up-to-before hyphen p u w, past-before hyphen p u w) e

-- nothing, the marker, or an owner
abbrev Said : List ℕ → Type 0
Said o = (o ≡ []) ⊎ ((o ≡ marker) ⊎ (is_owner o ≡ true))

pub prefix-length : (t : List ℕ) → length (prefix_in t) ≤ 2
unfolding prefix_in
prefix-length t = go (eqb (get_or t 1 0) blank)
  where
    go : (x : Bool) → length (if x then take 1 t else take 2 t) ≤ 2
    go true = omega (arith, length-take 1 t)
    go false = omega (arith, length-take 2 t)

said-length : (t : List ℕ) → length t ≤ 13 → length (owner_said t) ≤ 16
unfolding owner_said
said-length t h = go (leb (get_or t 2 0) 3)
  where
    go : (x : Bool) → length (if x then drop 2 t else prefix_in t ++ (hyphen ∷ drop 2 t)) ≤ 16
    go true = omega (arith, length-drop 2 t)
    go false = omega (arith, length-append (prefix_in t) (hyphen ∷ drop 2 t), length-drop 2 t, prefix-length t)

alternative-is : (o : List ℕ) → alternative o ≡ true → is_owner o ≡ true
unfolding is_owner
alternative-is o e = rw (alternative-facts o e).kind e

isil-is : (o : List ℕ) → isil o ≡ true → is_owner o ≡ true
unfolding is_owner
isil-is o e = rw (isil-first o e).0 e

owner-said : (t : List ℕ) → good_owner t ≡ true → Said (owner_said t)
owner-said t e = elim (said-cases t e) [
  | inl q ↦ inl q
  | inr (inl q) ↦ inr (inl q)
  | inr (inr (inl q)) ↦ inr (inr (rw q.0 (alternative-is (drop 2 t) q.1)))
  | inr (inr (inr q)) ↦ inr (inr (rw q.0 (isil-is (prefix_in t ++ (hyphen ∷ drop 2 t)) (isil-made (prefix_in t) (drop 2 t) q.1))))
]

-- ---- the blocks

-- a block as a walk hands it out
abbrev pub handed : List ℕ → Bool
handed b = well_formed b && leb (length b) 255

chain-handed : (t : List ℕ) (at : ℕ) (seen : List ℕ) (bs : List (List ℕ)) → bytes t ≡ true → chain_from at seen (drop at t) ≡ got bs → all handed bs ≡ true
unfolding all
chain-handed t at seen bs y w = by-places t (λ (k : ℕ) (s : List ℕ) (cs : List (List ℕ)). all handed cs ≡ true) (λ k s e. refl) (λ k s cs e h. h) one (length t) at seen bs (omega arith) w
  where
    one : (k : ℕ) (s : List ℕ) (cs : List (List ℕ)) (a : Ahead t k s cs) → all handed a.rest ≡ true → all handed cs ≡ true
    one k s cs a h = rw a.first (and_i (and_i a.well (le-leb (length (block_at t k)) 255 (omega (arith, a.there.size, bytes-at k t y)))) h)

pub block-short : (id : ℕ) (bs : List (List ℕ)) → all handed bs ≡ true → length (block_of id bs) ≤ 255
unfolding all block_of
block-short id [] e = omega arith
block-short id (b ∷ bs) e = go (eqb (id_of b) id) (block-short id bs (and_r (handed b) (all handed bs) e))
  where
    go : (t : Bool) → length (block_of id bs) ≤ 255 → length (if t then b else block_of id bs) ≤ 255
    go true ih = leb-true (length b) 255 (and_r (well_formed b) (leb (length b) 255) (and_l (handed b) (all handed bs) e))
    go false ih = ih

others-formed : (bs : List (List ℕ)) → all handed bs ≡ true → all (form 255) (other_blocks bs) ≡ true
unfolding all other_blocks carriable form shape
others-formed [] e = refl
others-formed (b ∷ bs) e = go (taken_apart b) refl (others-formed bs (and_r (handed b) (all handed bs) e))
  where
    go : (t : Bool) → taken_apart b ≡ t → all (form 255) (other_blocks bs) ≡ true → all (form 255) (if t then other_blocks bs else b ∷ other_blocks bs) ≡ true
    go true q ih = ih
    go false q ih =
        let w = and_l (handed b) (all handed bs) e in
        and_i (and_i (and_i (and_l (well_formed b) (leb (length b) 255) w) (ap not q)) (and_r (well_formed b) (leb (length b) 255) w)) ih

-- ---- the fields of a block are no longer than the block

field-length : (n k : ℕ) (s : List ℕ) → length (get_or (fields_in n s) k []) ≤ length s
unfolding fields_in
field-length zero k s = omega arith
field-length (suc n) zero s = up-to-length 0 s
field-length (suc n) (suc k) s = omega (arith, field-length n k (past 0 s), past-length 0 s)

pub library-lengths : (b : List ℕ) → (length (library_in b).item ≤ length b) × (length (library_in b).owner ≤ length b)
unfolding library_in payload
library-lengths b =
    let p : List ℕ = strip (drop 4 b) in
    let short : length (drop 1 p) ≤ length b = omega (arith, length-drop 1 p, strip-length (drop 4 b), length-drop 4 b) in
    (omega (arith, field-length 2 0 (drop 1 p)), omega (arith, field-length 2 1 (drop 1 p)))

pub library-tests : (b : List ℕ) → good_library b ≡ true
    → (length (last_field b) ≤ 1) × (text (library_in b).item ≡ true) × (is_empty (library_in b).owner || is_owner (library_in b).owner ≡ true)
unfolding good_library
library-tests b e =
    let x : Bool = leb (length (last_field b)) 1 in
    let y : Bool = text (library_in b).item in
    let xy = and_l (x && y) _ e in
    (leb-true (length (last_field b)) 1 (and_l x y xy), and_r x y xy, and_r (x && y) _ e)

-- ---- the values

usage-value : (u : ℕ) → value 5 (u ∷ []) ≡ true
unfolding value form shape
usage-value u = refl

media-value : (m : ℕ) → value 19 (if eqb m 0 then [] else m ∷ []) ≡ true
unfolding value form shape
media-value m = go (eqb m 0) refl
  where
    go : (t : Bool) → eqb m 0 ≡ t → value 19 (if t then [] else m ∷ []) ≡ true
    go true q = refl
    go false q = and_i (ap not q) refl

-- an owner, or none, is one of the two
owner-values : (o : List ℕ) → (o ≡ []) ⊎ (is_owner o ≡ true) → length o ≤ 255
    → (value 3 (if alternate o then [] else o) ≡ true) × (value 23 (if alternate o then o else []) ≡ true)
    × (not (is_empty (if alternate o then [] else o)) && not (is_empty (if alternate o then o else [])) ≡ false)
unfolding value form shape is_owner
owner-values o (inl e) l = rw e (refl, refl, refl)
owner-values o (inr e) l = elim (if-inv (alternate o) (alternative o) (isil o) e) [
  | inl q ↦ rw q.0 (refl, full o q.1 l, refl)
  | inr q ↦ let f = isil-first o q.1 in rw q.0 (rw f.1 (and_i q.1 (le-leb (length o) 255 l)), refl, rw f.1)
]
  where
    full : (o : List ℕ) → alternative o ≡ true → length o ≤ 255 → value 23 o ≡ true
    full [] q l = refl
    full (x ∷ o) q l = and_i q (le-leb (length (x ∷ o)) 255 l)

-- the owner that the two places agree on
owner-agreed : (o fo : List ℕ) → Said o → is_empty fo || is_owner fo ≡ true → beq (marked o) (not (is_empty fo)) ≡ true
    → let own : List ℕ = if is_empty fo then o else fo in (own ≡ []) ⊎ (is_owner own ≡ true)
unfolding same
owner-agreed o [] (inl e) h a = inl e
owner-agreed o [] (inr (inl e)) h a = never (cc)
owner-agreed o [] (inr (inr e)) h a = inr e
owner-agreed o (x ∷ fo) s h a = inr h

-- the item, and the alternative item
item-values : (i fi : List ℕ) → good_item i ≡ true → length i ≤ 16 → text fi ≡ true → length fi ≤ 255
    → (value 1 (if marked i then fi else i) ≡ true) × (value 22 (if marked i then [] else fi) ≡ true)
    × (not (is_empty (if marked i then [] else fi)) && long (if marked i then fi else i) ≡ false)
unfolding good_item shape value
item-values i fi h l t k = go (marked i) h
  where
    go : (m : Bool) → text i || m ≡ true
        → (value 1 (if m then fi else i) ≡ true) × (value 22 (if m then [] else fi) ≡ true) × (not (is_empty (if m then [] else fi)) && long (if m then fi else i) ≡ false)
    go true h = (text-value 1 fi refl refl t k, refl, refl)
    go false h =
        let ti : text i ≡ true = elim (or-inv (text i) false h) [ inl x ↦ x | inr x ↦ never (cc) ] in
        (text-value 1 i refl refl ti (omega arith), text-value 22 fi refl refl t k, and_no (not (is_empty fi)) (long i) (lt-leb 17 (length i) (omega arith)))

-- ---- together

pub record Fields (t : List ℕ) : Type 0 where
  pub ordinal : get_or t 2 0 ≤ get_or t 1 0
  pub item : good_item (item_in t) ≡ true
  pub owner : good_owner (owner_in t) ≡ true
  pub library : good_library (block_of 1 (blocks_in t)) ≡ true

pub fields-parts : (t : List ℕ) → good_fields t ≡ true → Fields t
unfolding good_fields
fields-parts t e =
    let x : Bool = leb (get_or t 2 0) (get_or t 1 0) in
    let y : Bool = good_item (item_in t) in
    let z : Bool = good_owner (owner_in t) in
    let xyz = and_l (x && y && z) _ e in
    let xy = and_l (x && y) z xyz in
    record { ordinal = leb-true _ _ (and_l x y xy); item = and_r x y xy; owner = and_r (x && y) z xyz; library = and_r (x && y && z) _ e }

pub agree-owner : (t : List ℕ) → agree t ≡ true → beq (marked (owner_said (owner_in t))) (not (is_empty (library_on t).owner)) ≡ true
unfolding agree
agree-owner t e =
    let x : Bool = not (marked (item_in t) && is_empty (library_on t).item) in
    and_r x _ (and_l (x && beq (marked (owner_said (owner_in t))) (not (is_empty (library_on t).owner))) _ e)

module _ (t : List ℕ) (y : bytes t ≡ true) (r : Readable t) where
  pub blocks-handed : all handed (blocks_in t) ≡ true
  blocks-handed = chain-handed t 34 [] (blocks_in t) y (sym (walked_from t) ∙ r.blocks)

  -- the owner of a readable tag, or none
  pub owner-on : (owner_on t ≡ []) ⊎ (is_owner (owner_on t) ≡ true)
  unfolding owner_on
  owner-on =
      let f = fields-parts t r.fields in
      owner-agreed (owner_said (owner_in t)) (library_on t).owner (owner-said (owner_in t) f.owner) (library-tests (block_of 1 (blocks_in t)) f.library).2 (agree-owner t r.agreed)

  owner-on-short : length (owner_on t) ≤ 255
  unfolding owner_on
  owner-on-short = go (is_empty (library_on t).owner)
    where
      go : (x : Bool) → length (if x then owner_said (owner_in t) else (library_on t).owner) ≤ 255
      go true = omega (arith, said-length (owner_in t) (omega (arith, strip-length (part 21 13 t), part_length 21 13 t)))
      go false = omega (arith, library-lengths (block_of 1 (blocks_in t)), block-short 1 (blocks_in t) blocks-handed)

  -- what is read is sound
  pub read-sound : sound (content_in t) ≡ true
  unfolding content_in values_at clash
  read-sound =
      let f = fields-parts t r.fields in
      let l = library-tests (block_of 1 (blocks_in t)) f.library in
      let n = library-lengths (block_of 1 (blocks_in t)) in
      let s = block-short 1 (blocks_in t) blocks-handed in
      let iv = item-values (item_in t) (library_on t).item f.item (omega (arith, strip-length (part 3 16 t), part_length 3 16 t)) l.1 (omega arith) in
      let ov = owner-values (owner_on t) owner-on owner-on-short in
      parts-sound (content_in t) (record {
        values = and_i iv.0 (and_i ov.0 (and_i (set_value (get_or t 1 0) (get_or t 2 0) f.ordinal (bytes-at 1 t y)) (and_i (usage-value _) (and_i (media-value (library_on t).media) (and_i iv.1 (and_i ov.1 refl))))));
        blocks = others-formed (blocks_in t) blocks-handed;
        clear = or-f ov.2 iv.2;
      })
