-- The item field and the owner field of the basic block come back: what was written there is what is read there.
use Rattle.std.specs.Prelude.{if◌then◌else◌}
use mathlib.Core.Path.{◌≡◌, refl, sym, ap, ◌∙◌}
use mathlib.Core.Logic.{◌⊎◌, inl, inr}
use Prim.Native.Nat.{ℕ, ◌≤◌, ◌<◌}
use native.Mathlib.Omega.{arith}
use mathlib.Core.Bool.{Bool, true, false, not, ◌&&◌, ◌||◌}
use mathlib.Core.List.{List, [], ◌∷◌, ◌++◌}
use lib.Dec.{eqb, leb}
use lib.ListN.{length, drop, get_or}
use lib.Seq.{get_or-drop}
use borrow.Author.Tests.{ne_eqb, leb-true, le-leb, lt-leb, leb-false}
use Rattle.format.specs.Bytes.{is_empty, all, same, pad_with, trim, strip, up_to, past}
use Rattle.format.specs.Text.{rows_from, text}
use Rattle.format.specs.Fields.{capital, unit_byte, isil_of, isil, hyphen, blank, alternate, alternative, is_owner, marker, marked, good_item, prefix_in, owner_said, good_owner, long, item_field, packed, basic_owner, owner_field}
use Rattle.format.proofs.Tests.{never, and_l, and_r, and_i, and-iff, not_t, or_l, or_r, or-inv, if-inv, all-mono, all_append, same-eq}
use Rattle.format.proofs.Text.{between-facts, text-floor}
use Rattle.format.proofs.Strings.{empty_of, other, without, solid, not-empty, solid-strip, strip-pad, strip-behind, parted}

-- ---- bytes

pub capital-ge : (x : ℕ) → capital x ≡ true → 65 ≤ x
unfolding capital
capital-ge x e = (between-facts 65 90 x e).0

pub unit-ge : (x : ℕ) → unit_byte x ≡ true → 45 ≤ x
unfolding unit_byte capital
unit-ge x e = go (leb 45 x) refl
  where
    go : (t : Bool) → leb 45 x ≡ t → 45 ≤ x
    go true h = leb-true 45 x h
    go false h =
        let l : x < 45 = leb-false 45 x h in
        let a : leb 65 x ≡ false = lt-leb 65 x (omega arith) in
        let b : leb 97 x ≡ false = lt-leb 97 x (omega arith) in
        let c : leb 48 x ≡ false = lt-leb 48 x (omega arith) in
        let d : eqb x 47 ≡ false = ne_eqb x 47 (omega arith) in
        let f : eqb x 45 ≡ false = ne_eqb x 45 (omega arith) in
        let g : eqb x 58 ≡ false = ne_eqb x 58 (omega arith) in
        never (cc)

other-of : (b x : ℕ) → b < x → other b x ≡ true
other-of b x h = rw (ne_eqb x b (omega arith))

-- bytes that pass a test which only bytes above b pass are not b
above : (f : ℕ → Bool) (b : ℕ) → ((x : ℕ) → f x ≡ true → b < x) → (s : List ℕ) → all f s ≡ true → without b s ≡ true
above f b h s e = all-mono f (other b) (λ x k. other-of b x (h x k)) s e

-- ---- text: what the layers above ask of it

pub text-solid : (s : List ℕ) → text s ≡ true → solid s ≡ true
text-solid s e = above (leb 0x20) 0 (λ x h. omega (arith, leb-true 0x20 x h)) s (text-floor s e)

pub text-unmarked : (s : List ℕ) → text s ≡ true → marked s ≡ false
unfolding all same
text-unmarked [] e = refl
text-unmarked (x ∷ s) e = rw (ne_eqb x 1 (omega (arith, leb-true 0x20 x (and_l (leb 0x20 x) (all (leb 0x20) s) (text-floor (x ∷ s) e)))))

pub text-nil : text [] ≡ true
unfolding text rows_from
text-nil = refl

-- ---- the item

pub item_back : (s : List ℕ) → text s ≡ true → (good_item (strip (item_field s)) ≡ true) × (strip (item_field s) ≡ (if long s then marker else s))
unfolding item_field good_item strip trim same
item_back s e = rw (strip-pad 16 (if long s then marker else s)) (go (long s))
  where
    go : (t : Bool) → (good_item (strip (if t then marker else s)) ≡ true) × (strip (if t then marker else s) ≡ (if t then marker else s))
    go true = (or_r (text marker) true refl, refl)
    go false = rw (solid-strip s (text-solid s e)) (or_l (text s) (marked s) e, refl)

-- ---- an alternative owner

pub record Alternative (o : List ℕ) : Type 0 where
  pub kind : alternate o ≡ true
  pub texts : text (drop 1 o) ≡ true
  pub some : is_empty (drop 1 o) ≡ false

pub alternative-facts : (o : List ℕ) → alternative o ≡ true → Alternative o
unfolding alternative
alternative-facts o e =
    let a : Bool = alternate o in
    let n : Bool = not (is_empty (drop 1 o)) in
    let an : a && n ≡ true = and_l (a && n) (text (drop 1 o)) e in
    record { kind = and_l a n an; texts = and_r (a && n) (text (drop 1 o)) e; some = not_t (is_empty (drop 1 o)) (and_r a n an) }

-- its first byte is 2 or 3, and text follows
first-alternate : (o : List ℕ) → alternate o ≡ true → (2 ≤ get_or o 0 0) × (get_or o 0 0 ≤ 3)
first-alternate o e = between-facts 2 3 (get_or o 0 0) e

-- ---- an ISIL

pub record Isil (prefix unit : List ℕ) : Type 0 where
  pub some : 1 ≤ length prefix
  pub capitals : all capital prefix ≡ true
  pub unit-some : 1 ≤ length unit
  pub unit-few : length unit ≤ 11
  pub units : all unit_byte unit ≡ true

pub isil-facts : (p u : List ℕ) → isil_of p u ≡ true → Isil p u
unfolding isil_of
isil-facts p u e =
    let h = simp and-iff at e in
    record { some = leb-true 1 (length p) h.0.0.0.0; capitals = h.0.0.1; unit-some = leb-true 1 (length u) h.0.1.0; unit-few = leb-true (length u) 11 h.0.1.1; units = h.1 }

capitals-solid : (s : List ℕ) → all capital s ≡ true → solid s ≡ true
capitals-solid s e = above capital 0 (λ x h. omega (arith, capital-ge x h)) s e

units-solid : (s : List ℕ) → all unit_byte s ≡ true → solid s ≡ true
units-solid s e = above unit_byte 0 (λ x h. omega (arith, unit-ge x h)) s e

-- its sides and the hyphen are the whole
pub isil-whole : (o : List ℕ) → isil o ≡ true → o ≡ up_to hyphen o ++ hyphen ∷ past hyphen o
unfolding isil
isil-whole o e = parted hyphen o (not-empty (past hyphen o) (λ z. omega (arith, z, (isil-facts (up_to hyphen o) (past hyphen o) e).unit-some)))

first-capital : (o : List ℕ) → isil o ≡ true → (65 ≤ get_or o 0 0) × (is_empty o ≡ false)
unfolding isil all
first-capital o e =
    let f = isil-facts (up_to hyphen o) (past hyphen o) e in
    let g = go (up_to hyphen o) (past hyphen o) f.some f.capitals in
    let w = sym (isil-whole o e) in
    (omega (arith, g.0, ap (λ (x : List ℕ). get_or x 0 0) w), sym (ap is_empty w) ∙ g.1)
  where
    go : (p u : List ℕ) → 1 ≤ length p → all capital p ≡ true → (65 ≤ get_or (p ++ hyphen ∷ u) 0 0) × (is_empty (p ++ hyphen ∷ u) ≡ false)
    go [] u l c = absurd (omega arith)
    go (a ∷ p) u l c = (capital-ge a (and_l (capital a) (all capital p) c), refl)

pub isil-first : (o : List ℕ) → isil o ≡ true → (alternate o ≡ false) × (is_empty o ≡ false)
isil-first o e = let f = first-capital o e in (rw (le-leb 2 (get_or o 0 0) (omega arith), lt-leb (get_or o 0 0) 3 (omega arith)), f.1)

-- ---- an owner: what the layers above ask of it

-- it holds no 00, is not the marker, and is not nothing
pub record Owner (o : List ℕ) : Type 0 where
  pub solid-all : solid o ≡ true
  pub unmarked : marked o ≡ false
  pub some : is_empty o ≡ false

alternative-owner : (o : List ℕ) → alternative o ≡ true → Owner o
unfolding all same
alternative-owner [] e = never (cc (alternative-facts [] e).kind)
alternative-owner (b ∷ s) e =
    let f = alternative-facts (b ∷ s) e in
    let g = first-alternate (b ∷ s) f.kind in
    record {
      solid-all = and_i (other-of 0 b (omega arith)) (text-solid s f.texts);
      unmarked = rw (ne_eqb b 1 (omega arith));
      some = refl;
    }

unmarked-from : (o : List ℕ) → 65 ≤ get_or o 0 0 → marked o ≡ false
unfolding same
unmarked-from [] h = refl
unmarked-from (b ∷ s) h = rw (ne_eqb b 1 (omega arith))

isil-owner : (o : List ℕ) → isil o ≡ true → Owner o
unfolding isil all
isil-owner o e =
    let f = isil-facts (up_to hyphen o) (past hyphen o) e in
    let c = first-capital o e in
    record {
      solid-all = ap solid (isil-whole o e) ∙ all_append (other 0) (up_to hyphen o) (hyphen ∷ past hyphen o) (capitals-solid (up_to hyphen o) f.capitals) (units-solid (past hyphen o) f.units);
      unmarked = unmarked-from o c.0;
      some = c.1;
    }

pub owner-facts : (o : List ℕ) → is_owner o ≡ true → Owner o
unfolding is_owner
owner-facts o e = elim (if-inv (alternate o) (alternative o) (isil o) e) [ inl h ↦ alternative-owner o h.1 | inr h ↦ isil-owner o h.1 ]

-- ---- the owner field

-- where the marker stands behind two bytes, it is the third
pub marker-third : (t : List ℕ) → drop 2 t ≡ marker → get_or t 2 0 ≡ 1
marker-third t e = sym (get_or-drop 2 t 0 0) ∙ ap (λ (l : List ℕ). get_or l 0 0) e

-- what a good field says: nothing, the marker, an alternative owner or an ISIL
pub said-cases : (t : List ℕ) → good_owner t ≡ true
    → (owner_said t ≡ []) ⊎ ((owner_said t ≡ marker) ⊎ (((owner_said t ≡ drop 2 t) × (alternative (drop 2 t) ≡ true))
    ⊎ ((owner_said t ≡ prefix_in t ++ (hyphen ∷ drop 2 t)) × (isil_of (prefix_in t) (drop 2 t) ≡ true))))
unfolding good_owner owner_said
said-cases t e = elim (or-inv (is_empty t || marked (drop 2 t)) _ e) [
  | inl h ↦ elim (or-inv (is_empty t) (marked (drop 2 t)) h) [
    | inl q ↦ inl (rw (empty_of t q) refl)
    | inr q ↦ let m = same-eq (drop 2 t) marker q in inr (inl (rw (marker-third t m) m))
  ]
  | inr h ↦ elim (if-inv (leb (get_or t 2 0) 3) (alternative (drop 2 t)) (isil_of (prefix_in t) (drop 2 t)) h) [
    | inl q ↦ inr (inr (inl (rw q.0 refl, q.1)))
    | inr q ↦ inr (inr (inr (rw q.0 refl, q.1)))
  ]
]

-- read as a good field that says o
abbrev Says : List ℕ → List ℕ → Type 0
Says t o = (good_owner t ≡ true) × (owner_said t ≡ o)

alternative-back : (o : List ℕ) → alternative o ≡ true → (strip (0 ∷ 0 ∷ o) ≡ 0 ∷ 0 ∷ o) × Says (0 ∷ 0 ∷ o) o
unfolding good_owner owner_said
alternative-back [] e = never (cc (alternative-facts [] e).kind)
alternative-back (b ∷ s) e =
    let f = alternative-facts (b ∷ s) e in
    let g = first-alternate (b ∷ s) f.kind in
    let l : leb b 3 ≡ true = le-leb b 3 g.1 in (
      strip-behind (0 ∷ 0 ∷ []) (b ∷ s) (λ z. omega arith) (solid-strip (b ∷ s) (alternative-owner (b ∷ s) e).solid-all),
      (rw l (or_r (marked (b ∷ s)) (alternative (b ∷ s)) e), rw l),
    )

-- two bytes before a unit: a capital and a blank, or two capitals
module _ (u : List ℕ) (some : 1 ≤ length u) (units : all unit_byte u ≡ true) where
  third : (a b : ℕ) → leb (get_or (a ∷ b ∷ u) 2 0) 3 ≡ false
  unfolding all
  third a b = go u some units
    where
      go : (u : List ℕ) → 1 ≤ length u → all unit_byte u ≡ true → leb (get_or u 0 0) 3 ≡ false
      go [] l e = absurd (omega arith)
      go (x ∷ u) l e = lt-leb x 3 (omega (arith, unit-ge x (and_l (unit_byte x) (all unit_byte u) e)))

  isil-back : (a b : ℕ) (p : List ℕ) → prefix_in (a ∷ b ∷ u) ≡ p → isil_of p u ≡ true → Says (a ∷ b ∷ u) (p ++ hyphen ∷ u)
  unfolding good_owner owner_said
  isil-back a b p e i = (
    rw (third a b, e) (or_r (marked u) (isil_of p u) i),
    rw (third a b, e),
  )

  two-solid : (a b : ℕ) → 1 ≤ a → 1 ≤ b → strip (a ∷ b ∷ u) ≡ a ∷ b ∷ u
  unfolding all
  two-solid a b ha hb = solid-strip (a ∷ b ∷ u) (and_i (other-of 0 a ha) (and_i (other-of 0 b hb) (units-solid u units)))

-- an ISIL with a prefix of one or two capitals, packed and said again
short_back : (p u : List ℕ) → isil_of p u ≡ true → length p ≤ 2
    → let t : List ℕ = pad_with blank 2 p ++ u in (strip t ≡ t) × Says t (p ++ hyphen ∷ u)
unfolding pad_with all prefix_in
short_back [] u e l = absurd (omega (arith, (isil-facts [] u e).some))
short_back (a ∷ []) u e l =
    let f = isil-facts (a ∷ []) u e in
    let g = capital-ge a (and_l (capital a) true f.capitals) in
    (two-solid u f.unit-some f.units a blank (omega arith) (omega arith), isil-back u f.unit-some f.units a blank (a ∷ []) refl e)
short_back (a ∷ b ∷ []) u e l =
    let f = isil-facts (a ∷ b ∷ []) u e in
    let c = f.capitals in
    let ga = capital-ge a (and_l (capital a) (capital b && true) c) in
    let gb = capital-ge b (and_l (capital b) true (and_r (capital a) (capital b && true) c)) in (
      two-solid u f.unit-some f.units a b (omega arith) (omega arith),
      isil-back u f.unit-some f.units a b (a ∷ b ∷ []) (rw (ne_eqb b blank (omega arith))) e,
    )
short_back (a ∷ b ∷ c ∷ p) u e l = absurd (omega arith)

-- what the owner field says of an owner: nothing, the owner itself, or the marker
unfoldable pub spoken : ℕ → List ℕ → List ℕ
spoken w o = if is_empty o then [] else if basic_owner w o then o else marker

packed-back : (w : ℕ) (o : List ℕ) → is_owner o ≡ true → basic_owner w o ≡ true → (strip (packed o) ≡ packed o) × Says (packed o) o
unfolding is_owner basic_owner packed isil
packed-back w o e h = go (alternate o) refl e (and_l (alternate o || leb (length (up_to hyphen o)) 2) (leb (length (packed o)) w) h)
  where
    go : (t : Bool) → alternate o ≡ t → (if t then alternative o else isil o) ≡ true → t || leb (length (up_to hyphen o)) 2 ≡ true
        → let s : List ℕ = if t then 0 ∷ 0 ∷ o else pad_with blank 2 (up_to hyphen o) ++ past hyphen o in (strip s ≡ s) × Says s o
    go true q e l = alternative-back o e
    go false q e l =
        let b = short_back (up_to hyphen o) (past hyphen o) e (leb-true (length (up_to hyphen o)) 2 l) in
        (b.0, (b.1.0, b.1.1 ∙ sym (isil-whole o e)))

pub owner-back : (w : ℕ) (o : List ℕ) → (o ≡ []) ⊎ (is_owner o ≡ true) → Says (strip (owner_field w o)) (spoken w o)
unfolding owner_field spoken good_owner owner_said strip trim same
owner-back w [] e = rw (strip-pad w []) (refl, refl)
owner-back w (x ∷ s) (inl e) = never (cc)
owner-back w (x ∷ s) (inr e) = rw strip-pad (go (basic_owner w (x ∷ s)) refl)
  where
    o : List ℕ
    o = x ∷ s

    go : (t : Bool) → basic_owner w o ≡ t → Says (strip (if t then packed o else 0 ∷ 0 ∷ marker)) (if t then o else marker)
    go true h = let b = packed-back w o e h in rw b.0 b.1
    go false h = (refl, refl)
