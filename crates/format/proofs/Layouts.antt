-- What the writer lays down is read back.
use Rattle.std.specs.Prelude.{if◌then◌else◌}
use mathlib.Core.Path.{◌≡◌, refl, sym, ap, ap₂, ◌∙◌}
use mathlib.Core.Logic.{◌⊎◌, inl, inr}
use Prim.Native.Nat.{ℕ, ◌+◌, ◌-◌, ◌%◌, ◌≤◌}
use native.Mathlib.Omega.{arith}
use mathlib.Core.Bool.{Bool, true, false, ◌&&◌, ◌||◌}
use mathlib.Core.List.{List, [], ◌∷◌, ◌++◌, append-nil, append_assoc}
use lib.Dec.{eqb, leb}
use lib.ListN.{drop_of_length-le, length, take, drop, get_or, replicate, length-append, length-replicate}
use lib.Seq.{take_at, drop_at, take_all, drop-append-add}
use borrow.Author.Tests.{eqb-true, eq-eqb, leb-true, le-leb, leb-false}
use Rattle.format.specs.Answers.{got}
use Rattle.format.specs.Bytes.{is_empty, same, between, part, pad_with, pad, strip, up_to, le16, joined}
use Rattle.format.specs.Pages.{good_size}
use Rattle.format.specs.Crc.{crc, covered}
use Rattle.format.specs.Text.{text}
use Rattle.format.specs.Fields.{marker, hyphen, long, alternate, owner_said, good_item, good_owner, item_field, packed, basic_owner, owner_field}
use Rattle.format.specs.Chain.{chain, block_of, other_blocks, library_in, good_library, block_one}
use Rattle.format.specs.Elements.{Content, known, el, shape, sound}
use Rattle.format.specs.Layout.{owner_width, owner_of, usage_of, library, first_byte, front, basic, own_blocks, laid_out, layout, has_layout, image, fits}
use Rattle.format.specs.Reading.{walked, blocks_in, library_on, good_fields, agree, owner_on, content_in, Readable}
use Rattle.format.proofs.Tests.{and_l, and_r, and_i, or-inv, same_refl}
use Rattle.format.proofs.Answers.{or-else-got}
use Rattle.format.proofs.Strings.{nil-of, le16-length, length-pad}
use Rattle.format.proofs.Blocks.{chain-laid, library-back, library-good}
use Rattle.format.proofs.Fields.{text-solid, item_back, spoken, owner-back}
use Rattle.format.proofs.Slots.{Facts, sound-facts}
use Rattle.format.proofs.Values.{value-text, value-isil, value-alternative, value-usage, value-media, value_set, item-content, item-agrees, owner-content, owner-either, OwnerPlaced, owner-placed, usage-content, usage-agrees}

-- ---- a tag that is laid down part by part, cut as the reader cuts it

module _ (a b c : ℕ) (item le own tail : List ℕ) (li : length item ≡ 16) (ll : length le ≡ 2) where
  abbrev shaped : List ℕ
  shaped = a ∷ b ∷ c ∷ (item ++ (le ++ (own ++ tail)))

  shape-item : part 3 16 shaped ≡ item
  shape-item = take_at item _ 16 li

  shape-le : part 19 2 shaped ≡ le
  shape-le = rw (drop_at item (le ++ (own ++ tail)) 16 li) (take_at le _ 2 ll)

  shape-own : drop 21 shaped ≡ own ++ tail
  shape-own = ap (λ (k : ℕ). drop (k + 2) (item ++ (le ++ (own ++ tail)))) (sym li) ∙ drop-append-add item (le ++ (own ++ tail)) 2 ∙ drop_at le (own ++ tail) 2 ll

  shape-tail : drop 34 shaped ≡ drop 13 (own ++ tail)
  shape-tail =
      ap (λ (k : ℕ). drop (k + 15) (item ++ (le ++ (own ++ tail)))) (sym li) ∙ drop-append-add item (le ++ (own ++ tail)) 15
      ∙ ap (λ (k : ℕ). drop (k + 13) (le ++ (own ++ tail))) (sym ll) ∙ drop-append-add le (own ++ tail) 13

  shape-covered : take 13 (own ++ tail) ≡ own → covered shaped ≡ a ∷ b ∷ c ∷ item ++ pad 13 own
  unfolding covered
  shape-covered h = ap₂ (λ (x y : List ℕ). a ∷ b ∷ c ∷ x ++ pad 13 y) (take_at item _ 16 li) (ap (take 13) shape-own ∙ h)

-- ---- lengths

pub item-length : (s : List ℕ) → length (item_field s) ≡ 16
unfolding item_field
item-length s = length-pad 0 16 (if long s then marker else s) (go (long s) refl)
  where
    go : (t : Bool) → long s ≡ t → length (if t then marker else s) ≤ 16
    go true e = omega arith
    go false e = omega (arith, leb-false 17 (length s) e)

pub owner-length : (w : ℕ) (o : List ℕ) → 3 ≤ w → length (owner_field w o) ≡ w
unfolding owner_field basic_owner
owner-length w o h = length-pad 0 w _ (go (is_empty o) (basic_owner w o) refl)
  where
    go : (s t : Bool) → basic_owner w o ≡ t → length (if s then [] else if t then packed o else 0 ∷ 0 ∷ marker) ≤ w
    go true t e = omega arith
    go false true e = leb-true (length (packed o)) w (and_r (alternate o || leb (length (up_to hyphen o)) 2) (leb (length (packed o)) w) e)
    go false false e = h

-- a tag has 32 bytes, and no room for blocks, or more than 34
pub size-cases : (p n : ℕ) → good_size p n ≡ true → (n ≡ 32) ⊎ (36 ≤ n)
unfolding good_size
size-cases p n e = elim (or-inv (eqb n 32) (eqb (n % p) 0 && between 36 2048 n) e) [
  | inl h ↦ inl (eqb-true n 32 h)
  | inr h ↦ inr (leb-true 36 n (and_l (leb 36 n) (leb n 2048) (and_r (eqb (n % p) 0) (between 36 2048 n) h)))
]

pub size-least : (p n : ℕ) → good_size p n ≡ true → 32 ≤ n
size-least p n e = elim (size-cases p n e) [ inl h ↦ omega (arith, h) | inr h ↦ omega (arith, h) ]

pub size-most : (p n : ℕ) → good_size p n ≡ true → n ≤ 2048
unfolding good_size
size-most p n e = elim (or-inv (eqb n 32) (eqb (n % p) 0 && between 36 2048 n) e) [
  | inl h ↦ omega (arith, eqb-true n 32 h)
  | inr h ↦ leb-true n 2048 (and_r (leb 36 n) (leb n 2048) (and_r (eqb (n % p) 0) (between 36 2048 n) h))
]

pub fits-parts : (n : ℕ) (c : Content) → fits n c ≡ true → (length (block_one (library n c.slots)) ≤ 255) × (length (laid_out n c.slots (joined c.carried)) ≤ n)
unfolding has_layout
fits-parts n c e =
    let x : Bool = leb (length (block_one (library n c.slots))) 255 in
    let y : Bool = leb (length (laid_out n c.slots (joined c.carried))) n in
    (leb-true _ 255 (and_l x y e), leb-true _ n (and_r x y e))

pub image-length : (n : ℕ) (c : Content) → fits n c ≡ true → length (image n c) ≡ n
unfolding layout
image-length n c e = length-pad 0 n (laid_out n c.slots (joined c.carried)) (fits-parts n c e).1

-- ---- the writer's layout in parts

module _ (n : ℕ) (c : Content) where
  abbrev own_part : List ℕ
  own_part = owner_field (owner_width n) (owner_of c.slots)

  abbrev check_part : List ℕ
  check_part = le16 (crc (front c.slots ++ pad 13 own_part))

  abbrev tail_part : List ℕ
  tail_part = own_blocks n c.slots ++ (joined c.carried ++ replicate (n - length (laid_out n c.slots (joined c.carried))) 0)

  pub image-shape : image n c ≡ shaped (first_byte (usage_of c.slots)) (get_or (el c 4) 0 0) (get_or (el c 4) 2 0) (item_field (el c 1)) check_part own_part tail_part (item-length (el c 1)) (le16-length _)
  unfolding layout pad_with laid_out basic front
  image-shape =
      let own : List ℕ = own_blocks n c.slots in
      let zeros : List ℕ = replicate (n - length (laid_out n c.slots (joined c.carried))) 0 in
      append_assoc (basic n c.slots) (own ++ joined c.carried) zeros
      ∙ ap (λ (r : List ℕ). basic n c.slots ++ r) (append_assoc own (joined c.carried) zeros)
      ∙ append_assoc (front c.slots) (check_part ++ own_part) tail_part
      ∙ ap (λ (r : List ℕ). front c.slots ++ r) (append_assoc check_part own_part tail_part)

  pub basic-length : 3 ≤ owner_width n → length (basic n c.slots) ≡ 21 + owner_width n
  unfolding basic front
  basic-length h =
      omega (
        arith,
        length-append (front c.slots) (check_part ++ own_part),
        length-append check_part own_part,
        le16-length (crc (front c.slots ++ pad 13 own_part)),
        owner-length (owner_width n) (owner_of c.slots) h,
        item-length (el c 1),
      )

  -- the owner field fills what is left of the basic block, on 32 bytes too
  own-cut : (n ≡ 32) ⊎ (36 ≤ n) → length (laid_out n c.slots (joined c.carried)) ≤ n → (take 13 (own_part ++ tail_part) ≡ own_part) × (drop 13 (own_part ++ tail_part) ≡ tail_part)
  unfolding laid_out
  own-cut (inl e) f =
      let w : owner_width n ≡ 11 = rw e in
      let lo = owner-length (owner_width n) (owner_of c.slots) (omega arith) in
      let m : ℕ = n - length (laid_out n c.slots (joined c.carried)) in
      let own : List ℕ = own_blocks n c.slots in
      let z : tail_part ≡ [] = nil-of tail_part (omega (
        arith,
        basic-length (omega arith),
        length-append (basic n c.slots) (own ++ joined c.carried),
        length-append own (joined c.carried),
        length-append own (joined c.carried ++ replicate m 0),
        length-append (joined c.carried) (replicate m 0),
        length-replicate {A = ℕ} m 0,
      )) in
      rw (z, append-nil own_part) (take_all 13 own_part (omega arith), drop_of_length-le own_part {i = 13} (omega arith))
  own-cut (inr e) f =
      let w : owner_width n ≡ 13 = omega arith in
      let lo = owner-length (owner_width n) (owner_of c.slots) (omega arith) in
      (take_at own_part tail_part 13 (lo ∙ w), drop_at own_part tail_part 13 (lo ∙ w))

-- ---- the elements come back from their fields

module _ (n : ℕ) (c : Content) (k : Facts c) where
  owners : OwnerPlaced (owner_width n) (owner_of c.slots) (library n c.slots).owner
  unfolding library known
  owners = owner-placed (owner_width n) (owner_of c.slots) (owner-either (el c 3) (el c 23) (value-isil (el c 3) (k.values 3 refl)) (value-alternative (el c 23) (k.values 23 refl)) k.owners)

  text1 : text (el c 1) ≡ true
  unfolding shape known
  text1 = value-text 1 (el c 1) refl (k.values 1 refl)

  text22 : text (el c 22) ≡ true
  unfolding shape known
  text22 = value-text 22 (el c 22) refl (k.values 22 refl)

  -- a tag whose parts are these holds these elements
  pub record Parts (t : List ℕ) : Type 0 where
    pub main : get_or t 0 0 ≡ first_byte (usage_of c.slots)
    pub parts : get_or t 1 0 ≡ get_or (el c 4) 0 0
    pub ordinal : get_or t 2 0 ≡ get_or (el c 4) 2 0
    pub item : strip (part 3 16 t) ≡ (if long (el c 1) then marker else el c 1)
    pub owner : owner_said (strip (part 21 13 t)) ≡ spoken (owner_width n) (owner_of c.slots)
    pub one : library_on t ≡ library n c.slots
    pub others : other_blocks (blocks_in t) ≡ c.carried

  content-back : (t : List ℕ) → Parts t → content_in t ≡ c
  unfolding content_in owner_on library known
  content-back t h =
      let ic = item-content (el c 1) (el c 22) text1 k.items in
      let oc = owner-content (el c 3) (el c 23) (value-isil (el c 3) (k.values 3 refl)) (value-alternative (el c 23) (k.values 23 refl)) k.owners in
      rw (
        h.one,
        h.item,
        h.owner,
        h.main,
        h.parts,
        h.ordinal,
        h.others,
        owners.back,
        ic.0,
        ic.1,
        oc.0,
        oc.1,
        (value_set (el c 4) (k.values 4 refl)).whole,
        usage-content (usage_of c.slots),
        ← (value-usage (el c 5) (k.values 5 refl)),
        value-media (el c 19) (k.values 19 refl),
      ) k.eta

  agree-back : (t : List ℕ) → Parts t → agree t ≡ true
  unfolding agree library
  agree-back t h =
      let ia = item-agrees (el c 1) (el c 22) text1 text22 in
      rw (h.one, h.item, h.owner, h.main) (and_i (and_i ia.1 owners.agrees) (usage-agrees (usage_of c.slots)))

-- What the writer lays down is readable, and holds the elements that were laid down.
pub read_back : (p n : ℕ) (c : Content) → good_size p n ≡ true → sound c ≡ true → fits n c ≡ true → Readable (image n c) × (content_in (image n c) ≡ c)
unfolding good_fields library front known
read_back p n c good s f =
    let k = sound-facts c s in
    let t : List ℕ = image n c in
    let sh = image-shape n c in
    let it = item_field (el c 1) in
    let li = item-length (el c 1) in
    let ll = le16-length (crc (front c.slots ++ pad 13 (own_part n c))) in
    let cut = own-cut n c (size-cases p n good) (fits-parts n c f).1 in
    let a : ℕ = first_byte (usage_of c.slots) in
    let pa : ℕ = get_or (el c 4) 0 0 in
    let od : ℕ = get_or (el c 4) 2 0 in
    let le : List ℕ = check_part n c in
    let ow : List ℕ = own_part n c in
    let ta : List ℕ = tail_part n c in
    let oe = owner-either (el c 3) (el c 23) (value-isil (el c 3) (k.values 3 refl)) (value-alternative (el c 23) (k.values 23 refl)) k.owners in
    let o = owners n c k in
    let ia = item-agrees (el c 1) (el c 22) (text1 n c k) (text22 n c k) in
    let ch = chain-laid 34 (library n c.slots) c.carried (n - length (laid_out n c.slots (joined c.carried))) k.rest in
    let w : walked t ≡ got ch.bs = ap (λ (x : List ℕ). chain 34 (drop 34 x)) sh ∙ ap (chain 34) (shape-tail a pa od it le ow ta li ll ∙ cut.1) ∙ ch.walks in
    let bs : blocks_in t ≡ ch.bs = or-else-got (walked t) ch.bs [] w in
    let ib = item_back (el c 1) (text1 n c k) in
    let ob = owner-back (owner_width n) (owner_of c.slots) oe in
    let item : part 3 16 t ≡ it = ap (part 3 16) sh ∙ shape-item a pa od it le ow ta li ll in
    let own : part 21 13 t ≡ ow = ap (part 21 13) sh ∙ ap (take 13) (shape-own a pa od it le ow ta li ll) ∙ cut.0 in
    let one : block_of 1 (blocks_in t) ≡ block_one (library n c.slots) = ap (block_of 1) bs ∙ ch.library in
    let ps : Parts n c k t = record {
      main = ap (λ (x : List ℕ). get_or x 0 0) sh;
      parts = ap (λ (x : List ℕ). get_or x 1 0) sh;
      ordinal = ap (λ (x : List ℕ). get_or x 2 0) sh;
      item = ap strip item ∙ ib.1;
      owner = ap (λ (x : List ℕ). owner_said (strip x)) own ∙ ob.1;
      one = ap library_in one ∙ library-back (library n c.slots) (text-solid _ ia.0) o.solid-all;
      others = ap other_blocks bs ∙ ch.others;
    } in
    let si = value_set (el c 4) (k.values 4 refl) in (
      record {
        parameter = eq-eqb (get_or t 0 0 % 16) 1 (ap (λ (x : ℕ). x % 16) ps.main ∙ omega arith);
        check = ap₂ (λ (x y : List ℕ). same x (le16 (crc y))) (ap (part 19 2) sh ∙ shape-le a pa od it le ow ta li ll) (ap covered sh ∙ shape-covered a pa od it le ow ta li ll cut.0) ∙ same_refl le;
        blocks = w ∙ ap got (sym bs);
        fields = and_i (and_i (and_i
            (ap₂ leb ps.ordinal ps.parts ∙ le-leb od pa si.ordinal)
            (ap (λ (x : List ℕ). good_item (strip x)) item ∙ ib.0))
            (ap (λ (x : List ℕ). good_owner (strip x)) own ∙ ob.0))
            (ap good_library one ∙ library-good (library n c.slots) (text-solid _ ia.0) o.solid-all ia.0 o.good);
        agreed = agree-back n c k t ps;
      },
      content-back n c k t ps,
    )
