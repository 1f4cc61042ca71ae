-- The CRC's place in a layout: what stands there changes nothing that the CRC covers.
use mathlib.Core.Path.{◌≡◌, refl, sym, ap, ap₂, ◌∙◌}
use Prim.Native.Nat.{ℕ, suc, ◌+◌, ◌-◌, ◌≤◌}
use native.Mathlib.Nat.{sub-zero}
use native.Mathlib.Omega.{arith}
use mathlib.Core.Bool.{true}
use mathlib.Core.List.{List, [], ◌∷◌, ◌++◌, append_assoc, append-nil}
use lib.Dec.{leb}
use lib.ListN.{length, take, drop, set, replicate, length-set, length-append, length-replicate, length-take, length-drop, take-append-drop}
use lib.Seq.{take_at, drop_at, take-append-add, drop-drop, length-take-le}
use borrow.Author.Tests.{le-leb, leb-true}
use Rattle.format.specs.Bytes.{same, le16, part, pad_with, pad}
use Rattle.format.specs.Crc.{crc, covered}
use Rattle.format.specs.Fields.{owner_field}
use Rattle.format.specs.Chain.{block_one}
use Rattle.format.specs.Elements.{slot}
use Rattle.format.specs.Layout.{owner_width, owner_of, library, front, basic, laid_out, layout, has_layout}
use Rattle.format.proofs.Tests.{and_r, same_truth, same-eq}
use Rattle.format.proofs.Pieces.{stored-byte, stored-then}
use Rattle.format.proofs.Strings.{nil-of, le16-length, length-pad}
use Rattle.format.proofs.Layouts.{item-length, owner-length}
use Rattle.image.specs.Laying.{zeros}
use Rattle.strings.proofs.Clearing.{front-zeros}
use Rattle.image.specs.Drafting.{with_check, checked, sealing, unsealed, Fresh}

-- ---- any bytes in the CRC's place

module _ (s d : List ℕ) (two : length s ≡ 2) (long : 21 ≤ length d) where
  nineteen : length (take 19 d) ≡ 19
  nineteen = length-take-le 19 d (omega arith)

  check-front : take 19 (with_check s d) ≡ take 19 d
  check-front = take_at (take 19 d) (s ++ drop 21 d) 19 nineteen

  check-behind : drop 21 (with_check s d) ≡ drop 21 d
  check-behind = sym (drop-drop 2 19 (with_check s d)) ∙ ap (drop 2) (drop_at (take 19 d) (s ++ drop 21 d) 19 nineteen) ∙ drop_at s (drop 21 d) 2 two

  check-covered : covered (with_check s d) ≡ covered d
  unfolding covered
  check-covered = ap₂ (λ (x y : List ℕ). x ++ pad 13 (take 13 y)) check-front check-behind

  check-again : (r : List ℕ) → with_check r (with_check s d) ≡ with_check r d
  check-again r = ap₂ (λ (x y : List ℕ). x ++ (r ++ y)) check-front check-behind

  check-length : length (with_check s d) ≡ length d
  check-length = length-append (take 19 d) (s ++ drop 21 d) ∙ omega (arith, nineteen, length-append s (drop 21 d), length-drop 21 d)

-- those that stand there
check-same : (d : List ℕ) → with_check (part 19 2 d) d ≡ d
check-same d =
    ap (λ (x : List ℕ). take 19 d ++ (part 19 2 d ++ x)) (sym (drop-drop 2 19 d)) ∙ ap (λ (x : List ℕ). take 19 d ++ x) (take-append-drop 2 (drop 19 d)) ∙ take-append-drop 19 d

-- two bytes stored there
pub put-check : (d : List ℕ) (low high : ℕ) → 21 ≤ length d → set (set d 19 low) 20 high ≡ with_check (low ∷ high ∷ []) d
put-check d low high h =
    (stored-then d (set d 19 low) (set (set d 19 low) 20 high) (low ∷ []) (high ∷ []) 19 20 21 (omega arith) (stored-byte d 19 low (omega arith)) (stored-byte (set d 19 low) 20 high (simp length-set (omega arith)))).1

pub sealing-long : (d : List ℕ) → 21 ≤ length d → sealing d ≡ checked d
unfolding sealing
sealing-long d h = rw (le-leb 21 (length d) h)

-- ---- the layout in parts

pub front_length : (ss : List (List ℕ)) → length (front ss) ≡ 19
unfolding front
front_length ss = ap (λ (n : ℕ). suc (suc (suc n))) (item-length (slot ss 1))

module _ (n : ℕ) (ss : List (List ℕ)) (blocks : List ℕ) where
  abbrev all : List ℕ
  all = layout n ss blocks

  abbrev pub own : List ℕ
  own = owner_field (owner_width n) (owner_of ss)

  abbrev pub tail : List ℕ
  tail = block_one (library n ss) ++ (blocks ++ zeros (n - length (laid_out n ss blocks)))

  abbrev check : List ℕ
  check = le16 (crc (front ss ++ pad 13 own))

  shape : all ≡ front ss ++ (check ++ (own ++ tail))
  unfolding layout pad_with laid_out basic
  shape = simp append_assoc

  shape-check : drop 19 all ≡ check ++ (own ++ tail)
  shape-check = ap (drop 19) shape ∙ drop_at (front ss) (check ++ (own ++ tail)) 19 (front_length ss)

  pub shape-front : take 19 all ≡ front ss
  shape-front = ap (take 19) shape ∙ take_at (front ss) (check ++ (own ++ tail)) 19 (front_length ss)

  pub shape_behind : drop 21 all ≡ own ++ tail
  shape_behind = sym (drop-drop 2 19 all) ∙ ap (drop 2) shape-check ∙ drop_at check (own ++ tail) 2 (le16-length (crc (front ss ++ pad 13 own)))

  module _ (least : 32 ≤ n) (fit : has_layout n ss blocks ≡ true) where
    all-length : length all ≡ n
    unfolding layout has_layout
    all-length = length-pad 0 n (laid_out n ss blocks) (leb-true _ n (and_r (leb (length (block_one (library n ss))) 255) _ fit))

    -- the owner field has 13 bytes, or ends the layout
    cut : take 13 (own ++ tail) ≡ own
    cut =
        let w = owner-length (owner_width n) (owner_of ss) (omega arith) in
        let l : length own + length tail ≡ n - 21 = sym (length-append own tail) ∙ sym (ap length shape_behind) ∙ length-drop 21 all ∙ ap (λ (m : ℕ). m - 21) all-length in
        let k : ℕ = 13 - length own in
        let e : 13 ≡ length own + k = omega arith in
        ap (λ (m : ℕ). take m (own ++ tail)) e ∙ take-append-add own tail k ∙ ap (λ (x : List ℕ). own ++ x) (nil-of (take k tail) (omega (arith, length-take k tail))) ∙ append-nil own

    -- its CRC is right
    right : part 19 2 all ≡ le16 (crc (covered all))
    unfolding covered
    right =
        let covers : take 19 all ++ pad 13 (part 21 13 all) ≡ front ss ++ pad 13 own =
        ap₂ (λ (x y : List ℕ). x ++ pad 13 (take 13 y)) shape-front shape_behind ∙ ap (λ (x : List ℕ). front ss ++ pad 13 x) cut in
        ap (take 2) shape-check ∙ take_at check (own ++ tail) 2 (le16-length (crc (front ss ++ pad 13 own))) ∙ ap (λ (x : List ℕ). le16 (crc x)) (sym covers)

    long : 21 ≤ length all
    long = omega (arith, all-length)

    pub unsealed-length : length (unsealed n ss blocks) ≡ n
    unfolding unsealed
    unsealed-length = check-length (0 ∷ 0 ∷ []) all refl long ∙ all-length

    -- sealed, the draft is the layout
    pub sealed-layout : sealing (unsealed n ss blocks) ≡ layout n ss blocks
    unfolding unsealed
    sealed-layout =
        sealing-long (unsealed n ss blocks) (omega (arith, unsealed-length))
        ∙ ap (λ (x : List ℕ). with_check (le16 (crc x)) (unsealed n ss blocks)) (check-covered (0 ∷ 0 ∷ []) all refl long)
        ∙ check-again (0 ∷ 0 ∷ []) all refl long (le16 (crc (covered all)))
        ∙ ap (λ (x : List ℕ). with_check x all) (sym right) ∙ check-same all

-- with the bytes that a tag has in the CRC's place, where they are right, the draft is the tag exactly if its layout is
pub own-layout : (t : List ℕ) (ss : List (List ℕ)) (blocks : List ℕ) → 32 ≤ length t → same (part 19 2 t) (le16 (crc (covered t))) ≡ true → has_layout (length t) ss blocks ≡ true
    → same (with_check (part 19 2 t) (unsealed (length t) ss blocks)) t ≡ same (layout (length t) ss blocks) t
unfolding unsealed
own-layout t ss blocks least ok fit =
    let s : List ℕ = part 19 2 t in
    let l : List ℕ = layout (length t) ss blocks in
    let h = long (length t) ss blocks least fit in
    let two : length s ≡ 2 = length-take-le 2 (drop 19 t) (omega (arith, length-drop 19 t)) in
    let put : s ≡ part 19 2 l → with_check s l ≡ l = λ e. ap (λ (x : List ℕ). with_check x l) e ∙ check-same l in
    ap (λ (x : List ℕ). same x t) (check-again (0 ∷ 0 ∷ []) l refl h s)
    ∙ same_truth (same (with_check s l) t) (same l t)
    (λ e.
    let covers : covered l ≡ covered t = sym (check-covered s l two h) ∙ ap covered (same-eq (with_check s l) t e) in
    let is : s ≡ part 19 2 l = same-eq s _ ok ∙ ap (λ (x : List ℕ). le16 (crc x)) (sym covers) ∙ sym (right (length t) ss blocks least fit) in
    sym (ap (λ (x : List ℕ). same x t) (put is)) ∙ e)
    (λ e. ap (λ (x : List ℕ). same x t) (put (ap (part 19 2) (sym (same-eq l t e)))) ∙ e)

-- ---- drafts of 00

-- as many 00 as the tag has bytes are a draft for it: the front of an array that is long enough, and a draft that is cleared
zeros-fresh : (d t : List ℕ) (m : ℕ) → m ≡ length t → d ≡ replicate m 0 → Fresh d t
zeros-fresh d t m e z =
    let l : length d ≡ m = ap length z ∙ length-replicate m 0 in
    record { long = l ∙ e; blank = z ∙ ap (λ (n : ℕ). replicate n 0) (sym l) }

pub lent-fresh : (t : List ℕ) (m : ℕ) → length t ≤ m → Fresh (take (length t - 0) (replicate m 0)) t
lent-fresh t m h = zeros-fresh _ t (length t) refl (front-zeros (length t) m h)

-- the front, as a draft of any length lends it
pub front-fresh : (t : List ℕ) (m : ℕ) → length t ≤ m → Fresh (take (length t) (replicate m 0)) t
front-fresh t m h = rw (sub-zero (length t)) at (lent-fresh t m h)

pub cleared-fresh : (d d' t : List ℕ) (m : ℕ) → Fresh d t → m ≡ length d → d' ≡ replicate m 0 → Fresh d' t
cleared-fresh d d' t m f e z = zeros-fresh d' t m (e ∙ f.long) z
