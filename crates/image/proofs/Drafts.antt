-- A draft that is filled from the front: what stands behind a byte is 00 until something is stored there.
use mathlib.Core.Path.{◌≡◌, sym, ap, ap₂, ◌∙◌}
use Prim.Native.Nat.{ℕ, zero, suc, ◌+◌, ◌-◌, ◌≤◌, ◌<◌}
use native.Mathlib.Nat.{sub-zero}
use native.Mathlib.Omega.{arith}
use mathlib.Core.List.{List, [], ◌∷◌, ◌++◌, append_assoc}
use lib.ListN.{length, take, drop, set, length-append, length-set, length-drop, length-replicate, replicate-append-replicate, take-append-drop}
use lib.Seq.{take_at, drop_at, drop-drop, length-take-le, take-set-le, drop-set-add, set-append_left}
use Rattle.format.specs.Pieces.{Stored}
use Rattle.format.proofs.Pieces.{stored-none, stored-length, stored-then, stored-byte}
use borrow.Rule.Slice.PartMut.{put_mid}
use Rattle.strings.proofs.Clearing.{front-zeros}
use Rattle.image.specs.Laying.{zeros, Blank}

pub drop-zeros : (k n : ℕ) → drop k (zeros n) ≡ zeros (n - k)
drop-zeros zero n = ap (λ (m : ℕ). zeros m) (sym (sub-zero n))
drop-zeros (suc k) zero = let z : 0 - suc k ≡ 0 = omega arith in ap (λ (m : ℕ). zeros m) (sym z)
drop-zeros (suc k) (suc n) = let z : n - k ≡ suc n - suc k = omega arith in drop-zeros k n ∙ ap (λ (m : ℕ). zeros m) z

pub blank-all : (d : List ℕ) → d ≡ zeros (length d) → Blank 0 d
blank-all d b = b ∙ ap (λ (m : ℕ). zeros m) (sym (sub-zero (length d)))

-- what is 00 from a byte on is 00 from a later one on
pub blank-later : (at to : ℕ) (d : List ℕ) → at ≤ to → Blank at d → Blank to d
blank-later at to d h b =
    let e : to ≡ at + (to - at) = omega arith in
    let f : length d - at - (to - at) ≡ length d - to = omega arith in
    ap (λ (m : ℕ). drop m d) e ∙ sym (drop-drop (to - at) at d) ∙ ap (drop (to - at)) b ∙ drop-zeros (to - at) (length d - at) ∙ ap (λ (m : ℕ). zeros m) f

-- where there are 00, storing them changes nothing
stored-zeros : (at k : ℕ) (d : List ℕ) → at + k ≤ length d → Blank at d → Stored d at (zeros k) (at + k) d
stored-zeros at k d h b =
    let l : at + k ≡ at + length (zeros k) = ap (λ (m : ℕ). at + m) (sym (length-replicate k 0)) in
    let e : length d - at ≡ k + (length d - (at + k)) = omega arith in
    let z : drop at d ≡ zeros k ++ drop (at + k) d =
    b ∙ ap (λ (m : ℕ). zeros m) e ∙ sym (replicate-append-replicate k (length d - (at + k)) 0) ∙ ap (λ (y : List ℕ). zeros k ++ y) (sym (blank-later at (at + k) d (omega arith) b)) in
    (l, sym (take-append-drop at d) ∙ ap (λ (y : List ℕ). take at d ++ y) z ∙ ap (λ (m : ℕ). take at d ++ (zeros k ++ drop m d)) l)

-- d is o, 00 from byte `at` on, with s stored there; m is the place behind s
pub record On (at : ℕ) (o s : List ℕ) (m : ℕ) (d : List ℕ) : Type 0 where
  pub blank : Blank at o
  pub room : m ≤ length o
  pub is : Stored o at s m d

-- ---- a part of a draft, lent

pub part-length : (at k : ℕ) (d : List ℕ) → at + k ≤ length d → length (take k (drop at d)) ≡ k
part-length at k d h = length-take-le k (drop at d) (omega (arith, length-drop at d))

pub blank-part : (at k : ℕ) (d : List ℕ) → at + k ≤ length d → Blank at d → Blank 0 (take k (drop at d))
blank-part at k d h b =
    let e : take k (drop at d) ≡ zeros k = ap (take k) b ∙ rw (sub-zero k) at (front-zeros k (length d - at) (omega arith)) in
    blank-all (take k (drop at d)) (e ∙ ap (λ (m : ℕ). zeros m) (sym (part-length at k d h)))

-- what was made of it is stored there
pub stored-part : (at k m : ℕ) (d piece : List ℕ) → length piece ≡ k → m ≡ at + k → Stored d at piece m (put_mid at k d piece)
stored-part at k m d piece e f =
    (f ∙ ap (λ (n : ℕ). at + n) (sym e), ap (λ (y : List ℕ). take at d ++ (piece ++ y)) (drop-drop k at d ∙ ap (λ (n : ℕ). drop (at + n) d) (sym e)))

-- ---- piece by piece

pub start : (at : ℕ) (o : List ℕ) → at ≤ length o → Blank at o → On at o [] at o
start at o h b = record { blank = b; room = h; is = stored-none o at }

module _ {at m : ℕ} {o s d : List ℕ} (x : On at o s m d) where
  within : at + length s ≤ length o
  within = omega (arith, x.is.0, x.room)

  head : length (take at o) ≡ at
  head = length-take-le at o (omega (arith, within))

  pub on-length : length d ≡ length o
  on-length = stored-length o s d at m within x.is

  -- the next place is still 00
  pub on-blank : Blank m d
  on-blank =
      let l : length (take at o ++ s) ≡ m = length-append (take at o) s ∙ omega (arith, head, x.is.0) in
      ap (drop m) (x.is.1 ∙ sym (append_assoc (take at o) s (drop (at + length s) o))) ∙ drop_at (take at o ++ s) (drop (at + length s) o) m l
      ∙ blank-later at (at + length s) o (omega arith) x.blank ∙ ap₂ (λ (i j : ℕ). zeros (i - j)) (sym on-length) (sym x.is.0)

  -- what is stored behind it
  pub put : (q d' : List ℕ) (r : ℕ) → r ≤ length o → Stored d m q r d' → On at o (s ++ q) r d'
  put q d' r h y = record { blank = x.blank; room = h; is = stored-then o d d' s q at m r (omega (arith, within)) x.is y }

  pub put_byte : (b : ℕ) → m < length o → On at o (s ++ (b ∷ [])) (m + 1) (set d m b)
  put_byte b h = put (b ∷ []) (set d m b) (m + 1) (omega arith) (stored-byte d m b (omega (arith, on-length)))

  -- 00 that are there already
  pub gap : (k : ℕ) → m + k ≤ length o → On at o (s ++ zeros k) (m + k) d
  gap k h = put (zeros k) d (m + k) h (stored-zeros m k d (omega (arith, on-length)) on-blank)

  -- a byte in the place of one that is there
  pub over : (k b : ℕ) → k < length s → On at o (set s k b) m (set d (at + k) b)
  over k b h =
      let l = length-set s k b in
      let z : List ℕ = drop (at + length s) o in
      let y : List ℕ = take at o ++ (s ++ z) in
      let front : take at (set y (at + k) b) ≡ take at o = take-set-le at y (at + k) b (omega arith) ∙ take_at (take at o) (s ++ z) at head in
      let behind : drop at (set y (at + k) b) ≡ set s k b ++ z = drop-set-add at y k b ∙ ap (λ (u : List ℕ). set u k b) (drop_at (take at o) (s ++ z) at head) ∙ set-append_left s z k b h in
      let is = ap (λ (u : List ℕ). set u (at + k) b) x.is.1 ∙ sym (take-append-drop at (set y (at + k) b)) ∙ ap₂ (λ (u v : List ℕ). u ++ v) front behind in
      record { blank = x.blank; room = x.room; is = (x.is.0 ∙ omega (arith, l), is ∙ ap (λ (i : ℕ). take at o ++ (set s k b ++ drop (at + i) o)) (sym l)) }

  -- what is stored stands there
  pub on-part : (k : ℕ) → k ≡ length s → take k (drop at d) ≡ s
  on-part k e =
      let z : List ℕ = drop (at + length s) o in
      ap (λ (y : List ℕ). take k (drop at y)) x.is.1 ∙ ap (take k) (drop_at (take at o) (s ++ z) at head) ∙ take_at s z k (sym e)

  -- as a contract says it
  pub ends : (p : List ℕ) (r : ℕ) → s ≡ p → m ≡ r → Stored o at p r d
  ends p r e n = (sym n ∙ x.is.0 ∙ ap (λ (y : List ℕ). at + length y) e, x.is.1 ∙ ap (λ (y : List ℕ). take at o ++ (y ++ drop (at + length y) o)) e)
