-- A buffer in which pieces are stored one behind the other.
use mathlib.Core.Path.{◌≡◌, refl, sym, ap, ap₂, ◌∙◌}
use mathlib.Core.List.{List, [], ◌∷◌, ◌++◌, append_assoc}
use Prim.Native.Nat.{ℕ, ◌+◌, ◌-◌, ◌≤◌, ◌<◌}
use native.Mathlib.Nat.{add-zero, zero-add}
use native.Mathlib.Omega.{arith}
use native.Mathlib.Numerals.{add-one}
use lib.ListN.{length, take, drop, set, length-append, length-take, length-drop, take-append-drop}
use lib.Seq.{set_split, take_at, drop_at, drop-append-le, drop-drop, take-length, take-append_seam, length-take-le}
use Rattle.format.specs.Bytes.{filled}
use Rattle.format.specs.Pieces.{Stored}

-- nothing stored
pub stored-none : (o : List ℕ) (at : ℕ) → Stored o at [] at o
stored-none o at = (sym (add-zero at), sym (ap (λ (n : ℕ). take at o ++ drop n o) (add-zero at) ∙ take-append-drop at o))

-- a copy into the part of k bytes that begins at byte `at`
pub stored-into : (o p last : List ℕ) (at k : ℕ) → length p ≤ length (take k (drop at o))
    → last ≡ take (length p) p ++ drop (length p) (take k (drop at o))
    → Stored o at p (at + length p) (take at o ++ (last ++ drop k (drop at o)))
stored-into o p last at k h e =
    let r : List ℕ = drop at o in
    let behind : drop (length p) (take k r) ++ drop k r ≡ drop (at + length p) o =
    sym (drop-append-le (length p) (take k r) (drop k r) h) ∙ ap (drop (length p)) (take-append-drop k r) ∙ drop-drop (length p) at o in
    let l : last ≡ p ++ drop (length p) (take k r) = e ∙ ap (λ (x : List ℕ). x ++ drop (length p) (take k r)) (take-length p) in
    (refl, ap (λ (x : List ℕ). take at o ++ x) (ap (λ (x : List ℕ). x ++ drop k r) l ∙ append_assoc p _ (drop k r) ∙ ap (λ (x : List ℕ). p ++ x) behind))

-- into a part that it fills
pub stored-copy : (o p last : List ℕ) (at k : ℕ) → k ≡ length p → at + length p ≤ length o
    → last ≡ take (length p) p ++ drop (length p) (take k (drop at o))
    → Stored o at p (at + length p) (take at o ++ (last ++ drop k (drop at o)))
stored-copy o p last at k hk h e = stored-into o p last at k (omega (arith, length-take k (drop at o), length-drop at o)) e

-- into the whole buffer
pub copy-fills : (o p d : List ℕ) → d ≡ take (length p) p ++ drop (length p) o → d ≡ filled p o
copy-fills o p d e = e ∙ ap (λ (x : List ℕ). x ++ drop (length p) o) (take-length p)

pub stored-whole : (o p d : List ℕ) (r : ℕ) → r ≡ length p → d ≡ take (length p) p ++ drop (length p) o → Stored o 0 p r d
stored-whole o p d r long e = rw zero-add (long, copy-fills o p d e)

-- the buffer keeps its length
pub stored-length : (o p d : List ℕ) (at r : ℕ) → at + length p ≤ length o → Stored o at p r d → length d ≡ length o
stored-length o p d at r h s =
    ap length s.1
    ∙ length-append (take at o) (p ++ drop (at + length p) o)
    ∙ omega (arith, length-append p (drop (at + length p) o), length-take at o, length-drop (at + length p) o)

-- one piece, and another behind it
pub stored-then : (o d e p q : List ℕ) (at m r : ℕ) → at ≤ length o → Stored o at p m d → Stored d m q r e → Stored o at (p ++ q) r e
stored-then o d e p q at m r h s u =
    let n : ℕ = at + length p in
    let front : length (take at o ++ p) ≡ m = length-append (take at o) p ∙ omega (arith, length-take-le at o h, s.0) in
    let d-is : d ≡ (take at o ++ p) ++ drop n o = s.1 ∙ sym (append_assoc (take at o) p (drop n o)) in
    let before : take m d ≡ take at o ++ p = ap (take m) d-is ∙ take_at (take at o ++ p) (drop n o) m front in
    let behind : drop (m + length q) d ≡ drop (n + length q) o =
    sym (drop-drop (length q) m d) ∙ ap (drop (length q)) (ap (drop m) d-is ∙ drop_at (take at o ++ p) (drop n o) m front) ∙ drop-drop (length q) n o in
    let total : n + length q ≡ at + length (p ++ q) = omega (arith, length-append p q) in (
      omega (arith, s.0, u.0),
      u.1
          ∙ ap₂ (λ (x y : List ℕ). x ++ (q ++ y)) before (behind ∙ ap (λ (k : ℕ). drop k o) total)
          ∙ append_assoc (take at o) p (q ++ drop (at + length (p ++ q)) o)
          ∙ ap (λ (x : List ℕ). take at o ++ x) (sym (append_assoc p q (drop (at + length (p ++ q)) o))),
    )

-- the same piece by another equation
pub stored-as : (o d p q : List ℕ) (at r : ℕ) → p ≡ q → Stored o at p r d → Stored o at q r d
stored-as o d p q at r e s = rw e at s

-- a piece at the front fills the buffer
pub stored-front : (o d p : List ℕ) (r : ℕ) → Stored o 0 p r d → (r ≡ length p) × (d ≡ filled p o)
stored-front o d p r s = (s.0 ∙ zero-add (length p), s.1 ∙ ap (λ (n : ℕ). p ++ drop n o) (zero-add (length p)))

-- one byte
pub stored-byte : (o : List ℕ) (at b : ℕ) → at < length o → Stored o at (b ∷ []) (at + 1) (set o at b)
stored-byte o at b h = (refl, rw add-one (set_split o at b h))

-- ---- a buffer whose front is filled

module _ (p o d : List ℕ) (r : ℕ) (long : r ≡ length p) (is : d ≡ filled p o) where
  pub filled_within : r ≤ length d
  filled_within = omega (arith, ap length is, length-append p (drop (length p) o))

  -- the front as code takes it
  pub filled-front : take (r - 0) d ≡ p
  filled-front = let k : r - 0 ≡ length p = omega arith in ap₂ take k is ∙ take-append_seam p (drop (length p) o)
