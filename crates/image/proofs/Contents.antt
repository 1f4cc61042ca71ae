-- Separated fields as the code has them: how long they are by their lengths, and how they are laid down one by one.
use Rattle.std.specs.Prelude.{if◌then◌else◌}
use Rattle.std.specs.Int.{from_bool}
use mathlib.Core.Path.{◌≡◌, refl, sym, ap, ap₂, ◌∙◌}
use Prim.Native.Nat.{ℕ, suc, ◌+◌, ◌*◌, ◌≤◌}
use mathlib.Core.Bool.{Bool, true, false, not}
use native.Mathlib.Omega.{arith}
use mathlib.Core.List.{List, [], ◌∷◌, ◌++◌, map, append-nil, append_assoc}
use lib.Dec.{eqb}
use lib.ListN.{length, get_or, length-append, get_or-map}
use borrow.Author.Tests.{ne_eqb, eqb-true, leb-true}
use Rattle.format.specs.Bytes.{all, bytes, trim}
use Rattle.format.specs.Pieces.{Stored, nowhere}
use Rattle.format.specs.Chain.{separated}
use Rattle.format.specs.declared.Part.{Part}
use Rattle.format.proofs.Tests.{never, and_l, and_r, bytes-at}
use Rattle.format.proofs.Strings.{trim-some}
use Rattle.format.proofs.Pieces.{stored-none}
use Rattle.image.specs.Laying.{Lengths, fields_size, Few, Blank}
use Rattle.image.proofs.Drafts.{On, start, put, gap, on-blank, ends}

-- ---- how long they are

trim-size : (r : List ℕ) → length (trim 0 r) ≡ (if eqb (length r) 0 then 0 else suc (length r))
unfolding trim
trim-size [] = refl
trim-size (x ∷ r) = rw (ne_eqb (suc (length r)) 0 (λ z. omega arith))

pub separated-size : (fs : List (List ℕ)) (fields : List Part) → Lengths fs fields → length (separated fs) ≡ fields_size fields
unfolding separated fields_size
separated-size [] [] e = refl
separated-size [] (p ∷ fields) e = never (cc)
separated-size (f ∷ fs) [] e = never (cc)
separated-size (f ∷ fs) (p ∷ fields) e =
    let here : length f ≡ p.len = cc in
    let rest : map length fs ≡ map (λ (q : Part). q.len) fields = cc in
    length-append f (trim 0 (separated fs)) ∙ ap₂ (λ (m n : ℕ). m + n) here (trim-size (separated fs) ∙ ap (λ (n : ℕ). if eqb n 0 then 0 else suc n) (separated-size fs fields rest))

-- each is an element, or nothing
pub few-at : {fields : List Part} → Few fields → (k : ℕ) → (get_or fields k nowhere).len ≤ 255
few-at {fields} f k = omega (arith, bytes-at k (map (λ (p : Part). p.len) fields) f.short, get_or-map (λ (p : Part). p.len) fields k nowhere)

-- of these fields, those behind `rest` have this size: each, with its separator, is 256 bytes at most
pub record Counted (fields rest : List Part) (size : ℕ) : Type 0 where
  pub behind : List Part
  pub are : fields ≡ rest ++ behind
  pub is : size ≡ fields_size behind
  pub most : size ≤ 256 * length behind

pub counted-start : (fields : List Part) → Counted fields fields 0
unfolding fields_size
counted-start fields = record { behind = []; are = sym (append-nil fields); is = refl; most = omega arith }

pub counted-end : (fields left : List Part) (size : ℕ) → length left ≡ 0 → length fields ≤ 4 → Counted fields left size → (size ≡ fields_size fields) × (size ≤ 1024)
counted-end fields (p ∷ left) size z h c = absurd (omega (arith, z))
counted-end fields [] size z h c = (c.is ∙ ap fields_size (sym c.are), omega (arith, c.most, ap length c.are, h))

short-part : (ps qs : List Part) (p : Part) → bytes (map (λ (q : Part). q.len) (ps ++ p ∷ qs)) ≡ true → p.len ≤ 255
unfolding all
short-part [] qs p e = leb-true p.len 255 (and_l _ _ e)
short-part (q ∷ ps) qs p e = short-part ps qs p (and_r _ _ e)

-- one field more, with a separator where something follows
module _ {fields left : List Part} {size : ℕ} (few : Few fields) (c : Counted fields left size) (rest : List Part) (p : Part) (e : left ≡ rest ++ p ∷ []) where
  whole : fields ≡ rest ++ (p ∷ c.behind)
  whole = c.are ∙ ap (λ (ps : List Part). ps ++ c.behind) e ∙ append_assoc rest (p ∷ []) c.behind

  small : p.len ≤ 255
  small = short-part rest c.behind p (ap (λ (ps : List Part). bytes (map (λ (q : Part). q.len) ps)) (sym whole) ∙ few.short)

  module _ (between : ℕ) (w : between ≡ from_bool (not (eqb size 0))) where
    one : between ≤ 1
    one = go (eqb size 0) between w
      where
        go : (t : Bool) (n : ℕ) → n ≡ from_bool (not t) → n ≤ 1
        go true n h = omega (arith, h)
        go false n h = omega (arith, h)

    pub counted-small : p.len + between ≤ 256
    counted-small = omega (arith, small, one)

    most : size + (p.len + between) ≤ 256 * length (p ∷ c.behind)
    most = omega (arith, counted-small, c.most)

    pub counted-fits : size + (p.len + between) ≤ 1024
    counted-fits = omega (arith, most, ap length whole, length-append rest (p ∷ c.behind), few.count)

    pub counted-more : Counted fields rest (size + (p.len + between))
    unfolding fields_size
    counted-more = record { behind = p ∷ c.behind; are = whole; is = rw (← c.is) (go (eqb size 0) refl w); most = most }
      where
        go : (t : Bool) → eqb size 0 ≡ t → between ≡ from_bool (not t) → size + (p.len + between) ≡ p.len + (if t then 0 else suc size)
        go true z h = omega (arith, eqb-true size 0 z, h)
        go false z h = omega (arith, h)

-- ---- laid down one by one

-- o with all of s laid down from byte `at` on is d with the fields that are left laid down from byte `to` on; d is 00 there, and has the
-- room, where something is left
pub record Laying (o : List ℕ) (at : ℕ) (s : List ℕ) (d : List ℕ) (to : ℕ) (left : List (List ℕ)) : Type 0 where
  pub same : length d ≡ length o
  pub fit : (length (separated left) ≡ 0 → ⊥) → Blank to d × (to + length (separated left) ≤ length d)
  pub all : (e : List ℕ) → Stored d to (separated left) (to + length (separated left)) e → Stored o at s (at + length s) e

pub laying-start : (o : List ℕ) (at : ℕ) (fs : List (List ℕ)) → Blank at o → at + length (separated fs) ≤ length o → Laying o at (separated fs) o at fs
laying-start o at fs b h = record { same = refl; fit = λ n. (b, h); all = λ e x. x }

pub laying-end : {o s d : List ℕ} {at to : ℕ} → Laying o at s d to [] → Stored o at s (at + length s) d
unfolding separated
laying-end {d = d} {to = to} l = l.all d (refl, (stored-none d to).1)

module _ {o s d : List ℕ} {at to : ℕ} {f : List ℕ} {fs : List (List ℕ)} (l : Laying o at s d to (f ∷ fs)) where
  -- a field that is there has the room
  pub field_fits : (length f ≡ 0 → ⊥) → to + length f ≤ length d
  unfolding separated
  field_fits n = omega (arith, length-append f (trim 0 (separated fs)), (l.fit (λ z. n (omega (arith, z, length-append f (trim 0 (separated fs)))))).1)

  module _ (d' : List ℕ) (long : length d' ≡ length d) (e : Stored d to f (to + length f) d') where
    -- where something follows, so does the 00 between
    behind : (length (separated fs) ≡ 0 → ⊥) → On to d (f ++ (0 ∷ [])) (to + length f + 1) d' × (to + length f + 1 + length (separated fs) ≤ length d)
    unfolding separated
    behind n =
        let r = length-append f (trim 0 (separated fs)) in
        let t : length (trim 0 (separated fs)) ≡ suc (length (separated fs)) = ap length (trim-some 0 (separated fs) n) in
        let p = l.fit (λ z. omega (arith, z, r, t)) in
        (gap (put (start to d (omega (arith, p.1)) p.0) f d' (to + length f) (omega (arith, p.1, r, t)) e) 1 (omega (arith, p.1, r, t)), omega (arith, p.1, r, t))

    module _ (e' : List ℕ) where
      laid : (r : List ℕ) → separated fs ≡ r → Stored d' (to + length f + 1) r (to + length f + 1 + length r) e' → Stored d to (f ++ trim 0 r) (to + length (f ++ trim 0 r)) e'
      unfolding trim
      laid [] q x = rw (append-nil f, x.1 ∙ sym (stored-none d' (to + length f + 1)).1) e
      laid (y ∷ r) q x =
          let b = behind (λ z. omega (arith, ap length q, z)) in
          ends (put b.0 (y ∷ r) e' _ (omega (arith, b.1, ap length q)) x) (f ++ (0 ∷ y ∷ r)) _ (append_assoc f (0 ∷ []) (y ∷ r)) (omega (arith, length-append f (0 ∷ y ∷ r)))

    pub laying-next : Laying o at s d' (to + length f + 1) fs
    unfolding separated
    laying-next = record {
      same = long ∙ l.same;
      fit = λ n. let b = behind n in (on-blank b.0, omega (arith, b.1, long));
      all = λ e' x. l.all e' (laid e' (separated fs) refl x);
    }
