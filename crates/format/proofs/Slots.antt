-- A content's strings: a value for each number of the table.
use Rattle.std.specs.Prelude.{if◌then◌else◌}
use mathlib.Core.Path.{◌≡◌, refl, sym, ap, ◌∙◌}
use mathlib.Core.Logic.{inl, inr}
use Prim.Native.Nat.{ℕ, zero, suc, ◌<◌}
use native.Mathlib.Nat.{le_of_suc-le-suc, not-suc-le-zero}
use native.Mathlib.Omega.{arith}
use mathlib.Core.Bool.{Bool, true, false, not, ◌&&◌}
use mathlib.Core.List.{List, [], ◌∷◌, map}
use lib.Dec.{eqb, leb}
use lib.ListN.{length, get_or, set}
use lib.Seq.{set-set, set-get_or}
use borrow.Author.Tests.{eqb-true, ltb-true}
use Rattle.format.specs.Bytes.{is_empty, all}
use Rattle.format.specs.Elements.{Content, Kind, kind_is, numbers, place_in, place, known, el, put, shape, form, value, clash, values_at, sound}
use Rattle.format.specs.Fields.{long}
use Rattle.format.specs.Chain.{carriable}
use Rattle.format.proofs.Tests.{never, and_l, and_r, and_i, not_t, or-false, if-inv, same_truth, all-mono, bytes-at}
use Rattle.format.proofs.Strings.{all-opened}

pub values_length : (ns : List ℕ) (ss : List (List ℕ)) → values_at ns ss ≡ true → length ss ≡ length ns
unfolding values_at
values_length [] [] e = refl
values_length [] (s ∷ ss) e = never (cc)
values_length (n ∷ ns) [] e = never (cc)
values_length (n ∷ ns) (s ∷ ss) e = ap suc (values_length ns ss (and_r (value n s) (values_at ns ss) e))

pub values-at : (ns : List ℕ) (ss : List (List ℕ)) → values_at ns ss ≡ true → (i : ℕ) → i < length ns → value (get_or ns i 0) (get_or ss i []) ≡ true
unfolding values_at
values-at [] ss e i h = absurd (not-suc-le-zero h)
values-at (n ∷ ns) [] e i h = never (cc)
values-at (n ∷ ns) (s ∷ ss) e zero h = and_l (value n s) (values_at ns ss) e
values-at (n ∷ ns) (s ∷ ss) e (suc i) h = values-at ns ss (and_r (value n s) (values_at ns ss) e) i (le_of_suc-le-suc h)

-- another value in the place of a number
pub values-set : (ns : List ℕ) (ss : List (List ℕ)) (i : ℕ) (s : List ℕ) → values_at ns ss ≡ true → value (get_or ns i 0) s ≡ true → values_at ns (set ss i s) ≡ true
unfolding values_at
values-set [] [] i s e v = refl
values-set [] (r ∷ ss) i s e v = never (cc)
values-set (n ∷ ns) [] i s e v = never (cc)
values-set (n ∷ ns) (r ∷ ss) zero s e v = and_i v (and_r (value n r) (values_at ns ss) e)
values-set (n ∷ ns) (r ∷ ss) (suc i) s e v = and_i (and_l (value n r) (values_at ns ss) e) (values-set ns ss i s (and_r (value n r) (values_at ns ss) e) v)

pub place-number : (ns : List ℕ) (n : ℕ) → place_in ns n < length ns → get_or ns (place_in ns n) 0 ≡ n
place-number [] n h = absurd (not-suc-le-zero h)
place-number (m ∷ ns) n h = go (eqb m n) refl (λ k. place-number ns n k) h
  where
    go : (t : Bool) → eqb m n ≡ t → (place_in ns n < length ns → get_or ns (place_in ns n) 0 ≡ n) → (if t then 0 else suc (place_in ns n)) < suc (length ns) → get_or (m ∷ ns) (if t then 0 else suc (place_in ns n)) 0 ≡ n
    go true e ih k = eqb-true m n e
    go false e ih k = ih (le_of_suc-le-suc k)

-- ---- the table's rows

-- what is true of a number's row is true of a row that has the number; and so is what is true of every row
pub kind-of : (f g : Kind → Bool) (rs : List Kind) (n : ℕ) → kind_is f rs n ≡ true → all g rs ≡ true
    → (r : Kind) × (n ≡ r.number) × (f r ≡ true) × (g r ≡ true)
unfolding all
kind-of f g [] n e a = never (cc)
kind-of f g (r ∷ rs) n e a = elim (if-inv (eqb n r.number) (f r) (kind_is f rs n) e) [
  | inl q ↦ (r, eqb-true n r.number q.0, q.1, and_l (g r) (all g rs) a)
  | inr q ↦ kind-of f g rs n q.1 (and_r (g r) (all g rs) a)
]

-- ---- a sound content

pub record Facts (c : Content) : Type 0 where
  pub eta : record { slots = map (el c) numbers; carried = c.carried } ≡ c
  pub values : (n : ℕ) → known n ≡ true → value n (el c n) ≡ true
  pub owners : not (is_empty (el c 3)) && not (is_empty (el c 23)) ≡ false
  pub items : not (is_empty (el c 22)) && long (el c 1) ≡ false
  pub rest : all carriable c.carried ≡ true

pub form-carriable : (b : List ℕ) → form 255 b ≡ true → carriable b ≡ true
unfolding form shape
form-carriable b e = and_l (carriable b) (leb (length b) 255) e

-- the three parts of soundness
pub record Sound (c : Content) : Type 0 where
  pub values : values_at numbers c.slots ≡ true
  pub blocks : all (form 255) c.carried ≡ true
  pub clear : clash c.slots ≡ false

pub sound-parts : (c : Content) → sound c ≡ true → Sound c
unfolding sound
sound-parts c e =
    let v : Bool = values_at numbers c.slots in
    let b : Bool = all (form 255) c.carried in
    let vb = and_l (v && b) (not (clash c.slots)) e in
    record { values = and_l v b vb; blocks = and_r v b vb; clear = not_t (clash c.slots) (and_r (v && b) (not (clash c.slots)) e) }

pub parts-sound : (c : Content) → Sound c → sound c ≡ true
unfolding sound
parts-sound c k = and_i (and_i k.values k.blocks) (ap not k.clear)

-- the number that stands at a known number's place
pub known_at : (n : ℕ) → known n ≡ true → (place n < length numbers) × (get_or numbers (place n) 0 ≡ n)
unfolding known
known_at n k = let h = ltb-true (place_in numbers n) (length numbers) k in (h, place-number numbers n h)

pub value_of : (c : Content) → sound c ≡ true → (n : ℕ) → known n ≡ true → value n (el c n) ≡ true
value_of c sc n kn = let k = known_at n kn in rw k.1 at (values-at numbers c.slots (sound-parts c sc).values (place n) k.0)

pub sound-facts : (c : Content) → sound c ≡ true → Facts c
unfolding clash
sound-facts c e =
    let k = sound-parts c e in
    let cl = or-false _ _ k.clear in
    record {
      eta = ap (λ (l : List (List ℕ)). record { slots = l; carried = c.carried }) (sym (all-opened [] _ c.slots (values_length numbers c.slots k.values)));
      values = value_of c e;
      owners = cl.0;
      items = cl.1;
      rest = all-mono (form 255) carriable form-carriable c.carried k.blocks;
    }

-- ---- one element set

-- no number above 255 is one of the table
pub wide-unknown : (n : ℕ) → 255 < n → known n ≡ false
unfolding all
wide-unknown n h = same_truth (known n) false (λ k. absurd (omega (arith, (known_at n k).1, bytes-at (place n) numbers refl))) (λ e. never (cc))

module _ (c : Content) (sc : sound c ≡ true) (n : ℕ) (kn : known n ≡ true) where
  pub put-sound : (s : List ℕ) → value n s ≡ true → clash (put c n s).slots ≡ false → sound (put c n s) ≡ true
  unfolding put
  put-sound s v k =
      let p = sound-parts c sc in
      parts-sound (put c n s) (record { values = values-set numbers c.slots (place n) s p.values (rw (known_at n kn).1 v); blocks = p.blocks; clear = k })

pub put_back : (c : Content) (n : ℕ) (s : List ℕ) → put (put c n s) n (el c n) ≡ c
unfolding put
put_back c n s =
    ap (λ (l : List (List ℕ)). record { slots = l; carried = c.carried }) (set-set c.slots (place n) s (el c n) ∙ set-get_or c.slots (place n) [])

pub put_same : (c : Content) (n : ℕ) → put c n (el c n) ≡ c
unfolding put
put_same c n = ap (λ (l : List (List ℕ)). record { slots = l; carried = c.carried }) (set-get_or c.slots (place n) [])
