-- A chain of well-formed blocks is walked as it was laid, and block 1's fields come back.
use Rattle.std.specs.Prelude.{if◌then◌else◌}
use mathlib.Core.Path.{◌≡◌, refl, sym, ap, ◌∙◌}
use Prim.Native.Nat.{ℕ, zero, suc, ◌+◌, ◌≤◌, ◌<◌}
use native.Mathlib.Nat.{le_refl}
use native.Mathlib.Omega.{arith}
use mathlib.Core.Bool.{Bool, true, false, not, ◌&&◌, ◌||◌}
use mathlib.Core.List.{List, [], ◌∷◌, ◌++◌, append_assoc}
use lib.Dec.{eqb, leb}
use lib.ListN.{length, drop, get_or, replicate, length-append, get_or-append}
use lib.Seq.{take_at, drop_at}
use borrow.Author.Tests.{eqb-true, eqb-false, eq-eqb, ne_eqb, leb-true, le-leb}
use Rattle.format.specs.Answers.{got, and_then}
use Rattle.format.specs.Bytes.{is_empty, all, one_of, le16, word, xor_all, trim, strip, joined}
use Rattle.format.specs.Text.{text}
use Rattle.format.specs.Fields.{is_owner}
use Rattle.format.specs.Chain.{length_of, id_of, whole, named, summed, well_formed, taken_apart, carriable, single, damage_steps, damage_of, walk, chain, block_of, other_blocks, payload, beyond, separated, sealed, block_with, Library, last_field, library_in, good_library, library_fields, library_bytes, block_one}
use Rattle.format.proofs.Tests.{and_l, and_r, and_i, not_t}
use Rattle.format.proofs.Answers.{need-at-ok, need-at-inv, then_ok, first-ok, first-inv, none-ok}
use Rattle.format.proofs.Strings.{word-le16, trim-head, trim-drop, trim-trim, suc-other, solid}
use Rattle.format.proofs.Separated.{beyond-separated, fields-separated, separated-strip}
use Rattle.format.proofs.Xor.{xor-closed}

-- ---- a sealed block

pub sealed-id : (id : ℕ) (p : List ℕ) → id < 65536 → id_of (sealed id p) ≡ id
unfolding sealed le16
sealed-id id p h = word-le16 id h

pub sealed-length : (id : ℕ) (p : List ℕ) → length (sealed id p) ≡ length p + 4
unfolding sealed le16
sealed-length id p = omega arith

sealed-first : (id : ℕ) (p : List ℕ) → get_or (sealed id p) 0 0 ≡ length p + 4
unfolding sealed le16
sealed-first id p = refl

sealed-xor : (id : ℕ) (p : List ℕ) → xor_all (sealed id p) ≡ 0
unfolding sealed
sealed-xor id p = xor-closed ((length p + 4) ∷ le16 id) p

pub sealed-well : (id : ℕ) (p : List ℕ) → 1 ≤ id → id ≤ 100 → well_formed (sealed id p) ≡ true
unfolding well_formed named summed
sealed-well id p lo hi =
    let l = sealed-length id p in
    let says : whole (sealed id p) ≡ true = eq-eqb (length_of (sealed id p)) (length (sealed id p)) (sealed-first id p ∙ sym l) in
    rw (sealed-id id p (omega arith), le-leb id 100 hi, ne_eqb id 0 (omega arith))
    (and_i (and_i (and_i (le-leb 3 (length (sealed id p)) (omega arith)) says) (le-leb 4 (length (sealed id p)) (omega arith))) (eq-eqb (xor_all (sealed id p)) 0 (sealed-xor id p)))

-- ---- a well-formed block

pub record Whole (b : List ℕ) : Type 0 where
  pub long : 3 ≤ length b
  pub says : length_of b ≡ length b
  pub id-there : eqb (id_of b) 0 ≡ false
  pub good-name : named b ≡ true
  pub good-sum : summed b ≡ true

named-id : (b : List ℕ) → named b ≡ true → eqb (id_of b) 0 ≡ false
unfolding named
named-id b h = not_t (eqb (id_of b) 0) (and_l (not (eqb (id_of b) 0)) _ h)

pub well-facts : (b : List ℕ) → well_formed b ≡ true → Whole b
unfolding well_formed
well-facts b w =
    let x : Bool = leb 3 (length b) in
    let h = and_l (x && whole b && named b) (summed b) w in
    let xy = and_l (x && whole b) (named b) h in
    let n = and_r (x && whole b) (named b) h in
    record {
      long = leb-true 3 (length b) (and_l x (whole b) xy);
      says = eqb-true (length_of b) (length b) (and_r x (whole b) xy);
      id-there = named-id b n;
      good-name = n;
      good-sum = and_r (x && whole b && named b) (summed b) w;
    }

pub carried-facts : (b : List ℕ) → carriable b ≡ true → (well_formed b ≡ true) × (taken_apart b ≡ false)
unfolding carriable
carried-facts b h = (and_l (well_formed b) (not (taken_apart b)) h, not_t (taken_apart b) (and_r (well_formed b) (not (taken_apart b)) h))

-- ---- its damage

-- a well-formed block that is no second block 1 has none
pub no-damage : (p : ℕ) (seen : List ℕ) (b : List ℕ) → well_formed b ≡ true → not (single (id_of b) && one_of seen (id_of b)) ≡ true → damage_of p seen b ≡ got tt
unfolding damage_steps
no-damage p seen b w o =
    let k = well-facts b w in
    let three : length_of b ≡ 2 → ⊥ = λ e. omega (arith, k.long, k.says) in
    first-ok _ _ tt (need-at-ok p 15 _ (ap not (ne_eqb (length_of b) 2 three))) ∙ first-ok _ _ tt (need-at-ok p 16 _ (eq-eqb (length_of b) (length b) k.says))
    ∙ first-ok _ _ tt (need-at-ok p 17 _ k.good-name) ∙ first-ok _ _ tt (need-at-ok p 18 _ k.good-sum) ∙ first-ok _ _ tt (need-at-ok p 19 _ o) ∙ none-ok tt

-- and one that has none, and is no filler, is well formed
pub undamaged : (p : ℕ) (seen : List ℕ) (b : List ℕ) (u : Unit {0}) → 2 ≤ length_of b → damage_of p seen b ≡ got u → (well_formed b ≡ true) × (not (single (id_of b) && one_of seen (id_of b)) ≡ true)
unfolding damage_steps well_formed
undamaged p seen b u two e =
    let l = first-inv _ _ tt u e in
    let w = first-inv _ _ tt u l.1 in
    let n = first-inv _ _ tt u w.1 in
    let s = first-inv _ _ tt u n.1 in
    let o = first-inv _ _ tt u s.1 in
    let all_there : whole b ≡ true = need-at-inv p 16 _ tt w.0 in
    let three : length_of b ≡ 2 → ⊥ = eqb-false (length_of b) 2 (not_t _ (need-at-inv p 15 _ tt l.0)) in
    let long : 3 ≤ length b = omega (arith, two, three, eqb-true (length_of b) (length b) all_there) in
    (and_i (and_i (and_i (le-leb 3 (length b) long) all_there) (need-at-inv p 17 _ tt n.0)) (need-at-inv p 18 _ tt s.0), need-at-inv p 19 _ tt o.0)

-- ---- the walk

-- a length that is not 0 and no filler's
pub some_block : (n : ℕ) → eqb n 0 ≡ false → eqb n 1 ≡ false → 2 ≤ n
some_block n z o =
    let nonzero : n ≡ 0 → ⊥ = eqb-false n 0 z in
    let not-one : n ≡ 1 → ⊥ = eqb-false n 1 o in
    omega arith

-- a block at the front is taken, and the walk goes on behind it
step : (f p : ℕ) (seen : List ℕ) (b r : List ℕ) → well_formed b ≡ true → not (single (id_of b) && one_of seen (id_of b)) ≡ true
    → walk (suc f) p seen (b ++ r) ≡ and_then (walk f (p + length b) (id_of b ∷ seen) r) (λ bs. got (b ∷ bs))
unfolding walk
step f p seen b r w o =
    let k = well-facts b w in
    let g : get_or (b ++ r) 0 0 ≡ length b = get_or-append b r 0 0 (omega (arith, k.long)) ∙ k.says in
    rw (g, ne_eqb (length b) 0 (omega (arith, k.long)), ne_eqb (length b) 1 (omega (arith, k.long)), take_at b r (length b) refl, drop_at b r (length b) refl)
    (then_ok _ _ tt (no-damage p seen b w o))

walk-zeros : (f p m : ℕ) (seen : List ℕ) → walk f p seen (replicate m 0) ≡ got []
unfolding walk
walk-zeros zero p m seen = refl
walk-zeros (suc f) p zero seen = refl
walk-zeros (suc f) p (suc m) seen = refl

-- carried blocks, and 00 to the end
walk-carried : (f p m : ℕ) (seen : List ℕ) (bs : List (List ℕ)) → all carriable bs ≡ true → length (joined bs ++ replicate m 0) ≤ f
    → walk f p seen (joined bs ++ replicate m 0) ≡ got bs
unfolding all joined
walk-carried f p m seen [] h l = walk-zeros f p m seen
walk-carried zero p m seen (b ∷ bs) h l =
    let k = well-facts b (carried-facts b (and_l (carriable b) (all carriable bs) h)).0 in
    absurd (omega (arith, length-append (b ++ joined bs) (replicate m 0), length-append b (joined bs), k.long))
walk-carried (suc f) p m seen (b ∷ bs) h l =
    let c = carried-facts b (and_l (carriable b) (all carriable bs) h) in
    let r : List ℕ = joined bs ++ replicate m 0 in
    let k : length r ≤ f = omega (arith, length-append b r, ap length (append_assoc b (joined bs) (replicate m 0)), (well-facts b c.0).long) in
    rw (append_assoc b (joined bs) (replicate m 0))
    (step f p seen b r c.0 (rw c.1 refl)
    ∙ then_ok (walk f (p + length b) (id_of b ∷ seen) r) (λ cs. got (b ∷ cs)) bs (walk-carried f (p + length b) m (id_of b ∷ seen) bs (and_r (carriable b) (all carriable bs) h) k))

-- ---- what a block holds

pub payload-back : (id : ℕ) (p : List ℕ) → strip p ≡ p → payload (block_with id p) ≡ p
unfolding payload block_with sealed le16 strip
payload-back id [] e = refl
payload-back id (x ∷ p) e = e

-- a byte 00 is no field
byte-solid : (u : ℕ) → solid (trim u []) ≡ true
unfolding all trim
byte-solid zero = refl
byte-solid (suc u) = rw (suc-other u)

byte-back : (u : ℕ) → (get_or (separated (trim u [] ∷ [])) 0 0 ≡ u) × (leb (length (separated (trim u [] ∷ []))) 1 ≡ true)
unfolding separated trim
byte-back zero = (refl, refl)
byte-back (suc u) = (refl, refl)

module _ (f : Library) (i : solid f.item ≡ true) (o : solid f.owner ≡ true) where
  abbrev fields : List (List ℕ)
  fields = library_fields f

  whole_fields : all solid fields ≡ true
  unfolding all
  whole_fields = and_i i (and_i o (and_i (byte-solid f.usage) refl))

  payload-is : payload (block_one f) ≡ trim f.media (separated fields)
  unfolding library_bytes
  payload-is = payload-back 1 (library_bytes f) (trim-trim f.media (separated fields) (separated-strip fields whole_fields))

  behind-media : drop 1 (payload (block_one f)) ≡ separated fields
  behind-media = ap (drop 1) payload-is ∙ trim-drop f.media (separated fields)

  last-back : last_field (block_one f) ≡ separated (trim f.usage [] ∷ [])
  last-back = ap (beyond 2) behind-media ∙ beyond-separated 2 fields whole_fields

  -- the fields of block 1 come back
  pub library-back : library_in (block_one f) ≡ f
  unfolding library_in
  library-back =
      rw (last-back, behind-media, payload-is, fields-separated 2 fields whole_fields (omega arith), trim-head f.media (separated fields), (byte-back f.usage).0)

  pub library-good : text f.item ≡ true → is_empty f.owner || is_owner f.owner ≡ true → good_library (block_one f) ≡ true
  unfolding good_library
  library-good t w = rw (library-back, last-back) (and_i (and_i (byte-back f.usage).1 t) w)

no-library : (cs : List (List ℕ)) → all carriable cs ≡ true → (block_of 1 cs ≡ []) × (other_blocks cs ≡ cs)
unfolding all block_of other_blocks
no-library [] h = (refl, refl)
no-library (b ∷ cs) h =
    let c = carried-facts b (and_l (carriable b) (all carriable cs) h) in
    let r = no-library cs (and_r (carriable b) (all carriable cs) h) in
    (rw c.1 r.0, rw c.1 (ap (λ (x : List (List ℕ)). b ∷ x) r.1))

-- block 1 and the carried blocks, walked
pub record Laid (p : ℕ) (one : List ℕ) (cs : List (List ℕ)) (m : ℕ) : Type 0 where
  pub bs : List (List ℕ)
  pub walks : chain p (one ++ (joined cs ++ replicate m 0)) ≡ got bs
  pub library : block_of 1 bs ≡ one
  pub others : other_blocks bs ≡ cs

pub chain-laid : (p : ℕ) (f : Library) (cs : List (List ℕ)) (m : ℕ) → all carriable cs ≡ true → Laid p (block_one f) cs m
unfolding block_with chain block_of other_blocks sealed le16 word one_of
chain-laid p f cs m h = go (library_bytes f)
  where
    go : (q : List ℕ) → Laid p (if is_empty q then [] else sealed 1 q) cs m
    go [] = let r = no-library cs h in record { bs = cs; walks = walk-carried _ p m [] cs h (le_refl _); library = r.0; others = r.1 }
    go (x ∷ q) =
        let b : List ℕ = sealed 1 (x ∷ q) in
        let r : List ℕ = joined cs ++ replicate m 0 in
        let n = no-library cs h in
        record {
          bs = b ∷ cs;
          walks = step (length (drop 1 b ++ r)) p [] b r (sealed-well 1 (x ∷ q) (omega arith) (omega arith)) refl
              ∙ then_ok (walk (length (drop 1 b ++ r)) (p + length b) (1 ∷ []) r) (λ bs. got (b ∷ bs)) cs (walk-carried (length (drop 1 b ++ r)) (p + length b) m (1 ∷ []) cs h (omega (arith, length-append (drop 1 b) r)));
          library = refl;
          others = n.1;
        }
