-- The layout of what a readable tag holds exists on that tag: no block of it is longer than what was read.
use Rattle.std.specs.Prelude.{if◌then◌else◌}
use mathlib.Core.Path.{◌≡◌, refl, sym, ap, ◌∙◌}
use mathlib.Core.Logic.{◌⊎◌, inl, inr}
use Prim.Native.Nat.{ℕ, ◌+◌, ◌-◌, ◌*◌, ◌%◌, ◌≤◌}
use native.Mathlib.Omega.{arith}
use mathlib.Core.Bool.{Bool, true, false, ◌||◌}
use mathlib.Core.List.{List, [], ◌∷◌, ◌++◌}
use lib.Dec.{eqb}
use lib.ListN.{length, drop, get_or, length-take, length-drop, length-append}
use borrow.Author.Tests.{eqb-true, le-leb, lt-leb}
use Rattle.format.specs.Bytes.{is_empty, bytes, same, part, pad_with, strip, trim, up_to, past, joined}
use Rattle.format.specs.Pages.{good_size}
use Rattle.format.specs.Fields.{isil_of, hyphen, blank, alternate, alternative, marked, prefix_in, owner_said, good_owner, long, packed, basic_owner}
use Rattle.format.specs.Chain.{taken_apart, block_of, other_blocks, Library, payload, fields_in, beyond, separated, block_with, last_field, library_in, library_fields, library_bytes, block_one}
use Rattle.format.specs.Elements.{Content}
use Rattle.format.specs.Layout.{owner_width, owner_of, usage_of, library, basic, own_blocks, laid_out, fits, has_layout}
use Rattle.format.specs.Reading.{main_usage, item_in, owner_in, blocks_in, library_on, owner_on, content_in, Readable}
use Rattle.format.proofs.Tests.{never, beq-false, and_i, or_r}
use Rattle.format.proofs.Strings.{some-behind, part_length, strip-length, trim-drop, strip-strip, length-pad, up-to-before, past-before}
use Rattle.format.proofs.Separated.{beyond-strip, rebuilt, Fewer, none, next, trim-mono, fewer-shorter}
use Rattle.format.proofs.Fields.{isil-facts, isil-first, alternative-facts, said-cases}
use Rattle.format.proofs.Blocks.{sealed-length}
use Rattle.format.proofs.Chains.{walked_from, chain-total}
use Rattle.format.proofs.Layouts.{basic-length, size-cases}
use Rattle.format.proofs.Sound.{capitals-unhyphened, isil-made, prefix-length, fields-parts, agree-owner, library-tests, block-short, blocks-handed}

-- ---- block 1 put together again from its fields

last_byte : (u : List ℕ) → length u ≤ 1 → strip u ≡ u → trim (get_or u 0 0) [] ≡ u
unfolding strip trim
last_byte [] h e = refl
last_byte (x ∷ []) h e = e
last_byte (x ∷ y ∷ u) h e = absurd (omega arith)

pub library-rebuilt : (b : List ℕ) → length (last_field b) ≤ 1 → library_bytes (library_in b) ≡ payload b
unfolding library_bytes library_in payload fields_in beyond separated up_to past strip trim
library-rebuilt b h = go (strip (drop 4 b)) (strip-strip (drop 4 b)) h
  where
    go : (p : List ℕ) → strip p ≡ p → length (beyond 2 (drop 1 p)) ≤ 1
        → trim (get_or p 0 0) (separated (get_or (fields_in 2 (drop 1 p)) 0 [] ∷ get_or (fields_in 2 (drop 1 p)) 1 [] ∷ trim (get_or (beyond 2 (drop 1 p)) 0 0) [] ∷ [])) ≡ p
    go [] e h = refl
    go (m ∷ s) e h =
        let whole : strip s ≡ s = sym (trim-drop m (strip s)) ∙ ap (drop 1) e in
        ap (λ (u : List ℕ). trim m (separated (up_to 0 s ∷ up_to 0 (past 0 s) ∷ u ∷ []))) (last_byte (past 0 (past 0 s)) h (beyond-strip 2 s whole)) ∙ ap (trim m) (rebuilt 2 s whole) ∙ ap (trim m) (sym whole) ∙ e

-- block 1 with some of its fields left out is no longer
less-bytes : (f g : Library) → f.media ≡ g.media → Fewer (library_fields f) (library_fields g) → length (library_bytes f) ≤ length (library_bytes g)
unfolding library_bytes
less-bytes f g m h = rw m (trim-mono g.media _ _ (fewer-shorter _ _ h))

less-block : (id : ℕ) (p b : List ℕ) → length p ≤ length (payload b) → length (block_with id p) ≤ length b
unfolding block_with payload
less-block id [] b h = omega arith
less-block id (x ∷ p) b h = omega (arith, sealed-length id (x ∷ p), strip-length (drop 4 b), length-drop 4 b)

-- ---- an owner that was read from the owner field fits it

short-packed : (p u : List ℕ) → length p ≤ 2 → length (pad_with blank 2 p ++ u) ≡ 2 + length u
short-packed p u h = length-append (pad_with blank 2 p) u ∙ ap (λ (k : ℕ). k + length u) (length-pad blank 2 p h)

isil-basic : (w : ℕ) (p u : List ℕ) → isil_of p u ≡ true → length p ≤ 2 → 2 + length u ≤ w → basic_owner w (p ++ hyphen ∷ u) ≡ true
unfolding basic_owner packed
isil-basic w p u e l h =
    let c = capitals-unhyphened p (isil-facts p u e).capitals in
    rw ((isil-first (p ++ hyphen ∷ u) (isil-made p u e)).0, up-to-before hyphen p u c, past-before hyphen p u c)
    (and_i (le-leb (length p) 2 l) (le-leb (length (pad_with blank 2 p ++ u)) w (omega (arith, short-packed p u l))))

alternative-basic : (w : ℕ) (o : List ℕ) → alternative o ≡ true → 2 + length o ≤ w → basic_owner w o ≡ true
unfolding basic_owner packed
alternative-basic w o e h = rw (alternative-facts o e).kind (le-leb (length (0 ∷ 0 ∷ o)) w (omega arith))

-- what a good owner field says, if not the marker, the basic forms hold again
said-basic : (w : ℕ) (t : List ℕ) → good_owner t ≡ true → marked (owner_said t) ≡ false → length t ≤ w → is_empty (owner_said t) || basic_owner w (owner_said t) ≡ true
unfolding same
said-basic w t e m l = elim (said-cases t e) [
  | inl q ↦ rw q
  | inr (inl q) ↦ never (cc (rw q at m))
  | inr (inr (inl q)) ↦
      let s = some-behind 1 (drop 2 t) (alternative-facts (drop 2 t) q.1).some in
      rw q.0 (or_r (is_empty (drop 2 t)) _ (alternative-basic w (drop 2 t) q.1 (omega (arith, length-drop 2 t))))
  | inr (inr (inr q)) ↦
      let s = (isil-facts (prefix_in t) (drop 2 t) q.1).unit-some in
      rw q.0 (or_r (is_empty (prefix_in t ++ (hyphen ∷ drop 2 t))) _ (isil-basic w (prefix_in t) (drop 2 t) q.1 (prefix-length t) (omega (arith, length-drop 2 t))))
]

-- ---- the fields of block 1 that are laid down again

library-usage : (n : ℕ) (ss : List (List ℕ)) → (library n ss).usage ≡ (if eqb (usage_of ss % 16) 0 then 0 else usage_of ss)
unfolding library
library-usage n ss = refl

module _ (t : List ℕ) (r : Readable t) where
  abbrev c : Content
  c = content_in t

  abbrev f : Library
  f = library_on t

  again : ℕ → Library
  again n = library n c.slots

  less-media : (m : ℕ) → get_or (if eqb m 0 then [] else m ∷ []) 0 0 ≡ m
  less-media m = go (eqb m 0) refl
    where
      go : (x : Bool) → eqb m 0 ≡ x → get_or (if x then [] else m ∷ []) 0 0 ≡ m
      go true q = sym (eqb-true m 0 q)
      go false q = refl

  less-item : (i fi : List ℕ) → length i ≤ 16
      → let one : List ℕ = if marked i then fi else i in let two : List ℕ = if marked i then [] else fi in
      ((if long one then one else two) ≡ fi) ⊎ ((if long one then one else two) ≡ [])
  less-item i fi l = go (marked i)
    where
      go : (m : Bool) → let one : List ℕ = if m then fi else i in let two : List ℕ = if m then [] else fi in
          ((if long one then one else two) ≡ fi) ⊎ ((if long one then one else two) ≡ [])
      go true = pick (long fi)
        where
          pick : (x : Bool) → ((if x then fi else []) ≡ fi) ⊎ ((if x then fi else []) ≡ [])
          pick true = inl refl
          pick false = inr refl
      go false = inl (rw (lt-leb 17 (length i) (omega arith)))

  less-usage : (m u : ℕ) → let x : ℕ = if eqb u 0 then m * 16 else u in let v : ℕ = if eqb (x % 16) 0 then 0 else x in (trim v [] ≡ trim u []) ⊎ (trim v [] ≡ [])
  unfolding trim
  less-usage m u = go (eqb u 0) refl
    where
      pick : (x : Bool) → (trim (if x then 0 else u) [] ≡ trim u []) ⊎ (trim (if x then 0 else u) [] ≡ [])
      pick true = inr refl
      pick false = inl refl

      go : (t : Bool) → eqb u 0 ≡ t → let x : ℕ = if t then m * 16 else u in let v : ℕ = if eqb (x % 16) 0 then 0 else x in (trim v [] ≡ trim u []) ⊎ (trim v [] ≡ [])
      go true q = let z : m * 16 % 16 ≡ 0 = omega arith in inr (rw z)
      go false q = pick (eqb (u % 16) 0)

  either-owner : (o : List ℕ) → (if is_empty (if alternate o then [] else o) then (if alternate o then o else []) else (if alternate o then [] else o)) ≡ o
  either-owner o = go (alternate o)
    where
      nil : (o : List ℕ) → (if is_empty o then [] else o) ≡ o
      nil [] = refl
      nil (x ∷ o) = refl

      go : (x : Bool) → (if is_empty (if x then [] else o) then (if x then o else []) else (if x then [] else o)) ≡ o
      go true = refl
      go false = nil o

  owner-again : owner_of c.slots ≡ owner_on t
  unfolding content_in
  owner-again = either-owner (owner_on t)

  less-owner : (n : ℕ) → length (owner_in t) ≤ owner_width n → ((again n).owner ≡ f.owner) ⊎ ((again n).owner ≡ [])
  unfolding again library owner_on
  less-owner n l = rw owner-again (go f.owner refl)
    where
      keep : (o : List ℕ) (x : Bool) → ((if x then [] else o) ≡ o) ⊎ ((if x then [] else o) ≡ [])
      keep o true = inr refl
      keep o false = inl refl

      unmarked : f.owner ≡ [] → marked (owner_said (owner_in t)) ≡ false
      unmarked e = beq-false (marked (owner_said (owner_in t))) (rw e at (agree-owner t r.agreed))

      go : (fo : List ℕ) → f.owner ≡ fo
          → let o : List ℕ = if is_empty fo then owner_said (owner_in t) else fo in
          ((if is_empty o || basic_owner (owner_width n) o then [] else o) ≡ fo) ⊎ ((if is_empty o || basic_owner (owner_width n) o then [] else o) ≡ [])
      go [] e = inr (rw (said-basic (owner_width n) (owner_in t) (fields-parts t r.fields).owner (unmarked e) l))
      go (x ∷ fo) e = keep (x ∷ fo) (basic_owner (owner_width n) (x ∷ fo))

  less-again : (n : ℕ) → (trim (again n).usage [] ≡ trim f.usage []) ⊎ (trim (again n).usage [] ≡ [])
  unfolding again content_in
  less-again n = rw (library-usage n c.slots) (less-usage (main_usage t) f.usage)

  again-fewer : (n : ℕ) → length (owner_in t) ≤ owner_width n → Fewer (library_fields (again n)) (library_fields f)
  unfolding again library content_in
  again-fewer n l =
      next (less-item (item_in t) f.item (omega (arith, strip-length (part 3 16 t), part_length 3 16 t)))
      (next (less-owner n l) (next (less-again n) none))

  -- block 1 is no longer than it was
  pub block-shorter : (n : ℕ) → length (owner_in t) ≤ owner_width n → length (block_one (library n (content_in t).slots)) ≤ length (block_of 1 (blocks_in t))
  unfolding again library content_in
  block-shorter n l =
      let b : List ℕ = block_of 1 (blocks_in t) in
      let lt = library-tests b (fields-parts t r.fields).library in
      less-block 1 (library_bytes (again n)) b (omega (arith, less-bytes (again n) f (less-media f.media) (again-fewer n l), ap length (library-rebuilt b lt.0)))

-- ---- how many bytes the blocks have

pub others-le : (bs : List (List ℕ)) → length (joined (other_blocks bs)) ≤ length (joined bs)
unfolding joined other_blocks
others-le [] = omega arith
others-le (b ∷ bs) = go (taken_apart b) (others-le bs)
  where
    go : (x : Bool) → length (joined (other_blocks bs)) ≤ length (joined bs) → length (joined (if x then other_blocks bs else b ∷ other_blocks bs)) ≤ length (b ++ joined bs)
    go true ih = omega (arith, length-append b (joined bs))
    go false ih = omega (arith, length-append b (joined bs), length-append b (joined (other_blocks bs)))

-- block 1 and the others are among the blocks
pub split-total : (bs : List (List ℕ)) → length (block_of 1 bs) + length (joined (other_blocks bs)) ≤ length (joined bs)
unfolding joined block_of other_blocks
split-total [] = omega arith
split-total (b ∷ bs) = go (taken_apart b) (split-total bs)
  where
    go : (x : Bool) → length (block_of 1 bs) + length (joined (other_blocks bs)) ≤ length (joined bs)
        → length (if x then b else block_of 1 bs) + length (joined (if x then other_blocks bs else b ∷ other_blocks bs)) ≤ length (b ++ joined bs)
    go true ih = omega (arith, length-append b (joined bs), others-le bs)
    go false ih = omega (arith, length-append b (joined bs), length-append b (joined (other_blocks bs)))

-- the blocks of a tag have no more bytes than follow its first 34
pub blocks-total : (t : List ℕ) → Readable t → length (joined (blocks_in t)) ≤ length t - 34
blocks-total t r = chain-total t 34 [] (blocks_in t) (sym (walked_from t) ∙ r.blocks)

-- ---- the layout of what was read

module _ (p : ℕ) (t : List ℕ) (y : bytes t ≡ true) (g : good_size p (length t) ≡ true) (r : Readable t) where
  own-in-width : length (owner_in t) ≤ owner_width (length t)
  own-in-width = omega (arith, strip-length (part 21 13 t), length-take 13 (drop 21 t), length-drop 21 t)

  laid-blocks : length (own_blocks (length t) (content_in t).slots ++ joined (content_in t).carried) ≤ length (joined (blocks_in t))
  unfolding content_in
  laid-blocks =
      omega (arith, length-append (own_blocks (length t) (content_in t).slots) (joined (other_blocks (blocks_in t))), block-shorter t r (length t) own-in-width, split-total (blocks_in t))

  wide : (3 ≤ owner_width (length t)) × (21 + owner_width (length t) + (length t - 34) ≤ length t)
  wide = elim (size-cases p (length t) g) [ inl e ↦ rw e (omega arith, omega arith) | inr e ↦ (omega arith, omega arith) ]

  -- it is no longer than what was read: the basic block and the blocks
  pub laid-shorter : length (laid_out (length t) (content_in t).slots (joined (content_in t).carried)) ≤ 21 + owner_width (length t) + length (joined (blocks_in t))
  unfolding laid_out
  laid-shorter =
      let n : ℕ = length t in
      let c : Content = content_in t in
      omega (arith, length-append (basic n c.slots) (own_blocks n c.slots ++ joined c.carried), basic-length n c wide.0, laid-blocks)

  -- so it exists
  pub read_fits : fits (length t) (content_in t) ≡ true
  unfolding has_layout
  read_fits =
      and_i (le-leb (length (block_one (library (length t) (content_in t).slots))) 255 (omega (arith, block-shorter t r (length t) own-in-width, block-short 1 (blocks_in t) (blocks-handed t y r))))
      (le-leb (length (laid_out (length t) (content_in t).slots (joined (content_in t).carried))) (length t) (omega (arith, laid-shorter, blocks-total t r, wide.1)))
