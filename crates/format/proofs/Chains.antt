-- The chain of blocks from a place on, free of the turns that `walk` counts: its three equations, and what a whole chain has at
-- each place.
use Rattle.std.specs.Prelude.{if◌then◌else◌}
use mathlib.Core.Path.{◌≡◌, refl, sym, ap, ◌∙◌, subst}
use Prim.Native.Nat.{ℕ, zero, suc, ◌+◌, ◌-◌, ◌≤◌, ◌<◌}
use native.Mathlib.Nat.{add-zero}
use native.Mathlib.Omega.{arith}
use mathlib.Core.Bool.{Bool, true, false}
use mathlib.Core.List.{List, [], ◌∷◌}
use lib.Dec.{eqb, leb}
use lib.ListN.{length, take, drop, get_or, length-take, length-drop, length-append, get_or-eq_default}
use lib.Seq.{get_or-drop, get_or-take, drop-drop}
use borrow.Author.Tests.{eqb-true, eqb-false, ne_eqb, leb-true, leb-false}
use Rattle.format.specs.Answers.{Answer, got, and_then}
use Rattle.format.specs.Bytes.{joined}
use Rattle.format.specs.Chain.{length_of, id_of, well_formed, damage_of, walk, chain}
use Rattle.format.specs.Reading.{walked}
use Rattle.format.specs.Damage.{block_at}
use Rattle.format.proofs.Answers.{got-inj, then-inv}
use Rattle.format.proofs.Blocks.{well-facts, undamaged}
use Rattle.format.proofs.Counted.{uncounted, shorter}

-- ---- one turn of a walk, over what a further walk gives

-- block b at byte p, and then the blocks that a walk gives; `seen`: what came before
abbrev pub block_then : ℕ → List ℕ → List ℕ → Answer (List (List ℕ)) → Answer (List (List ℕ))
block_then p seen b more = and_then (damage_of p seen b) λ _. and_then more λ bs. got (b ∷ bs)

-- a walk from a place, with what came before
abbrev Walk : Type 0
Walk = ℕ × List ℕ → List ℕ → Answer (List (List ℕ))

unfoldable turn : Walk → Walk
turn next a s =
    let n : ℕ = get_or s 0 0 in
    if eqb n 0 then got [] else
    if eqb n 1 then next (a.0 + 1, a.1) (drop 1 s) else
    block_then a.0 a.1 (take n s) (next (a.0 + n, id_of (take n s) ∷ a.1) (drop n s))

turn-shortens : (f g : Walk) (a : ℕ × List ℕ) (s : List ℕ) → ((later : ℕ × List ℕ) (r : List ℕ) → length r < length s → f later r ≡ g later r) → turn f a s ≡ turn g a s
unfolding turn
turn-shortens f g a s h = go (eqb n 0) refl (eqb n 1)
  where
    n : ℕ
    n = get_or s 0 0

    b : List ℕ
    b = take n s

    go : (x : Bool) → eqb n 0 ≡ x → (y : Bool)
        → (if x then got [] else if y then f (a.0 + 1, a.1) (drop 1 s) else block_then a.0 a.1 b (f (a.0 + n, id_of b ∷ a.1) (drop n s)))
        ≡ (if x then got [] else if y then g (a.0 + 1, a.1) (drop 1 s) else block_then a.0 a.1 b (g (a.0 + n, id_of b ∷ a.1) (drop n s)))
    go true e y = refl
    go false e true = h (a.0 + 1, a.1) (drop 1 s) (shorter s 1 (eqb-false n 0 e) (omega arith))
    go false e false =
        let z : n ≡ 0 → ⊥ = eqb-false n 0 e in
        let p : 1 ≤ n = omega arith in
        ap (block_then a.0 a.1 b) (h (a.0 + n, id_of b ∷ a.1) (drop n s) (shorter s n z p))

counted : ℕ → Walk
counted f a s = walk f a.0 a.1 s

walk-opens : (f : ℕ) (a : ℕ × List ℕ) (s : List ℕ) → counted (suc f) a s ≡ turn (counted f) a s
unfolding counted walk turn
walk-opens f a s = refl

walk_ends : (f : ℕ) (a : ℕ × List ℕ) → counted f a [] ≡ counted zero a []
unfolding counted walk
walk_ends zero a = refl
walk_ends (suc f) a = refl

-- ---- the chain from here on

unfoldable pub chain_from : ℕ → List ℕ → List ℕ → Answer (List (List ℕ))
chain_from p seen s = walk (length s) p seen s

pub walked_from : (t : List ℕ) → walked t ≡ chain_from 34 [] (drop 34 t)
unfolding chain chain_from
walked_from t = refl

chain-turn : (p : ℕ) (seen : List ℕ) (s : List ℕ) → chain_from p seen s ≡ turn (λ a r. chain_from a.0 a.1 r) (p, seen) s
unfolding counted chain_from
chain-turn p seen s = uncounted turn counted walk-opens walk_ends turn-shortens (p, seen) s

-- a byte 00, or the end
pub chain-end : (p : ℕ) (seen : List ℕ) (s : List ℕ) → get_or s 0 0 ≡ 0 → chain_from p seen s ≡ got []
unfolding turn
chain-end p seen s e = chain-turn p seen s ∙ rw e

-- a filler
pub chain-filler : (p : ℕ) (seen : List ℕ) (s : List ℕ) → get_or s 0 0 ≡ 1 → chain_from p seen s ≡ chain_from (p + 1) seen (drop 1 s)
unfolding turn
chain-filler p seen s e = chain-turn p seen s ∙ rw e

-- a block of n bytes
pub chain-block : (p : ℕ) (seen : List ℕ) (n : ℕ) (s : List ℕ) → get_or s 0 0 ≡ n → 2 ≤ n
    → chain_from p seen s ≡ block_then p seen (take n s) (chain_from (p + n) (id_of (take n s) ∷ seen) (drop n s))
unfolding turn
chain-block p seen n s e h =
    let nonzero : n ≡ 0 → ⊥ = λ z. omega arith in
    let not-one : n ≡ 1 → ⊥ = λ z. omega arith in
    chain-turn p seen s ∙ rw (e, ne_eqb n 0 nonzero, ne_eqb n 1 not-one)

-- ---- at a place of a tag

pub first_byte_lem : (t : List ℕ) (at : ℕ) → get_or (drop at t) 0 0 ≡ get_or t at 0
first_byte_lem t at = simp (get_or-drop, add-zero)

-- past the tag's end there is no byte
pub past_end : (t : List ℕ) (at : ℕ) → length t ≤ at → get_or t at 0 ≡ 0
past_end t at h = get_or-eq_default t 0 h

pub before-end : (t : List ℕ) (at : ℕ) → 1 ≤ get_or t at 0 → at < length t
before-end t at h = go (leb (length t) at) refl
  where
    go : (x : Bool) → leb (length t) at ≡ x → at < length t
    go true e = absurd (omega (arith, past_end t at (leb-true (length t) at e)))
    go false e = leb-false (length t) at e

-- a byte 00 or 01 is all of its block
pub small_size : (t : List ℕ) (at : ℕ) → get_or t at 0 < 2 → length (block_at t at) ≡ get_or t at 0
small_size t at h = go (get_or t at 0) refl
  where
    go : (n : ℕ) → get_or t at 0 ≡ n → length (block_at t at) ≡ get_or t at 0
    go zero e = omega (arith, length-take (get_or t at 0) (drop at t))
    go (suc n) e = omega (arith, length-take (get_or t at 0) (drop at t), length-drop at t, before-end t at (omega arith))

module _ (t : List ℕ) (at : ℕ) (seen : List ℕ) where
  pub ends_at : get_or t at 0 ≡ 0 → chain_from at seen (drop at t) ≡ got []
  ends_at e = chain-end at seen (drop at t) (first_byte_lem t at ∙ e)

  pub filler-at : get_or t at 0 ≡ 1 → chain_from at seen (drop at t) ≡ chain_from (at + 1) seen (drop (at + 1) t)
  filler-at e = chain-filler at seen (drop at t) (first_byte_lem t at ∙ e) ∙ ap (chain_from (at + 1) seen) (drop-drop 1 at t)

  pub block-at : 2 ≤ get_or t at 0
      → chain_from at seen (drop at t) ≡ block_then at seen (block_at t at) (chain_from (at + get_or t at 0) (id_of (block_at t at) ∷ seen) (drop (at + get_or t at 0) t))
  block-at h =
      chain-block at seen (get_or t at 0) (drop at t) (first_byte_lem t at) h
      ∙ ap (λ (r : List ℕ). block_then at seen (block_at t at) (chain_from (at + get_or t at 0) (id_of (block_at t at) ∷ seen) r)) (drop-drop (get_or t at 0) at t)

  -- what the first byte of a block says
  pub says_at : 1 ≤ get_or t at 0 → length_of (block_at t at) ≡ get_or t at 0
  says_at h = get_or-take (get_or t at 0) (drop at t) 0 0 h ∙ first_byte_lem t at

-- ---- a whole chain: what stands at byte `at`, where it holds the blocks bs from there on

-- a well-formed block that begins at byte `at` is as long as its first byte says, and does not run past the tag
pub record Stands (t : List ℕ) (at : ℕ) : Type 0 where
  pub size : length (block_at t at) ≡ get_or t at 0
  pub long : 3 ≤ get_or t at 0
  pub inside : at + get_or t at 0 ≤ length t

pub stands : (t : List ℕ) (at : ℕ) → well_formed (block_at t at) ≡ true → Stands t at
stands t at w =
    let n : ℕ = get_or t at 0 in
    let k = well-facts (block_at t at) w in
    let m : length (block_at t at) ≤ n = omega (arith, length-take n (drop at t)) in
    let p : 0 < n = omega (arith, k.long) in
    let e : length (block_at t at) ≡ n = sym k.says ∙ says_at t at [] p in
    let i : at < length t = before-end t at p in
    record { size = e; long = omega (arith, k.long); inside = omega (arith, length-take n (drop at t), length-drop at t) }

-- a block stands there, and the rest of the chain behind it
pub record Ahead (t : List ℕ) (at : ℕ) (seen : List ℕ) (bs : List (List ℕ)) : Type 0 where
  pub rest : List (List ℕ)
  pub first : bs ≡ block_at t at ∷ rest
  pub behind : chain_from (at + get_or t at 0) (id_of (block_at t at) ∷ seen) (drop (at + get_or t at 0) t) ≡ got rest
  pub well : well_formed (block_at t at) ≡ true
  pub there : Stands t at

module _ (t : List ℕ) (at : ℕ) (seen : List ℕ) (bs : List (List ℕ)) (whole : chain_from at seen (drop at t) ≡ got bs) where
  pub end-ahead : get_or t at 0 ≡ 0 → bs ≡ []
  end-ahead e = got-inj (sym whole ∙ ends_at t at seen e)

  pub filler-ahead : get_or t at 0 ≡ 1 → chain_from (at + 1) seen (drop (at + 1) t) ≡ got bs
  filler-ahead e = sym (filler-at t at seen e) ∙ whole

  pub block-ahead : 2 ≤ get_or t at 0 → Ahead t at seen bs
  block-ahead h =
      let b : List ℕ = block_at t at in
      let more : Answer (List (List ℕ)) = chain_from (at + get_or t at 0) (id_of b ∷ seen) (drop (at + get_or t at 0) t) in
      let i = then-inv (damage_of at seen b) (λ _. and_then more λ r. got (b ∷ r)) bs (sym (block-at t at seen h) ∙ whole) in
      let j = then-inv more (λ r. got (b ∷ r)) bs i.2 in
      let w = undamaged at seen b i.0 (omega (arith, says_at t at seen (omega arith))) i.1 in
      record {
        rest = j.0;
        first = sym (got-inj j.2);
        behind = j.1;
        well = w.0;
        there = stands t at w.0;
      }

-- what holds where a chain ends, and holds at a filler or a block where it holds behind it, holds of every whole chain
pub by-places : (t : List ℕ) (P : ℕ → List ℕ → List (List ℕ) → Type 0)
    → ((at : ℕ) (seen : List ℕ) → get_or t at 0 ≡ 0 → P at seen [])
    → ((at : ℕ) (seen : List ℕ) (bs : List (List ℕ)) → get_or t at 0 ≡ 1 → P (at + 1) seen bs → P at seen bs)
    → ((at : ℕ) (seen : List ℕ) (bs : List (List ℕ)) (a : Ahead t at seen bs) → P (at + get_or t at 0) (id_of (block_at t at) ∷ seen) a.rest → P at seen bs)
    → (f at : ℕ) (seen : List ℕ) (bs : List (List ℕ)) → length t ≤ at + f → chain_from at seen (drop at t) ≡ got bs → P at seen bs
by-places t P e f b zero at seen bs h w =
    let z : get_or t at 0 ≡ 0 = past_end t at (omega arith) in
    subst (P at seen) (sym (end-ahead t at seen bs w z)) (e at seen z)
by-places t P e f b (suc k) at seen bs h w = go (eqb (get_or t at 0) 0) refl (eqb (get_or t at 0) 1) refl (by-places t P e f b k)
  where
    go : (x : Bool) → eqb (get_or t at 0) 0 ≡ x → (y : Bool) → eqb (get_or t at 0) 1 ≡ y
        → ((at' : ℕ) (seen' : List ℕ) (bs' : List (List ℕ)) → length t ≤ at' + k → chain_from at' seen' (drop at' t) ≡ got bs' → P at' seen' bs') → P at seen bs
    go true ex y ey ih = let z = eqb-true (get_or t at 0) 0 ex in subst (P at seen) (sym (end-ahead t at seen bs w z)) (e at seen z)
    go false ex true ey ih = let z = eqb-true (get_or t at 0) 1 ey in f at seen bs z (ih (at + 1) seen bs (omega arith) (filler-ahead t at seen bs w z))
    go false ex false ey ih =
        let z : get_or t at 0 ≡ 0 → ⊥ = eqb-false (get_or t at 0) 0 ex in
        let o : get_or t at 0 ≡ 1 → ⊥ = eqb-false (get_or t at 0) 1 ey in
        let a = block-ahead t at seen bs w (omega arith) in
        b at seen bs a (ih (at + get_or t at 0) (id_of (block_at t at) ∷ seen) a.rest (omega (arith, a.there.long)) a.behind)

-- together its blocks have no more bytes than are left
pub chain-total : (t : List ℕ) (at : ℕ) (seen : List ℕ) (bs : List (List ℕ)) → chain_from at seen (drop at t) ≡ got bs → length (joined bs) ≤ length t - at
unfolding joined
chain-total t at seen bs w =
    by-places t (λ (k : ℕ) (s : List ℕ) (cs : List (List ℕ)). length (joined cs) ≤ length t - k) (λ k s e. omega arith) (λ k s cs e h. omega (arith, h)) one (length t) at seen bs (omega arith) w
  where
    one : (k : ℕ) (s : List ℕ) (cs : List (List ℕ)) (a : Ahead t k s cs) → length (joined a.rest) ≤ length t - (k + get_or t k 0) → length (joined cs) ≤ length t - k
    one k s cs a h = rw a.first (omega (arith, length-append (block_at t k) (joined a.rest), a.there.size, a.there.inside, h))
