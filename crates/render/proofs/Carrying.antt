-- A loop over the carried blocks of a tag whose chain is whole, which stores a piece for each.
use mathlib.Core.Path.{◌≡◌, refl, sym, ap, ◌∙◌}
use mathlib.Core.List.{List, [], ◌∷◌}
use mathlib.Core.Bool.{Bool, true, false}
use mathlib.Core.Logic.{◌⊎◌, inl, inr}
use Prim.Native.Nat.{ℕ, ◌+◌, ◌≤◌, ◌<◌}
use native.Mathlib.Omega.{arith}
use lib.Dec.{eqb, ltb}
use lib.ListN.{length, get_or, get_or-eq_default}
use borrow.Author.Tests.{eqb-true, eqb-false, ltb-true, ltb-false, eq-eqb, ne_eqb}
use Rattle.format.specs.Answers.{got}
use Rattle.format.specs.Bytes.{word, joined}
use Rattle.format.specs.Chain.{id_of, taken_apart}
use Rattle.format.specs.Reading.{walked, blocks_in}
use Rattle.format.specs.Pieces.{Stored}
use Rattle.format.proofs.Blocks.{well-facts}
use Rattle.format.specs.Damage.{block_at}
use Rattle.format.proofs.Chains.{before-end}
use Rattle.chain.proofs.Laws.{CarriedFrom, carried-start, carried-end, carried-filler, carried-size, carried-inside, carried-well, carried-library, carried_other}
use Rattle.render.specs.Rendering.{carried_on}
use Rattle.render.proofs.Storing.{Storing, storing-start, storing-end, next-room, storing-next}

-- ---- what stands at a place of the chain, told by the block there: b has no bytes, or it is a filler, or block 1, or is carried

-- a string of one byte has no ID
short-id : (b : List ℕ) → length b ≤ 1 → id_of b ≡ 0
unfolding word
short-id b h = let e : get_or b 1 0 ≡ 0 = get_or-eq_default b 0 h in let f : get_or b 2 0 ≡ 0 = get_or-eq_default b 0 (omega arith) in rw (e, f)

module _ (t : List ℕ) (from : ℕ) (cs : List (List ℕ)) (h : CarriedFrom t from cs) (b : List ℕ) (is : b ≡ block_at t from) where
  abbrev n : ℕ
  n = get_or t from 0

  -- it is as long as its first byte says
  block_size : length b ≡ n
  block_size = ap length is ∙ carried-size t from cs h

  module _ (some : length b ≡ 0 → ⊥) where
    filler-or-block : (n ≡ 1) ⊎ (2 ≤ n)
    filler-or-block = go (eqb n 1) refl
      where
        go : (x : Bool) → eqb n 1 ≡ x → (n ≡ 1) ⊎ (2 ≤ n)
        go true q = inl (eqb-true n 1 q)
        go false q = let z : n ≡ 1 → ⊥ = eqb-false n 1 q in inr (omega (arith, block_size))

    -- a filler or block 1: the same blocks are left behind it
    passed_over : id_of b ≤ 1 → CarriedFrom t (from + length b) cs
    passed_over low = rw block_size (elim filler-or-block [
      | inl e ↦ rw e (carried-filler t from cs h e)
      | inr two ↦
          let named : id_of b ≡ 0 → ⊥ = eqb-false (id_of b) 0 (ap (λ (x : List ℕ). eqb (id_of x) 0) is ∙ (well-facts (block_at t from) (carried-well t from cs h two)).id-there) in
          let one : id_of b ≡ 1 = omega arith in
          carried-library t from cs h two (sym (ap taken_apart is) ∙ eq-eqb (id_of b) 1 one)
    ])

    -- a carried block: it is the first of those that were left
    carried_here : 1 < id_of b → (ds : List (List ℕ)) × (cs ≡ b ∷ ds) × CarriedFrom t (from + length b) ds
    carried_here high = elim filler-or-block [
      | inl e ↦ absurd (omega (arith, short-id b (omega (arith, block_size))))
      | inr two ↦ rw (block_size, is) (carried_other t from cs h two (sym (ap taken_apart is) ∙ ne_eqb (id_of b) 1 (omega arith)))
    ]

-- ---- the loop

-- The pieces of the blocks before byte `from` of tag t are stored, up to byte `at`; `rest` gives those of the blocks that are left.
pub record Carrying (t before : List ℕ) (start : ℕ) (whole : List ℕ) (rest : List (List ℕ) → List (List ℕ)) (out : List ℕ) (from at : ℕ) : Type 0 where
  pub left : List (List ℕ)
  pub walks : CarriedFrom t from left
  pub storing : Storing before start whole out (rest left) at

pub carrying-start : (t : List ℕ) {before : List ℕ} {start : ℕ} {whole : List ℕ} (rest : List (List ℕ) → List (List ℕ)) → walked t ≡ got (blocks_in t) → joined (rest (carried_on t)) ≡ whole
    → start + length whole ≤ length before → Carrying t before start whole rest before 34 start
carrying-start t rest w e h = record { left = carried_on t; walks = carried-start t w; storing = storing-start (rest (carried_on t)) e h }

module _ {t before : List ℕ} {start : ℕ} {whole : List ℕ} {rest : List (List ℕ) → List (List ℕ)} {out : List ℕ} {from at : ℕ} {b : List ℕ}
    (c : Carrying t before start whole rest out from at) (is : b ≡ block_at t from) where
  pub carrying-size : length b ≡ get_or t from 0
  carrying-size = block_size t from c.left c.walks b is

  pub carrying-end : rest [] ≡ [] → length b ≡ 0 → Stored before start whole at out
  carrying-end nil e = storing-end c.storing (ap rest (carried-end t from c.left c.walks (sym carrying-size ∙ e)) ∙ nil)

  module _ (some : length b ≡ 0 → ⊥) where
    -- the bytes of b lie on the tag
    pub carrying-inside : from + length b ≤ length t
    carrying-inside =
        let there : from < length t = before-end t from (omega (arith, carrying-size)) in
        omega (arith, carrying-size, carried-inside t from c.left c.walks (omega arith))

    -- nothing is stored for a filler or for block 1
    pub carrying-over : ltb 1 (id_of b) ≡ false → Carrying t before start whole rest out (from + length b) at
    carrying-over q = record { left = c.left; walks = passed_over t from c.left c.walks b is some (ltb-false 1 (id_of b) q); storing = c.storing }

    -- p is the piece of b; `rest'` gives those behind it
    module _ (q : ltb 1 (id_of b) ≡ true) {p : List ℕ} {rest' : List (List ℕ) → List (List ℕ)} (first : (bs : List (List ℕ)) → rest (b ∷ bs) ≡ p ∷ rest' bs) where
      abbrev here : (bs : List (List ℕ)) × (c.left ≡ b ∷ bs) × CarriedFrom t (from + length b) bs
      here = carried_here t from c.left c.walks b is some (ltb-true 1 (id_of b) q)

      pub carrying-room : at + length p ≤ length out
      carrying-room = next-room c.storing (ap rest here.1 ∙ first here.0)

      pub carrying-more : {m : ℕ} {d : List ℕ} → Stored out at p m d → Carrying t before start whole rest' d (from + length b) m
      carrying-more s = record { left = here.0; walks = here.2; storing = storing-next c.storing (ap rest here.1 ∙ first here.0) s }
