-- `chain::survey_of` meets its contract. The block loop: the survey of what is ahead, with what was found before, is the survey of the tag.
-- The byte loop: the bytes behind byte k, with the XOR so far, come to the XOR of all behind the first.
use mathlib.Core.Path.{◌≡◌, sym, ap, ap₂, ◌∙◌}
use mathlib.Core.Bool.{true, not, ◌&&◌}
use mathlib.Core.List.{List, []}
use Prim.Native.Nat.{ℕ, ◌+◌, ◌≤◌, ◌<◌}
use native.Mathlib.Omega.{arith}
use lib.Bits.{bit_xor}
use lib.Dec.{eqb}
use lib.ListN.{length, get_or, drop, length-take}
use borrow.Author.Tests.{le-leb, lt-leb, ltb-true, ltb-false}
use Rattle.format.specs.declared.Damage.{Damage}
use Rattle.format.specs.declared.Damage.TheVariants.{Length, End, Id, Checksum, Second}
use Rattle.format.specs.Answers.{placed, got, refused}
use Rattle.format.specs.Bytes.{one_of, xor_all}
use Rattle.format.specs.Pieces.{from}
use Rattle.format.specs.Chain.{length_of, id_of, structured, single, damage_of}
use Rattle.format.specs.Damage.{block_at}
use Rattle.format.specs.Numbers.{damage_number, number_of}
use Rattle.format.proofs.Chains.{says_at}
use Rattle.format.proofs.Damages.{number-none, number-some}
use Rattle.chain.specs.Formed.{damage_by}
use Rattle.chain.specs.Survey.{survey_of}
use Rattle.chain.proofs.Formed.{unstructured, damage-by, length_two, cut_short}
use Rattle.chain.proofs.Turns.{xor-more, xor_all_lem, start, second, ended, filler, damaged, library, other, moved}
use Rattle.chain.proofs.survey_of.Goals.{After-id_of-id}
use Rattle.chain.proofs.survey_of.Goals.{then-structured+else-loop-k-test+in_default-damage_by, else-structured+else-block-n, then-id-eq1, else-id-eq1}
use Rattle.chain.proofs.survey_of.Goals as goal

some_number : (d : Damage) → damage_number d ≡ 0 → ⊥
some_number Length e = omega arith
some_number End e = omega arith
some_number Id e = omega arith
some_number Checksum e = omega arith
some_number Second e = omega arith

-- ---- a block whose length is not 0, 1 or 2

module _ (c : After-id_of-id) where
  abbrev t : List ℕ
  t = c.args.tag.now

  abbrev at : ℕ
  at = c.chain.at

  abbrev n : ℕ
  n = c.from-n.result

  abbrev id : ℕ
  id = c.id_of-id.result

  -- the block as the code has it, and as the definitions do
  abbrev part : List ℕ
  part = c.block_at-block.result.now

  abbrev b : List ℕ
  b = block_at t at

  size : n ≡ get_or t at 0
  size = c.from-n.ensures ∙ c.byte_at.ensures

  is : part ≡ b
  is = c.block_at-block.ensures.0

  named : id ≡ id_of b
  named = c.id_of-id.ensures ∙ ap id_of is

  three : 3 ≤ get_or t at 0
  three = let e = size in omega arith

  two : 2 ≤ get_or t at 0
  two = let h = three in omega arith

  says-more : length_of b ≡ get_or t at 0
  says-more = let h = three in says_at t at [] (omega arith)

  -- it says a length that is not 2, and has no more bytes than that
  not-two : length_of b ≡ 2 → ⊥
  not-two e = omega (arith, says-more, three)

  whole : n ≤ length part → length_of b ≡ length b
  whole h = omega (arith, says-more, size, ap length is, length-take (get_or t at 0) (drop at t))

  -- the tag has less of it
  short : length part < n → refused (placed 16 at) ≡ survey_of t
  short h = damaged t at _ _ _ c.chain.invariant two 16 (cut_short at _ b not-two (λ e. omega (arith, says-more, size, ap length is)))

  -- a structured block, behind the byte loop: the number of its damage
  numbered : (x k : ℕ) → bit_xor x (xor_all (drop k part)) ≡ xor_all (drop 1 part) → n ≤ k → k ≤ length part → id ≤ 100
      → damage_by n id x (eqb id 1 && not (eqb c.chain.library.len 0)) ≡ number_of (damage_of at c.chain.invariant.seen b)
  numbered x k loop done inside small =
      let all : length_of b ≡ length b = whole (omega arith) in
      let low : structured b ≡ true = le-leb (id_of b) 100 (omega (arith, named)) in
      let sum : x ≡ xor_all (drop 1 b) = xor_all_lem part k x (omega (arith, ap length is, size, length-take (get_or t at 0) (drop at t))) loop ∙ ap (λ (s : List ℕ). xor_all (drop 1 s)) is in
      ap (damage_by n id x) (sym (second t at _ _ _ c.chain.invariant id))
      ∙ ap₂ (λ (m i : ℕ). damage_by m i x (single i && one_of c.chain.invariant.seen i)) (size ∙ sym says-more) named
      ∙ damage-by b x low all sum at c.chain.invariant.seen not-two

  -- a block with an ID above 100 that is all there
  high-none : 100 < id → n ≤ length part → damage_of at c.chain.invariant.seen b ≡ got tt
  high-none big there = unstructured b (lt-leb (id_of b) 100 (omega (arith, named))) at c.chain.invariant.seen not-two (whole there)

-- ---- behind the tests for damage

module _ (c : goal.Joined-id-eq1) where
  abbrev here : After-id_of-id
  here = (goal.at.chain-preserved c).After-id_of-id

  none : damage_of c.chain.at c.chain.invariant.seen (block_at c.args.tag.now c.chain.at) ≡ got tt
  none = elim c.if-structured.branch [
    | then-structured+else-loop-k-test+in_default-damage_by w ↦
        number-none _ _ _ (sym (w.in_default-damage_by.ensures ∙ numbered here w.loop-k.x w.loop-k.k w.loop-k.invariant.0 w.loop-k-test.false w.loop-k.invariant.1 w.if-structured.true))
    | else-structured+else-block-n w ↦ high-none here w.if-structured.false w.if-block-n.false
  ]

-- ---- the goals

pub chain-init : goal.chain-init
chain-init c = start c.args.tag.now

pub returns-then-n-eq0 : goal.returns-then-n-eq0
returns-then-n-eq0 c = ended _ _ _ _ _ c.chain.invariant (sym c.byte_at.ensures ∙ sym c.from-n.ensures ∙ c.if-n-eq0.true)

pub chain-preserved-then-filler : goal.chain-preserved-then-filler
chain-preserved-then-filler c = filler _ _ _ _ _ c.chain.invariant (sym c.byte_at.ensures ∙ sym c.from-n.ensures ∙ c.if-filler.true)

pub returns-then-two : goal.returns-then-two
returns-then-two c =
    let t : List ℕ = c.args.tag.now in
    let at : ℕ = c.chain.at in
    let two : get_or t at 0 ≡ 2 = sym c.byte_at.ensures ∙ sym c.from-n.ensures ∙ c.if-two.true in
    damaged t at _ _ _ c.chain.invariant (omega arith) 15 (length_two at _ (block_at t at) (says_at t at [] (omega arith) ∙ two))

pub loop-k-preserved : goal.loop-k-preserved
loop-k-preserved c =
    let l = c.loop-k in
    let inside : l.k < length c.block_at-block.result.now = ltb-true _ _ (sym c.in-Some.ensures.lookup.0) in
    (xor-more c.block_at-block.result.now l.k l.x c.in-Some.byte.now inside c.in-Some.ensures.lookup.1 l.invariant.0, omega arith)

pub returns-in_default : goal.returns-in_default
returns-in_default c =
    let ends : length c.block_at-block.result.now ≤ c.loop-k.k = ltb-false _ _ (sym c.in_default.ensures.lookup.0) in
    short (goal.at.returns-in_default c).After-id_of-id (omega (arith, c.loop-k-test.true))

pub returns-in-Some-damage_by : goal.returns-in-Some-damage_by
returns-in-Some-damage_by c =
    let h = (goal.at.returns-in-Some-damage_by c).After-id_of-id in
    damaged _ _ _ _ _ c.chain.invariant (two h) _ (number-some _ _ (b h) _ (sym (c.in-Some-damage_by.ensures ∙ numbered h c.loop-k.x c.loop-k.k c.loop-k.invariant.0 c.loop-k-test.false c.loop-k.invariant.1 c.if-structured.true)) (some_number c.in-Some-damage_by.damage))

pub returns-then-block-n : goal.returns-then-block-n
returns-then-block-n c = short (goal.at.returns-then-block-n c).After-id_of-id c.if-block-n.true

pub chain-preserved : goal.chain-preserved
chain-preserved c =
    let h = here c in
    let t : List ℕ = c.args.tag.now in
    let n = sym (size h) in
    let next = ap (λ (k : ℕ). c.chain.at + k) n in
    let i = c.chain.invariant in
    elim c.if-id-eq1.branch [
      | then-id-eq1 w ↦ moved t next (ap (from c.chain.at) n ∙ sym w.library-is) (sym w.count-is) (sym w.size-is) (library _ _ _ _ _ i (two h) (none c) (sym (named h) ∙ w.if-id-eq1.true))
      | else-id-eq1 w ↦ moved t next (sym w.library-is) (sym w.count-is) (ap (λ (k : ℕ). c.chain.size + k) n ∙ sym w.size-is) (other _ _ _ _ _ i (two h) (none c) (λ e. w.if-id-eq1.false (named h ∙ e)))
    ]
