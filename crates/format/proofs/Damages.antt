-- The damage of a chain: walking it refuses exactly where there is any, with the number and the place of the first.
use mathlib.Core.Path.{◌≡◌, refl, sym, ap, ◌∙◌}
use mathlib.Core.Logic.{inl, inr}
use Prim.Native.Nat.{ℕ, zero, suc, ◌+◌, ◌≤◌, ◌<◌}
use native.Mathlib.Omega.{arith}
use mathlib.Core.Bool.{Bool, true, false}
use mathlib.Core.List.{List, [], ◌∷◌, ◌++◌}
use lib.Dec.{eqb}
use lib.ListN.{length, drop, get_or}
use borrow.Author.Tests.{eqb-true}
use Rattle.format.specs.Answers.{Answer, Refusal, plain, placed, got, refused, Step, need, need_at, in_order, and_then, passed}
use Rattle.format.specs.Bytes.{one_of}
use Rattle.format.specs.Chain.{id_of, damage_steps, damage_of}
use Rattle.format.specs.Reading.{walked, good_fields, agree, tag_steps}
use Rattle.format.specs.Damage.{block_at, Reached, start, filler, block, Damaged, Spoilt}
use Rattle.format.specs.Numbers.{damage_numbers, number_of}
use Rattle.format.proofs.Tests.{never}
use Rattle.format.proofs.Answers.{refused-inj, then_ok, then-no, then-refused, passed_ok, passed-no, first-ok, first-no, none-refuses, next-ok, refuses, refused-first, works, worked}
use Rattle.format.proofs.Blocks.{some_block}
use Rattle.format.proofs.Chains.{chain_from, walked_from, past_end, before-end, ends_at, filler-at, block-at}

-- ---- of one block

-- a step that gives a place, and the steps behind it
placed-step : {A C : Type 0} (p n : ℕ) (b : Bool) (ss : List Step) (a : A) (x : Refusal) → in_order (need_at p n b ∷ ss) a ≡ refused x
    → (x ≡ placed n p → C) → (in_order ss a ≡ refused x → C) → C
unfolding need_at in_order
placed-step p n true ss a x e here behind = behind e
placed-step p n false ss a x e here behind = here (cc)

-- 15 to 19, and the place of the block
damage-gives : (p : ℕ) (seen : List ℕ) (b : List ℕ) (x : Refusal) → damage_of p seen b ≡ refused x → (k : ℕ) × (x ≡ placed k p) × (one_of damage_numbers k ≡ true)
unfolding damage_steps one_of damage_numbers
damage-gives p seen b x e =
    placed-step p 15 _ _ tt x e (λ h. (15, h, refl)) λ e.
    placed-step p 16 _ _ tt x e (λ h. (16, h, refl)) λ e.
    placed-step p 17 _ _ tt x e (λ h. (17, h, refl)) λ e.
    placed-step p 18 _ _ tt x e (λ h. (18, h, refl)) λ e.
    placed-step p 19 _ _ tt x e (λ h. (19, h, refl)) λ e.
    none-refuses (tt {0}) x e

pub no_zero : one_of damage_numbers 0 ≡ false
unfolding one_of damage_numbers
no_zero = refl

-- its number tells it: 0 says that there is none, another that there is that one
module _ (p : ℕ) (seen : List ℕ) (b : List ℕ) where
  pub number-none : number_of (damage_of p seen b) ≡ 0 → damage_of p seen b ≡ got tt
  number-none z = go (damage_of p seen b) refl z
    where
      go : (m : Step) → damage_of p seen b ≡ m → number_of m ≡ 0 → m ≡ got tt
      go (got tt) e z = refl
      go (refused (plain j)) e z = never (cc (damage-gives p seen b (plain j) e).1)
      go (refused (placed j q)) e z =
          let g = damage-gives p seen b (placed j q) e in
          let same : placed j q ≡ placed g.0 p = g.1 in
          let k : g.0 ≡ 0 = cc in
          never (cc (ap (one_of damage_numbers) k, g.2, no_zero))

  pub number-some : (k : ℕ) → number_of (damage_of p seen b) ≡ k → (k ≡ 0 → ⊥) → damage_of p seen b ≡ refused (placed k p)
  number-some k n z = go (damage_of p seen b) refl n
    where
      go : (m : Step) → damage_of p seen b ≡ m → number_of m ≡ k → m ≡ refused (placed k p)
      go (got tt) e n = absurd (z (sym n))
      go (refused (plain j)) e n = never (cc (damage-gives p seen b (plain j) e).1)
      go (refused (placed j q)) e n =
          let g = damage-gives p seen b (placed j q) e in
          let same : placed j q ≡ placed g.0 p = g.1 in
          cc

-- ---- of the chain

-- what walking from a reached place refuses with is the damage of a block
found : (t : List ℕ) (f p : ℕ) (seen : List ℕ) (x : Refusal) → length t ≤ p + f → Reached t p seen → chain_from p seen (drop p t) ≡ refused x
    → (k : ℕ) × (q : ℕ) × (x ≡ placed k q) × Damaged t k q
found t zero p seen x h r e = never (cc (ends_at t p seen (past_end t p (omega arith))))
found t (suc f) p seen x h r e = go (eqb n 0) refl (eqb n 1) refl (found t f)
  where
    n : ℕ
    n = get_or t p 0

    b : List ℕ
    b = block_at t p

    more : Answer (List (List ℕ))
    more = chain_from (p + n) (id_of b ∷ seen) (drop (p + n) t)

    go : (y : Bool) → eqb n 0 ≡ y → (z : Bool) → eqb n 1 ≡ z
        → ((q : ℕ) (later : List ℕ) (x : Refusal) → length t ≤ q + f → Reached t q later → chain_from q later (drop q t) ≡ refused x → (k : ℕ) × (q : ℕ) × (x ≡ placed k q) × Damaged t k q)
        → (k : ℕ) × (q : ℕ) × (x ≡ placed k q) × Damaged t k q
    go true ey z ez ih = never (cc (ends_at t p seen (eqb-true n 0 ey)))
    go false ey true ez ih = let o = eqb-true n 1 ez in ih (p + 1) seen x (omega arith) (filler r o) (sym (filler-at t p seen o) ∙ e)
    go false ey false ez ih =
        let two : 2 ≤ n = some_block n ey ez in
        elim (then-refused (damage_of p seen b) (λ _. and_then more λ bs. got (b ∷ bs)) x (sym (block-at t p seen two) ∙ e)) [
          | inl d ↦ let g = damage-gives p seen b x d in
              (g.0, p, g.1, record { seen = seen; reached = r; begins = two; broken = refused-first (placed g.0 p) (damage_steps p seen b) tt (d ∙ ap refused g.1) })
          | inr d ↦ elim (then-refused more (λ bs. got (b ∷ bs)) x d.2) [
            | inl m ↦ ih (p + n) (id_of b ∷ seen) x (omega arith) (block r two (worked (damage_steps p seen b) tt d.0 d.1).0) m
            | inr m ↦ never (cc m.2)
          ]
        ]

-- so does walking the whole chain
reached-refuses : (t : List ℕ) (p : ℕ) (seen : List ℕ) (x : Refusal) → Reached t p seen → chain_from p seen (drop p t) ≡ refused x → walked t ≡ refused x
reached-refuses t _ _ x start e = walked_from t ∙ e
reached-refuses t _ _ x (filler {p} {seen} r o) e = reached-refuses t p seen x r (filler-at t p seen o ∙ e)
reached-refuses t _ _ x (block {p} {seen} r two ok) e =
    let b : List ℕ = block_at t p in
    let more : Answer (List (List ℕ)) = chain_from (p + get_or t p 0) (id_of b ∷ seen) (drop (p + get_or t p 0) t) in
    reached-refuses t p seen x r
    (block-at t p seen two ∙ then_ok (damage_of p seen b) (λ _. and_then more λ bs. got (b ∷ bs)) tt (works (damage_steps p seen b) tt ok) ∙ then-no more (λ bs. got (b ∷ bs)) x e)

-- walking refuses where there is damage, with its number and its place,
pub damage-refused : (t : List ℕ) (k p : ℕ) → Damaged t k p → walked t ≡ refused (placed k p)
damage-refused t k p d =
    reached-refuses t p d.seen (placed k p) d.reached
    (block-at t p d.seen d.begins ∙ then-no (damage_of p d.seen (block_at t p)) _ (placed k p) (refuses (placed k p) (damage_steps p d.seen (block_at t p)) tt d.broken))

-- and nowhere else
pub refused-damage : (t : List ℕ) (x : Refusal) → walked t ≡ refused x → (k : ℕ) × (p : ℕ) × (x ≡ placed k p) × Damaged t k p
refused-damage t x e = found t (length t) 34 [] x (omega arith) start (sym (walked_from t) ∙ e)

damaged-same : (t : List ℕ) (k p j q : ℕ) → placed k p ≡ placed j q → Damaged t j q → Damaged t k p
damaged-same t k p j q e d =
    let number : j ≡ k = cc in
    let place : q ≡ p = cc in
    rw (← number, ← place) d

pub placed-damage : (t : List ℕ) (k p : ℕ) → walked t ≡ refused (placed k p) → Damaged t k p
placed-damage t k p e = let d = refused-damage t (placed k p) e in damaged-same t k p d.0 d.1 d.2 d.3

-- ---- number and place

pub damage-number : (t : List ℕ) (k p : ℕ) → Damaged t k p → one_of damage_numbers k ≡ true
damage-number t k p d =
    let g = damage-gives p d.seen (block_at t p) (placed k p) (refuses (placed k p) (damage_steps p d.seen (block_at t p)) tt d.broken) in
    let same : placed k p ≡ placed g.0 p = g.1 in
    let n : k ≡ g.0 = cc in
    ap (one_of damage_numbers) n ∙ g.2

reached-late : (t : List ℕ) (p : ℕ) (seen : List ℕ) → Reached t p seen → 34 ≤ p
reached-late t _ _ start = omega arith
reached-late t _ _ (filler {p} {seen} r o) = omega (arith, reached-late t p seen r)
reached-late t _ _ (block {p} {seen} r two ok) = omega (arith, reached-late t p seen r)

pub damage-inside : (t : List ℕ) (k p : ℕ) → Damaged t k p → (34 ≤ p) × (p < length t)
damage-inside t k p d = (reached-late t p d.seen d.reached, before-end t p (omega (arith, d.begins)))

-- ---- of a tag

-- a step that gives no place is not the one that gave it
pub place-past : {A : Type 0} (n : ℕ) (b : Bool) (ss : List Step) (a : A) (k p : ℕ) → in_order (need n b ∷ ss) a ≡ refused (placed k p)
    → (b ≡ true) × (in_order ss a ≡ refused (placed k p))
unfolding need in_order
place-past n true ss a k p e = (refl, e)
place-past n false ss a k p e = never (cc)

pub spoilt-on : {A : Type 0} (t : List ℕ) (ss : List Step) (a : A) (k p : ℕ) → Spoilt t k p → in_order (tag_steps t ++ ss) a ≡ refused (placed k p)
unfolding tag_steps
spoilt-on t ss a k p s =
    next-ok _ _ _ a s.parameter ∙ next-ok _ _ _ a s.check ∙ first-no _ _ a (placed k p) (passed-no (walked t) (placed k p) (damage-refused t k p s.damage))

-- where the steps behind give none
pub on-spoilt : {A : Type 0} (t : List ℕ) (ss : List Step) (a : A) (k p : ℕ) → (in_order ss a ≡ refused (placed k p) → ⊥) → in_order (tag_steps t ++ ss) a ≡ refused (placed k p) → Spoilt t k p
unfolding tag_steps
on-spoilt {A} t ss a k p none e =
    let c = place-past _ _ _ a k p e in
    let d = place-past _ _ _ a k p c.1 in
    record { parameter = c.0; check = d.0; damage = go (walked t) refl d.1 }
  where
    fields : List Step
    fields = need 6 (good_fields t) ∷ need 7 (agree t) ∷ ss

    go : (m : Answer (List (List ℕ))) → walked t ≡ m → in_order (passed (walked t) ∷ fields) a ≡ refused (placed k p) → Damaged t k p
    go (got bs) w h =
        let f = place-past _ _ _ a k p (sym (first-ok (passed (walked t)) fields a (passed_ok (walked t) bs w)) ∙ h) in
        absurd (none (place-past _ _ _ a k p f.1).1)
    go (refused x) w h = placed-damage t k p (w ∙ ap refused (refused-inj (sym (first-no (passed (walked t)) fields a x (passed-no (walked t) x w)) ∙ h)))
