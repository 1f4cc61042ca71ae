-- `image::basic::put_isil` meets its contract: two bytes, and the unit behind them.
use mathlib.Core.Path.{◌≡◌, sym, ap, ◌∙◌}
use Prim.Native.Nat.{ℕ, ◌+◌, ◌-◌, ◌≤◌}
use native.Mathlib.Omega.{arith}
use mathlib.Core.List.{List, [], ◌∷◌}
use lib.ListN.{length, take, drop, get_or, set, length-set, length-drop}
use lib.Seq.{take_all}
use Rattle.format.specs.Fields.{packed}
use Rattle.format.specs.Pieces.{Stored}
use Rattle.image.specs.Laying.{IsilFits}
use Rattle.image.proofs.Drafts.{On, start, put, put_byte, ends}
use Rattle.image.proofs.OwnerForms.{Prefixed, prefixed-facts, high-isil, one-capital, held-short, held_two}
use Rattle.image.proofs.basic.put_isil.Goals.{Joined-owner-eq45, then-owner-eq45, else-owner-eq45}
use Rattle.image.proofs.basic.put_isil.Goals as goal

sides : {o d : List ℕ} → IsilFits o d → Prefixed o
sides {o} p = high-isil o p.field.good p.high

-- the packed form is two bytes a and b, and what the owner has from byte k on
module _ {o d : List ℕ} (p : IsilFits o d) (a b k : ℕ) (packs : packed o ≡ a ∷ b ∷ drop k o) where
  abbrev unit : List ℕ
  unit = take (length o - k) (drop k o)

  unit-is : unit ≡ drop k o
  unit-is = take_all (length o - k) (drop k o) (omega (arith, length-drop k o))

  fits : 23 + length unit ≤ length d
  fits = omega (arith, p.field.size, held-short _ o p.held, ap length packs, ap length unit-is)

  begun : On 21 d (a ∷ b ∷ []) 23 (set (set d 21 a) 22 b)
  begun = let l = fits in put_byte (put_byte (start 21 d (omega arith) p.field.blank) a (omega arith)) b (omega arith)

  ended : (d' : List ℕ) (r : ℕ) → Stored (set (set d 21 a) 22 b) 23 unit r d' → Stored d 21 (packed o) (21 + length (packed o)) d'
  ended d' r e =
      let f = fits in
      let u : a ∷ b ∷ unit ≡ packed o = ap (λ (x : List ℕ). a ∷ b ∷ x) unit-is ∙ sym packs in
      ends (put begun unit d' r (omega (arith, e.0)) e) (packed o) _ u (omega (arith, e.0, ap length u))

pub bounds-owner-1 : goal.bounds-owner-1
bounds-owner-1 c = omega (arith, (prefixed-facts (sides c.requires)).0)

pub bounds-owner-1-else-owner-eq45 : goal.bounds-owner-1-else-owner-eq45
bounds-owner-1-else-owner-eq45 c = omega (arith, (prefixed-facts (sides c.requires)).0)

-- the code finds b and k
found : (c : Joined-owner-eq45) → let o = c.args.owner.now in packed o ≡ get_or o 0 0 ∷ c.if-owner-eq45.second.0 ∷ drop c.if-owner-eq45.second.1 o
found c =
    let p = c.requires in
    elim c.if-owner-eq45.branch [
      | then-owner-eq45 w ↦ rw w.second-is (one-capital (sides p) w.if-owner-eq45.true).packs
      | else-owner-eq45 w ↦ rw w.second-is (held_two _ (sides p) w.if-owner-eq45.false p.held).packs
    ]

inside : (c : Joined-owner-eq45) → c.if-owner-eq45.second.1 ≤ length c.args.owner.now
inside c = let l = (prefixed-facts (sides c.requires)).0 in elim c.if-owner-eq45.branch [ then-owner-eq45 w ↦ rw w.second-is (omega arith) | else-owner-eq45 w ↦ rw w.second-is (omega arith) ]

pub slice_bounds-put_bytes-count : goal.slice_bounds-put_bytes-count
slice_bounds-put_bytes-count c = inside (goal.at.slice_bounds-put_bytes-count c).Joined-owner-eq45

pub slice_bounds-put_bytes-start : goal.slice_bounds-put_bytes-start
slice_bounds-put_bytes-start c = inside (goal.at.slice_bounds-put_bytes-start c).Joined-owner-eq45

pub put_bytes-requires : goal.put_bytes-requires
put_bytes-requires c = let j = (goal.at.put_bytes-requires c).Joined-owner-eq45 in simp length-set (fits j.requires _ _ _ (found j))

pub returns : goal.returns
returns c =
    let j = (goal.at.returns c).Joined-owner-eq45 in
    ended c.requires _ _ _ (found j) _ _ c.put_bytes.ensures
