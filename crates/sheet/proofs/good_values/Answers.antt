-- The invariant: the entries that come decide, with what was seen of 4 and 5.
use mathlib.Core.Path.{◌≡◌, sym, ap, ap₂, ◌∙◌}
use Prim.Native.Nat.{ℕ, ◌+◌, ◌-◌}
use native.Mathlib.Omega.{arith}
use Rattle.format.specs.Bytes.{part}
use Rattle.format.specs.Elements.{form}
use Rattle.format.specs.Sheet.{formed}
use Rattle.sheet.proofs.Walking.{entry_of, judging-start, judging-not, judging-on, judging-end, value-inside}
use Rattle.sheet.specs.declared.Head.{Head}
use mathlib.Core.List.{List}
use Rattle.sheet.proofs.good_values.Goals as goal

pub loop-i-init : goal.loop-i-init
loop-i-init c = rw c.requires.counted (judging-start c.args.sheet.now c.requires.right)

pub slice_bounds-formed-end : goal.slice_bounds-formed-end
slice_bounds-formed-end c = value-inside c.loop-i.invariant (omega arith) c.head_at-head.ensures

-- what is judged is the entry that comes
judged : (s : List ℕ) (at : ℕ) (r : Head) (n : ℕ) → n ≡ r.number → form n (part at (at + r.len - at) s) ≡ formed (entry_of s at r)
judged s at r n e = let m : at + r.len - at ≡ r.len = omega arith in ap₂ form e (ap (λ (k : ℕ). part at k s) m)

pub returns-then-not-formed : goal.returns-then-not-formed
returns-then-not-formed c =
    let h = c.head_at-head in
    judging-not c.loop-i.invariant (omega arith) h.ensures (sym (judged c.args.sheet.now c.loop-i.at h.result _ c.from.ensures) ∙ sym c.formed.ensures ∙ c.if-not-formed.true)

pub loop-i-preserved : goal.loop-i-preserved
loop-i-preserved c =
    let h = c.head_at-head in
    judging-on c.loop-i.invariant (omega arith) h.ensures (sym (judged c.args.sheet.now c.loop-i.at h.result _ c.from.ensures) ∙ sym c.formed.ensures ∙ c.if-not-formed.false)

pub returns-then-set : goal.returns-then-set
returns-then-set c = rw c.if-set.true at (judging-end c.loop-i.invariant (omega arith))

pub returns-else-set : goal.returns-else-set
returns-else-set c = c.if-set.false ∙ (rw c.if-set.false at (judging-end c.loop-i.invariant (omega arith)))
