-- `elements::carriable` meets its contract: a block of three bytes that is not block 1 is judged with the XOR that it asks for.
use mathlib.Core.Path.{◌≡◌, sym, ap, ◌∙◌}
use mathlib.Core.Bool.{and-true}
use Prim.Native.Nat.{◌-◌, ◌≤◌}
use native.Mathlib.Omega.{arith}
use lib.ListN.{length, drop, length-drop}
use lib.Seq.{take_all}
use borrow.Author.Tests.{ne_eqb}
use Rattle.format.specs.Bytes.{xor_all}
use Rattle.format.specs.Chain.{id_of, well_formed, carriable}
use Rattle.chain.proofs.Formed.{formed-well}
use Rattle.elements.proofs.carriable.Goals.{then-id-le100, else-id-le100}
use Rattle.elements.proofs.carriable.Goals as goal

pub returns : goal.returns
unfolding carriable
returns c =
    let b = c.args.block.now in
    let i = c.id_of-id.ensures in
    let x : id_of b ≤ 100 → c.if-id-le100.x ≡ xor_all (drop 1 b) = λ low.
    elim c.if-id-le100.branch [
      | then-id-le100 w ↦ w.x-is ∙ w.xor_of-x.ensures ∙ ap xor_all (take_all (length b - 1) (drop 1 b) (omega (arith, length-drop 1 b)))
      | else-id-le100 w ↦ absurd (omega (arith, w.if-id-le100.false, i, low))
    ] in
    c.formed_by.ensures ∙ formed-well b _ x ∙ sym (rw (ne_eqb (id_of b) 1 (λ h. c.if-library.false (i ∙ h))) (and-true (well_formed b)))
