-- `pages::page_differs` meets its contract: its pages differ where their numbers do.
use mathlib.Core.Path.{ap₂, ◌∙◌}
use Prim.Native.Nat.{ℕ}
use mathlib.Core.Bool.{not}
use lib.Dec.{eqb}
use Rattle.format.proofs.Tests.{bytes-all}
use Rattle.pages.proofs.Words.{differs-by-number}
use Rattle.pages.proofs.page_differs.Goals as goal

pub returns : goal.returns
returns c =
    let a = c.args in
    ap₂ (λ (x y : ℕ). not (eqb x y)) c.word.ensures c.word-2.ensures
    ∙ differs-by-number a.tag.now a.image.now a.i c.requires.1 c.requires.0
    (bytes-all a.tag.now (λ i h. (c.type_inv.tag i).fits)) (bytes-all a.image.now (λ i h. (c.type_inv.image i).fits))
