-- The first dot ends the identifier; a second one is refused.
use mathlib.Core.Path.{refl, sym, ◌∙◌}
use Prim.Native.Nat.{ℕ}
use native.Mathlib.Omega.{arith}
use mathlib.Core.List.{List}
use borrow.Author.Rules.{rules}
use lib.ListN.{drop, length-drop}
use Rattle.format.proofs.Strings.{up-to-length}
use Rattle.identifier.specs.Parts.{dot}
use Rattle.parting.proofs.Seeking.{dot-some, dot-none}
use Rattle.parting.proofs.Cutting.{cut-alone, cut-one, cut-two}
use Rattle.parting.proofs.places.cut_from.Goals as goal

pub returns-in_default : goal.returns-in_default
returns-in_default c =
    let s : List ℕ = c.args.text.now in
    let k : ℕ = c.skip_dotless.result in
    let none = dot-none s k (sym c.in_default.ensures) in
    let skipped = c.skip_dotless.ensures in
    cut-alone s c.args.isil c.args.item _ c.requires (omega (arith, none, skipped.inside, skipped.first, up-to-length dot (drop k s), length-drop k s)) (omega arith)

pub overflow_add-end : goal.overflow_add-end
overflow_add-end c =
    let some = dot-some c.args.text.now c.skip_dotless.result (sym c.in-Some.ensures) in
    let l = some.1 in
    search rules

pub dot_from-requires-2 : goal.dot_from-requires-2
dot_from-requires-2 c =
    let some = dot-some c.args.text.now c.skip_dotless.result (sym c.in-Some.ensures) in
    omega (arith, some.1)

pub returns-in-Some-dot_from : goal.returns-in-Some-dot_from
returns-in-Some-dot_from c =
    let s : List ℕ = c.args.text.now in
    let some = dot-some s c.skip_dotless.result (sym c.in-Some.ensures) in
    let more = dot-some s _ (sym c.in-Some-dot_from.ensures) in
    cut-two s c.args.isil c.args.item _ c.requires (some.0 ∙ c.skip_dotless.ensures.first) _ some.1 more.0 more.1

pub returns-in-None : goal.returns-in-None
returns-in-None c =
    let s : List ℕ = c.args.text.now in
    let some = dot-some s c.skip_dotless.result (sym c.in-Some.ensures) in
    cut-one s c.args.isil c.args.item _ c.requires (some.0 ∙ c.skip_dotless.ensures.first) _ some.1 refl (dot-none s _ (sym c.in-None.ensures))
