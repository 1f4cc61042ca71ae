-- With an ISIL the identifier begins behind the first dot, without one it begins the text.
use Rattle.std.specs.Prelude.{Some, Err}
use mathlib.Core.Path.{◌≡◌, refl, sym, ap, ◌∙◌}
use native.Mathlib.Omega.{arith}
use mathlib.Core.Bool.{Bool}
use borrow.Author.Rules.{rules}
use lib.ListN.{length}
use Rattle.format.proofs.Strings.{up-to-length}
use Rattle.format.specs.declared.Reason.TheVariants as reason
use Rattle.identifier.specs.Parts.{dot}
use Rattle.parting.specs.Places.{cut_in, dot_at}
use Rattle.parting.proofs.Seeking.{dot-some, dot-none}
use Rattle.parting.proofs.Cutting.{cut-whole, cut-led, cut-none}
use Rattle.parting.proofs.places.begin_in.Goals as goal

pub returns-then-not-leads : goal.returns-then-not-leads
returns-then-not-leads c =
    let a = c.args in
    (omega arith, cut-whole a.text.now ∙ sym (ap (λ (b : Bool). cut_in b a.text.now) c.if-not-leads.true))

pub returns-in_err-isil : goal.returns-in_err-isil
returns-in_err-isil c =
    let a = c.args in
    let none = dot-none a.text.now 0 (search rules) in
    let told : c.from_residual.result ≡ Err reason.Parts = search rules in
    rw told
    (cut-none a.text.now (length a.text.now) (omega (arith, none, up-to-length dot a.text.now)) refl
    ∙ sym (ap (λ (b : Bool). cut_in b a.text.now) c.if-not-leads.false))

pub overflow_add-result : goal.overflow_add-result
overflow_add-result c =
    let e : dot_at c.args.text.now 0 ≡ Some c.in_ok-isil.isil = search rules in
    let l = (dot-some c.args.text.now 0 e).1 in
    search rules

pub returns : goal.returns
returns c =
    let a = c.args in
    let e : dot_at a.text.now 0 ≡ Some c.in_ok-isil.isil = search rules in
    let some = dot-some a.text.now 0 e in (
      omega (arith, some),
      cut-led a.text.now c.in_ok-isil.isil some.0 (λ z. omega (arith, some.1))
          ∙ sym (ap (λ (b : Bool). cut_in b a.text.now) c.if-not-leads.false),
    )
