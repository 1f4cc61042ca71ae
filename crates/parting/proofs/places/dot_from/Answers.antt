-- The library finds the first dot.
use mathlib.Core.Path.{◌≡◌, ap, ◌∙◌}
use Prim.Native.Nat.{ℕ, ◌+◌, ◌-◌, ◌<◌}
use native.Mathlib.Omega.{arith}
use borrow.Author.Rules.{rules}
use mathlib.Core.List.{List}
use Rattle.std.proofs.Common.{None}
use Rattle.std.proofs.lemmas.List.{take_rest}
use lib.ListN.{length, take, drop, length-drop}
use Rattle.format.specs.Bytes.{up_to}
use Rattle.identifier.specs.Parts.{dot}
use Rattle.parting.proofs.Seeking.{first-dot, no-dot, some-dot, none-dot}
use Rattle.parting.proofs.places.dot_from.Goals as goal

abbrev rest : List ℕ → ℕ → List ℕ
rest s at = take (length s - at) (drop at s)

pub returns-in_err-before : goal.returns-in_err-before
returns-in_err-before c =
    let s : List ℕ = c.args.text.now in
    let at : ℕ = c.args.at in
    let told : c.from_residual.result ≡ None = search rules in
    let none = no-dot (rest s at) (search rules) in
    told ∙ none-dot s at (omega (arith, none, ap length (take_rest s at), ap (λ (r : List ℕ). length (up_to dot r)) (take_rest s at), length-drop at s))

pub returns : goal.returns
returns c =
    let s : List ℕ = c.args.text.now in
    let at : ℕ = c.args.at in
    let within : c.in_ok-before.before < length (rest s at) = search rules in
    let first = first-dot (rest s at) c.in_ok-before.before within (search rules) (search rules) in
    some-dot s at _ (ap (λ (n : ℕ). at + n) (first ∙ ap (λ (r : List ℕ). length (up_to dot r)) (take_rest s at))) (omega (arith, within, ap length (take_rest s at), length-drop at s))
