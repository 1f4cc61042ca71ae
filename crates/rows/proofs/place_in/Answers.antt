-- The first hit stands behind as many numbers as the definition counts.
use mathlib.Core.Path.{◌≡◌, refl, sym, ◌∙◌}
use native.Mathlib.Numerals.{add-one}
use borrow.Author.Rules.{rules}
use borrow.Author.Tests.{tests, eq-eqb, ne_eqb}
use Rattle.std.proofs.lemmas.Iterator.{YieldsList-from_slice, IsFirst-from_position, index_from_first}
use Rattle.format.specs.Elements.{place_in}
use Rattle.rows.proofs.place_in.Goals as goal

pub returns : goal.returns
returns c =
    let n = c.args.number in
    c.unwrap_or.ensures
    ∙ sym
    (index_from_first (λ ns. place_in ns n) (λ x. x ≡ n) (λ x. x ≡ n → ⊥) refl (λ x ns e. rw (eq-eqb x n e)) (λ x ns e. rw (ne_eqb x n e, add-one)) c.args.numbers.now _
    (IsFirst-from_position _ _ c.position.result (λ x. x ≡ n) (λ x. x ≡ n → ⊥) c.position.ensures.ran (YieldsList-from_slice c.args.numbers.now (cc)) (λ x q k. search (rules, tests)) (λ x q k. search (rules, tests))))
