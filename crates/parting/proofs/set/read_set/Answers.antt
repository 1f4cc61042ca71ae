-- 6 digits at most, and each test of the definition.
use mathlib.Core.Path.{◌≡◌, sym, ap, ◌∙◌}
use Prim.Native.Nat.{ℕ, ◌*◌}
use native.Mathlib.Omega.{arith}
use mathlib.Core.List.{List}
use Rattle.format.proofs.Tests.{never}
use Rattle.identifier.specs.SetDigits.{width, total_in, ordinal_in}
use Rattle.identifier.proofs.Sets.{width_few, Says}
use Rattle.parting.proofs.Saying.{read-said, read-bad, ordinal-read, front-digits, back-digits}
use Rattle.parting.proofs.set.read_set.Goals.{then-part-gt6-via-then-part-gt6, then-part-gt6-via-else-part-gt6+then-not-are_digits}
use Rattle.parting.proofs.set.read_set.Goals.{then-empty-via-then-empty, then-empty-via-else-empty+then-large, then-empty-via-else-empty+else-large+then-above, then-empty-via-else-empty+else-large+else-above+then-part-width}
use Rattle.parting.proofs.set.read_set.Goals as goal

pub returns-then-part-gt6 : goal.returns-then-part-gt6
returns-then-part-gt6 c =
    let p : List ℕ = c.args.part.now in
    read-bad p (λ s. elim c.then-part-gt6.branch [
      | then-part-gt6-via-then-part-gt6 w ↦ omega (arith, s.long, width_few (total_in p), w.if-part-gt6.true)
      | then-part-gt6-via-else-part-gt6+then-not-are_digits w ↦ never (cc (sym s.digits ∙ sym w.are_digits.ensures ∙ w.if-not-are_digits.true))
    ])

pub number_in-total-requires : goal.number_in-total-requires
number_in-total-requires c = front-digits c.args.part.now (sym c.are_digits.ensures ∙ c.if-not-are_digits.false) c.if-part-gt6.false

pub number_in-ordinal-requires : goal.number_in-ordinal-requires
number_in-ordinal-requires c = back-digits c.args.part.now (sym c.are_digits.ensures ∙ c.if-not-are_digits.false) c.if-part-gt6.false

pub overflow_mul-width : goal.overflow_mul-width
overflow_mul-width c = omega (arith, c.width.ensures, width_few c.number_in-total.result)

pub returns-then-empty : goal.returns-then-empty
returns-then-empty c =
    let p : List ℕ = c.args.part.now in
    let t : c.number_in-total.result ≡ total_in p = c.number_in-total.ensures in
    let m : c.number_in-ordinal.result ≡ ordinal_in p = c.number_in-ordinal.ensures ∙ ordinal-read p in
    read-bad p (λ s. elim c.then-empty.branch [
      | then-empty-via-then-empty w ↦ omega (arith, s.some, t, w.if-empty.true)
      | then-empty-via-else-empty+then-large w ↦ omega (arith, s.most, t, w.if-large.true)
      | then-empty-via-else-empty+else-large+then-above w ↦ omega (arith, s.ordered, t, m, w.if-above.true)
      | then-empty-via-else-empty+else-large+else-above+then-part-width w ↦ w.if-part-width.true (s.long ∙ ap (λ (n : ℕ). 2 * n) (sym (w.width.ensures ∙ ap width t)))
    ])

pub returns : goal.returns
returns c =
    let p : List ℕ = c.args.part.now in
    let t : c.number_in-total.result ≡ total_in p = c.number_in-total.ensures in
    let m : c.number_in-ordinal.result ≡ ordinal_in p = c.number_in-ordinal.ensures ∙ ordinal-read p in
    let s : Says p =
    record {
      digits = sym c.are_digits.ensures ∙ c.if-not-are_digits.false;
      some = omega (arith, t, c.if-empty.false);
      most = omega (arith, t, c.if-large.false);
      long = c.if-part-width.false ∙ ap (λ (w : ℕ). 2 * w) (c.width.ensures ∙ ap width t);
      ordered = omega (arith, t, m, c.if-above.false);
    } in
    read-said p c.number_in-total.result c.number_in-ordinal.result t m s
