-- The refusals in their order, then the words are stored. The table is the one that the alphabet gives.
use mathlib.Core.Path.{◌≡◌, sym, ap, ◌∙◌}
use mathlib.Core.Bool.{true}
use mathlib.Core.Logic.{inl}
use Prim.Native.Nat.{ℕ}
use mathlib.Core.List.{List}
use native.Mathlib.Omega.{arith}
use borrow.Author.Rules.{rules}
use Rattle.std.specs.Prelude.{Result, Ok, Err}
use Rattle.format.specs.declared.Reason.{Reason}
use Rattle.format.specs.Answers.{need}
use Rattle.format.specs.Bytes.{all}
use Rattle.format.specs.Numbers.{given}
use Rattle.format.proofs.Answers.{need-inv}
use Rattle.words.specs.Code40.{is646}
use Rattle.words.proofs.Alphabet.{characters, characters-low}
use Rattle.encoding.proofs.Marks.{unmarked, marked-table}
use Rattle.encoding.proofs.Turns.{few, counted, storing-on, storing-ends}
use Rattle.encoding.proofs.Ways.{way-high, way-short, way-done}
use Rattle.encoding.proofs.text_to_words.Goals as goal

pub returns-in_err-character_stage : goal.returns-in_err-character_stage
returns-in_err-character_stage c =
    let told : c.from_residual.result ≡ Err c.in_err-character_stage.field-0.0 = search rules in
    rw told (way-high c.args.text.now c.args.words.now (sym c.character_stage.ensures ∙ ap given c.in_err-character_stage.was))

pub mark_values-requires : goal.mark_values-requires
unfolding characters
mark_values-requires c = characters-low

-- no character is above 7F
low : (s : List ℕ) {r : Result (Unit {0}) Reason} → given r ≡ need 21 (all is646 s) → r ≡ Ok tt → all is646 s ≡ true
low s e t = need-inv 21 _ tt (sym e ∙ ap given t)

pub invariant_of-coded : goal.invariant_of-coded
unfolding characters unmarked
invariant_of-coded c =
    record {
      marked = marked-table c.mark_values.new.values c.mark_values.ensures;
      low = low c.args.text.now c.character_stage.ensures c.in_ok-character_stage.was;
    }

pub count-count-requires-clause-fits : goal.count-count-requires-clause-fits
count-count-requires-clause-fits c = inl (omega (arith, few c.args.text.now))

pub returns-then-words-count : goal.returns-then-words-count
returns-then-words-count c =
    let a = c.args in
    way-short a.text.now a.words.now (low a.text.now c.character_stage.ensures c.in_ok-character_stage.was) _ (counted _ _ c.count-count.ensures.ran) c.if-words-count.true

pub loop-n-preserved : goal.loop-n-preserved
loop-n-preserved c =
    let told = c.in-Some.ensures.steps in
    let room = counted _ _ c.count-count.ensures.ran in
    rw (told.1, told.2) (storing-on c.loop-n.invariant told.0 (omega (arith, room, c.if-words-count.false)))

pub returns : goal.returns
returns c =
    let a = c.args in
    way-done a.text.now a.words.now (low a.text.now c.character_stage.ensures c.in_ok-character_stage.was) _ (counted _ _ c.count-count.ensures.ran) _ _ c.if-words-count.false
    (storing-ends c.loop-n.invariant c.in-None.ensures.steps.0.0)
