-- `judge`: the words passed have a meaning, and their characters are counted.
use Rattle.std.specs.Prelude.{Err}
use mathlib.Core.Path.{◌≡◌, sym, ap, ◌∙◌}
use Prim.Native.Nat.{◌+◌}
use native.Mathlib.Omega.{arith}
use borrow.Author.Rules.{rules}
use Rattle.format.specs.Answers.{got}
use Rattle.format.specs.Bytes.{all}
use Rattle.format.specs.Numbers.{given}
use Rattle.format.specs.declared.Reason.TheVariants as reason
use Rattle.words.specs.Code40.{meaningful, text_of}
use Rattle.words.specs.Calls.{decode_steps}
use Rattle.words.proofs.Outcomes.{answer-bad, answer-short, answer-good}
use Rattle.decoding.proofs.Judging.{Judging, judging-on, judging-not, judging-all}
use Rattle.decoding.proofs.judge.Goals as goal

pub returns-in_err-n : goal.returns-in_err-n
unfolding decode_steps
returns-in_err-n c =
    let a = c.args in
    let ws = a.words.now in
    let bad = judging-not c.loop-w.invariant c.loop-w-test.true (search rules) in
    let told : c.from_residual.result ≡ Err reason.Word = search rules in
    ap given told ∙ sym (answer-bad 20 (all meaningful ws) a.room (text_of ws) bad)

pub overflow_add-n : goal.overflow_add-n
overflow_add-n c =
    let next : Judging c.args.words.now (c.loop-w.w-index + 1) (c.loop-w.n + c.in_ok-n.field-0) = judging-on c.loop-w.invariant c.loop-w-test.true (search rules) in
    omega (arith, next.few)

pub loop-w-preserved : goal.loop-w-preserved
loop-w-preserved c = judging-on c.loop-w.invariant c.loop-w-test.true (search rules)

pub returns-then-room-n : goal.returns-then-room-n
unfolding decode_steps
returns-then-room-n c =
    let a = c.args in
    let ws = a.words.now in
    let e = judging-all c.loop-w.invariant c.loop-w-test.false in
    sym (answer-short 20 (all meaningful ws) a.room (text_of ws) e.0 (omega (arith, e.1)))

pub returns : goal.returns
unfolding decode_steps
returns c =
    let a = c.args in
    let ws = a.words.now in
    let e = judging-all c.loop-w.invariant c.loop-w-test.false in
    ap got e.1 ∙ sym (answer-good 20 (all meaningful ws) a.room (text_of ws) e.0 (omega (arith, e.1)))
