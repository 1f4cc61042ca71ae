-- `words_to_text` answers what was judged; the text is stored where that is good.
use Rattle.std.specs.Prelude.{Err}
use mathlib.Core.Path.{◌≡◌, sym, ap, ◌∙◌}
use borrow.Author.Rules.{rules}
use lib.ListN.{length}
use Rattle.format.specs.Bytes.{all}
use Rattle.format.specs.Numbers.{given}
use Rattle.format.proofs.Pieces.{stored-front}
use Rattle.words.specs.Code40.{meaningful, text_of}
use Rattle.words.specs.Calls.{decode_steps}
use Rattle.words.proofs.Alphabet.{characters, character-at}
use Rattle.words.proofs.Outcomes.{good-got, room-got, fills-refused, fills-done}
use Rattle.decoding.proofs.words_to_text.Goals as goal

pub returns-in_err-length : goal.returns-in_err-length
returns-in_err-length c =
    let a = c.args in
    let e = sym c.judge.ensures ∙ ap given (c.in_err-length.was) in
    let told : c.from_residual.result ≡ Err c.in_err-length.field-0.0 = search rules in
    rw told (fills-refused (decode_steps (length a.text.now) a.words.now) (text_of a.words.now) a.text.now e)

pub invariant_of-characters : goal.invariant_of-characters
unfolding characters
invariant_of-characters c = record { ordered = record { at_value = character-at } }

pub put_text-requires : goal.put_text-requires
unfolding decode_steps
put_text-requires c =
    let a = c.args in
    let ws = a.words.now in
    let e = sym c.judge.ensures ∙ ap given c.in_ok-length.was in
    (good-got 20 (all meaningful ws) (length a.text.now) (text_of ws) e, room-got 20 (all meaningful ws) (length a.text.now) (text_of ws) e)

pub returns : goal.returns
returns c =
    let a = c.args in
    let ws = a.words.now in
    let e = sym c.judge.ensures ∙ ap given c.in_ok-length.was in
    fills-done (decode_steps (length a.text.now) ws) (text_of ws) a.text.now _ e (stored-front a.text.now _ (text_of ws) _ c.put_text.ensures).1
