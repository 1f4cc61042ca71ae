-- Words, text and elements: what the four calls on them give one another.
use mathlib.Core.Path.{◌≡◌, sym, ap, ap₂, subst, ◌∙◌}
use Prim.Native.Nat.{ℕ}
use native.Mathlib.Omega.{arith}
use mathlib.Core.Bool.{true, not}
use mathlib.Core.List.{List}
use lib.ListN.{length, take, drop}
use lib.Seq.{take-append_seam}
use Rattle.format.specs.Answers.{got, Step}
use Rattle.format.specs.Bytes.{all, is_empty, filled}
use Rattle.format.proofs.Answers.{worked, afterwards-got}
use Rattle.words.specs.Code40.{is646, meaningful, text_of, words_of}
use Rattle.words.specs.Calls.{filling, decode_steps, decoding, encoding}
use Rattle.words.proofs.Meanings.{text_says}
use Rattle.words.proofs.Runs.{words-laid}
use Rattle.words.proofs.RoundTrip.{says-low, laid-few}
use Rattle.words.proofs.Outcomes.{good-got}
use Rattle.words.proofs.Promises.{encodes, not-high, written-reads-back}
use Rattle.identifier.specs.Elements.{identifier_of}
use Rattle.identifier.specs.Calls.{join_steps, parting, joining}
use Rattle.identifier.specs.Demands.{DoneThree, ElementsThroughWords, WordsThroughElements}
use Rattle.identifier.proofs.Promises.{taken_back, put_back}

-- where a buffer was filled, its front is the output
front : (steps : List Step) (out buffer : List ℕ) (n : ℕ) → (filling steps out buffer).answer ≡ got n → (take n (filling steps out buffer).buffer ≡ out) × (length out ≡ n)
unfolding filling
front steps out buffer n e =
    let long : length out ≡ n = (worked steps (length out) n e).1 in
    (ap₂ take (sym long) (afterwards-got _ n (filled out buffer) buffer e) ∙ take-append_seam out (drop (length out) buffer), long)

pub elements-through-words : ElementsThroughWords parting joining decoding encoding
elements-through-words e text words n m h g again buffers few room =
    let s : List ℕ = take n (joining e text).buffer in
    let f = front (join_steps (length text) e) (identifier_of e) text n h in
    let long : length s ≡ n = ap length f.0 ∙ f.1 in
    let d = written-reads-back s words m g again (omega arith) in
    let seen = ap₂ take (sym long) d.1 ∙ take-append_seam s (drop (length s) again) in
    (d.0 ∙ ap got long, subst (λ (t : List ℕ). DoneThree (parting (not (is_empty e.isil)) t buffers) e buffers) (sym seen) (taken_back e text n h buffers room))

pub words-through-elements : WordsThroughElements parting joining decoding encoding
unfolding filling decode_steps
words-through-elements leads ws text buffers n m h g again words few fewer =
    let s : List ℕ = take n (decoding ws text).buffer in
    let f = front (decode_steps (length text) ws) (text_of ws) text n h in
    let long : length s ≡ n = ap length f.0 ∙ f.1 in
    let meant : all meaningful ws ≡ true = good-got 20 (all meaningful ws) (length text) (text_of ws) h in
    let low : all is646 s ≡ true = subst (λ (t : List ℕ). all is646 t ≡ true) (sym f.0) (says-low (text_says ws meant)) in
    let laid = words-laid s in
    let d = encodes.done s (words_of s) words (not-high s low) laid (omega (arith, laid-few laid)) in
    (put_back leads s buffers m g again (omega arith), (length (words_of s), d.0, written-reads-back s words (length (words_of s)) d.0 again (omega arith)))
