-- The promises about the two calls, in one place. What is asked is said in specs/Demands.antt of any decoder and encoder; here it is shown of
-- `decoding` and `encoding` (specs/Calls.antt), the very functions that the contracts cite through `Fills`.
use mathlib.Core.Path.{◌≡◌, refl, sym, ap, ap₂, ◌∙◌}
use mathlib.Core.Logic.{◌↔◌}
use Prim.Native.Nat.{ℕ, ◌*◌, ◌≤◌}
use native.Mathlib.Omega.{arith}
use mathlib.Core.Bool.{true, false}
use mathlib.Core.List.{List}
use lib.ListN.{length, take, drop, get_or}
use lib.Seq.{take-append_seam}
use Rattle.std.specs.Prelude.{Result}
use borrow.Author.Tests.{lt-leb, leb-false}
use Rattle.format.specs.Answers.{Answer, Refusal, plain, got, refused, Step}
use Rattle.format.specs.Bytes.{all, filled}
use Rattle.format.specs.Numbers.{Gives, gives, one_gives, Each, none, result_of}
use Rattle.format.specs.Demands.{Exact}
use Rattle.format.specs.declared.Reason.{Reason}
use Rattle.format.proofs.Answers.{worked, afterwards-got, afterwards-refused}
use Rattle.format.proofs.Given.{given-same}
use Rattle.format.proofs.Promises.{exactly}
use Rattle.format.proofs.Refusals.{test, listed, zero-done}
use Rattle.format.proofs.Tests.{never}
use Rattle.words.specs.Code40.{is646, characters_of, meaningful, text_of, words_of}
use Rattle.words.specs.Meaning.{Means, Says, Laid}
use Rattle.words.specs.Calls.{Outcome, filling, decode_steps, decode_gives, decoding, encode_steps, encode_gives, encoding, Fills, FillsC}
use Rattle.words.specs.Demands.{LeavesAlone, Decodes, High, Encodes, ReadsBack}
use Rattle.words.proofs.Cases.{decide}
use Rattle.words.proofs.Meanings.{means-read, means-meaningful, read-means, says-meaningful, says-text, text_says, says-few}
use Rattle.words.proofs.Runs.{laid-words, words-laid}
use Rattle.words.proofs.RoundTrip.{laid-says, laid-few}
use Rattle.words.proofs.Places.{some-fails, fails-all}
use Rattle.words.proofs.Outcomes.{answer-bad, answer-short, answer-good, good-got, bad-refused, short-refused}

-- ==== Demand 1: one answer and one content of the buffer, on every input; a refusal changes nothing and gives only its number

-- two outcomes that fit a contract are equal
pub fills_one : (o : Outcome) (r r' : Result ℕ Reason) (b b' : List ℕ) → Fills o r b → Fills o r' b' → (r ≡ r') × (b ≡ b')
fills_one o r r' b b' x y = (given-same r r' (x.answered ∙ sym y.answered), x.left ∙ sym y.left)

pub c-fills-one : (o : Outcome) (used r r' : ℕ) (b b' : List ℕ) (u u' : ℕ) → FillsC o used r b u → FillsC o used r' b' u' → (r ≡ r') × (b ≡ b') × (u ≡ u')
c-fills-one o used r r' b b' u u' x y = (x.answered ∙ sym y.answered, x.left ∙ sym y.left, x.result ∙ sym y.result)

-- each refuses exactly where one of its steps does, as the first that does, and is done exactly where all pass
pub decoding-exactly : (ws buffer : List ℕ) → Exact (decode_steps (length buffer) ws) (decoding ws buffer).answer
unfolding filling
decoding-exactly ws buffer = exactly (decode_steps (length buffer) ws) _

pub encoding-exactly : (s buffer : List ℕ) → Exact (encode_steps (length buffer) s) (encoding s buffer).answer
unfolding filling
encoding-exactly s buffer = exactly (encode_steps (length buffer) s) _

-- the steps refuse with what the call's list says, in the paper's order; so a refusal is one of the list
pub decoding-order : (room : ℕ) (ws : List ℕ) → Each decode_gives (decode_steps room ws)
unfolding decode_gives decode_steps
decoding-order room ws = test 20 _ (test 2 _ none)

pub encoding-order : (room : ℕ) (s : List ℕ) → Each encode_gives (encode_steps room s)
unfolding encode_gives encode_steps
encoding-order room s = test 21 _ (test 2 _ none)

pub decoding-listed : (ws buffer : List ℕ) (x : Refusal) → (decoding ws buffer).answer ≡ refused x → one_gives decode_gives x ≡ true
unfolding filling
decoding-listed ws buffer x e = listed decode_gives (decode_steps (length buffer) ws) _ x (decoding-order (length buffer) ws) e

pub encoding-listed : (s buffer : List ℕ) (x : Refusal) → (encoding s buffer).answer ≡ refused x → one_gives encode_gives x ≡ true
unfolding filling
encoding-listed s buffer x e = listed encode_gives (encode_steps (length buffer) s) _ x (encoding-order (length buffer) s) e

-- at a refusal the buffer is as at entry
pub decoding-unchanged : LeavesAlone decoding
unfolding filling
decoding-unchanged ws buffer x e = afterwards-refused _ x _ buffer e

pub encoding-unchanged : LeavesAlone encoding
unfolding filling
encoding-unchanged s buffer x e = afterwards-refused _ x _ buffer e

-- ==== Demand 2: reading and writing agree with document 02

-- a word is read as what it stands for, and has no meaning exactly where it stands for nothing
pub meaning : (w : ℕ) (p : List ℕ) → Means w p ↔ ((meaningful w ≡ true) × (characters_of w ≡ p))
meaning w p = (λ m. (means-meaningful m, means-read m), λ h. rw h.1 at (read-means w h.0))

-- the words of a text are those of the house rule
pub house-rule : (s ws : List ℕ) → Laid s ws ↔ (words_of s ≡ ws)
house-rule s ws = (λ l. laid-words l, λ e. rw e at (words-laid s))

-- what a word without meaning is, and a character above 7F
meaningless : (w : ℕ) → ((p : List ℕ) → Means w p → ⊥) → meaningful w ≡ false
meaningless w n = decide (meaningful w) (λ t. absurd (n (characters_of w) (read-means w t))) (λ t. t)

pub no-meaning-of : (w : ℕ) → meaningful w ≡ false → (p : List ℕ) → Means w p → ⊥
no-meaning-of w t p m = never (cc (means-meaningful m))

none-high : (s : List ℕ) → (High s → ⊥) → all is646 s ≡ true
none-high s n = decide (all is646 s) (λ t. t) (λ t. let f = some-fails is646 s t in absurd (n (f.0, f.1, leb-false (get_or s f.0 0) 0x7F f.2)))

high-fails : (s : List ℕ) → High s → all is646 s ≡ false
high-fails s h = fails-all is646 s (h.0, h.1, lt-leb (get_or s h.0 0) 0x7F h.2)

pub not-high : (s : List ℕ) → all is646 s ≡ true → High s → ⊥
not-high s t h = never (cc (high-fails s h))

pub decodes : Decodes decoding
unfolding filling decode_steps
decodes =
    record {
      done = λ ws s buffer says room.
          let text : text_of ws ≡ s = says-text says in
          let e = answer-good 20 (all meaningful ws) (length buffer) (text_of ws) (says-meaningful says) (rw text room) in
          (e ∙ ap (λ (t : List ℕ). got (length t)) text, afterwards-got _ _ _ buffer e ∙ ap (λ (t : List ℕ). filled t buffer) text);
      no-meaning = λ ws buffer. (
        λ e. let f = some-fails meaningful ws (bad-refused 20 (all meaningful ws) (length buffer) (text_of ws) (λ k. omega arith) e) in (f.0, f.1, no-meaning-of (get_or ws f.0 0) f.2),
        λ h. answer-bad 20 (all meaningful ws) (length buffer) (text_of ws) (fails-all meaningful ws (h.0, h.1, meaningless (get_or ws h.0 0) h.2)),
      );
      short = λ ws buffer. (
        λ e. let f = short-refused 20 (all meaningful ws) (length buffer) (text_of ws) (λ k. omega arith) e in (text_of ws, text_says ws f.0, f.1),
        λ h. answer-short 20 (all meaningful ws) (length buffer) (text_of ws) (says-meaningful h.1) (rw (says-text h.1) h.2),
      );
    }

pub encodes : Encodes encoding
unfolding filling encode_steps
encodes =
    record {
      done = λ s ws buffer low laid room.
          let words : words_of s ≡ ws = laid-words laid in
          let e = answer-good 21 (all is646 s) (length buffer) (words_of s) (none-high s low) (rw words room) in
          (e ∙ ap (λ (l : List ℕ). got (length l)) words, afterwards-got _ _ _ buffer e ∙ ap (λ (l : List ℕ). filled l buffer) words);
      high = λ s buffer. (
        λ e. let f = some-fails is646 s (bad-refused 21 (all is646 s) (length buffer) (words_of s) (λ k. omega arith) e) in (f.0, f.1, leb-false (get_or s f.0 0) 0x7F f.2),
        λ h. answer-bad 21 (all is646 s) (length buffer) (words_of s) (high-fails s h),
      );
      short = λ s buffer. (
        λ e. let f = short-refused 21 (all is646 s) (length buffer) (words_of s) (λ k. omega arith) e in (not-high s f.0, (words_of s, words-laid s, f.1)),
        λ h. answer-short 21 (all is646 s) (length buffer) (words_of s) (none-high s h.0) (rw (laid-words h.1.1) h.1.2),
      );
    }

-- what is written reads back: where a text was encoded, its words, decoded with room enough, are that text
pub written-reads-back : ReadsBack decoding encoding
unfolding filling encode_steps
written-reads-back s words n e buffer room =
    let out : List ℕ = words_of s in
    let low : all is646 s ≡ true = good-got 21 (all is646 s) (length words) out e in
    let long : n ≡ length out = sym (worked _ (length out) n e).1 in
    let front : take n (encoding s words).buffer ≡ out =
    ap₂ take long (afterwards-got _ n (filled out words) words e) ∙ take-append_seam out (drop (length out) words) in
    rw front (decodes.done out s buffer (laid-says low (words-laid s)) room)

-- three characters for each word are room enough, and one word for each character
pub decode-room : (ws s : List ℕ) → Says ws s → length s ≤ 3 * length ws
decode-room ws s r = says-few r

pub encode-room : (s ws : List ℕ) → Laid s ws → length ws ≤ length s
encode-room s ws l = laid-few l

-- ==== for a C host: 0 is returned only where the work is done, and then the result is the output's length

pub filled_zero : (gs : List Gives) (steps : List Step) (out buffer : List ℕ) (used r : ℕ) (after : List ℕ) (used' : ℕ)
    → Each gs steps → one_gives gs (plain 0) ≡ false → FillsC (filling steps out buffer) used r after used' → r ≡ 0 → (used' ≡ length out) × (after ≡ filled out buffer)
unfolding filling
filled_zero gs steps out buffer used r after used' order z c e =
    let d = zero-done gs steps (length out) order z (sym c.answered ∙ e) in
    (c.result ∙ ap (λ (a : Answer ℕ). result_of (λ n. n) a used) d, c.left ∙ afterwards-got _ _ _ buffer d)

pub c-decodes : (ws buffer : List ℕ) (used r : ℕ) (after : List ℕ) (used' : ℕ) → FillsC (decoding ws buffer) used r after used' → r ≡ 0 → (used' ≡ length (text_of ws)) × (after ≡ filled (text_of ws) buffer)
unfolding decode_gives one_gives gives
c-decodes ws buffer used r after used' = filled_zero decode_gives (decode_steps (length buffer) ws) (text_of ws) buffer used r after used' (decoding-order (length buffer) ws) refl

pub c-encodes : (s buffer : List ℕ) (used r : ℕ) (after : List ℕ) (used' : ℕ) → FillsC (encoding s buffer) used r after used' → r ≡ 0 → (used' ≡ length (words_of s)) × (after ≡ filled (words_of s) buffer)
unfolding encode_gives one_gives gives
c-encodes s buffer used r after used' = filled_zero encode_gives (encode_steps (length buffer) s) (words_of s) buffer used r after used' (encoding-order (length buffer) s) refl
