-- The two calls: document 02, E2. For each, its refusals in the paper's order, and its outcome: the answer, and what the lent buffer holds
-- afterwards. And what the contracts say of that.
use Rattle.std.specs.Prelude.{◌≡◌, ℕ, List, [], ◌∷◌, length, leb, Result}
use Rattle.format.specs.Answers.{Answer, Step, need, in_order, afterwards}
use Rattle.format.specs.Bytes.{all, filled}
use Rattle.format.specs.Numbers.{Gives, alone, given, number_of, result_of}
use Rattle.format.specs.declared.Reason.{Reason}
use Rattle.words.specs.Code40.{is646, meaningful, text_of, words_of}

pub record Outcome : Type 0 where
  pub answer : Answer ℕ
  pub buffer : List ℕ

-- a call with these steps and this output gives the output's length, fills just that much of the buffer and changes nothing else
unfoldable pub filling : List Step → List ℕ → List ℕ → Outcome
filling steps out buffer =
    let answer : Answer ℕ = in_order steps (length out) in
    record { answer = answer; buffer = afterwards answer (filled out buffer) buffer }

-- ---- Words to text: 20 a word with no meaning, then 2

unfoldable pub decode_steps : ℕ → List ℕ → List Step
decode_steps room ws =
    need 20 (all meaningful ws) ∷
    need 2 (leb (length (text_of ws)) room) ∷
    []

unfoldable pub decode_gives : List Gives
decode_gives = alone 20 ∷ alone 2 ∷ []

abbrev pub decoding : List ℕ → List ℕ → Outcome
decoding ws buffer = filling (decode_steps (length buffer) ws) (text_of ws) buffer

-- ---- Text to words: 21 a character above 7F, then 2

unfoldable pub encode_steps : ℕ → List ℕ → List Step
encode_steps room s =
    need 21 (all is646 s) ∷
    need 2 (leb (length (words_of s)) room) ∷
    []

unfoldable pub encode_gives : List Gives
encode_gives = alone 21 ∷ alone 2 ∷ []

abbrev pub encoding : List ℕ → List ℕ → Outcome
encoding s buffer = filling (encode_steps (length buffer) s) (words_of s) buffer

-- ---- the contracts

-- a call answered r and left `after` in the buffer, as the outcome says
pub record Fills (o : Outcome) (r : Result ℕ Reason) (after : List ℕ) : Type 0 where
  pub answered : given r ≡ o.answer
  pub left : after ≡ o.buffer

-- and an exported call: `r` is the number returned, `used` the result before, `used'` the result afterwards
pub record FillsC (o : Outcome) (used r : ℕ) (after : List ℕ) (used' : ℕ) : Type 0 where
  pub answered : r ≡ number_of o.answer
  pub left : after ≡ o.buffer
  pub result : used' ≡ result_of (λ n. n) o.answer used
