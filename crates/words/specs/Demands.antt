-- What document 02 and the demands ask of a decoder (words to text) and of an encoder (text to words), whatever they are.
-- `proofs/Promises.antt` shows it of `decoding` and `encoding`; `proofs/Wrong.antt` shows of several kinds of wrong ones that they do not
-- have it.
use Rattle.std.specs.Prelude.{◌≡◌, ◌↔◌, ℕ, ◌≤◌, ◌<◌, List, length, take, get_or}
use Rattle.format.specs.Answers.{Refusal, plain, got, refused}
use Rattle.format.specs.Bytes.{filled}
use Rattle.words.specs.Meaning.{Means, Says, Laid}
use Rattle.words.specs.Calls.{Outcome}

-- a call that makes something of what it is lent, and fills a buffer with it
abbrev pub Converter : Type 0
Converter = List ℕ → List ℕ → Outcome

-- the work is done: the output's length is given, and just that much filled
abbrev pub Done : Outcome → List ℕ → List ℕ → Type 0
Done o out buffer = (o.answer ≡ got (length out)) × (o.buffer ≡ filled out buffer)

-- a refusal changes no byte of the buffer
abbrev pub LeavesAlone : {A : Type 0} → (A → List ℕ → Outcome) → Type 0
LeavesAlone {A} f = (input : A) (buffer : List ℕ) (x : Refusal) → (f input buffer).answer ≡ refused x → (f input buffer).buffer ≡ buffer

-- Words to text: what the words say goes out, where there is room for it. 20 exactly where a word has no meaning; 2 exactly where all have,
-- and the room is too short for what they say.
pub record Decodes (f : Converter) : Type 0 where
  pub done : (ws s buffer : List ℕ) → Says ws s → length s ≤ length buffer → Done (f ws buffer) s buffer
  pub no-meaning : (ws buffer : List ℕ) → ((f ws buffer).answer ≡ refused (plain 20)) ↔ ((i : ℕ) × (i < length ws) × ((p : List ℕ) → Means (get_or ws i 0) p → ⊥))
  pub short : (ws buffer : List ℕ) → ((f ws buffer).answer ≡ refused (plain 2)) ↔ ((s : List ℕ) × Says ws s × (length buffer < length s))

-- a character above 7F stands in the text
abbrev pub High : List ℕ → Type 0
High s = (i : ℕ) × (i < length s) × (0x7F < get_or s i 0)

-- Text to words: the words of the house rule go out, where there is room for them. 21 exactly where a character is above 7F; 2 exactly
-- where none is, and the room is too short for the words.
pub record Encodes (f : Converter) : Type 0 where
  pub done : (s ws buffer : List ℕ) → (High s → ⊥) → Laid s ws → length ws ≤ length buffer → Done (f s buffer) ws buffer
  pub high : (s buffer : List ℕ) → ((f s buffer).answer ≡ refused (plain 21)) ↔ High s
  pub short : (s buffer : List ℕ) → ((f s buffer).answer ≡ refused (plain 2)) ↔ ((High s → ⊥) × ((ws : List ℕ) × Laid s ws × (length buffer < length ws)))

-- what is written reads back: where a text was encoded, its words, decoded with room enough, are that text
abbrev pub ReadsBack : Converter → Converter → Type 0
ReadsBack decode encode =
    (s words : List ℕ) (n : ℕ) → (encode s words).answer ≡ got n → (buffer : List ℕ) → length s ≤ length buffer
    → Done (decode (take n (encode s words).buffer) buffer) s buffer
