-- Document 02's pair, and texts, words and calls at the edges of the rules, computed: one table under a single statement.
use mathlib.Core.Path.{◌≡◌, refl}
use Prim.Native.Nat.{ℕ}
use mathlib.Core.List.{List, [], ◌∷◌}
use Rattle.format.specs.Answers.{Answer, plain, got, refused, need, in_order, afterwards}
use Rattle.format.specs.Bytes.{all, trim, strip}
use Rattle.words.specs.Code40.{value_of, character_of, characters_at, unpadded, characters_of, text_of, packed, words_from, words_of}
use Rattle.words.specs.Calls.{Outcome, filling, decode_steps, decoding, encode_steps, encoding}

-- CH-000134-1.12345678.31
unfoldable pub swiss : List ℕ
swiss = 0x43 ∷ 0x48 ∷ 0x2D ∷ 0x30 ∷ 0x30 ∷ 0x30 ∷ 0x31 ∷ 0x33 ∷ 0x34 ∷ 0x2D ∷ 0x31 ∷ 0x2E ∷ 0x31 ∷ 0x32 ∷ 0x33 ∷ 0x34 ∷ 0x35 ∷ 0x36 ∷ 0x37 ∷ 0x38 ∷ 0x2E ∷ 0x33 ∷ 0x31 ∷ []

pub swiss_words : List ℕ
swiss_words = 0x141C ∷ 0xC04F ∷ 0xC70B ∷ 0xADB5 ∷ 0xC6E2 ∷ 0xDA1D ∷ 0xED4D ∷ 0xD319 ∷ []

-- DK-1/2.a: the stroke and the small letter are outside the 39, and end a run
danish : List ℕ
danish = 0x44 ∷ 0x4B ∷ 0x2D ∷ 0x31 ∷ 0x2F ∷ 0x32 ∷ 0x2E ∷ 0x61 ∷ []

danish_words : List ℕ
danish_words = 0x1AD4 ∷ 0xC1C1 ∷ 0xFC2F ∷ 0xCC61 ∷ 0xFC61 ∷ []

-- a text and its words, both ways
Both : List ℕ → List ℕ → Type 0
Both s ws = (words_of s ≡ ws) × (text_of ws ≡ s)

-- a call: its answer, and the buffer afterwards
Comes : Outcome → Answer ℕ → List ℕ → Type 0
Comes o a b = (o.answer ≡ a) × (o.buffer ≡ b)

pub record Pairs : Type 0 where
  pair : Both swiss swiss_words
  mixed : Both danish danish_words
  nothing : Both [] []
  -- runs of one, two, three and four
  one : Both (0x41 ∷ []) (0x0641 ∷ [])
  two : Both (0x41 ∷ 0x41 ∷ []) (0x0669 ∷ [])
  three : Both (0x5A ∷ 0x3A ∷ 0x39 ∷ []) (0xA730 ∷ [])
  four : Both (0x41 ∷ 0x41 ∷ 0x41 ∷ 0x41 ∷ []) (0x066A ∷ 0x0641 ∷ [])
  -- a run does not go on across another character; small letters stay small; 00 and 7F are characters
  across : Both (0x41 ∷ 0x2F ∷ 0x42 ∷ []) (0x0641 ∷ 0xFC2F ∷ 0x0C81 ∷ [])
  small : Both (0x61 ∷ 0x7A ∷ []) (0xFC61 ∷ 0xFC7A ∷ [])
  edges : Both (0x00 ∷ 0x7F ∷ []) (0xFC00 ∷ 0xFC7F ∷ [])
  -- the largest word, 999; and what reading accepts though no writer makes it: an FC word for one of the 39, pads before another word
  largest : Both (0x39 ∷ 0x39 ∷ 0x39 ∷ []) (0xFA00 ∷ [])
  held-letter : text_of (0xFC41 ∷ 0x0641 ∷ 0x0641 ∷ []) ≡ 0x41 ∷ 0x41 ∷ 0x41 ∷ []
  -- no meaning: 0, three pads, pads before A, a pad before A and B, A pad B; behind 999; the other high bytes; FC with a character above 7F
  zero_word : characters_of 0x0000 ≡ []
  three-pads : characters_of 0x0001 ≡ []
  pads-before : characters_of 0x0002 ≡ []
  pad-before : characters_of 0x002B ≡ []
  pad-between : characters_of 0x0643 ≡ []
  behind-largest : characters_of 0xFA01 ≡ []
  high-fa : characters_of 0xFAFF ≡ []
  high-fb : characters_of 0xFB41 ≡ []
  above-7f : characters_of 0xFC80 ≡ []
  high-fd : characters_of 0xFD41 ≡ []
  high-ff : characters_of 0xFFFF ≡ []
  -- calls: room for just the output is enough, one less is 2; 20 and 21 come before 2, and nothing changes; no input needs no room
  just-room : Comes (decoding (0x0669 ∷ 0xFC2F ∷ []) (1 ∷ 2 ∷ 3 ∷ [])) (got 3) (0x41 ∷ 0x41 ∷ 0x2F ∷ [])
  more_room : Comes (decoding (0x0669 ∷ []) (1 ∷ 2 ∷ 3 ∷ [])) (got 2) (0x41 ∷ 0x41 ∷ 3 ∷ [])
  short-room : Comes (decoding (0x0669 ∷ 0xFC2F ∷ []) (1 ∷ 2 ∷ [])) (refused (plain 2)) (1 ∷ 2 ∷ [])
  no-meaning : Comes (decoding (0x0669 ∷ 0x0001 ∷ []) (1 ∷ [])) (refused (plain 20)) (1 ∷ [])
  no_words : Comes (decoding [] []) (got 0) []
  just-words : Comes (encoding (0x41 ∷ 0x2F ∷ []) (1 ∷ 2 ∷ [])) (got 2) (0x0641 ∷ 0xFC2F ∷ [])
  more-words : Comes (encoding (0x41 ∷ []) (1 ∷ 2 ∷ [])) (got 1) (0x0641 ∷ 2 ∷ [])
  short-words : Comes (encoding (0x41 ∷ 0x2F ∷ []) (1 ∷ [])) (refused (plain 2)) (1 ∷ [])
  high : Comes (encoding (0x41 ∷ 0x80 ∷ []) []) (refused (plain 21)) []
  no_text : Comes (encoding [] []) (got 0) []

pub pairs-hold : Pairs
unfolding swiss swiss_words danish danish_words Both Comes need in_order afterwards all trim strip value_of character_of characters_at unpadded characters_of text_of packed words_from filling decode_steps encode_steps
pairs-hold = record {
  pair = (refl, refl);
  mixed = (refl, refl);
  nothing = (refl, refl);
  one = (refl, refl);
  two = (refl, refl);
  three = (refl, refl);
  four = (refl, refl);
  across = (refl, refl);
  small = (refl, refl);
  edges = (refl, refl);
  largest = (refl, refl);
  held-letter = refl;
  zero_word = refl;
  three-pads = refl;
  pads-before = refl;
  pad-before = refl;
  pad-between = refl;
  behind-largest = refl;
  high-fa = refl;
  high-fb = refl;
  above-7f = refl;
  high-fd = refl;
  high-ff = refl;
  just-room = (refl, refl);
  more_room = (refl, refl);
  short-room = (refl, refl);
  no-meaning = (refl, refl);
  no_words = (refl, refl);
  just-words = (refl, refl);
  more-words = (refl, refl);
  short-words = (refl, refl);
  high = (refl, refl);
  no_text = (refl, refl);
}
