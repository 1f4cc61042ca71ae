-- Wrong decoders and encoders, and the demand that each breaks. Nothing is said here of `decoding` or `encoding`: whatever program is of one
-- of these kinds does not keep the demand (specs/Demands.antt), however its proof were made.
use mathlib.Core.Path.{◌≡◌, refl, sym, ap, ◌∙◌}
use Prim.Native.Nat.{ℕ, ◌≤◌, ◌<◌}
use native.Mathlib.Omega.{arith}
use mathlib.Core.Bool.{true}
use mathlib.Core.List.{List, [], ◌∷◌, ◌++◌}
use lib.ListN.{length, get_or}
use Rattle.format.specs.Answers.{Refusal, got, refused}
use Rattle.format.specs.Bytes.{all, trim, strip}
use Rattle.format.proofs.Wrong.{no-refusal}
use Rattle.words.specs.Code40.{value_of, is646, characters_at, unpadded, characters_of, text_of}
use Rattle.words.specs.Meaning.{Means, three, one, held, Says, nothing, word, end, before, Laid}
use Rattle.words.specs.Demands.{Converter, Done, LeavesAlone, Decodes, Encodes}
use Rattle.words.proofs.Meanings.{means-read}
use Rattle.words.proofs.Promises.{no-meaning-of, not-high}

-- ---- what the kinds are told by: A, B, a, ABC and A/B, and their words

abbrev letter : List ℕ
letter = 0x41 ∷ []

abbrev other : List ℕ
other = 0x42 ∷ []

abbrev small : List ℕ
small = 0x61 ∷ []

abbrev run : List ℕ
run = 0x41 ∷ 0x42 ∷ 0x43 ∷ []

abbrev across : List ℕ
across = 0x41 ∷ 0x2F ∷ 0x42 ∷ []

record Facts : Type 0 where
  means-letter : Means 0x0641 letter
  means-other : Means 0x0C81 other
  means-run : Means 0x0694 run
  laid-letter : Laid letter (0x0641 ∷ [])
  laid-small : Laid small (0xFC61 ∷ [])
  laid-run : Laid run (0x0694 ∷ [])
  laid-across : Laid across (0x0641 ∷ 0xFC2F ∷ 0x0C81 ∷ [])
  low : (all is646 letter ≡ true) × (all is646 small ≡ true) × (all is646 run ≡ true) × (all is646 across ≡ true)

facts : Facts
unfolding value_of all
facts = record {
  means-letter = one refl;
  means-other = one refl;
  means-run = three refl refl refl;
  laid-letter = one refl end nothing;
  laid-small = held refl nothing;
  laid-run = three refl refl refl nothing;
  laid-across = one refl (before refl) (held refl (one refl end nothing));
  low = (refl, refl, refl, refl);
}

-- the first of a buffer
abbrev first : List ℕ → ℕ
first l = get_or l 0 0

-- ---- words that stand for nothing: three pads, A pad B, FA01, FC80; and 0

abbrev Unmeant : ℕ → Type 0
Unmeant w = (p : List ℕ) → Means w p → ⊥

pub unmeant : Unmeant 0x0001 × Unmeant 0x0643 × Unmeant 0xFA01 × Unmeant 0xFC80 × Unmeant 0
unfolding characters_of unpadded characters_at all strip trim
unmeant = (no-meaning-of 0x0001 refl, no-meaning-of 0x0643 refl, no-meaning-of 0xFA01 refl, no-meaning-of 0xFC80 refl, no-meaning-of 0 refl)

-- ==== decoders

module _ (f : Converter) (d : Decodes f) where
  gives-letter : Done (f (0x0641 ∷ []) (0 ∷ [])) letter (0 ∷ [])
  gives-letter = d.done _ _ (0 ∷ []) (word facts.means-letter nothing) (omega arith)

  gives_other : Done (f (0x0C81 ∷ []) (0 ∷ [])) other (0 ∷ [])
  gives_other = d.done _ _ (0 ∷ []) (word facts.means-other nothing) (omega arith)

  pub decoder-refusing-all : ((ws buffer : List ℕ) → (x : Refusal) × ((f ws buffer).answer ≡ refused x)) → ⊥
  decoder-refusing-all refuses = no-refusal (refuses (0x0641 ∷ []) (0 ∷ [])).1 gives-letter.0

  -- one text, whatever the words
  pub decoder-with-one-text : ((ws ws' buffer : List ℕ) (n n' : ℕ) → (f ws buffer).answer ≡ got n → (f ws' buffer).answer ≡ got n' → (f ws buffer).buffer ≡ (f ws' buffer).buffer) → ⊥
  decoder-with-one-text same =
      let z : ◌≡◌ {A = ℕ} 0x41 0x42 = ap first (sym gives-letter.1 ∙ same _ _ (0 ∷ []) _ _ gives-letter.0 gives_other.0 ∙ gives_other.1) in
      omega arith

  -- a word for a character
  pub decoder-counting-words : ((ws buffer : List ℕ) (n : ℕ) → (f ws buffer).answer ≡ got n → n ≡ length ws) → ⊥
  decoder-counting-words counts =
      let z : ◌≡◌ {A = ℕ} 3 1 = counts (0x0694 ∷ []) (0 ∷ 0 ∷ 0 ∷ []) 3 (d.done _ _ (0 ∷ 0 ∷ 0 ∷ []) (word facts.means-run nothing) (omega arith)).0 in
      omega arith

  -- a word is taken that stands for nothing
  pub decoder-taking : (w : ℕ) → Unmeant w → (buffer : List ℕ) (n : ℕ) → (f (w ∷ []) buffer).answer ≡ got n → ⊥
  decoder-taking w unmeant-w buffer n e = no-refusal ((d.no-meaning (w ∷ []) buffer).1 (0, omega arith, unmeant-w)) e

  -- the first character is stored before all words are looked at
  pub decoder-storing-first : LeavesAlone f → ((ws buffer : List ℕ) → 0 < length buffer → first (f ws buffer).buffer ≡ first (text_of ws)) → ⊥
  unfolding text_of
  decoder-storing-first alone stores =
      let ws : List ℕ = 0x0641 ∷ 0 ∷ [] in
      let r = (d.no-meaning ws (0 ∷ [])).1 (1, omega arith, unmeant.4) in
      let z : ◌≡◌ {A = ℕ} 0 0x41 =
      ap first (sym (alone ws (0 ∷ []) _ r)) ∙ stores ws (0 ∷ []) (omega arith) ∙ ap (λ (l : List ℕ). first (l ++ (characters_of 0 ++ []))) (means-read facts.means-letter) in
      omega arith

-- ==== encoders

-- Words that each stand for one character say the text too: so reading back by itself would let pass an encoder that writes an FC word, or any
-- word of its own, for every character.
pub data Single : List ℕ → List ℕ → Type 0 where
  none : Single [] []
  more : {c w : ℕ} {s ws : List ℕ} → Means w (c ∷ []) → Single s ws → Single (c ∷ s) (w ∷ ws)

pub single-says : {s ws : List ℕ} → Single s ws → Says ws s
single-says none = nothing
single-says (more m r) = word m (single-says r)

module _ (f : Converter) (d : Encodes f) where
  lays-letter : Done (f letter (0 ∷ [])) (0x0641 ∷ []) (0 ∷ [])
  lays-letter = d.done letter _ (0 ∷ []) (not-high letter facts.low.0) facts.laid-letter (omega arith)

  lays-small : Done (f small (0 ∷ [])) (0xFC61 ∷ []) (0 ∷ [])
  lays-small = d.done small _ (0 ∷ []) (not-high small facts.low.1) facts.laid-small (omega arith)

  lays-run : Done (f run (0 ∷ 0 ∷ 0 ∷ [])) (0x0694 ∷ []) (0 ∷ 0 ∷ 0 ∷ [])
  lays-run = d.done run _ (0 ∷ 0 ∷ 0 ∷ []) (not-high run facts.low.2) facts.laid-run (omega arith)

  lays-across : Done (f across (0 ∷ 0 ∷ 0 ∷ [])) (0x0641 ∷ 0xFC2F ∷ 0x0C81 ∷ []) (0 ∷ 0 ∷ 0 ∷ [])
  lays-across = d.done across _ (0 ∷ 0 ∷ 0 ∷ []) (not-high across facts.low.3) facts.laid-across (omega arith)

  pub encoder-refusing-all : ((s buffer : List ℕ) → (x : Refusal) × ((f s buffer).answer ≡ refused x)) → ⊥
  encoder-refusing-all refuses = no-refusal (refuses letter (0 ∷ [])).1 lays-letter.0

  -- an FC word for every character
  pub encoder-holding-all : ((s buffer : List ℕ) (n : ℕ) → (f s buffer).answer ≡ got n → 0 < n → 0xFC00 ≤ first (f s buffer).buffer) → ⊥
  encoder-holding-all holds =
      let z : 0xFC00 ≤ first (f letter (0 ∷ [])).buffer = holds letter (0 ∷ []) 1 lays-letter.0 (omega arith) in
      omega (arith, ap first lays-letter.1)

  -- a word for every character
  pub encoder-of-ones : ((s buffer : List ℕ) (n : ℕ) → (f s buffer).answer ≡ got n → n ≡ length s) → ⊥
  encoder-of-ones counts = let z : ◌≡◌ {A = ℕ} 1 3 = counts run (0 ∷ 0 ∷ 0 ∷ []) 1 lays-run.0 in omega arith

  -- small letters are written as capitals
  pub encoder-folding : ((buffer : List ℕ) → (f small buffer).buffer ≡ (f letter buffer).buffer) → ⊥
  encoder-folding folds =
      let z : ◌≡◌ {A = ℕ} 0xFC61 0x0641 = ap first (sym lays-small.1 ∙ folds (0 ∷ []) ∙ lays-letter.1) in
      omega arith

  -- a run goes on across a character outside the 39: A and B share a word
  pub encoder-going-across : ((buffer : List ℕ) (n : ℕ) → (f across buffer).answer ≡ got n → n ≤ 2) → ⊥
  encoder-going-across shares = let z : 3 ≤ 2 = shares (0 ∷ 0 ∷ 0 ∷ []) 3 lays-across.0 in omega arith

  -- a word of pads behind a run that needs none
  pub encoder-padding-always : ((buffer : List ℕ) (n : ℕ) → (f run buffer).answer ≡ got n → 2 ≤ n) → ⊥
  encoder-padding-always pads = let z : 2 ≤ 1 = pads (0 ∷ 0 ∷ 0 ∷ []) 1 lays-run.0 in omega arith
