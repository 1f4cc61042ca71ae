-- The three ways out of `text_to_words`.
use mathlib.Core.Path.{◌≡◌, sym, ap, ◌∙◌}
use Prim.Native.Nat.{ℕ, ◌≤◌, ◌<◌}
use native.Mathlib.Omega.{arith}
use mathlib.Core.Bool.{true}
use mathlib.Core.List.{List}
use lib.ListN.{length}
use Rattle.format.specs.Answers.{got, refused, plain, need}
use Rattle.format.specs.Bytes.{all}
use Rattle.format.specs.Pieces.{Stored}
use Rattle.std.specs.Prelude.{Ok, Err}
use Rattle.format.specs.Numbers.{reason_number}
use Rattle.format.specs.declared.Reason.{Reason}
use Rattle.format.specs.declared.Reason.TheVariants as reason
use Rattle.format.proofs.Answers.{first-no}
use Rattle.format.proofs.Pieces.{stored-front}
use Rattle.words.specs.Code40.{is646, words_of}
use Rattle.words.specs.Calls.{encode_steps, encoding, Fills}
use Rattle.words.proofs.Outcomes.{answer-short, answer-good, fills-refused, fills-done}

module _ (s words : List ℕ) where
  pub way-high : {r : Reason} → need 21 (all is646 s) ≡ refused (plain (reason_number r)) → Fills (encoding s words) (Err r) words
  unfolding encode_steps
  way-high {r} e = fills-refused (encode_steps (length words) s) (words_of s) words (first-no (need 21 (all is646 s)) _ _ (plain (reason_number r)) e)

  module _ (low : all is646 s ≡ true) (n : ℕ) (counted : n ≡ length (words_of s)) where
    pub way-short : length words < n → Fills (encoding s words) (Err reason.Room) words
    unfolding encode_steps
    way-short h =
        fills-refused (encode_steps (length words) s) (words_of s) words (answer-short 21 (all is646 s) (length words) (words_of s) low (omega arith))

    pub way-done : (r : ℕ) (after : List ℕ) → n ≤ length words → Stored words 0 (words_of s) r after → Fills (encoding s words) (Ok n) after
    unfolding encode_steps
    way-done r after h p =
        fills-done (encode_steps (length words) s) (words_of s) words after
        (answer-good 21 (all is646 s) (length words) (words_of s) low (omega arith) ∙ ap got (sym counted))
        (stored-front words after (words_of s) r p).1
