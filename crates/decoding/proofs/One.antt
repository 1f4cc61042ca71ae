-- Words to text: one answer, and one content of the buffer.
use mathlib.Core.Path.{◌≡◌}
use Prim.Native.Nat.{ℕ}
use mathlib.Core.List.{List}
use Rattle.std.specs.Prelude.{Result}
use Rattle.format.specs.declared.Reason.{Reason}
use Rattle.words.specs.Calls.{decoding, Fills}
use Rattle.words.proofs.Promises.{fills_one}

pub words-to-text-one : (words text : List ℕ) (r r₂ : Result ℕ Reason) (text' text₂ : List ℕ)
    → Fills (decoding words text) r text'
    → Fills (decoding words text) r₂ text₂
    → (r ≡ r₂) × (text' ≡ text₂)
words-to-text-one words text = fills_one (decoding words text)
