-- Text to words: one answer, and one content of the buffer.
use mathlib.Core.Path.{◌≡◌}
use Prim.Native.Nat.{ℕ}
use mathlib.Core.List.{List}
use Rattle.std.specs.Prelude.{Result}
use Rattle.format.specs.declared.Reason.{Reason}
use Rattle.words.specs.Calls.{encoding, Fills}
use Rattle.words.proofs.Promises.{fills_one}

pub text-to-words-one : (text words : List ℕ) (r r₂ : Result ℕ Reason) (words' words₂ : List ℕ)
    → Fills (encoding text words) r words'
    → Fills (encoding text words) r₂ words₂
    → (r ≡ r₂) × (words' ≡ words₂)
text-to-words-one text words = fills_one (encoding text words)
