-- Each public function of `strings` has one answer, and leaves one content of each buffer.
use mathlib.Core.Path.{◌≡◌, sym, ◌∙◌}
use Prim.Native.Nat.{ℕ, ◌≤◌}
use mathlib.Core.Bool.{Bool}
use mathlib.Core.List.{List, ◌++◌}
use lib.ListN.{length, get_or, take, drop, replicate}
use Rattle.format.specs.Bytes.{between, word, xor_all}
use Rattle.format.specs.Pieces.{Stored}

pub word-one : (low high r r₂ : ℕ) → ((r ≡ word low high) × (r ≤ 65535)) → ((r₂ ≡ word low high) × (r₂ ≤ 65535)) → r ≡ r₂
word-one low high r r₂ a b = a.0 ∙ sym b.0

pub within-one : (low high b : ℕ) (r r₂ : Bool) → r ≡ between low high b → r₂ ≡ between low high b → r ≡ r₂
within-one low high b r r₂ a c = a ∙ sym c

pub byte-at-one : (s : List ℕ) (at r r₂ : ℕ) → r ≡ get_or s at 0 → r₂ ≡ get_or s at 0 → r ≡ r₂
byte-at-one s at r r₂ a b = a ∙ sym b

pub xor-of-one : (bytes : List ℕ) (r r₂ : ℕ) → r ≡ xor_all bytes → r₂ ≡ xor_all bytes → r ≡ r₂
xor-of-one bytes r r₂ a b = a ∙ sym b

pub copy-one : (source target : List ℕ) (r r₂ : ℕ) (target' target₂ : List ℕ)
    → ((r ≡ length source) × (target' ≡ take (length source) source ++ drop (length source) target))
    → ((r₂ ≡ length source) × (target₂ ≡ take (length source) source ++ drop (length source) target))
    → (r ≡ r₂) × (target' ≡ target₂)
copy-one source target r r₂ target' target₂ a b = (a.0 ∙ sym b.0, a.1 ∙ sym b.1)

pub put-bytes-one : (out : List ℕ) (at : ℕ) (piece : List ℕ) (r r₂ : ℕ) (out' out₂ : List ℕ) → Stored out at piece r out' → Stored out at piece r₂ out₂ → (r ≡ r₂) × (out' ≡ out₂)
put-bytes-one out at piece r r₂ out' out₂ a b = (a.0 ∙ sym b.0, a.1 ∙ sym b.1)

pub clear-one : (out out' out₂ : List ℕ) → out' ≡ replicate (length out) 0 → out₂ ≡ replicate (length out) 0 → out' ≡ out₂
clear-one out out' out₂ a b = a ∙ sym b
