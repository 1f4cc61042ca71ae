-- What is listed: one length, and one content of the buffer.
use mathlib.Core.Path.{◌≡◌, sym, ◌∙◌}
use Prim.Native.Nat.{ℕ}
use mathlib.Core.List.{List}
use lib.ListN.{length}
use Rattle.format.specs.Bytes.{filled}
use Rattle.listing.specs.Listing.{listing}

pub list-one : (tag out : List ℕ) (r r₂ : ℕ) (out' out₂ : List ℕ)
    → ((r ≡ length (listing tag)) × (out' ≡ filled (listing tag) out))
    → ((r₂ ≡ length (listing tag)) × (out₂ ≡ filled (listing tag) out))
    → (r ≡ r₂) × (out' ≡ out₂)
list-one tag out r r₂ out' out₂ a b = (a.0 ∙ sym b.0, a.1 ∙ sym b.1)
