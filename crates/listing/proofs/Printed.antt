-- What a caller of `list` knows of the text: it fits the lent buffer, and stands at its front.
use mathlib.Core.Path.{◌≡◌}
use Prim.Native.Nat.{ℕ, ◌-◌, ◌≤◌}
use mathlib.Core.List.{List}
use lib.ListN.{length, take}
use Rattle.format.specs.Bytes.{filled}
use Rattle.format.proofs.Pieces.{filled_within, filled-front}
use Rattle.listing.specs.Listing.{listing}

-- the text of t fills the front of the buffer o, which is then d; r is its length
module _ (t o d : List ℕ) (r : ℕ) (h : (r ≡ length (listing t)) × (d ≡ filled (listing t) o)) where
  pub printed-fits : r ≤ length d
  printed-fits = filled_within (listing t) o d r h.0 h.1

  pub printed-front : take (r - 0) d ≡ listing t
  printed-front = filled-front (listing t) o d r h.0 h.1
