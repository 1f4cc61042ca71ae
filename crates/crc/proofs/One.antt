-- Each public function of `crc` has one answer.
use mathlib.Core.Path.{◌≡◌, sym, ◌∙◌}
use Prim.Native.Nat.{ℕ}
use mathlib.Core.List.{List}
use Rattle.format.specs.Crc.{crc, covered}

pub of-tag-one : (tag : List ℕ) (r r₂ : ℕ) → r ≡ crc (covered tag) → r₂ ≡ crc (covered tag) → r ≡ r₂
of-tag-one tag r r₂ a b = a ∙ sym b
