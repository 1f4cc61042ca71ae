-- `image::sizes::block_size` meets its contract: by the size of its fields, or else by its media byte.
use mathlib.Core.Path.{◌≡◌, sym, ap, ◌∙◌}
use Prim.Native.Nat.{ℕ, ◌+◌}
use native.Mathlib.Omega.{arith}
use mathlib.Core.List.{List, ◌∷◌}
use lib.ListN.{length}
use Rattle.format.specs.Bytes.{trim}
use Rattle.format.specs.Chain.{separated, block_with}
use Rattle.format.specs.declared.Part.{Part}
use Rattle.format.proofs.Blocks.{sealed-length}
use Rattle.format.proofs.Strings.{nil-of, trim-some, trim-other}
use Rattle.image.specs.Laying.{Lengths, fields_size}
use Rattle.image.proofs.Contents.{separated-size}
use Rattle.image.proofs.sizes.block_size.Goals.{else-size-eq0-via-then-size-eq0+else-media-eq0, else-size-eq0-via-else-size-eq0}
use Rattle.image.proofs.sizes.block_size.Goals as goal

-- a block that has something
some : {p : List ℕ} (x : ℕ) (r : List ℕ) → p ≡ x ∷ r → length (block_with 1 p) ≡ length r + 5
unfolding block_with
some x r e = rw e (sealed-length 1 (x ∷ r) ∙ omega arith)

-- the fields have this size
module _ (fields : List Part) (n : ℕ) (e : n ≡ fields_size fields) (fs : List (List ℕ)) (l : Lengths fs fields) where
  long : length (separated fs) ≡ n
  long = separated-size fs fields l ∙ sym e

  fielded : (m : ℕ) → (n ≡ 0 → ⊥) → n + 5 ≡ length (block_with 1 (trim m (separated fs)))
  fielded m z = sym (some m (separated fs) (trim-some m (separated fs) (λ h. z (sym long ∙ h))) ∙ ap (λ (k : ℕ). k + 5) long)

  alone : (m : ℕ) → n ≡ 0 → (m ≡ 0 → ⊥) → 5 ≡ length (block_with 1 (trim m (separated fs)))
  alone m z h = sym (some m (separated fs) (trim-other m (separated fs) h) ∙ omega (arith, long))

  nothing : (m : ℕ) → n ≡ 0 → m ≡ 0 → 0 ≡ length (block_with 1 (trim m (separated fs)))
  unfolding block_with trim
  nothing m z h = rw (h, nil-of (separated fs) (long ∙ z))

pub returns-then-media-eq0 : goal.returns-then-media-eq0
returns-then-media-eq0 c fs l = nothing _ _ c.fields_size-size.ensures.0 fs l _ c.if-size-eq0.true c.if-media-eq0.true

pub returns-else-size-eq0 : goal.returns-else-size-eq0
returns-else-size-eq0 c fs l = elim c.else-size-eq0.branch [
  | else-size-eq0-via-then-size-eq0+else-media-eq0 w ↦ rw w.if-size-eq0.true (alone _ _ c.fields_size-size.ensures.0 fs l _ w.if-size-eq0.true w.if-media-eq0.false)
  | else-size-eq0-via-else-size-eq0 w ↦ fielded _ _ c.fields_size-size.ensures.0 fs l _ w.if-size-eq0.false
]
