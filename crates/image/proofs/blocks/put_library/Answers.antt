-- `image::blocks::put_library` meets its contract: the media byte and the fields are laid down behind four 00, and sealed.
use mathlib.Core.Path.{◌≡◌, ap, ◌∙◌}
use Prim.Native.Nat.{ℕ, ◌+◌}
use native.Mathlib.Omega.{arith}
use mathlib.Core.List.{List, [], ◌∷◌, ◌++◌, append-nil}
use lib.ListN.{length, set, drop_of_length-le}
use Rattle.format.specs.Pieces.{Stored}
use Rattle.format.specs.declared.Part.{Part}
use Rattle.image.specs.Laying.{content, FieldsFit, BlockFits}
use Rattle.image.proofs.Drafts.{On, start, on-length, on-blank, put, put_byte, gap}
use Rattle.image.proofs.blocks.put_library.Goals as goal

module _ {src made : List ℕ} {fields : List Part} {d : List ℕ} (b : BlockFits src made fields d) (media : ℕ) where
  begun : On 0 d (0 ∷ 0 ∷ 0 ∷ 0 ∷ media ∷ []) 5 (set d 4 media)
  begun = let s = b.is in put_byte (gap (start 0 d (omega arith) b.blank) 4 (omega arith)) media (omega arith)

  fields_fit : FieldsFit src made fields 5 (set d 4 media)
  fields_fit = record { few = b.few; row = b.row; blank = on-blank begun; room = omega (arith, on-length begun, b.is) }

  -- they fill it
  laid : (d' : List ℕ) → Stored (set d 4 media) 5 (content src made fields) (5 + length (content src made fields)) d' → d' ≡ 0 ∷ 0 ∷ 0 ∷ 0 ∷ media ∷ content src made fields
  laid d' e =
      let s : List ℕ = 0 ∷ 0 ∷ 0 ∷ 0 ∷ media ∷ content src made fields in
      let x : On 0 d s (length d) d' = put begun (content src made fields) d' (length d) (omega arith) (omega (arith, b.is), e.1) in
      x.is.1 ∙ ap (λ (y : List ℕ). s ++ y) (drop_of_length-le d {i = 0 + length s} (omega (arith, b.is))) ∙ append-nil s

pub put_fields-requires : goal.put_fields-requires
put_fields-requires c = fields_fit c.requires _

pub seal_block-requires : goal.seal_block-requires
seal_block-requires c = let b = c.requires in (omega arith, omega (arith, ap length (laid b _ _ c.put_fields.ensures)), omega (arith, ap length (laid b _ _ c.put_fields.ensures), b.is, b.short))

pub returns : goal.returns
returns c = c.seal_block.ensures _ (laid c.requires _ _ c.put_fields.ensures)
