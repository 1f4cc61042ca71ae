-- `image::blocks::put_fields` meets its contract: the fields before this one are laid down, and it belongs at `to`.
use mathlib.Core.Path.{◌≡◌, refl, sym, ◌∙◌}
use Prim.Native.Nat.{ℕ, ◌+◌, ◌*◌, ◌≤◌}
use native.Mathlib.Omega.{arith}
use native.Mathlib.Numerals.{add-one}
use mathlib.Core.List.{List, ◌∷◌, ◌++◌}
use lib.ListN.{length, get_or, drop, drop_of_length-le}
use lib.Seq.{drop-cons}
use Rattle.format.specs.Bytes.{part}
use Rattle.format.specs.Pieces.{Stored, nowhere}
use Rattle.format.specs.declared.Part.{Part}
use Rattle.format.proofs.Strings.{nil-of}
use Rattle.format.proofs.Pieces.{stored-none, stored-length}
use Rattle.rows.specs.Rows.{slots_at, Stands}
use Rattle.rows.proofs.Rows.{row_at, standing-length}
use Rattle.image.specs.Laying.{content}
use Rattle.image.proofs.Contents.{Laying, few-at, laying-start, laying-end, field_fits, laying-next}
use Rattle.image.proofs.blocks.put_fields.Goals.{In-loop-field, then-len-ne0, else-len-ne0}
use Rattle.image.proofs.blocks.put_fields.Goals as goal

-- this field
module _ (c : In-loop-field) where
  abbrev k : ℕ
  k = c.loop-field.field-index

  abbrev to : ℕ
  to = c.loop-field.to

  abbrev here : Part
  here = get_or c.args.fields.now k nowhere

  abbrev field : List ℕ
  field = part here.at here.len (c.args.src.now ++ c.args.made.now)

  small : here.len ≤ 255
  small = few-at c.requires.few k

  stands : Stands c.args.src.now c.args.made.now here
  stands = row_at c.args.src.now c.args.made.now c.args.fields.now c.requires.row k nowhere c.loop-field-test.true

  long : length field ≡ here.len
  long = standing-length c.args.src.now c.args.made.now here stands

  abbrev left : List (List ℕ)
  left = slots_at (c.args.src.now ++ c.args.made.now) (drop (k + 1) c.args.fields.now)

  opened : slots_at (c.args.src.now ++ c.args.made.now) (drop k c.args.fields.now) ≡ field ∷ left
  unfolding slots_at
  opened = rw (add-one, drop-cons c.args.fields.now k nowhere c.loop-field-test.true)

  laying : Laying c.args.draft.now c.args.at (content c.args.src.now c.args.made.now c.args.fields.now) c.loop-field.draft to (field ∷ left)
  laying = rw opened at c.loop-field.invariant.1

  fits : (here.len ≡ 0 → ⊥) → to + length field ≤ length c.loop-field.draft
  fits n = field_fits laying (λ z. n (sym long ∙ z))

  -- it is laid down, or has no bytes
  again : (d : List ℕ) → length d ≡ length c.loop-field.draft → Stored c.loop-field.draft to field (to + length field) d
      → (to + (here.len + 1) ≤ c.args.at + 256 * (k + 1)) × Laying c.args.draft.now c.args.at (content c.args.src.now c.args.made.now c.args.fields.now) d (to + (here.len + 1)) left
  again d same e =
      let on : to + length field + 1 ≡ to + (here.len + 1) = omega (arith, long) in
      (omega (arith, small, c.loop-field.invariant.0), rw on at (laying-next laying d same e))

pub loop-field-init : goal.loop-field-init
loop-field-init c = (omega arith, laying-start _ _ _ c.requires.blank c.requires.room)

pub overflow_add-to : goal.overflow_add-to
overflow_add-to c = record { fits = omega (arith, small (goal.at.overflow_add-to c).In-loop-field) }

pub overflow_add-to-in-loop-field : goal.overflow_add-to-in-loop-field
overflow_add-to-in-loop-field c =
    let d = (goal.at.overflow_add-to-in-loop-field c).In-loop-field in
    record { fits = omega (arith, small d, c.loop-field.invariant.0, c.loop-field-test.true, c.requires.few.count, c.requires.room) }

pub piece-requires : goal.piece-requires
piece-requires c = stands (goal.at.piece-requires c).In-loop-field

pub put_bytes-requires : goal.put_bytes-requires
put_bytes-requires c = rw c.piece.ensures (fits (goal.at.put_bytes-requires c).In-loop-field c.if-len-ne0.true)

pub loop-field-preserved : goal.loop-field-preserved
loop-field-preserved c =
    let d = (goal.at.loop-field-preserved c).In-loop-field in
    let draft = d.loop-field.draft in
    elim c.if-len-ne0.branch [
      | then-len-ne0 w ↦
          let e = rw w.piece.ensures at w.put_bytes.ensures in rw w.draft-is (again d _ (stored-length draft (field d) _ (to d) _ (fits d w.if-len-ne0.true) e) (refl, e.1))
      | else-len-ne0 w ↦ rw w.draft-is (again d draft refl (rw (nil-of (field d) (long d ∙ w.if-len-ne0.false)) (refl, (stored-none draft (to d)).1)))
    ]

pub returns : goal.returns
unfolding slots_at
returns c =
    laying-end (rw (drop_of_length-le c.args.fields.now {i = c.loop-field.field-index} c.loop-field-test.false) at c.loop-field.invariant.1)
