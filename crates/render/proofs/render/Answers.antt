-- `render::render` meets its contract: the count, the heads and the bytes are stored one behind the other, and are the sheet.
use mathlib.Core.Path.{◌≡◌, refl, sym}
use mathlib.Core.List.{List, ◌++◌}
use Prim.Native.Nat.{ℕ, ◌+◌, ◌*◌, ◌≤◌}
use native.Mathlib.Omega.{arith}
use lib.ListN.{length, drop}
use Rattle.std.proofs.lemmas.Result.{err_from_is_err_and}
use Rattle.format.specs.Elements.{places, numbers}
use Rattle.format.specs.Answers.{got}
use Rattle.format.specs.Bytes.{le16, joined}
use Rattle.format.specs.declared.Part.{Part}
use Rattle.format.specs.Pieces.{Stored}
use Rattle.format.specs.Sheet.{heads, carried_entries}
use Rattle.rows.specs.Rows.{slots_at}
use Rattle.render.specs.Rendering.{carried_on, heads_by, count_by, size_by, Renderable}
use Rattle.render.proofs.Storing.{next-room, storing-next}
use Rattle.render.proofs.Lengths.{size-at_most}
use Rattle.render.proofs.Rendering.{Counted, few-blocks, tested, end, short, pieces, Filling, begun, rendered-refused, rendered-done}
use Rattle.render.proofs.render.Goals.{After-numbered_count, After-numbered_size, In_ok-room_stage}
use Rattle.render.proofs.render.Goals as goal

-- ---- the sheet is measured

-- a row has few elements, and a tag few blocks
limits : (c : After-numbered_count) → let a = c.args in (c.numbered_count.result ≤ places) × (3 * a.count ≤ a.size) × (a.size ≤ 2048)
limits c = let f = few-blocks c.requires in (omega (arith, c.numbered_count.ensures.0, c.told-row), f.0, f.1)

counting : {row : List Part} {t made : List ℕ} {count size : ℕ} {blocks : List ℕ} {m k : ℕ} → Renderable t made row count size blocks → length row ≡ places
    → (m ≤ places) × (m ≡ count_by row) → k ≡ size_by row → Counted t made row count size blocks m k
counting {row} g e a b = record { given = g; each = e; few = a.0; elements = a.1; small = omega (arith, size-at_most row g.lengths, b, e); bytes = b }

counted : (c : After-numbered_size) → let a = c.args in Counted a.tag.now a.made.now a.row.now a.count a.size a.blocks.now c.numbered_count.result c.numbered_size.result
counted c = counting c.requires c.told-row c.numbered_count.ensures c.numbered_size.ensures

pub overflow_add-n : goal.overflow_add-n
overflow_add-n c = record { fits = omega (arith, limits (goal.at.overflow_add-n c).After-numbered_count) }

pub overflow_mul-offset : goal.overflow_mul-offset
overflow_mul-offset c = record { fits = omega (arith, limits (goal.at.overflow_mul-offset c).After-numbered_count) }

pub overflow_add-offset : goal.overflow_add-offset
overflow_add-offset c = record { fits = omega (arith, limits (goal.at.overflow_add-offset c).After-numbered_count) }

pub overflow_add-carried : goal.overflow_add-carried
overflow_add-carried c = record { fits = omega (arith, short (counted (goal.at.overflow_add-carried c).After-numbered_size)) }

pub overflow_add-end : goal.overflow_add-end
overflow_add-end c = record { fits = omega (arith, short (counted (goal.at.overflow_add-end c).After-numbered_size)) }

pub returns-in_err-room_stage : goal.returns-in_err-room_stage
returns-in_err-room_stage c =
    let p = err_from_is_err_and c.from_residual.result c.from_residual.ensures.1 in
    rw (p.1, p.2) (rendered-refused (counted (goal.at.returns-in_err-room_stage c).After-numbered_size) c.args.sheet.now _ (sym (c.in_err-room_stage.ensures)))

pub numbered_size-requires : goal.numbered_size-requires
numbered_size-requires c = omega (arith, size-at_most c.args.row.now c.requires.lengths)

-- ---- and stored

-- the sheet is measured, and has room
record Roomy (t made : List ℕ) (row : List Part) (count size : ℕ) (blocks : List ℕ) (m k : ℕ) (sheet : List ℕ) : Type 0 where
  measured : Counted t made row count size blocks m k
  room : tested (end measured) (length sheet) ≡ got tt

roomy : (c : In_ok-room_stage) → let a = c.args in Roomy a.tag.now a.made.now a.row.now a.count a.size a.blocks.now c.numbered_count.result c.numbered_size.result a.sheet.now
roomy c = record { measured = counting c.requires c.told-row c.numbered_count.ensures c.numbered_size.ensures; room = sym (c.in_ok-room_stage.ensures) }

-- the pieces are stored one by one: behind each, what is left is to come from byte r on
module _ {t made : List ℕ} {row : List Part} {count size : ℕ} {blocks : List ℕ} {m k : ℕ} {sheet : List ℕ} (y : Roomy t made row count size blocks m k sheet) where
  abbrev x : Counted t made row count size blocks m k
  x = y.measured

  abbrev Filled : ℕ → List ℕ → ℕ → Type 0
  Filled n out at = Filling x sheet out (drop n (pieces x)) at

  filled-0 : Filled 0 sheet 0
  filled-0 = begun x sheet y.room

  module _ {r₁ : ℕ} {d₁ : List ℕ} (s₁ : Stored sheet 0 (le16 (m + count)) r₁ d₁) where
    filled-1 : Filled 1 d₁ r₁
    filled-1 = storing-next filled-0 refl s₁

    module _ {r₂ : ℕ} {d₂ : List ℕ} (s₂ : Stored d₁ r₁ (joined (heads_by (2 + 4 * (m + count)) numbers row)) r₂ d₂) where
      filled-2 : Filled 2 d₂ r₂
      filled-2 = storing-next filled-1 refl s₂

      module _ {r₃ : ℕ} {d₃ : List ℕ} (s₃ : Stored d₂ r₂ (heads (2 + 4 * (m + count) + k) (carried_entries (carried_on t))) r₃ d₃) where
        filled-3 : Filled 3 d₃ r₃
        filled-3 = storing-next filled-2 refl s₃

        module _ {r₄ : ℕ} {d₄ : List ℕ} (s₄ : Stored d₃ r₃ (joined (slots_at (t ++ made) row)) r₄ d₄) where
          filled-4 : Filled 4 d₄ r₄
          filled-4 = storing-next filled-3 refl s₄

          -- the carried blocks came in one piece, or were gathered
          filled-5 : (r : ℕ) (d : List ℕ) → Stored d₄ r₄ (joined (carried_on t)) r d → Filled 5 d r
          filled-5 r d s = storing-next filled-4 refl s

-- ---- the needs

pub put_bytes-first-requires : goal.put_bytes-first-requires
put_bytes-first-requires c = rw c.low_two.ensures (next-room (filled-0 (roomy (goal.at.put_bytes-first-requires c).In_ok-room_stage)) refl)

pub numbered_heads-next-requires : goal.numbered_heads-next-requires
numbered_heads-next-requires c =
    let y = roomy (goal.at.numbered_heads-next-requires c).In_ok-room_stage in
    (omega (arith, short y.measured), c.requires.lengths, next-room (filled-1 y (rw c.low_two.ensures at c.put_bytes-first.ensures)) refl)

pub carried_heads-body-requires : goal.carried_heads-body-requires
carried_heads-body-requires c =
    let y = roomy (goal.at.carried_heads-body-requires c).In_ok-room_stage in
    (c.requires.whole, c.requires.short, omega (arith, short y.measured), next-room (filled-2 y (rw c.low_two.ensures at c.put_bytes-first.ensures) c.numbered_heads-next.ensures) refl)

pub numbered_bytes-behind-requires : goal.numbered_bytes-behind-requires
numbered_bytes-behind-requires c =
    let y = roomy (goal.at.numbered_bytes-behind-requires c).In_ok-room_stage in
    (c.requires.row, next-room (filled-3 y (rw c.low_two.ensures at c.put_bytes-first.ensures) c.numbered_heads-next.ensures c.carried_heads-body.ensures) refl)

pub put_bytes-requires : goal.put_bytes-requires
put_bytes-requires c =
    let y = roomy (goal.at.put_bytes-requires c).In_ok-room_stage in
    rw (c.requires.piece c.if-blocks-size.true)
    (next-room (filled-4 y (rw c.low_two.ensures at c.put_bytes-first.ensures) c.numbered_heads-next.ensures c.carried_heads-body.ensures c.numbered_bytes-behind.ensures) refl)

pub gather-requires : goal.gather-requires
gather-requires c =
    let y = roomy (goal.at.gather-requires c).In_ok-room_stage in
    (c.requires.whole, next-room (filled-4 y (rw c.low_two.ensures at c.put_bytes-first.ensures) c.numbered_heads-next.ensures c.carried_heads-body.ensures c.numbered_bytes-behind.ensures) refl)

pub returns-then-blocks-size : goal.returns-then-blocks-size
returns-then-blocks-size c =
    let y = roomy (goal.at.returns-then-blocks-size c).In_ok-room_stage in
    rendered-done y.measured c.args.sheet.now y.room
    (filled-5 y (rw c.low_two.ensures at c.put_bytes-first.ensures) c.numbered_heads-next.ensures c.carried_heads-body.ensures c.numbered_bytes-behind.ensures _ _ (rw (c.requires.piece c.if-blocks-size.true) at c.put_bytes.ensures))

pub returns : goal.returns
returns c =
    let y = roomy (goal.at.returns c).In_ok-room_stage in
    rendered-done y.measured c.args.sheet.now y.room
    (filled-5 y (rw c.low_two.ensures at c.put_bytes-first.ensures) c.numbered_heads-next.ensures c.carried_heads-body.ensures c.numbered_bytes-behind.ensures _ _ c.gather.ensures)
