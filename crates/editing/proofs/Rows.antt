-- The row of what was seen, and the row of the edited elements: one store into the other.
use mathlib.Core.Path.{◌≡◌, refl, sym, ap, ap₂, ◌∙◌}
use mathlib.Core.Logic.{inr}
use Prim.Native.Nat.{ℕ, ◌+◌, ◌≤◌, ◌<◌}
use native.Mathlib.Omega.{arith}
use mathlib.Core.Bool.{true}
use mathlib.Core.List.{List, [], ◌++◌}
use lib.ListN.{length, get_or, take, set, replicate, length-append}
use lib.Seq.{drop_at, take-append_seam, drop-append-add}
use Rattle.format.specs.Answers.{got}
use Rattle.format.specs.Bytes.{bytes, part, filled}
use Rattle.format.specs.Elements.{Content, numbers, place, known, el, put, value, values_at}
use Rattle.format.specs.Pieces.{from, nowhere}
use Rattle.format.specs.Reading.{content_in}
use Rattle.format.specs.declared.Part.{Part}
use Rattle.format.proofs.Slots.{values_length, values-set, known_at}
use Rattle.rows.specs.Rows.{slots_at, Stands}
use Rattle.rows.proofs.Rows.{row_at, slot_at, slots_length, slots_set, row-set, row_more, slots-more}
use Rattle.look.specs.View.{row_in, made_in, judged}
use Rattle.look.proofs.Judged.{seen-values}
use Rattle.look.proofs.Laws.{Seen}
use Rattle.image.specs.Drafting.{Draftable}

module _ (t : List ℕ) (y : bytes t ≡ true) (j : judged t ≡ got tt) (h : Seen t (replicate 19 0)) where
  abbrev made : List ℕ
  made = filled (made_in t) (replicate 19 0)

  abbrev c : Content
  c = content_in t

  -- it can be drafted
  pub seen-draftable : (d : List ℕ) → 32 ≤ length d → d ≡ replicate (length d) 0 → Draftable t made (row_in t) d
  seen-draftable d n b = record { row = h.row; values = ap (values_at numbers) h.slots ∙ seen-values t j y; size = n; blank = b }

  long : length (row_in t) ≡ length numbers
  long = sym (slots_length (t ++ made) (row_in t)) ∙ ap length h.slots ∙ values_length numbers c.slots (seen-values t j y)

  module _ (n : ℕ) (kn : known n ≡ true) where
    within : place n < length (row_in t)
    within = omega (arith, (known_at n kn).0, long)

    abbrev was : Part
    was = get_or (row_in t) (place n) nowhere

    module _ (more : List ℕ) where
      -- the old element stands there
      pub old-stands : Stands t (made ++ more) was
      old-stands = row_at t (made ++ more) (row_in t) (row_more t made more (row_in t) h.row) (place n) nowhere within

      pub old-is : part was.at was.len (t ++ (made ++ more)) ≡ el c n
      old-is =
          sym (slot_at (t ++ (made ++ more)) (row_in t) (place n) nowhere within)
          ∙ ap (λ (ss : List (List ℕ)). get_or ss (place n) []) (slots-more t made more (row_in t) h.row ∙ h.slots)

    module _ (s rest : List ℕ) (v : value n s ≡ true) where
      -- the new bytes stand behind what was made of the tag
      abbrev full : List ℕ
      full = made ++ (s ++ rest)

      abbrev new : Part
      new = from (length t + 19) (length s)

      new-stands : Stands t full new
      new-stands = inr (omega arith, omega (arith, h.made-length, length-append made (s ++ rest), length-append s rest))

      new_is : part (length t + 19) (length s) (t ++ full) ≡ s
      new_is =
          let e : length t + 19 ≡ length t + length made = omega (arith, h.made-length) in
          ap (λ (k : ℕ). part k (length s) (t ++ full)) e ∙ ap (take (length s)) (drop-append-add t full (length made) ∙ drop_at made (s ++ rest) (length made) refl)
          ∙ take-append_seam s rest

      pub edited-slots : slots_at (t ++ full) (set (row_in t) (place n) new) ≡ (put c n s).slots
      unfolding put
      edited-slots =
          slots_set (t ++ full) (row_in t) (place n) new
          ∙ ap₂ (λ (ss : List (List ℕ)) (x : List ℕ). set ss (place n) x) (slots-more t made (s ++ rest) (row_in t) h.row ∙ h.slots) new_is

      pub edited-draftable : (d : List ℕ) → 32 ≤ length d → d ≡ replicate (length d) 0 → Draftable t full (set (row_in t) (place n) new) d
      unfolding put
      edited-draftable d l b = record {
        row = row-set t full (row_in t) (row_more t made (s ++ rest) (row_in t) h.row) (place n) new new-stands;
        values = ap (values_at numbers) edited-slots ∙ values-set numbers c.slots (place n) s (seen-values t j y) (ap (λ (m : ℕ). value m s) (known_at n kn).1 ∙ v);
        size = l;
        blank = b;
      }
