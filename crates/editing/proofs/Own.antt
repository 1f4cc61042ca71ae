-- 13: the draft of what the tag holds, with the tag's own bytes in the CRC's place, is the tag exactly if that is in the writer's own layout.
use Rattle.std.specs.Prelude.{Result, Ok, Err}
use Rattle.std.specs.Result.{is_err}
use mathlib.Core.Logic.{inl}
use mathlib.Core.Path.{◌≡◌, refl, sym, ap, ◌∙◌}
use Prim.Native.Nat.{ℕ, ◌+◌, ◌≤◌}
use native.Mathlib.Omega.{arith}
use mathlib.Core.Bool.{Bool, true, false, not, ◌&&◌}
use mathlib.Core.List.{List, ◌++◌}
use lib.ListN.{length, take, drop, replicate, length-drop}
use lib.Seq.{drop-append-le, take-append-le}
use Rattle.format.specs.Answers.{got}
use Rattle.format.specs.Bytes.{bytes, same, part, joined}
use Rattle.format.specs.Layout.{image, fits}
use Rattle.format.specs.Reading.{content_in}
use Rattle.format.specs.Calls.{own_layout}
use Rattle.format.specs.Numbers.{given}
use Rattle.format.specs.declared.Part.{Part}
use Rattle.format.specs.declared.Reason.{Reason}
use Rattle.format.proofs.Tests.{never, and_l}
use Rattle.format.proofs.Answers.{next-ok, next-inv, none-ok, afterwards-got}
use Rattle.format.proofs.Layouts.{size-least}
use Rattle.rows.specs.Rows.{slots_at, Stands}
use Rattle.look.specs.declared.View.{View}
use Rattle.look.specs.View.{Sighted}
use Rattle.look.proofs.Judged.{seen_size, seen-readable, seen-clear}
use Rattle.look.proofs.Laws.{Seen}
use Rattle.image.specs.Drafting.{Fresh, with_check, unsealed, drafting, Draftable, Drafted}
use Rattle.image.proofs.Laws.{unsealed-length, own-layout}
use Rattle.editing.proofs.Rows.{seen-draftable}

not-true : (b : Bool) → (b ≡ true → ⊥) → b ≡ false
not-true true h = absurd (h refl)
not-true false h = refl

-- what it means that drafting failed, or did not
pub failed : (r : Result (Unit {0}) Reason) → is_err r ≡ true → given r ≡ got tt → ⊥
failed (Ok u) e h = never (cc)
failed (Err x) e h = never (cc)

pub done : (r : Result (Unit {0}) Reason) → is_err r ≡ false → given r ≡ got tt
done (Ok u) e = refl
done (Err x) e = never (cc)

-- a part of the tag, with anything behind it
part-in : (t more : List ℕ) (p : Part) → p.at + p.len ≤ length t → part p.at p.len (t ++ more) ≡ part p.at p.len t
part-in t more p h = ap (take p.len) (drop-append-le p.at t more (omega arith)) ∙ take-append-le p.len (drop p.at t) more (omega (arith, length-drop p.at t))

module _ (t : List ℕ) (row : List Part) (made d₀ : List ℕ) (v : View) (y : bytes t ≡ true) (s : Sighted t (replicate 19 0) row made v) (f : Fresh d₀ t) (h : Seen t (replicate 19 0)) where
  pub own-inside : v.blocks.at + v.blocks.len ≤ length t
  own-inside = rw s.view-is h.blocks-inside

  pub made-long : 19 ≡ length made
  made-long = rw s.made-is (sym h.made-length)

  pub least : 32 ≤ length t
  least = size-least _ (length t) (seen_size t s.seen)

  slots-are : slots_at (t ++ made) row ≡ (content_in t).slots
  slots-are = rw (s.row-is, s.made-is) h.slots

  pub own-draftable : Draftable t made row d₀
  own-draftable = rw (s.row-is, s.made-is) (seen-draftable t y s.seen h d₀ (omega (arith, f.long, least)) f.blank)

  -- the carried blocks do not stand in one piece
  pub one_piece : own_layout t ≡ true → v.blocks.len ≡ v.size
  one_piece = rw s.view-is h.own

  pub loose-pieces : (v.blocks.len ≡ v.size → ⊥) → false ≡ own_layout t
  loose-pieces n = sym (not-true (own_layout t) (λ o. n (one_piece o)))

  pub blocks-stand : (more : List ℕ) → Stands t more v.blocks
  blocks-stand more = inl own-inside

  module _ (l : v.blocks.len ≡ v.size) where
    pieces : v.blocks.len ≡ v.size → part v.blocks.at v.blocks.len t ≡ joined (content_in t).carried
    pieces = rw s.view-is h.blocks

    pub blocks-are : (more : List ℕ) → part v.blocks.at v.blocks.len (t ++ more) ≡ joined (content_in t).carried
    blocks-are more = part-in t more v.blocks own-inside ∙ pieces l

    module _ (r : Result (Unit {0}) Reason) (d₁ : List ℕ) (carried : List ℕ) (e : carried ≡ part v.blocks.at v.blocks.len (t ++ made)) (g : Drafted t made row carried d₀ r d₁) where
      drafted : given r ≡ drafting (length t) (content_in t).slots (joined (content_in t).carried)
      drafted = g.answered ∙ rw (f.long, slots-are, e, blocks-are made)

      -- there is no layout of it
      fitting : fits (length t) (content_in t) ≡ true → given r ≡ got tt
      unfolding drafting
      fitting w = drafted ∙ next-ok 10 _ _ tt (ap not (seen-clear t s.seen y)) ∙ next-ok 11 _ _ tt w ∙ none-ok tt

      pub large : (given r ≡ got tt → ⊥) → false ≡ own_layout t
      unfolding own_layout
      large n = sym (not-true (own_layout t) (λ o. n (fitting (and_l (fits (length t) (content_in t)) (same (image (length t) (content_in t)) t) o))))

      module _ (p : given r ≡ got tt) where
        fit : fits (length t) (content_in t) ≡ true
        unfolding drafting
        fit = (next-inv 11 _ _ tt tt (next-inv 10 _ _ tt tt (sym drafted ∙ p)).1).0

        left : d₁ ≡ unsealed (length t) (content_in t).slots (joined (content_in t).carried)
        left = g.left ∙ afterwards-got (given r) tt _ d₀ p ∙ rw (f.long, slots-are, e, blocks-are made)

        pub drafted-long : length d₁ ≡ length t
        drafted-long = ap length left ∙ unsealed-length (length t) (content_in t).slots (joined (content_in t).carried) least fit

        pub own_same : (b : Bool) → b ≡ same (with_check (part 19 2 t) d₁) t → b ≡ own_layout t
        unfolding own_layout
        own_same b w =
            w ∙ ap (λ (d : List ℕ). same (with_check (part 19 2 t) d) t) left ∙ own-layout t (content_in t).slots (joined (content_in t).carried) least (seen-readable t s.seen).check fit
            ∙ ap (λ (x : Bool). x && same (image (length t) (content_in t)) t) (sym fit)
