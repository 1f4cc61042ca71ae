-- The first byte leads a row or none; each byte more is what is due, or not.
use mathlib.Core.Path.{◌≡◌, refl, sym, ◌∙◌}
use mathlib.Core.Logic.{⊎_elim}
use Prim.Native.Nat.{ℕ, suc, ◌≤◌, ◌<◌}
use native.Mathlib.Omega.{arith}
use mathlib.Core.Bool.{Bool, true, false}
use mathlib.Core.List.{List, [], ◌∷◌}
use borrow.Author.Tests.{le-leb, lt-leb}
use lib.ListN.{length, get_or}
use Rattle.format.specs.Bytes.{all, between}
use Rattle.format.specs.Text.{Range, tail, rows, rows_from}
use Rattle.format.proofs.Tests.{never, le-or-lt}
use Rattle.format.proofs.Text.{between-no, between-facts, leads, leads-none}
use Rattle.text.specs.Letters.{Stands, behind, Second}
use Rattle.text.proofs.Letters.{letter-last, stands-led, none-led, stands_on, stands-not}
use Rattle.text.proofs.letter.Goals.{then-goes_second, else-goes_second, then-goes_second-2, else-goes_second-2, then-goes_on, else-goes_on}
use Rattle.text.proofs.letter.Goals as goal

-- outside and not below is above
above : (low high b : ℕ) → between low high b ≡ false → low ≤ b → high < b
above low high b e l = ⊎_elim (λ k. absurd (omega arith)) (λ k. k) (between-no low high b e)

module _ {lead b : ℕ} {t : Bool} where
  of-three : between 0xE0 0xEF lead ≡ true → Second lead (behind lead) b t → Second lead (tail ∷ []) b t
  of-three is w = let f = between-facts _ _ lead is in rw (le-leb lead 0xEF (omega arith)) at w

  of-four : between 0xF0 0xF4 lead ≡ true → Second lead (behind lead) b t → Second lead (tail ∷ tail ∷ []) b t
  of-four is w = let f = between-facts _ _ lead is in rw (lt-leb lead 0xEF (omega arith)) at w

module _ (s : List ℕ) {b : ℕ} (h : 0 < length s) (at : b ≡ get_or s 0 0) where
  led-one : between 0x20 0x7E b ≡ true → Stands s [] 1
  unfolding rows all
  led-one is = let f = between-facts _ _ b is in stands-led h at (leads 0 b refl refl (omega arith) (omega arith))

  led-two : between 0xC2 0xDF b ≡ true → Stands s (tail ∷ []) 1
  unfolding rows all
  led-two is = let f = between-facts _ _ b is in stands-led h at (leads 1 b refl refl (omega arith) (omega arith))

  led-none : between 0x20 0x7E b ≡ false → between 0xC2 0xDF b ≡ false → between 0xE0 0xEF b ≡ false → between 0xF0 0xF4 b ≡ false → rows_from [] s ≡ false
  unfolding rows all
  led-none one two three four =
      none-led s h at
      (⊎_elim (λ l. leads-none 0 b 0 0x20 refl refl (omega arith) (omega arith))
      (λ l.
      ⊎_elim (λ m. let k = above _ _ b one (omega arith) in leads-none 1 b 0x7F 0xC2 refl refl (omega arith) (omega arith))
      (λ m.
      let i = above _ _ b two (omega arith) in
      let j = above _ _ b three (omega arith) in
      let k = above _ _ b four (omega arith) in
      leads-none 9 b 0xF5 (suc b) refl refl (omega arith) (omega arith))
      (le-or-lt 0xC1 b))
      (le-or-lt 0x1F b))

  -- the second byte of more
  module _ {next : ℕ} {more : List Range} {t : Bool} (second : next ≡ get_or s 1 0) (w : Second b more next t) where
    due-second : t ≡ true → Stands s more 2
    due-second e = stands_on s 1 (stands-led h at w.row) w.zero-not second w.is e

    due-not : t ≡ false → rows_from [] s ≡ false
    due-not e = stands-not s 1 (stands-led h at w.row) w.zero-not second w.is e

pub returns-then-within : goal.returns-then-within
returns-then-within c = (omega arith, led-one c.args.s.now c.requires c.byte_at-first.ensures (sym c.within.ensures ∙ c.if-within.true))

pub returns-then-within-2 : goal.returns-then-within-2
returns-then-within-2 c =
    let s = c.args.s.now in
    let d = led-two s c.requires c.byte_at-first.ensures (sym c.within-2.ensures ∙ c.if-within-2.true) in
    rw c.then_some.ensures (letter-last s 1 d refl c.byte_at-second.ensures _ c.goes_on.ensures)

pub returns-then-within-3 : goal.returns-then-within-3
returns-then-within-3 c =
    let s = c.args.s.now in
    let w = of-three (sym c.within-3.ensures ∙ c.if-within-3.true) c.goes_second.ensures in
    let on = due-second s c.requires c.byte_at-first.ensures c.byte_at-second.ensures w in
    let not = due-not s c.requires c.byte_at-first.ensures c.byte_at-second.ensures w in
    rw c.then_some-then-within-3.ensures
    (elim c.if-goes_second.branch [
      | then-goes_second w ↦ rw w.three-is (letter-last s 2 (on w.if-goes_second.true) refl w.byte_at.ensures _ w.goes_on-three.ensures)
      | else-goes_second w ↦ rw (w.three-is, w.if-goes_second.false) (not w.if-goes_second.false)
    ])

pub returns-then-within-4 : goal.returns-then-within-4
returns-then-within-4 c =
    let s = c.args.s.now in
    let w = of-four (sym c.within-4.ensures ∙ c.if-within-4.true) c.goes_second-then-within-4.ensures in
    let on = due-second s c.requires c.byte_at-first.ensures c.byte_at-second.ensures w in
    let not = due-not s c.requires c.byte_at-first.ensures c.byte_at-second.ensures w in
    rw c.then_some-then-within-4.ensures
    (elim c.if-goes_second-2.branch [
      | then-goes_second-2 w ↦
          let d = on w.if-goes_second-2.true in
          (elim c.if-goes_on.branch [
            | then-goes_on v ↦
                let third : Stands s (tail ∷ []) 3 =
                stands_on s 2 d refl w.byte_at-then-goes_second-2.ensures w.goes_on-then-goes_second-2.ensures (sym w.value-is ∙ v.if-goes_on.true) in
                rw v.four-is (letter-last s 3 third refl v.byte_at-then-goes_on.ensures _ v.goes_on-four.ensures)
            | else-goes_on v ↦
                rw (v.four-is, v.if-goes_on.false)
                (stands-not s 2 d refl w.byte_at-then-goes_second-2.ensures w.goes_on-then-goes_second-2.ensures (sym w.value-is ∙ v.if-goes_on.false))
          ])
      | else-goes_second-2 w ↦
          let none = w.value-is ∙ w.if-goes_second-2.false in
          (elim c.if-goes_on.branch [
            | then-goes_on v ↦ never (cc)
            | else-goes_on v ↦ rw (v.four-is, none) (not w.if-goes_second-2.false)
          ])
    ])

pub returns : goal.returns
returns c =
    led-none c.args.s.now c.requires c.byte_at-first.ensures (sym c.within.ensures ∙ c.if-within.false) (sym c.within-2.ensures ∙ c.if-within-2.false)
    (sym c.within-3.ensures ∙ c.if-within-3.false) (sym c.within-4.ensures ∙ c.if-within-4.false)
