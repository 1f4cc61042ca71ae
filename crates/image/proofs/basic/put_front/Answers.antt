-- `image::basic::put_front` meets its contract: three bytes, and the item field's filling is there already.
use Rattle.std.specs.Prelude.{if◌then◌else◌}
use mathlib.Core.Path.{◌≡◌, ap₂}
use Prim.Native.Nat.{ℕ, ◌+◌, ◌-◌, ◌*◌, ◌/◌, ◌≤◌, ◌<◌}
use native.Mathlib.Omega.{arith}
use mathlib.Core.List.{List, [], ◌∷◌, ◌++◌}
use lib.ListN.{length, get_or, set}
use borrow.Author.Tests.{le-leb, lt-leb}
use Rattle.format.specs.Bytes.{pad_with, pad}
use Rattle.format.specs.Fields.{marker, long, item_field}
use Rattle.format.specs.Layout.{first_byte}
use Rattle.format.specs.Pieces.{Stored}
use Rattle.image.specs.Laying.{Blank}
use Rattle.image.proofs.Drafts.{On, start, put, put_byte, gap, ends}
use Rattle.image.proofs.basic.put_front.Goals as goal

module _ (d item info : List ℕ) (usage : ℕ) (blank : Blank 0 d) (room : 19 ≤ length d) where
  abbrev main : ℕ
  main = usage / 16 * 16 + 1

  abbrev three : List ℕ
  three = main ∷ get_or info 0 0 ∷ get_or info 2 0 ∷ []

  abbrev d₃ : List ℕ
  d₃ = set (set (set d 0 main) 1 (get_or info 0 0)) 2 (get_or info 2 0)

  begun : On 0 d three 3 d₃
  begun = put_byte (put_byte (put_byte (start 0 d (omega arith) blank) main (omega arith)) (get_or info 0 0) (omega arith)) (get_or info 2 0) (omega arith)

  abbrev Ended : List ℕ → Type 0
  Ended d' = Stored d 0 (first_byte usage ∷ get_or info 0 0 ∷ get_or info 2 0 ∷ item_field item) 19 d'

  -- with what the item field holds
  ended : (x d' : List ℕ) (m : ℕ) → x ≡ (if long item then marker else item) → length x ≤ 16 → On 0 d (three ++ x) m d' → Ended d'
  unfolding item_field pad_with
  ended x d' m e h o =
      let l = o.is.0 in
      let f : main ≡ first_byte usage = omega arith in
      ends (gap o (16 - length x) (omega arith)) _ 19 (ap₂ (λ (a : ℕ) (y : List ℕ). a ∷ get_or info 0 0 ∷ get_or info 2 0 ∷ pad 16 y) f e) (omega arith)

  marked : 16 < length item → Ended (set d₃ 3 1)
  marked h = ended marker _ 4 (rw (le-leb 17 (length item) h)) (omega arith) (put_byte begun 1 (omega arith))

  unmarked : (d' : List ℕ) (r : ℕ) → length item ≤ 16 → Stored d₃ 3 item r d' → Ended d'
  unmarked d' r h e = ended item d' r (rw (lt-leb 17 (length item) (omega arith))) h (put begun item d' r (omega (arith, e.0)) e)

pub returns-then-item-gt16 : goal.returns-then-item-gt16
returns-then-item-gt16 c =
    let a = c.args in marked a.draft.now a.item.now a.set.now a.usage c.requires.0 c.requires.1 c.if-item-gt16.true

pub returns-else-item-gt16 : goal.returns-else-item-gt16
returns-else-item-gt16 c =
    let a = c.args in unmarked a.draft.now a.item.now a.set.now a.usage c.requires.0 c.requires.1 _ _ c.if-item-gt16.false c.put_bytes.ensures
