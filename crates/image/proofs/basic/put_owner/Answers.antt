-- `image::basic::put_owner` meets its contract: each form of the owner field, whose filling is there already.
use Rattle.std.specs.Prelude.{if◌then◌else◌}
use mathlib.Core.Path.{◌≡◌, sym, ap, ◌∙◌}
use Prim.Native.Nat.{ℕ, ◌+◌, ◌-◌, ◌≤◌}
use native.Mathlib.Omega.{arith}
use mathlib.Core.Bool.{Bool, true, false, not, ◌||◌}
use mathlib.Core.List.{List, [], ◌∷◌}
use lib.ListN.{length, set}
use Rattle.format.specs.Bytes.{is_empty, pad_with, pad}
use Rattle.format.specs.Fields.{marker, alternate, packed, basic_owner, owner_field}
use Rattle.format.specs.Layout.{owner_width}
use Rattle.format.specs.Pieces.{Stored}
use Rattle.format.proofs.Tests.{not_t, not_f, or-false}
use Rattle.format.proofs.Strings.{nil-of, not-empty}
use Rattle.image.specs.Laying.{OwnerFits}
use Rattle.image.proofs.Drafts.{On, start, put, put_byte, gap, ends}
use Rattle.image.proofs.OwnerForms.{low-alternate, alternate-packed, held-short}
use Rattle.image.proofs.basic.put_owner.Goals as goal

module _ {o d : List ℕ} (p : OwnerFits o d) where
  abbrev w : ℕ
  w = owner_width (length d)

  abbrev Ended : List ℕ → Type 0
  Ended d' = Stored d 21 (owner_field w o) (21 + w) d'

  -- with what the field holds
  filled : (x d' : List ℕ) (m : ℕ) → x ≡ (if is_empty o then [] else if basic_owner w o then packed o else 0 ∷ 0 ∷ marker) → length x ≤ w → On 21 d x m d' → Ended d'
  unfolding owner_field pad_with
  filled x d' m e h y = let l = y.is.0 in let r = p.size in ends (gap y (w - length x) (omega arith)) _ (21 + w) (ap (pad w) e) (omega arith)

  begun : On 21 d [] 21 d
  begun = start 21 d (omega (arith, p.size)) p.blank

  two : On 21 d (0 ∷ 0 ∷ []) 23 d
  two = gap begun 2 (omega (arith, p.size))

  none : length o ≡ 0 → Ended d
  none e = filled [] d 21 (rw (nil-of o e)) (omega arith) begun

  marked : is_empty o || basic_owner w o ≡ false → Ended (set d 23 1)
  marked e =
      let r = p.size in
      let f = or-false (is_empty o) (basic_owner w o) e in
      filled (0 ∷ 0 ∷ marker) _ 24 (rw (f.0, f.1)) (omega arith) (put_byte two 1 (omega arith))

  module _ (some : length o ≡ 0 → ⊥) (t : is_empty o || basic_owner w o ≡ true) where
    held : basic_owner w o ≡ true
    held = ap (λ (b : Bool). b || basic_owner w o) (sym (not-empty o some)) ∙ t

    packs : (d' : List ℕ) (m : ℕ) → On 21 d (packed o) m d' → Ended d'
    packs d' m y = filled (packed o) d' m (rw (not-empty o some, held)) (held-short w o held) y

    isil : (d' : List ℕ) → Stored d 21 (packed o) (21 + length (packed o)) d' → Ended d'
    isil d' n = packs d' _ (put begun (packed o) d' _ (omega (arith, p.size, held-short w o held)) n)

    module _ (a : alternate o ≡ true) where
      fits : 23 + length o ≤ length d
      fits = omega (arith, p.size, held-short w o held, ap length (alternate-packed o a))

      other : (d' : List ℕ) (r : ℕ) → Stored d 23 o r d' → Ended d'
      other d' r n = packs d' r (rw (alternate-packed o a) (put two o d' r (omega (arith, n.0, fits)) n))

pub returns-then-behind : goal.returns-then-behind
returns-then-behind c = marked c.requires.0 (not_t _ (sym c.requires.1 ∙ c.if-behind.true))

pub returns-in-empty : goal.returns-in-empty
returns-in-empty c = none c.requires.0 (omega arith)

-- block 1 does not hold the owner
basic : (o d : List ℕ) (behind : Bool) → behind ≡ not (is_empty o || basic_owner (owner_width (length d)) o) → behind ≡ false → is_empty o || basic_owner (owner_width (length d)) o ≡ true
basic o d behind e f = not_f _ (sym e ∙ f)

pub put_bytes-requires : goal.put_bytes-requires
put_bytes-requires c =
    let some = λ (z : length c.args.owner.now ≡ 0). let f : ⊥ = omega arith in f in
    fits c.requires.0 some (basic _ _ _ c.requires.1 c.if-behind.false) (low-alternate _ c.requires.0.good some (omega arith))

pub returns-in-0-to-3 : goal.returns-in-0-to-3
returns-in-0-to-3 c =
    let some = λ (z : length c.args.owner.now ≡ 0). let f : ⊥ = omega arith in f in
    other c.requires.0 some (basic _ _ _ c.requires.1 c.if-behind.false) (low-alternate _ c.requires.0.good some (omega arith)) _ _ c.put_bytes.ensures

pub put_isil-requires : goal.put_isil-requires
put_isil-requires c =
    let p = c.requires.0 in
    record { field = p; high = omega arith; held = held p (λ z. omega arith) (basic _ _ _ c.requires.1 c.if-behind.false) }

pub returns-in_default : goal.returns-in_default
returns-in_default c = isil c.requires.0 (λ z. omega arith) (basic _ _ _ c.requires.1 c.if-behind.false) _ c.put_isil.ensures
