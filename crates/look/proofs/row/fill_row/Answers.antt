-- The parts are those of the row; the ISIL is laid down behind the front of `made`.
use Rattle.std.specs.Prelude.{if◌then◌else◌}
use mathlib.Core.Path.{◌≡◌, refl, sym, ap, ◌∙◌}
use Prim.Native.Nat.{ℕ, ◌+◌}
use native.Mathlib.Omega.{arith}
use mathlib.Core.Bool.{Bool, true, false, not}
use mathlib.Core.List.{List, ◌++◌}
use mir.Val.{bool_byte}
use lib.ListN.{length, drop}
use lib.Seq.{drop-drop}
use Rattle.format.specs.Bytes.{filled}
use Rattle.fields.specs.declared.Owner.{Owner}
use Rattle.fields.specs.declared.LibraryParts.{LibraryParts}
use Rattle.look.specs.Row.{isil_bytes, row_by, front_made, made_by, stead}
use Rattle.look.proofs.row.fill_row.Goals as goal

made-set : (t : List ℕ) (o : Owner) (l : LibraryParts) (d : List ℕ) {d₁ d₂ : List ℕ} → d₁ ≡ filled (front_made t l) d
    → d₂ ≡ stead 5 (isil_bytes t o l) d₁ → d₂ ≡ filled (made_by t o l) d
unfolding made_by
made-set t o l d e₁ e₂ =
    let s : List ℕ = isil_bytes t o l in
    let k : 5 + length s ≡ length (front_made t l ++ s) = omega arith in
    let e : drop (5 + length s) (filled (front_made t l) d) ≡ drop (length (front_made t l ++ s)) d =
    sym (drop-drop (length s) 5 (filled (front_made t l) d)) ∙ drop-drop (length s) 5 d ∙ ap (λ (i : ℕ). drop i d) k in
    rw (e₂, e₁) (ap (λ (r : List ℕ). front_made t l ++ (s ++ r)) e)

-- a media byte 00 is none
media-counts : (none : Bool) → bool_byte (not none) ≡ (if none then 0 else 1)
media-counts true = refl
media-counts false = refl

pub returns : goal.returns
unfolding row_by
returns c = (
  rw (c.item_parts.ensures.0, c.owner_parts.ensures.0, c.from-media.ensures, media-counts, c.item_parts.ensures.1, c.owner_parts.ensures.1) refl,
  made-set c.args.tag.now c.args.found.owner c.args.found.library c.args.made.now c.make_front.ensures c.make_isil.ensures,
)
