-- The prefix, the hyphen and the unit are laid down one behind the other.
use mathlib.Core.Path.{◌≡◌, ap, ◌∙◌}
use Prim.Native.Nat.{ℕ, ◌+◌, ◌-◌, ◌≤◌, ◌<◌}
use native.Mathlib.Omega.{arith}
use mathlib.Core.List.{List, [], ◌∷◌, ◌++◌, append_assoc}
use lib.ListN.{length, set, drop, length-take}
use Rattle.format.specs.Bytes.{part}
use Rattle.format.specs.Fields.{hyphen}
use Rattle.format.specs.Pieces.{Stored}
use Rattle.format.proofs.Pieces.{stored-then, stored-byte, stored-length}
use Rattle.look.specs.Row.{isil_made, stead, IsilLies}
use Rattle.look.proofs.owner.hyphened.Goals as goal

laid : (t d : List ℕ) (prefix unit : ℕ) {a b : List ℕ} {m r : ℕ} → IsilLies t prefix unit → length d ≡ 19
    → Stored d 5 (part 21 prefix t) m a → Stored (set a m hyphen) (m + 1) (part 23 unit t) r b → b ≡ stead 5 (isil_made t prefix unit) d
unfolding isil_made
laid t d prefix unit {a} {b} {m} {r} w long p u =
    let n : length (part 21 prefix t) ≤ 2 = omega (arith, length-take prefix (drop 21 t), w.short) in
    let inside : m < length a = omega (arith, p.0, stored-length d (part 21 prefix t) a 5 m (omega arith) p) in
    let h = stored-then d a (set a m hyphen) (part 21 prefix t) (hyphen ∷ []) 5 m (m + 1) (omega arith) p (stored-byte a m hyphen inside) in
    let s = stored-then d (set a m hyphen) b (part 21 prefix t ++ (hyphen ∷ [])) (part 23 unit t) 5 (m + 1) r (omega arith) h u in
    s.1 ∙ ap (λ (x : List ℕ). stead 5 x d) (append_assoc (part 21 prefix t) (hyphen ∷ []) (part 23 unit t))

pub returns : goal.returns
returns c =
    let p : 21 + c.args.prefix - 21 ≡ c.args.prefix = omega arith in
    let u : 23 + c.args.unit - 23 ≡ c.args.unit = omega arith in
    laid c.args.tag.now c.args.made.now c.args.prefix c.args.unit c.requires c.told-made (rw p at c.put_bytes-behind.ensures) (rw u at c.put_bytes.ensures)
