-- Behind the source's end the part stands in what was made.
use mathlib.Core.Path.{◌≡◌, sym, ap, ap₂, ◌∙◌}
use Prim.Native.Nat.{ℕ, ◌+◌, ◌-◌, ◌≤◌}
use native.Mathlib.Omega.{arith}
use mathlib.Core.List.{List, ◌++◌}
use lib.ListN.{length, take, drop}
use lib.Seq.{drop-append-add}
use Rattle.format.specs.Bytes.{part}
use Rattle.rows.proofs.piece.Goals as goal

made-part : (src made : List ℕ) (at len : ℕ) → length src ≤ at → let n = at - length src in take (n + len - n) (drop n made) ≡ part at len (src ++ made)
made-part src made at len h =
    let n : ℕ = at - length src in
    let l : n + len - n ≡ len = omega arith in
    let e : length src + n ≡ at = omega arith in
    ap₂ take l (sym (drop-append-add src made n) ∙ ap (λ (m : ℕ). drop m (src ++ made)) e)

pub returns-else-at-n : goal.returns-else-at-n
returns-else-at-n c = made-part c.args.src.now c.args.made.now c.args.element.at c.args.element.len c.if-at-n.false
