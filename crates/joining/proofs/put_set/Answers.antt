-- `put_set` stores nothing, or a dot and the two numbers behind it.
use mathlib.Core.Path.{sym}
use mathlib.Core.List.{[], ◌∷◌, ◌++◌}
use native.Mathlib.Omega.{arith}
use Rattle.format.proofs.Pieces.{stored-then, stored-as}
use Rattle.identifier.specs.Parts.{dot}
use Rattle.identifier.specs.SetDigits.{digits}
use Rattle.joining.proofs.Pieces.{digits-length, some-set, set-end-length}
use Rattle.joining.proofs.put_set.Goals as goal

pub put_digits-second-requires : goal.put_digits-second-requires
put_digits-second-requires c =
    let w = c.width-count in
    omega (arith, c.requires, set-end-length c.args.total c.args.ordinal w.result w.ensures c.if-total-eq0.false, c.put_bytes-first.ensures.0)

pub put_digits-requires : goal.put_digits-requires
put_digits-requires c =
    let w = c.width-count in
    omega (
      arith,
      c.requires,
      set-end-length c.args.total c.args.ordinal w.result w.ensures c.if-total-eq0.false,
      c.put_bytes-first.ensures.0,
      c.put_digits-second.ensures.0,
      digits-length w.result c.args.total,
    )

pub returns : goal.returns
returns c =
    let a = c.args in
    let o = a.text.now in
    let w = c.width-count in
    let t = digits w.result a.total in
    stored-as o _ _ _ a.at _ (sym (some-set a.total a.ordinal w.result w.ensures c.if-total-eq0.false))
    (stored-then o _ _ ((dot ∷ []) ++ t) (digits w.result a.ordinal) a.at _ _ (omega arith)
    (stored-then o _ _ (dot ∷ []) t a.at _ _ (omega arith) c.put_bytes-first.ensures c.put_digits-second.ensures) c.put_digits.ensures)
