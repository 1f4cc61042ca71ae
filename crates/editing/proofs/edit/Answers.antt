-- `editing::edit` judges size and lock map, and takes a draft of one length or another.
use mathlib.Core.Path.{sym}
use native.Mathlib.Omega.{arith}
use Prim.Native.Nat.{ℕ, ◌≤◌}
use mathlib.Core.List.{List}
use lib.ListN.{length}
use Rattle.std.proofs.lemmas.Result.{err_from_is_err_and}
use Rattle.format.specs.Pages.{page_size}
use Rattle.format.proofs.Tests.{and_l}
use Rattle.format.proofs.Answers.{need-inv}
use Rattle.format.proofs.Layouts.{size-most}
use Rattle.pages.specs.Storing.{Sized}
use Rattle.editing.proofs.Editor.{size-edits}
use Rattle.editing.proofs.edit.Goals as goal

pub returns-in_err-size_stage : goal.returns-in_err-size_stage
returns-in_err-size_stage c =
    let a = c.args in
    let p = err_from_is_err_and c.from_residual.result c.from_residual.ensures.1 in
    rw (p.1, p.2) (size-edits a.tag.now a.locks.now a.number a.bytes.now a.old.now _ (sym c.in_err-size_stage.ensures))

pub edit_by-requires : goal.edit_by-requires
edit_by-requires c = (need-inv 1 _ tt (sym c.in_ok-size_stage.ensures), c.if-tag-le256.true, omega arith)

-- 1 is passed, so the tag has at most 2,048 bytes
most : (t locks : List ℕ) → Sized t locks → length t ≤ 2048
most t locks s = size-most page_size (length t) (and_l _ _ s)

pub edit_by-requires-else-tag-le256 : goal.edit_by-requires-else-tag-le256
edit_by-requires-else-tag-le256 c = let s = need-inv 1 _ tt (sym c.in_ok-size_stage.ensures) in (s, most _ _ s, omega arith)
