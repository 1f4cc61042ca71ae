-- Behind the dot stands a part that is not S.
use mathlib.Core.Path.{◌≡◌, refl, ◌∙◌}
use Prim.Native.Nat.{ℕ, ◌-◌}
use borrow.Author.Rules.{rules}
use mathlib.Core.List.{List}
use lib.ListN.{length, take, drop, get_or}
use Rattle.parting.proofs.Saying.{other-behind}
use Rattle.parting.proofs.set.set_in.Goals.{in_default-part-via-then-part-lt1, in_default-part-via-else-part-lt1+then-part-lt2+in_default-1, in_default-part-via-else-part-lt1+else-part-lt2}
use Rattle.parting.proofs.set.set_in.Goals as goal

pub returns-in_default-part : goal.returns-in_default-part
returns-in_default-part c =
    let p : List ℕ = take (length c.args.behind.now - 1) (drop 1 c.args.behind.now) in
    let other : length p ≡ 1 → get_or p 0 0 ≡ 0x53 → ⊥ =
    elim c.in_default-part.branch [
      | in_default-part-via-then-part-lt1 w ↦ λ l e. search rules
      | in_default-part-via-else-part-lt1+then-part-lt2+in_default-1 w ↦ λ l e. search rules
      | in_default-part-via-else-part-lt1+else-part-lt2 w ↦ λ l e. search rules
    ] in
    c.read_set.ensures ∙ other-behind c.args.behind.now p c.in-len1-up.len_at_least refl other
