-- The library's fold by `and` is the definition's test of all.
use mathlib.Core.Path.{◌≡◌, refl, ◌∙◌}
use Prim.Native.Nat.{ℕ}
use mathlib.Core.Bool.{Bool, true, false, not, ◌&&◌}
use mathlib.Core.List.{List, [], ◌∷◌}
use lib.Dec.{eqb}
use borrow.Author.Rules.{rules}
use Rattle.std.proofs.Common.{tests}
use Rattle.std.proofs.lemmas.Iterator.{YieldsList-from_slice}
use Rattle.std.proofs.lemmas.Iterator.Consumers.{fold_from_yields_List}
use Rattle.std.specs.List.{fold}
use Rattle.format.specs.Bytes.{all}
use Rattle.identifier.specs.Parts.{dot, dotless}
use Rattle.identifier.proofs.is_dotless.Goals as goal

no-dot : (b : Bool) (s : List ℕ) → fold (λ a c. a && not (eqb c dot)) b s ≡ b && dotless s
unfolding all
no-dot true [] = refl
no-dot false [] = refl
no-dot true (c ∷ s) = no-dot (not (eqb c dot)) s
no-dot false (c ∷ s) = no-dot false s

pub returns : goal.returns
returns c =
    fold_from_yields_List _ (λ a x. a && not (eqb x dot)) true _ c.fold.ensures.ran (YieldsList-from_slice c.args.s.now cc) (λ a x b q k. (search rules, search (rules, tests)))
    ∙ no-dot true c.args.s.now
