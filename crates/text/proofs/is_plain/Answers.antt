-- The library's fold that goes on past a byte is the definition's.
use borrow.Author.Rules.{rules}
use mathlib.Core.Path.{◌≡◌, sym, ◌∙◌}
use Prim.Native.Nat.{ℕ}
use mathlib.Core.Bool.{Bool, true, ◌&&◌, and-true, and_assoc}
use mathlib.Core.List.{List, [], ◌∷◌}
use Rattle.std.specs.List.{fold}
use Rattle.std.proofs.lemmas.Iterator.{YieldsList-from_slice}
use Rattle.std.proofs.lemmas.Iterator.Consumers.{fold_from_yields_List}
use Rattle.format.specs.Bytes.{all, between}
use Rattle.text.proofs.is_plain.Goals as goal

fold-all : (f : ℕ → Bool) (a : Bool) (s : List ℕ) → fold (λ p b. p && f b) a s ≡ a && all f s
unfolding all
fold-all f a [] = sym (and-true a)
fold-all f a (x ∷ s) = fold-all f (a && f x) s ∙ and_assoc a (f x) (all f s)

pub returns : goal.returns
returns c =
    let s = c.args.s.now in
    fold_from_yields_List _ (λ p b. p && between 0x20 0x7E b) true _ c.fold.ensures.ran (YieldsList-from_slice s cc) (λ a x b q k. search rules)
    ∙ fold-all (between 0x20 0x7E) true s
