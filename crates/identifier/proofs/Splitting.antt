-- Splitting at dots: dots between the parts give the text back, no part holds a dot, and a text has as many parts as it is split into.
use mathlib.Core.Path.{◌≡◌, refl, ap, ◌∙◌}
use Prim.Native.Nat.{ℕ, zero, suc, ◌+◌, ◌≤◌, ◌<◌}
use native.Mathlib.Omega.{arith}
use mathlib.Core.Bool.{Bool, true, false, not}
use mathlib.Core.List.{List, [], ◌∷◌, ◌++◌}
use lib.ListN.{length}
use lib.Dec.{eqb}
use borrow.Author.Tests.{eqb-true}
use Rattle.format.specs.Bytes.{all, between}
use Rattle.format.proofs.Tests.{and_l, and_r, not_t}
use Rattle.format.proofs.Text.{between-facts}
use Rattle.words.proofs.Cases.{decide}
use Rattle.identifier.specs.Parts.{dot, dotless, on_first, parts, dotted}
use Rattle.identifier.specs.Elements.{before, right_count}
use Rattle.identifier.specs.Meaning.{Parts, last, more, Permitted, item, item-set, isil-item, isil-item-set}
use Rattle.identifier.specs.Demands.{Counted}

-- ---- a part

pub other : (c : ℕ) (p : List ℕ) → dotless (c ∷ p) ≡ true → eqb c dot ≡ false
unfolding all
other c p e = not_t (eqb c dot) (and_l (not (eqb c dot)) (dotless p) e)

pub others : (c : ℕ) (p : List ℕ) → dotless (c ∷ p) ≡ true → dotless p ≡ true
unfolding all
others c p e = and_r (not (eqb c dot)) (dotless p) e

-- a text without a dot is one part; a dot ends the first
pub parts_last : (p : List ℕ) → dotless p ≡ true → parts p ≡ p ∷ []
unfolding parts on_first
parts_last [] e = refl
parts_last (c ∷ p) e = rw (other c p e, parts_last p (others c p e)) refl

pub parts_more : (p s : List ℕ) → dotless p ≡ true → parts (p ++ (dot ∷ s)) ≡ p ∷ parts s
unfolding parts on_first
parts_more [] s e = refl
parts_more (c ∷ p) s e = rw (other c p e, parts_more p s (others c p e)) refl

-- ---- the parts of any text

some_first : (c : ℕ) (ps : List (List ℕ)) → 0 < length (on_first c ps)
unfolding on_first
some_first c [] = omega arith
some_first c (p ∷ ps) = omega arith

-- there is one at least
pub parts-some : (s : List ℕ) → 0 < length (parts s)
unfolding parts
parts-some [] = omega arith
parts-some (c ∷ s) = decide (eqb c dot) (λ e. rw e (omega arith)) (λ e. rw e (some_first c (parts s)))

-- none holds a dot
whole-first : (c : ℕ) (ps : List (List ℕ)) → eqb c dot ≡ false → all dotless ps ≡ true → all dotless (on_first c ps) ≡ true
unfolding all on_first
whole-first c [] e h = rw e refl
whole-first c (p ∷ ps) e h = rw (e, h) refl

pub parts_whole : (s : List ℕ) → all dotless (parts s) ≡ true
unfolding all parts
parts_whole [] = refl
parts_whole (c ∷ s) = decide (eqb c dot) (λ e. rw (e, parts_whole s) refl) (λ e. rw e (whole-first c (parts s) e (parts_whole s)))

-- dots between them give the text
dotted-dot : (ps : List (List ℕ)) → 0 < length ps → dotted ([] ∷ ps) ≡ dot ∷ dotted ps
unfolding dotted
dotted-dot [] h = absurd (omega arith)
dotted-dot (p ∷ ps) h = refl

dotted-first : (c : ℕ) (ps : List (List ℕ)) → 0 < length ps → dotted (on_first c ps) ≡ c ∷ dotted ps
unfolding dotted on_first
dotted-first c [] h = absurd (omega arith)
dotted-first c (p ∷ []) h = refl
dotted-first c (p ∷ q ∷ ps) h = refl

pub dotted-parts : (s : List ℕ) → dotted (parts s) ≡ s
unfolding parts dotted
dotted-parts [] = refl
dotted-parts (c ∷ s) =
    decide (eqb c dot)
    (λ e. rw e (dotted-dot (parts s) (parts-some s) ∙ rw (eqb-true c dot e, dotted-parts s) refl))
    (λ e. rw e (dotted-first c (parts s) (parts-some s) ∙ ap (◌∷◌ c) (dotted-parts s)))

-- ---- how many there are

pub parts-count : {n : ℕ} {s : List ℕ} → Parts n s → length (parts s) ≡ n
parts-count (last p e) = ap length (parts_last p e)
parts-count (more {n} {s} p e h) = ap length (parts_more p s e) ∙ ap suc (parts-count h)

count-dotted : (ps : List (List ℕ)) → 0 < length ps → all dotless ps ≡ true → Parts (length ps) (dotted ps)
unfolding all dotted
count-dotted [] h e = absurd (omega arith)
count-dotted (p ∷ []) h e = last p (and_l (dotless p) true e)
count-dotted (p ∷ q ∷ ps) h e = more p (and_l (dotless p) _ e) (count-dotted (q ∷ ps) (omega arith) (and_r (dotless p) _ e))

pub count-parts : (s : List ℕ) → Parts (length (parts s)) s
count-parts s = rw (dotted-parts s) at (count-dotted (parts s) (parts-some s) (parts_whole s))

-- ---- is it the right number

permitted : (leads : Bool) (n : ℕ) → before leads + 1 ≤ n → n ≤ before leads + 2 → Permitted leads n
permitted false zero l h = absurd (omega arith)
permitted false (suc zero) l h = item
permitted false (suc (suc zero)) l h = item-set
permitted false (suc (suc (suc n))) l h = absurd (omega arith)
permitted true zero l h = absurd (omega arith)
permitted true (suc zero) l h = absurd (omega arith)
permitted true (suc (suc zero)) l h = isil-item
permitted true (suc (suc (suc zero))) l h = isil-item-set
permitted true (suc (suc (suc (suc n)))) l h = absurd (omega arith)

in-range : {leads : Bool} {n : ℕ} → Permitted leads n → between (before leads + 1) (before leads + 2) n ≡ true
in-range item = refl
in-range item-set = refl
in-range isil-item = refl
in-range isil-item-set = refl

pub right-counted : (leads : Bool) (s : List ℕ) → right_count leads (parts s) ≡ true → Counted leads s
unfolding right_count
right-counted leads s e =
    let n : ℕ = length (parts s) in
    let range = between-facts (before leads + 1) (before leads + 2) n e in
    (n, count-parts s, permitted leads n range.0 range.1)

pub counted-right : (leads : Bool) (s : List ℕ) → Counted leads s → right_count leads (parts s) ≡ true
unfolding right_count
counted-right leads s c = rw (parts-count c.1) (in-range c.2)
