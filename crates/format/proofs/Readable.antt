-- A tag that passes the tests 3, 4, 15 to 19, 6 and 7.
use mathlib.Core.Path.{◌≡◌, ◌∙◌}
use Prim.Native.Nat.{ℕ}
use mathlib.Core.List.{List, [], ◌++◌}
use Rattle.format.specs.Answers.{got, Step, in_order}
use Rattle.format.specs.Reading.{walked, blocks_in, tag_steps, Readable}
use Rattle.format.proofs.Answers.{first-ok, first-inv, next-ok, next-inv, passed_ok, passed-inv}

-- such a tag passes on to the steps behind
pub readable-on : {A : Type 0} (t : List ℕ) (ss : List Step) (a : A) → Readable t → in_order (tag_steps t ++ ss) a ≡ in_order ss a
unfolding tag_steps
readable-on t ss a r =
    next-ok _ _ _ a r.parameter ∙ next-ok _ _ _ a r.check ∙ first-ok _ _ a (passed_ok (walked t) (blocks_in t) r.blocks)
    ∙ next-ok _ _ _ a r.fields ∙ next-ok _ _ ss a r.agreed

pub on-readable : {A : Type 0} (t : List ℕ) (ss : List Step) (a b : A) → in_order (tag_steps t ++ ss) a ≡ got b → Readable t × (in_order ss a ≡ got b)
unfolding tag_steps
on-readable t ss a b e =
    let c = next-inv _ _ _ a b e in
    let d = next-inv _ _ _ a b c.1 in
    let w = first-inv _ _ a b d.1 in
    let f = next-inv _ _ _ a b w.1 in
    let g = next-inv _ _ ss a b f.1 in
    (record { parameter = c.0; check = d.0; blocks = passed-inv (walked t) [] tt w.0; fields = f.0; agreed = g.0 }, g.1)
