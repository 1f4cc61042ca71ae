-- `crc::run`: what the bytes so far make of the register, as the fold goes on.
use mathlib.Core.Path.{sym, ap, ◌∙◌}
use mathlib.Core.List.{List, [], ◌∷◌, ◌++◌}
use Prim.Native.Nat.{ℕ}
use borrow.Author.Rules.{rules}
use Rattle.std.proofs.lemmas.Fn.{fold_over, fronts, slice_gives}
use Rattle.format.specs.Crc.{crc_byte, crc_from}
use Rattle.format.proofs.Crc.{from-append}
use Rattle.crc.specs.Register.{upper, Becomes}
use Rattle.crc.proofs.run.Goals as goal

-- one byte more
stepped : (bytes : List ℕ) (register after byte next : ℕ) → Becomes register (λ x. crc_from x bytes) after → Becomes after (λ x. crc_byte x byte) next
    → Becomes register (λ x. crc_from x (bytes ++ (byte ∷ []))) next
unfolding crc_from
stepped bytes register after byte next so_far e x s = e _ (so_far x s) ∙ ap upper (sym (from-append x bytes (byte ∷ [])))

pub returns : goal.returns
unfolding crc_from
returns c =
    let all : Becomes c.args.register (λ x. crc_from x c.iter.result.rest.now) c.fold.result =
    fold_over fronts (λ y. y.now) _ (λ bytes after. Becomes c.args.register (λ x. crc_from x bytes) after) _
    (λ bytes after x next f k q. let e : Becomes after (λ r. crc_byte r x.now) next = search rules in (stepped bytes c.args.register after x.now next k e, search rules))
    c.iter.result c.iter.result.rest.now c.args.register c.fold.result (slice_gives c.iter.result) (λ x e. e) c.fold.ensures.ran in
    λ x e. all x e ∙ ap (λ (bytes : List ℕ). upper (crc_from x bytes)) c.iter.ensures.rest
