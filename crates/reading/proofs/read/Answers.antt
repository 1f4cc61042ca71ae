-- `reading::read` passes the refusal of looking on, or renders what was seen.
use Rattle.std.specs.Prelude.{Ok}
use mathlib.Core.Path.{◌≡◌, refl, sym, ap}
use Prim.Native.Nat.{ℕ, ◌+◌, ◌<◌, ◌≤◌}
use mathlib.Core.Bool.{true}
use mathlib.Core.List.{List}
use native.Mathlib.Omega.{arith}
use lib.ListN.{length, replicate, get_or}
use Rattle.std.proofs.lemmas.Result.{err_from_is_err_and}
use Rattle.format.specs.Bytes.{bytes}
use Rattle.format.specs.declared.Part.{Part}
use Rattle.format.specs.Numbers.{given}
use Rattle.format.proofs.Tests.{bytes-all}
use Rattle.look.specs.declared.View.{View}
use Rattle.look.specs.View.{Looked, Sighted}
use Rattle.look.proofs.Judged.{looked-sighted, looked-refused}
use Rattle.look.proofs.Laws.{Seen, look-seen}
use Rattle.reading.proofs.Reader.{refused-reads, sighted-inside, sighted-renderable, rendered-reads}
use Rattle.reading.proofs.read.Goals as goal

-- what was seen of the tag t
record Sight (t : List ℕ) (row : List Part) (made : List ℕ) (v : View) : Type 0 where
  tag-bytes : bytes t ≡ true
  sighted : Sighted t (replicate 19 0) row made v
  seen : Seen t (replicate 19 0)
  inside : v.blocks.at + v.blocks.len ≤ length t

sight : {t : List ℕ} {lent row : List Part} {made : List ℕ} {v : View} → ((i : ℕ) → get_or t i 0 < 256) → Looked t lent (replicate 19 0) (Ok v) row made → Sight t row made v
sight {t} {lent} {row} {made} {v} small h =
    let y : bytes t ≡ true = bytes-all t (λ i _. small i) in
    let s : Sighted t (replicate 19 0) row made v = looked-sighted h in
    let k : Seen t (replicate 19 0) = look-seen _ _ y refl s.seen in
    record { tag-bytes = y; sighted = s; seen = k; inside = sighted-inside y s k }

pub returns-in_err-view : goal.returns-in_err-view
returns-in_err-view c =
    let p = err_from_is_err_and c.from_residual.result c.from_residual.ensures.1 in
    rw (p.1, p.2) (refused-reads c.args.tag.now c.args.sheet.now _ (looked-refused c.in_err-view.ensures))

pub overflow_add-blocks : goal.overflow_add-blocks
overflow_add-blocks c =
    let s = sight (λ i. omega (arith, c.type_inv.tag i)) c.in_ok-view.ensures in
    omega (arith, s.inside, c.well_formed)

pub slice_bounds-blocks-end : goal.slice_bounds-blocks-end
slice_bounds-blocks-end c = (sight (λ i. omega (arith, c.type_inv.tag i)) c.in_ok-view.ensures).inside

pub render-requires : goal.render-requires
render-requires c =
    let s = sight (λ i. omega (arith, c.type_inv.tag i)) c.in_ok-view.ensures in
    sighted-renderable s.tag-bytes s.sighted s.seen

pub returns-in-Ok : goal.returns-in-Ok
returns-in-Ok c =
    let s = sight (λ i. omega (arith, c.type_inv.tag i)) c.in_ok-view.ensures in
    rendered-reads s.tag-bytes s.sighted s.seen _ _ _ _ c.render.ensures (ap given (sym c.in-Ok.is))

pub returns-in-Err : goal.returns-in-Err
returns-in-Err c =
    let s = sight (λ i. omega (arith, c.type_inv.tag i)) c.in_ok-view.ensures in
    rendered-reads s.tag-bytes s.sighted s.seen _ _ _ _ c.render.ensures (ap given (sym c.in-Err.is))
