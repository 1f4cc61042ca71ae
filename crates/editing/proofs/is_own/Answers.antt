-- `editing::is_own` meets its contract: the draft is compared with the tag.
use mathlib.Core.Path.{◌≡◌, refl, sym}
use Prim.Native.Nat.{ℕ}
use mathlib.Core.Bool.{true}
use mathlib.Core.List.{List}
use native.Mathlib.Omega.{arith}
use lib.ListN.{get_or, replicate}
use lib.Seq.{drop-drop}
use Rattle.std.proofs.Common.{Fits, w8}
use Rattle.format.specs.Bytes.{bytes}
use Rattle.format.specs.declared.Part.{Part}
use Rattle.format.proofs.Tests.{bytes-all}
use Rattle.look.specs.declared.View.{View}
use Rattle.look.specs.View.{Sighted}
use Rattle.look.proofs.Laws.{Seen, look-seen}
use Rattle.image.specs.Drafting.{Fresh}
use Rattle.editing.proofs.Own as own
use Rattle.editing.proofs.is_own.Goals as goal

-- what is known at the start
record Found (t : List ℕ) (row : List Part) (made d₀ : List ℕ) (v : View) : Type 0 where
  pub all-bytes : bytes t ≡ true
  pub sighted : Sighted t (replicate 19 0) row made v
  pub fresh : Fresh d₀ t
  pub held : Seen t (replicate 19 0)

found : (t : List ℕ) (row : List Part) (made d₀ : List ℕ) (v : View) → ((i : ℕ) → Fits w8 (get_or t i 0)) → Sighted t (replicate 19 0) row made v × Fresh d₀ t → Found t row made d₀ v
found t row made d₀ v h r =
    let y = bytes-all t (λ i k. (h i).fits) in
    record { all-bytes = y; sighted = r.0; fresh = r.1; held = look-seen t (replicate 19 0) y refl r.0.seen }

pub returns-then-view : goal.returns-then-view
returns-then-view c = let k = found c.args.tag.now _ _ _ _ c.type_inv.tag c.requires in own.loose-pieces _ _ _ _ _ k.all-bytes k.sighted k.fresh k.held c.if-view.true

pub piece-carried-requires : goal.piece-carried-requires
piece-carried-requires c = let k = found c.args.tag.now _ _ _ _ c.type_inv.tag c.requires in own.blocks-stand _ _ _ _ _ k.all-bytes k.sighted k.fresh k.held _

pub draft-requires : goal.draft-requires
draft-requires c = let k = found c.args.tag.now _ _ _ _ c.type_inv.tag c.requires in own.own-draftable _ _ _ _ _ k.all-bytes k.sighted k.fresh k.held

pub returns-then-is_err : goal.returns-then-is_err
returns-then-is_err c =
    let k = found c.args.tag.now _ _ _ _ c.type_inv.tag c.requires in
    own.large _ _ _ _ _ k.all-bytes k.sighted k.fresh k.held c.if-view.false _ _ _ c.piece-carried.ensures c.draft.ensures (own.failed _ (sym c.if-is_err.ensures.value))

-- the tag has a layout, which stands in the draft

pub slice_bounds-copy_from_slice-end : goal.slice_bounds-copy_from_slice-end
slice_bounds-copy_from_slice-end c =
    let k = found c.args.tag.now _ _ _ _ c.type_inv.tag c.requires in
    let l = own.drafted-long _ _ _ _ _ k.all-bytes k.sighted k.fresh k.held c.if-view.false _ _ _ c.piece-carried.ensures c.draft.ensures (own.done _ (sym c.if-is_err.ensures.value)) in
    omega (arith, own.least _ _ _ _ _ k.all-bytes k.sighted k.fresh k.held, l)

pub returns : goal.returns
returns c =
    let k = found c.args.tag.now _ _ _ _ c.type_inv.tag c.requires in
    let e = rw (c.copy_from_slice.ensures.after, drop-drop 2 19 c.draft.new.draft) at c.same.ensures in
    own.own_same _ _ _ _ _ k.all-bytes k.sighted k.fresh k.held c.if-view.false _ _ _ c.piece-carried.ensures c.draft.ensures (own.done _ (sym c.if-is_err.ensures.value)) _ e
