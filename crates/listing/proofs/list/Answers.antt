-- `list` stores the lines of the sheet that was read, or the line of the refusal.
use Prim.Native.Nat.{ℕ}
use mathlib.Core.Path.{◌≡◌, sym}
use native.Mathlib.Omega.{arith}
use mathlib.Core.List.{List}
use lib.ListN.{length, replicate, length-replicate}
use lib.Seq.{length-take-le}
use Rattle.format.specs.Bytes.{filled}
use Rattle.format.specs.Pieces.{Stored}
use Rattle.format.proofs.Pieces.{stored-as, stored-front}
use Rattle.listing.proofs.Outcome.{sheet-listed, refusal-listed}
use Rattle.listing.proofs.list.Goals as goal

-- the lent sheet
blank : List ℕ
blank = replicate 8192 0

blank-length : length blank ≡ 8192
unfolding blank
blank-length = length-replicate {A = ℕ} 8192 0

-- text that is stored at the front, and is the listing
printed : (o d p q : List ℕ) (r : ℕ) → p ≡ q → Stored o 0 p r d → (r ≡ length q) × (d ≡ filled q o)
printed o d p q r e s = stored-front o d q r (stored-as o d p q 0 r e s)

pub slice_bounds-sheet-end : goal.slice_bounds-sheet-end
unfolding blank
slice_bounds-sheet-end c =
    let h = sheet-listed c.args.tag.now blank _ _ _ blank-length c.read.ensures c.in-Ok.is in
    omega (arith, h.short)

pub slice_bounds-put_elements-end-in-Ok : goal.slice_bounds-put_elements-end-in-Ok
unfolding blank
slice_bounds-put_elements-end-in-Ok c =
    let h = sheet-listed c.args.tag.now blank _ _ _ blank-length c.read.ensures c.in-Ok.is in
    sym (length-take-le c.in-Ok.n c.read.new.sheet (omega (arith, h.short)))

pub put_elements-requires : goal.put_elements-requires
unfolding blank
put_elements-requires c =
    let h = sheet-listed c.args.tag.now blank _ _ _ blank-length c.read.ensures c.in-Ok.is in
    (h.own, h.size, omega arith)

pub put_refusal-requires : goal.put_refusal-requires
unfolding blank
put_refusal-requires c =
    let h = refusal-listed c.args.tag.now blank _ _ _ blank-length c.read.ensures c.in-Err.is in
    (omega arith, h.place)

pub returns-in-Ok : goal.returns-in-Ok
unfolding blank
returns-in-Ok c =
    let h = sheet-listed c.args.tag.now blank _ _ _ blank-length c.read.ensures c.in-Ok.is in
    printed c.args.out.now _ _ _ _ h.text c.put_elements.ensures

pub returns-in-Err : goal.returns-in-Err
unfolding blank
returns-in-Err c =
    let h = refusal-listed c.args.tag.now blank _ _ _ blank-length c.read.ensures c.in-Err.is in
    printed c.args.out.now _ _ _ _ h.text c.put_refusal.ensures
