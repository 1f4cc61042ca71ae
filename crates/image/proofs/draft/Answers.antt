-- `image::draft` meets its contract: 10 and 11 in order, and then the layout piece by piece.
use Rattle.std.specs.Prelude.{if◌then◌else◌}
use mathlib.Core.Path.{◌≡◌, refl, sym, ap, ◌∙◌}
use Prim.Native.Nat.{ℕ, ◌+◌, ◌-◌, ◌≤◌, ◌<◌}
use native.Mathlib.Omega.{arith}
use mathlib.Core.Bool.{Bool, true, false, ◌&&◌, ◌||◌}
use mathlib.Core.List.{List, [], ◌∷◌, ◌++◌}
use lib.Dec.{leb}
use lib.ListN.{length, get_or, take, drop}
use Rattle.format.specs.Bytes.{is_empty, part, trim}
use Rattle.format.specs.Fields.{basic_owner}
use Rattle.format.specs.Pieces.{nowhere}
use Rattle.format.specs.declared.Part.{Part}
use Rattle.format.specs.Answers.{need, in_order, afterwards}
use Rattle.format.specs.Chain.{separated, block_with, block_one}
use Rattle.format.specs.Elements.{places, place, clash}
use Rattle.format.specs.Layout.{owner_width, owner_of, library, has_layout}
use Rattle.rows.specs.Rows.{slots_at}
use Rattle.image.specs.Laying.{OwnerOrNone, Lengths}
use Rattle.image.specs.Drafting.{Draftable, drafting}
use Rattle.image.proofs.Drafts.{On, blank-all, part-length, blank-part, stored-part, on-length, on-blank}
use Rattle.image.proofs.Placing.{ss, sized, element, set-four, usage-one, owner-good, Fielded, fields-found, behind-told, size_is, block-is, content-long, room-is, room-told, Ready, headed, owned, blocked, first, second, third, no_third, last_fits, last}
use Rattle.image.proofs.draft.Goals.{After-usage_behind, After-owner_width-at, After-put_front, Joined-size-ne0, then-size-ne0, else-size-ne0}
use Rattle.image.proofs.draft.Goals as goal

-- ---- what the code finds

module _ {src made : List ℕ} {row : List Part} {d : List ℕ} (p : Draftable src made row d) where
  clash-told : (r t : Bool) → ((xs : List (List ℕ)) → Lengths xs row → r ≡ clash xs) → r ≡ t → clash (ss p) ≡ t
  clash-told r t c e = sym (c (ss p) (sized p)) ∙ e

  at-slot : (k : ℕ) (x : List ℕ) → k < places → x ≡ part (get_or row k nowhere).at (get_or row k nowhere).len (src ++ made) → x ≡ get_or (ss p) k []
  at-slot k x h e = e ∙ (element p k h).is

-- what it has found before it asks for block 1's size
record Found (src made : List ℕ) (row : List Part) (d : List ℕ) (item name : Part) (behind code media : ℕ) (owner : List ℕ) : Type 0 where
  fits : Draftable src made row d
  clear : clash (ss fits) ≡ false
  owner-at : owner ≡ owner_of (ss fits)
  behind-is : behind ≡ (if is_empty owner || basic_owner (owner_width (length d)) owner then 0 else length owner)
  fields : Fielded src made (item ∷ record name { len = behind } ∷ record (get_or row (place 5) nowhere) { len = code } ∷ []) (library (length d) (ss fits))
  media-is : media ≡ (library (length d) (ss fits)).media

found : (c : After-usage_behind) → let a = c.args in
    Found a.src.now a.made.now a.row.now a.draft.now c.item_in.result c.owner_in-name.result c.owner_behind-behind.result c.usage_behind.result c.byte_at-media.result c.piece-owner.result.now
unfolding library
found c =
    let p = c.requires in
    let a = c.args in
    let clear : clash (ss p) ≡ false = clash-told p _ false c.clashing.ensures c.if-clashing.false in
    let name = c.owner_in-name.ensures a.src.now a.made.now p.row in
    let o : c.piece-owner.result.now ≡ owner_of (ss p) = c.piece-owner.ensures ∙ name.is in
    let u = at-slot p (place 5) c.piece.result.now (omega arith) c.piece.ensures in
    record {
      fits = p;
      clear = clear;
      owner-at = o;
      behind-is = c.owner_behind-behind.ensures;
      fields = fields-found p (length a.draft.now) c.item_in.result c.owner_in-name.result _ _ (c.item_in.ensures a.src.now a.made.now p.row) name
          (rw o at c.owner_behind-behind.ensures) (rw u at c.usage_behind.ensures) (owner-good p clear).short;
      media-is = c.byte_at-media.ensures ∙ ap (λ (x : List ℕ). get_or x 0 0) (at-slot p (place 19) c.piece-2.result.now (omega arith) c.piece-2.ensures);
    }

module _ {src made : List ℕ} {row : List Part} {d : List ℕ} {item name : Part} {behind code media : ℕ} {owner : List ℕ} (f : Found src made row d item name behind code media owner) where
  abbrev n : ℕ
  n = length d

  abbrev all : List (List ℕ)
  all = ss f.fits

  owner-fine : OwnerOrNone owner
  owner-fine = rw f.owner-at (owner-good f.fits f.clear)

  module _ (size : ℕ) (told : (fs : List (List ℕ)) → Lengths fs (item ∷ record name { len = behind } ∷ record (get_or row (place 5) nowhere) { len = code } ∷ []) → size ≡ length (block_with 1 (trim media (separated fs)))) where
    size-told : size ≡ length (block_one (library n all))
    size-told = size_is f.fields _ _ f.media-is told

    module _ (carried : List ℕ) (r : Bool) (is : r ≡ leb size 255 && leb (21 + owner_width n + size + length carried) n) where
      room : (t : Bool) → r ≡ t → has_layout n all carried ≡ t
      room t e = sym (room-is n all carried f.fits.size _ size-told) ∙ sym is ∙ e

      ready : r ≡ true → Ready all carried d
      ready e = record { least = f.fits.size; blank = f.fits.blank; fit = room true e }

pub returns-then-clashing : goal.returns-then-clashing
unfolding drafting need in_order afterwards
returns-then-clashing c = record { answered = rw (clash-told c.requires _ true c.clashing.ensures c.if-clashing.true); left = refl }

pub piece-owner-requires : goal.piece-owner-requires
piece-owner-requires c = (c.owner_in-name.ensures c.args.src.now c.args.made.now c.requires.row).stands

pub piece-requires : goal.piece-requires
piece-requires c = (element c.requires (place 5) (omega arith)).stands

pub piece-requires-2 : goal.piece-requires-2
piece-requires-2 c = (element c.requires (place 19) (omega arith)).stands

pub owner_behind-behind-requires : goal.owner_behind-behind-requires
owner_behind-behind-requires c =
    let p = c.requires in
    let o = c.piece-owner.ensures ∙ (c.owner_in-name.ensures c.args.src.now c.args.made.now p.row).is in
    (rw o (owner-good p (clash-told p _ false c.clashing.ensures c.if-clashing.false)), omega (arith, p.size))

pub block_size-size-requires : goal.block_size-size-requires
block_size-size-requires c = (found (goal.at.block_size-size-requires c).After-usage_behind).fields.few

pub piece-requires-4 : goal.piece-requires-4
piece-requires-4 c = (element c.requires (place 4) (omega arith)).stands

pub bounds-piece-0 : goal.bounds-piece-0
bounds-piece-0 c = omega (arith, ap length (at-slot c.requires (place 5) c.piece.result.now (omega arith) c.piece.ensures), usage-one c.requires)

pub returns-then-not-has_room : goal.returns-then-not-has_room
unfolding drafting need in_order afterwards
returns-then-not-has_room c =
    let f = found (goal.at.returns-then-not-has_room c).After-usage_behind in
    record { answered = rw (f.clear, room f _ c.block_size-size.ensures _ _ c.has_room.ensures false c.if-not-has_room.true); left = refl }

pub put_front-requires : goal.put_front-requires
put_front-requires c =
    let p = c.requires in
    (blank-all c.args.draft.now p.blank, omega (arith, p.size), ap length (at-slot p (place 4) c.piece-4.result.now (omega arith) c.piece-4.ensures) ∙ set-four p)

-- ---- the layout, piece by piece

abbrev Begun : (src made : List ℕ) (row : List Part) (carried d d' : List ℕ) → Type 0
Begun src made row carried d d' = (p : Ready (slots_at (src ++ made) row) carried d) → On 0 d (headed p) 21 d'

on-front : (c : After-put_front) → let a = c.args in Begun a.src.now a.made.now a.row.now a.carried.now a.draft.now c.put_front.new.draft
on-front c r =
    let p = c.requires in
    first r _ _ _ _ (at-slot p (place 1) c.piece-3.result.now (omega arith) c.piece-3.ensures) (at-slot p (place 4) c.piece-4.result.now (omega arith) c.piece-4.ensures)
    (ap (λ (x : List ℕ). get_or x 0 0) (at-slot p (place 5) c.piece.result.now (omega arith) c.piece.ensures)) c.put_front.ensures

pub put_owner-requires : goal.put_owner-requires
put_owner-requires c =
    let f = found (goal.at.put_owner-requires c).After-usage_behind in
    let x = on-front (goal.at.put_owner-requires c).After-put_front (ready f _ c.block_size-size.ensures _ _ c.has_room.ensures c.if-not-has_room.false) in (
      record { size = omega (arith, on-length x, c.requires.size); blank = on-blank x; good = owner-fine f },
      rw (on-length x) (behind-told (owner_width (length c.args.draft.now)) c.piece-owner.result.now _ f.behind-is),
    )

on-owner : (c : After-owner_width-at) → let a = c.args in (p : Ready (slots_at (a.src.now ++ a.made.now) a.row.now) a.carried.now a.draft.now)
    → Begun a.src.now a.made.now a.row.now a.carried.now a.draft.now c.put_front.new.draft → On 0 a.draft.now (owned p) (21 + c.owner_width-at.result) c.put_owner.new.draft
on-owner c p x =
    second p _ (ap (λ (w : ℕ). 21 + w) c.owner_width-at.ensures) _ _ _ (c.piece-owner.ensures ∙ (c.owner_in-name.ensures c.args.src.now c.args.made.now c.requires.row).is) (x p) c.put_owner.ensures

pub put_library-requires : goal.put_library-requires
put_library-requires c =
    let at = goal.at.put_library-requires c in
    let f = found at.After-usage_behind in
    let p = ready f _ c.block_size-size.ensures _ _ c.has_room.ensures c.if-not-has_room.false in
    let x = on-owner at.After-owner_width-at p (on-front at.After-put_front) in
    let h = room-told _ _ _ p.least p.fit in
    let from : ℕ = 21 + c.owner_width-at.result in
    let k : ℕ = from + c.block_size-size.result - from in
    let room : from + k ≤ length c.put_owner.new.draft = omega (arith, h.1, size-told f _ c.block_size-size.ensures, on-length x, c.owner_width-at.ensures) in
    let long : length (take k (drop from c.put_owner.new.draft)) ≡ k = part-length from k _ room in
    record {
      few = f.fields.few;
      row = f.fields.row;
      blank = blank-part _ _ _ room (on-blank x);
      is = long ∙ omega (arith, content-long f.fields _ _ f.media-is c.block_size-size.ensures c.if-size-ne0.true);
      short = omega (arith, h.0, size-told f _ c.block_size-size.ensures, long);
    }

on-block : (c : Joined-size-ne0) → let a = c.args in
    Found a.src.now a.made.now a.row.now a.draft.now c.item_in.result c.owner_in-name.result c.owner_behind-behind.result c.usage_behind.result c.byte_at-media.result c.piece-owner.result.now
    → (p : Ready (slots_at (a.src.now ++ a.made.now) a.row.now) a.carried.now a.draft.now) → On 0 a.draft.now (owned p) (21 + c.owner_width-at.result) c.put_owner.new.draft
    → On 0 a.draft.now (blocked p) (21 + c.owner_width-at.result + c.block_size-size.result) c.if-size-ne0.draft
on-block c f p x =
    let is = ap (λ (w : ℕ). 21 + w) c.owner_width-at.ensures in
    let long = size-told f _ c.block_size-size.ensures in
    let block = block-is f.fields _ _ f.media-is c.block_size-size.ensures in
    elim c.if-size-ne0.branch [
      | then-size-ne0 w ↦
          let e = w.put_library.ensures ∙ block w.if-size-ne0.true in
          rw (w.draft-is, e) (third p _ is _ long _ x _ (stored-part _ _ _ c.put_owner.new.draft _ (sym long ∙ omega arith) (omega arith)))
      | else-size-ne0 w ↦ rw w.draft-is (no_third p _ is _ long _ x w.if-size-ne0.false)
    ]

pub overflow_add-at-2 : goal.overflow_add-at-2
overflow_add-at-2 c =
    let f = found (goal.at.overflow_add-at-2 c).After-usage_behind in
    let p = ready f _ c.block_size-size.ensures _ _ c.has_room.ensures c.if-not-has_room.false in
    omega (arith, c.owner_width-at.ensures, size-told f _ c.block_size-size.ensures, (room-told _ _ _ p.least p.fit).0)

pub put_bytes-requires : goal.put_bytes-requires
put_bytes-requires c =
    let at = goal.at.put_bytes-requires c in
    let f = found at.After-usage_behind in
    let p = ready f _ c.block_size-size.ensures _ _ c.has_room.ensures c.if-not-has_room.false in
    let x = on-block at.Joined-size-ne0 f p (on-owner at.After-owner_width-at p (on-front at.After-put_front)) in
    omega (arith, last_fits p _ _ x, on-length x)

pub returns : goal.returns
unfolding drafting need in_order afterwards
returns c =
    let at = goal.at.returns c in
    let f = found at.After-usage_behind in
    let p = ready f _ c.block_size-size.ensures _ _ c.has_room.ensures c.if-not-has_room.false in
    let x = on-block at.Joined-size-ne0 f p (on-owner at.After-owner_width-at p (on-front at.After-put_front)) in
    record { answered = rw (f.clear, p.fit); left = last p _ _ x _ _ c.put_bytes.ensures }
