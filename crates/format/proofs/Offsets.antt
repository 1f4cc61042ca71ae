-- The sheet of what a tag holds, or has room for, is short, so no offset passes 65,535.
use mathlib.Core.Path.{◌≡◌, refl, ap}
use Prim.Native.Nat.{ℕ, suc, ◌+◌, ◌*◌, ◌≤◌}
use native.Mathlib.Omega.{arith}
use mathlib.Core.Bool.{true}
use mathlib.Core.List.{List, [], ◌∷◌, ◌++◌}
use lib.ListN.{length, length-append}
use borrow.Author.Tests.{le-leb}
use Rattle.format.specs.Bytes.{all, bytes, joined}
use Rattle.format.specs.Pages.{good_size}
use Rattle.format.specs.Elements.{Content, numbers, form, value, values_at, sound}
use Rattle.format.specs.Sheet.{Entry, bodies, body_at, sheet_of, offsets_fit, fitting, entries_at, carried_entries, entries}
use Rattle.format.specs.Layout.{basic, own_blocks, laid_out}
use Rattle.format.specs.Reading.{blocks_in, content_in, Readable}
use Rattle.format.specs.History.{Own}
use Rattle.format.proofs.Tests.{never, and_l, and_r, and_i}
use Rattle.format.proofs.Blocks.{well-facts, carried-facts}
use Rattle.format.proofs.Sheets.{length-sheet}
use Rattle.format.proofs.Slots.{sound-parts, form-carriable}
use Rattle.format.proofs.Values.{value-short}
use Rattle.format.proofs.Layouts.{size-most, fits-parts}
use Rattle.format.proofs.Sound.{read-sound}
use Rattle.format.proofs.Shorter.{others-le, blocks-total}

-- where the bodies end by 65,535 no offset passes that
pub fit-total : (at : ℕ) (es : List Entry) → at + length (bodies es) ≤ 65535 → offsets_fit at es ≡ true
unfolding offsets_fit bodies
fit-total at [] h = refl
fit-total at (e ∷ es) h =
    let l = length-append e.bytes (bodies es) in
    and_i (le-leb at 65535 (omega arith)) (fit-total (at + length e.bytes) es (omega arith))

pub bodies-append : (a b : List Entry) → length (bodies (a ++ b)) ≡ length (bodies a) + length (bodies b)
unfolding bodies
bodies-append [] b = omega arith
bodies-append (e ∷ a) b = omega (arith, length-append e.bytes (bodies (a ++ b)), length-append e.bytes (bodies a), bodies-append a b)

pub carried-total : (cs : List (List ℕ)) → (length (bodies (carried_entries cs)) ≡ length (joined cs)) × (length (carried_entries cs) ≡ length cs)
unfolding bodies carried_entries joined
carried-total [] = (refl, refl)
carried-total (c ∷ cs) =
    let r = carried-total cs in
    (omega (arith, length-append c (bodies (carried_entries cs)), length-append c (joined cs), r.0), ap suc r.1)

slots-total : (ns : List ℕ) (ss : List (List ℕ)) → values_at ns ss ≡ true → (length (bodies (entries_at ns ss)) ≤ 255 * length ns) × (length (entries_at ns ss) ≤ length ns)
unfolding bodies entries_at values_at
slots-total [] [] v = (omega arith, omega arith)
slots-total [] (s ∷ ss) v = never (cc)
slots-total (n ∷ ns) [] v = never (cc)
slots-total (n ∷ ns) ([] ∷ ss) v = let r = slots-total ns ss (and_r (value n []) (values_at ns ss) v) in (omega arith, omega arith)
slots-total (n ∷ ns) ((x ∷ s) ∷ ss) v =
    let r = slots-total ns ss (and_r (value n (x ∷ s)) (values_at ns ss) v) in
    let l = value-short n (x ∷ s) (and_l (value n (x ∷ s)) (values_at ns ss) v) in
    (omega (arith, length-append (x ∷ s) (bodies (entries_at ns ss)), r), omega arith)

-- three bytes at least for each carried block
pub carried-count : (cs : List (List ℕ)) → all (form 255) cs ≡ true → 3 * length cs ≤ length (joined cs)
unfolding all joined
carried-count [] h = omega arith
carried-count (c ∷ cs) h =
    let k = well-facts c (carried-facts c (form-carriable c (and_l (form 255 c) (all (form 255) cs) h))).0 in
    omega (arith, carried-count cs (and_r (form 255 c) (all (form 255) cs) h), length-append c (joined cs), k.long)

-- the sheet of elements whose carried blocks have room on a tag is short
module _ (c : Content) (s : sound c ≡ true) (j : length (joined c.carried) ≤ 2048) where
  pub content-short : length (sheet_of (entries c)) ≤ 8192
  unfolding entries
  content-short =
      let k = sound-parts c s in
      let a : List Entry = entries_at numbers c.slots in
      let b : List Entry = carried_entries c.carried in
      omega (arith, length-sheet (a ++ b), length-append a b, bodies-append a b, slots-total numbers c.slots k.values, carried-total c.carried, carried-count c.carried k.blocks)

  -- so no offset passes 65,535
  pub content-fitting : fitting (entries c) ≡ true
  content-fitting = let es : List Entry = entries c in fit-total (body_at (length es)) es (omega (arith, content-short, length-sheet es))

-- of what a permitted tag holds, whatever the page size
module _ (p : ℕ) (t : List ℕ) (y : bytes t ≡ true) (g : good_size p (length t) ≡ true) (r : Readable t) where
  read-carried : length (joined (content_in t).carried) ≤ 2048
  unfolding content_in
  read-carried = omega (arith, others-le (blocks_in t), blocks-total t r, size-most p (length t) g)

  pub read_short : length (sheet_of (entries (content_in t))) ≤ 8192
  read_short = content-short (content_in t) (read-sound t y r) read-carried

  pub read-fitting : fitting (entries (content_in t)) ≡ true
  read-fitting = content-fitting (content_in t) (read-sound t y r) read-carried

-- of what was laid down on one
pub own-fitting : (p : ℕ) (c : Content) (t : List ℕ) → good_size p (length t) ≡ true → Own c t → fitting (entries c) ≡ true
unfolding laid_out
own-fitting p c t g o =
    let n : ℕ = length t in
    content-fitting c o.sane (omega (
      arith,
      (fits-parts n c o.fit).1,
      length-append (basic n c.slots) (own_blocks n c.slots ++ joined c.carried),
      length-append (own_blocks n c.slots) (joined c.carried),
      size-most p n g,
    ))
