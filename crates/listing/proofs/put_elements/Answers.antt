-- `put_elements` stores the count of entries, which stands in the sheet's first two bytes, and the entries' lines.
use mathlib.Core.Path.{sym, ap}
use mathlib.Core.List.{◌++◌}
use Prim.Native.Nat.{ℕ, ◌<◌}
use native.Mathlib.Omega.{arith}
use Rattle.format.specs.Bytes.{word}
use Rattle.format.specs.Sheet.{count_in, entries_in}
use Rattle.format.proofs.Pieces.{stored-then, stored-as}
use Rattle.listing.specs.Listing.{counted, elements_word, lines_of, elements_text}
use Rattle.listing.proofs.Text.{counted-length}
use Rattle.format.proofs.Sheets.{entry-count, body-length}
use Rattle.listing.proofs.put_elements.Goals as goal

pub bounds-sheet-0 : goal.bounds-sheet-0
bounds-sheet-0 c = omega (arith, body-length c.args.sheet.now c.requires.0)

pub bounds-sheet-1 : goal.bounds-sheet-1
bounds-sheet-1 c = omega (arith, body-length c.args.sheet.now c.requires.0)

pub put_counted-lines-requires : goal.put_counted-lines-requires
unfolding word
put_counted-lines-requires c =
    (omega arith, omega (arith, body-length c.args.sheet.now c.requires.0))

pub put_lines-requires : goal.put_lines-requires
unfolding word
put_lines-requires c =
    let n : ℕ = count_in c.args.sheet.now in
    let few : n < 10000 = omega (arith, body-length c.args.sheet.now c.requires.0) in
    (c.requires.0, c.word-count.ensures.0, omega (arith, c.put_counted-lines.ensures.0, c.put_counted-lines.auto.out, counted-length elements_word c.word-count.result (omega (arith, c.word-count.ensures.0, few))))

pub returns : goal.returns
unfolding word elements_text
returns c =
    let a = c.args in
    let o = a.out.now in
    let t = a.sheet.now in
    let lines = lines_of (entries_in t) in
    let p1 = c.put_counted-lines in
    let p2 = c.put_lines in
    stored-as o _ _ _ 0 _ (ap (λ (n : ℕ). counted elements_word n ++ lines) (sym (entry-count t)))
    (stored-then o _ _ (counted elements_word (count_in t)) lines 0 _ _ (omega arith) (rw c.word-count.ensures.0 at p1.ensures) p2.ensures)
