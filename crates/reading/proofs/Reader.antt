-- Reading: what looking and rendering give is what reading must give.
use Rattle.std.specs.Prelude.{Result, Err}
use mathlib.Core.Path.{◌≡◌, refl, sym, ap, ap₂, ◌∙◌}
use Prim.Native.Nat.{ℕ, ◌+◌, ◌-◌, ◌≤◌}
use mathlib.Core.Bool.{true}
use mathlib.Core.List.{List, [], ◌∷◌, ◌++◌}
use lib.Dec.{leb}
use native.Mathlib.Omega.{arith}
use lib.ListN.{length, take, drop, length-drop}
use lib.Seq.{length-take-le}
use Rattle.format.specs.Answers.{Answer, refused, need, afterwards}
use Rattle.format.specs.Bytes.{bytes, joined, part, filled}
use Rattle.format.specs.Pages.{page_size}
use Rattle.format.specs.Elements.{Content, numbers, values_at}
use Rattle.format.specs.Sheet.{sheet_of, entries, fitting}
use Rattle.format.specs.Reading.{content_in}
use Rattle.format.specs.Calls.{sheet_in, read_steps, reading}
use Rattle.format.specs.Numbers.{refusal_given, given, told, Reads}
use Rattle.format.specs.declared.Refusal as code
use Rattle.format.specs.declared.Part.{Part}
use Rattle.format.specs.declared.Reason.{Reason}
use Rattle.format.proofs.Answers.{next-ok, afterwards-refused}
use Rattle.format.proofs.Readable.{readable-on}
use Rattle.rows.specs.Rows.{slots_at, Row}
use Rattle.rows.proofs.Rows.{row-short}
use Rattle.look.specs.declared.View.{View}
use Rattle.look.specs.View.{judged, Sighted}
use Rattle.look.proofs.Judged.{steps-refused, seen_size, seen-readable, seen_most, seen-values}
use Rattle.look.proofs.Laws.{Seen}
use Rattle.render.specs.Rendering.{carried_on, rendering, Renderable, Rendered}

-- a refusal of looking is one of reading
pub refused-reads : (t buffer : List ℕ) (x : code.Refusal) → judged t ≡ refused (refusal_given x) → Reads t buffer (Err x) buffer
unfolding reading read_steps
refused-reads t buffer x j =
    let ss = need 14 (fitting (entries (content_in t))) ∷ need 2 (leb (length (sheet_in t)) (length buffer)) ∷ [] in
    let a : (reading page_size t buffer).answer ≡ refused (refusal_given x) = steps-refused t ss (length (sheet_in t)) (refusal_given x) j in
    record {
      answered = sym a;
      left = sym (afterwards-refused (reading page_size t buffer).answer (refusal_given x) (filled (sheet_in t) buffer) buffer a);
    }

pub seen-carried : (t : List ℕ) → (content_in t).carried ≡ carried_on t
unfolding content_in
seen-carried t = refl

-- what was seen of the tag t: where it lies, that it can be rendered, and that what is rendered of it is what is read
module _ {t lent : List ℕ} {row : List Part} {made : List ℕ} {v : View} (y : bytes t ≡ true) (s : Sighted t lent row made v) (h : Seen t lent) where
  pub sighted-made : 19 ≡ length made
  sighted-made = rw s.made-is (sym h.made-length)

  pub sighted-inside : v.blocks.at + v.blocks.len ≤ length t
  sighted-inside = rw s.view-is h.blocks-inside

  sighted-blocks : v.blocks.len ≡ v.size → part v.blocks.at v.blocks.len t ≡ joined (content_in t).carried
  sighted-blocks = rw s.view-is h.blocks

  sighted-slots : slots_at (t ++ made) row ≡ (content_in t).slots
  sighted-slots = rw (s.row-is, s.made-is) h.slots

  sighted-row : Row t made row
  sighted-row = rw (s.row-is, s.made-is) h.row

  pub sighted-renderable : Renderable t made row v.count v.size (take (v.blocks.at + v.blocks.len - v.blocks.at) (drop v.blocks.at t))
  sighted-renderable =
      let at : ℕ = v.blocks.at in
      let len : ℕ = v.blocks.len in
      let cut : take (at + len - at) (drop at t) ≡ part at len t = let e : at + len - at ≡ len = omega arith in ap (λ (n : ℕ). take n (drop at t)) e in
      let whole : length (part at len t) ≡ len = length-take-le len (drop at t) (omega (arith, length-drop at t, sighted-inside)) in
      record {
        whole = (seen-readable t s.seen).blocks;
        short = seen_most t s.seen;
        counted = rw s.view-is (h.count ∙ ap length (seen-carried t));
        sized = rw s.view-is (h.size ∙ ap (λ (bs : List (List ℕ)). length (joined bs)) (seen-carried t));
        row = sighted-row;
        lengths = row-short t made row sighted-row numbers (ap (values_at numbers) sighted-slots ∙ seen-values t s.seen y);
        piece = λ l. cut ∙ sighted-blocks (sym whole ∙ ap length (sym cut) ∙ l) ∙ ap joined (seen-carried t);
      }

  pub rendered-reads : (buffer : List ℕ) (r : Result ℕ Reason) (q : Result ℕ code.Refusal) (sheet : List ℕ)
      → Rendered (entries (record { slots = slots_at (t ++ made) row; carried = carried_on t })) buffer r sheet → told q ≡ given r → Reads t buffer q sheet
  unfolding reading read_steps
  rendered-reads buffer r q sheet d i =
      let c : Content = record { slots = slots_at (t ++ made) row; carried = carried_on t } in
      let e : c ≡ content_in t = ap₂ (λ (ss bs : List (List ℕ)). record { slots = ss; carried = bs }) sighted-slots (sym (seen-carried t)) in
      let n : ℕ = length (sheet_in t) in
      let a : (reading page_size t buffer).answer ≡ rendering (entries c) buffer =
      next-ok _ _ _ n (seen_size t s.seen) ∙ readable-on t _ n (seen-readable t s.seen) ∙ ap (λ (x : Content). rendering (entries x) buffer) (sym e) in
      record {
        answered = i ∙ d.answered ∙ sym a;
        left = d.left ∙ ap₂ (λ (m : Answer ℕ) (x : Content). afterwards m (filled (sheet_of (entries x)) buffer) buffer) (sym a) e;
      }
