-- What looking at a tag tells its callers.
use Rattle.std.specs.Prelude.{if◌then◌else◌}
use mathlib.Core.Path.{◌≡◌, refl, sym}
use mathlib.Core.Logic.{inl, inr}
use Prim.Native.Nat.{ℕ, ◌+◌, ◌≤◌}
use native.Mathlib.Omega.{arith}
use mathlib.Core.Bool.{Bool, true, false, not, ◌&&◌, ◌||◌}
use mathlib.Core.List.{List, ◌++◌}
use lib.ListN.{length}
use lib.Dec.{eqb}
use borrow.Author.Tests.{eqb-true, eqb-false, eq-eqb}
use Rattle.format.specs.declared.Part.{Part}
use Rattle.format.specs.Answers.{got}
use Rattle.format.specs.Bytes.{part, bytes, joined, filled}
use Rattle.format.specs.Pages.{page_size, good_size}
use Rattle.format.specs.Pieces.{from, nowhere, Held}
use Rattle.format.specs.Chain.{block_of, other_blocks}
use Rattle.format.specs.Reading.{walked, blocks_in, content_in, Readable}
use Rattle.format.specs.Calls.{own_layout}
use Rattle.format.proofs.Tests.{never, and-iff, or-inv, not_t}
use Rattle.format.proofs.Strings.{nil-of}
use Rattle.rows.specs.Rows.{slots_at, Row}
use Rattle.chain.specs.declared.Chain.{Chain}
use Rattle.chain.specs.Survey.{found_on}
use Rattle.chain.proofs.Laws.{surveyed}
use Rattle.chain.proofs.Piece.{OnePiece, in-one-piece, own-piece}
use Rattle.look.specs.Row.{piece_by}
use Rattle.look.specs.Looking.{fields_on, FieldsOf}
use Rattle.look.specs.View.{row_in, made_in, view_in, judged}
use Rattle.look.proofs.Standing.{holds_row, holds-slots}
use Rattle.look.proofs.Steps.{size_passed}
use Rattle.look.proofs.Judged.{seen_size, seen-readable}
use Rattle.look.proofs.Elements.{made-length, elements_lie}

-- ---- the carried blocks

-- the part p is the carried blocks, one behind the other, where it is as long as they; in the writer's own layout it is
record Pieced (t : List ℕ) (size : ℕ) (p : Part) : Type 0 where
  inside : p.at + p.len ≤ length t
  is : p.len ≡ size → part p.at p.len t ≡ joined (other_blocks (blocks_in t))
  own : own_layout t ≡ true → p.len ≡ size

module _ (t : List ℕ) (w : walked t ≡ got (blocks_in t)) where
  abbrev f : Chain
  f = found_on t

  -- no bytes, where there are no blocks or the tag is not the writer's own layout
  no-piece : (own_layout t ≡ true → 0 ≡ f.size) → Pieced t f.size nowhere
  no-piece own = record {
    inside = omega arith;
    is = λ e. sym (nil-of (joined (other_blocks (blocks_in t))) (omega (arith, e)));
    own = own;
  }

  pieced : good_size page_size (length t) ≡ true → Pieced t f.size (piece_by f)
  pieced g = go (not (eqb f.size 0) && (eqb f.library.len 0 || eqb f.library.at 34) && eqb (34 + f.library.len + f.size) f.end) refl
    where
      -- block 1 is the first block, or there is none
      first : eqb f.library.len 0 || eqb f.library.at 34 ≡ true → (f.library.len ≡ 0 → ⊥) → f.library.at ≡ 34
      first e h = elim (or-inv (eqb f.library.len 0) (eqb f.library.at 34) e) [ inl q ↦ absurd (h (eqb-true f.library.len 0 q)) | inr q ↦ eqb-true f.library.at 34 q ]

      none-own : (x : Bool) → eqb f.size 0 ≡ x → (y : Bool) → eqb f.library.len 0 ≡ y → not x && (y || eqb f.library.at 34) && eqb (34 + f.library.len + f.size) f.end ≡ false → OnePiece f → 0 ≡ f.size
      none-own true ex y ey e o = sym (eqb-true f.size 0 ex)
      none-own false ex true ey e o = never (cc (eq-eqb (34 + f.library.len + f.size) f.end o.full))
      none-own false ex false ey e o = never (cc (eq-eqb (34 + f.library.len + f.size) f.end o.full, eq-eqb f.library.at 34 (o.first (eqb-false f.library.len 0 ey))))

      go : (x : Bool) → not (eqb f.size 0) && (eqb f.library.len 0 || eqb f.library.at 34) && eqb (34 + f.library.len + f.size) f.end ≡ x → Pieced t f.size (if x then from (34 + f.library.len) f.size else nowhere)
      go true e =
          let k = simp and-iff at e in
          let p : OnePiece f = record { first = first k.0.1; full = eqb-true (34 + f.library.len + f.size) f.end k.1 } in
          record { inside = omega (arith, (surveyed t w).room, eqb-false f.size 0 (not_t (eqb f.size 0) k.0.0)); is = λ e. in-one-piece t w p; own = λ o. refl }
      go false e = no-piece (λ o. none-own (eqb f.size 0) refl (eqb f.library.len 0) refl e (own-piece t w page_size g o))

-- ---- what a readable tag holds, as looking finds it; `made` is the buffer that was lent

pub record Seen (t made : List ℕ) : Type 0 where
  pub row : Row t (filled (made_in t) made) (row_in t)
  pub slots : slots_at (t ++ filled (made_in t) made) (row_in t) ≡ (content_in t).slots
  pub made-length : length (filled (made_in t) made) ≡ 19
  pub count : (view_in t).count ≡ length (content_in t).carried
  pub size : (view_in t).size ≡ length (joined (content_in t).carried)
  -- where `blocks` is as long as the carried blocks together, it is they, one behind the other; in the writer's own layout it is
  pub blocks-inside : (view_in t).blocks.at + (view_in t).blocks.len ≤ length t
  pub blocks : (view_in t).blocks.len ≡ (view_in t).size → part (view_in t).blocks.at (view_in t).blocks.len t ≡ joined (content_in t).carried
  pub own : own_layout t ≡ true → (view_in t).blocks.len ≡ (view_in t).size

module _ (t made : List ℕ) (y : bytes t ≡ true) (long : length made ≡ 19) (g : good_size page_size (length t) ≡ true) (r : Readable t) where
  block : Held t (found_on t).library (block_of 1 (blocks_in t))
  block = (surveyed t r.blocks).library

  fields : FieldsOf t (fields_on t)
  fields = record { good = r.fields; is = refl }

  seen : Seen t made
  unfolding view_in content_in
  seen =
      let h = elements_lie t _ block _ fields (size_passed t g) made long r.agreed y in
      let p = pieced t r.blocks g in
      record {
        row = holds_row t (filled (made_in t) made) _ _ h;
        slots = holds-slots t (filled (made_in t) made) _ _ h;
        made-length = made-length t _ block _ fields (size_passed t g) made long r.agreed;
        count = refl;
        size = refl;
        blocks-inside = p.inside;
        blocks = p.is;
        own = p.own;
      }

pub look-seen : (t made : List ℕ) → bytes t ≡ true → length made ≡ 19 → judged t ≡ got tt → Seen t made
look-seen t made y long j = seen t made y long (seen_size t j) (seen-readable t j)
