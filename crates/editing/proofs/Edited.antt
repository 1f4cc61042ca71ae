-- An edit of a tag that was seen, once its value is taken: put into the row, drafted, sealed, judged by the locks and stored.
use Rattle.std.specs.Prelude.{Result, Ok, Err}
use mathlib.Core.Path.{◌≡◌, refl, sym, ap, ap₂, ◌∙◌}
use Prim.Native.Nat.{ℕ, ◌+◌, ◌%◌, ◌≤◌}
use native.Mathlib.Omega.{arith}
use mathlib.Core.Bool.{true}
use mathlib.Core.List.{List, ◌++◌}
use lib.Dec.{eqb}
use lib.ListN.{length, get_or, take, drop, set, replicate, length-append, length-drop}
use lib.Seq.{take-length, take_at}
use Rattle.format.specs.Answers.{Step, got, refused, plain, need, in_order}
use Rattle.format.specs.Bytes.{bytes, part, joined, filled}
use Rattle.format.specs.Pages.{page_size, good_size, lock_map, changed, locked_changed}
use Rattle.format.specs.Elements.{Content, place, known, value, el, put}
use Rattle.format.specs.Layout.{image, fits}
use Rattle.format.specs.Reading.{content_in}
use Rattle.format.specs.Calls.{own_layout}
use Rattle.format.specs.Pieces.{from, nowhere}
use Rattle.format.specs.Numbers.{reason_number, given, Edits}
use Rattle.format.specs.declared.Part.{Part}
use Rattle.format.specs.declared.Reason.{Reason}
use Rattle.format.specs.declared.Refusal.TheVariants as refusal
use Rattle.format.proofs.Tests.{and_l}
use Rattle.format.proofs.Answers.{afterwards-got}
use Rattle.format.proofs.Pieces.{copy-fills}
use Rattle.format.proofs.Values.{value-short}
use Rattle.format.proofs.Layouts.{image-length}
use Rattle.format.proofs.Laying.{drafted-fits}
use Rattle.rows.specs.Rows.{slots_at, Stands}
use Rattle.look.specs.declared.View.{View}
use Rattle.look.specs.View.{made_in, Sighted}
use Rattle.look.proofs.Judged.{seen_most}
use Rattle.look.proofs.Laws.{Seen}
use Rattle.image.specs.Drafting.{Fresh, sealing, unsealed, drafting, Draftable, Drafted}
use Rattle.image.proofs.Laws.{sealed-layout}
use Rattle.pages.specs.Storing.{lock_judged, count_stored, tag_stored}
use Rattle.pages.proofs.Laws.{good-size-whole, lock-step, stored-count, stored-tag}
use Rattle.pages.specs.Storing.{Sized}
use Rattle.editing.proofs.Editor.{value_steps, edit-known, edit-value, old-room, draft-edits, lock-edits, done-edits}
use Rattle.editing.proofs.Rows.{old-stands, old-is, edited-slots, edited-draftable}
use Rattle.editing.proofs.Own.{least, blocks-are, one_piece}

-- what is known where an edit is put into the row; `seen` is what looking made
pub record Taken (t locks : List ℕ) (n : ℕ) (s buffer : List ℕ) (row : List Part) (seen : List ℕ) (v : View) : Type 0 where
  pub all-bytes : bytes t ≡ true
  pub sized : Sized t locks
  pub sighted : Sighted t (replicate 19 0) row seen v
  pub held : Seen t (replicate 19 0)
  pub own : own_layout t ≡ true
  pub valued : in_order {A = Unit {0}} (value_steps n s (length buffer)) tt ≡ got tt

-- and how it is put there: `lent` has what looking made at its front, `full` the new bytes behind it
pub record Put (t : List ℕ) (n : ℕ) (s : List ℕ) (row : List Part) (seen lent : List ℕ) (row' : List Part) (full : List ℕ) (was : Part) : Type 0 where
  pub lent_is : lent ≡ take (length seen) seen ++ drop (length seen) (replicate 274 0)
  pub row-is : row' ≡ set row (place n) (from (length t + 19) (length s))
  pub full_is : full ≡ take 19 lent ++ (s ++ drop (19 + length s) lent)
  pub was-is : was ≡ get_or row (place n) nowhere

module _ (t locks : List ℕ) (n : ℕ) (s buffer : List ℕ) (row : List Part) (seen : List ℕ) (v : View) (k : Taken t locks n s buffer row seen v) where
  abbrev c : Content
  c = content_in t

  abbrev edited : Content
  edited = put c n s

  abbrev made : List ℕ
  made = filled (made_in t) (replicate 19 0)

  edits-known : known n ≡ true
  edits-known = edit-known t locks n s buffer k.sized k.sighted.seen k.own k.valued

  edits-value : value n s ≡ true
  edits-value = edit-value t locks n s buffer k.sized k.sighted.seen k.own k.valued

  pub seen-length : length seen ≡ 19
  seen-length = ap length k.sighted.made-is ∙ k.held.made-length

  -- what `put` asks
  pub put-asks : (known n ≡ true) × (length s ≤ 255) × (length t ≤ 2048)
  put-asks = (edits-known, value-short n s edits-value, seen_most t k.sighted.seen)

  pub old-fits : length (el c n) ≤ length buffer
  old-fits = old-room t locks n s buffer k.sized k.sighted.seen k.own k.valued k.all-bytes

  module _ (lent : List ℕ) (row' : List Part) (full : List ℕ) (was : Part) (p : Put t n s row seen lent row' full was) where
    abbrev rest : List ℕ
    rest = drop (19 + length s) lent

    lent-shape : lent ≡ seen ++ drop 19 (replicate 274 0)
    lent-shape = p.lent_is ∙ ap₂ (λ (x : List ℕ) (i : ℕ). x ++ drop i (replicate 274 0)) (take-length seen) seen-length

    full-shape : full ≡ made ++ (s ++ rest)
    full-shape =
        p.full_is ∙ ap (λ (x : List ℕ). x ++ (s ++ rest)) (ap (take 19) lent-shape ∙ take_at seen (drop 19 (replicate 274 0)) 19 seen-length ∙ k.sighted.made-is)

    pub full-length : 274 ≡ length full
    full-length =
        let l : length lent ≡ 274 = ap length lent-shape ∙ omega (arith, length-append seen (drop 19 (replicate 274 0)), seen-length) in
        omega (
          arith,
          ap length full-shape,
          length-append made (s ++ rest),
          length-append s rest,
          length-drop (19 + length s) lent,
          k.held.made-length,
          put-asks.1,
        )

    slots-are : slots_at (t ++ full) row' ≡ edited.slots
    slots-are =
        rw (p.row-is, full-shape, k.sighted.row-is) (edited-slots t k.all-bytes k.sighted.seen k.held n edits-known s rest edits-value)

    pub edited-asks : (d : List ℕ) → Fresh d t → Draftable t full row' d
    edited-asks d f =
        let l : 32 ≤ length d = omega (arith, f.long, least t row seen d v k.all-bytes k.sighted f k.held) in
        rw (p.row-is, full-shape, k.sighted.row-is)
        (edited-draftable t k.all-bytes k.sighted.seen k.held n edits-known s rest edits-value d l f.blank)

    -- the old element
    pub old-there : Stands t full was
    old-there =
        rw (p.was-is, full-shape, k.sighted.row-is) (old-stands t k.all-bytes k.sighted.seen k.held n edits-known (s ++ rest))

    pub old-bytes : part was.at was.len (t ++ full) ≡ el c n
    old-bytes =
        rw (p.was-is, full-shape, k.sighted.row-is) (old-is t k.all-bytes k.sighted.seen k.held n edits-known (s ++ rest))

    -- ---- drafted

    module _ (d₀ : List ℕ) (f : Fresh d₀ t) (carried : List ℕ) (e : carried ≡ part v.blocks.at v.blocks.len (t ++ full)) (r : Result (Unit {0}) Reason) (d₁ : List ℕ) (q : Drafted t full row' carried d₀ r d₁) where
      pieced : carried ≡ joined edited.carried
      unfolding put
      pieced =
          let o = one_piece t row seen d₀ v k.all-bytes k.sighted f k.held k.own in
          e ∙ blocks-are t row seen d₀ v k.all-bytes k.sighted f k.held o full

      drafted : given r ≡ drafting (length t) edited.slots (joined edited.carried)
      drafted = q.answered ∙ rw (f.long, slots-are, pieced)

      pub drafted-refused : (x : Reason) → given r ≡ refused (plain (reason_number x)) → Edits t locks n s buffer (Err (refusal.Plain x)) t buffer
      drafted-refused x e = draft-edits t locks n s buffer k.sized k.sighted.seen k.own k.valued x (sym drafted ∙ e)

      -- ---- sealed, and judged by the locks

      module _ (w : given r ≡ got tt) (d₂ : List ℕ) (g : d₂ ≡ sealing d₁) where
        passed : drafting (length t) edited.slots (joined edited.carried) ≡ got tt
        passed = sym drafted ∙ w

        fit : fits (length t) edited ≡ true
        unfolding drafting
        fit = drafted-fits {A = ℕ} page_size locks t edited 0 passed

        sealed : d₂ ≡ image (length t) edited
        sealed =
            let left : d₁ ≡ unsealed (length t) edited.slots (joined edited.carried) = q.left ∙ afterwards-got (given r) tt _ d₀ w ∙ rw (f.long, slots-are, pieced) in
            g ∙ ap sealing left ∙ sealed-layout (length t) edited.slots (joined edited.carried) (least t row seen d₀ v k.all-bytes k.sighted f k.held) fit

        long : length d₂ ≡ length t
        long = ap length sealed ∙ image-length (length t) edited fit

        module _ (u : Step) (l : u ≡ lock_judged page_size d₂ t locks) where
          judged : u ≡ need 12 (eqb (locked_changed page_size locks t (image (length t) edited)) 0)
          judged = l ∙ lock-step page_size d₂ t long locks ∙ ap (λ (x : List ℕ). need 12 (eqb (locked_changed page_size locks t x) 0)) sealed

          pub locked-refused : (x : Reason) → u ≡ refused (plain (reason_number x)) → Edits t locks n s buffer (Err (refusal.Plain x)) t buffer
          locked-refused x e = lock-edits t locks n s buffer k.sized k.sighted.seen k.own k.valued passed x (sym judged ∙ e)

          -- ---- and stored

          pub stored-edits : u ≡ got tt → (held : List ℕ) → held ≡ el c n → (i len : ℕ) (tag old : List ℕ) → i ≡ count_stored page_size d₂ t → len ≡ length held
              → tag ≡ tag_stored page_size d₂ t → old ≡ take (length held) held ++ drop (length held) buffer → Edits t locks n s buffer (Ok (record { pages = i; old = len })) tag old
          stored-edits e held eh i len tag old ei el et eo =
              let whole : length t % page_size ≡ 0 = good-size-whole page_size (length t) refl (and_l (good_size page_size (length t)) (lock_map page_size locks (length t)) k.sized) in
              done-edits t locks n s buffer k.sized k.sighted.seen k.own k.valued passed (sym judged ∙ e) i len tag old
              (ei ∙ stored-count page_size d₂ t long ∙ ap (changed page_size t) sealed) (el ∙ ap length eh) (et ∙ stored-tag page_size d₂ t long whole ∙ sealed)
              (copy-fills buffer held old eo ∙ ap (λ (x : List ℕ). filled x buffer) eh)
