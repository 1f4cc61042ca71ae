-- Demand 3, for every editor that keeps its promises of a single edit: any edits from a tag in the writer's own layout, and the way back.
use mathlib.Core.Path.{◌≡◌, refl, sym, ap, ap₂, ◌∙◌}
use Prim.Native.Nat.{ℕ, ◌≤◌}
use mathlib.Core.List.{List, [], ◌∷◌}
use lib.ListN.{length, take, drop}
use lib.Seq.{take-append_seam}
use Rattle.format.specs.Answers.{Answer, Refusal, got, refused}
use Rattle.format.specs.Pages.{changed, Kept}
use Rattle.format.specs.Elements.{Content, el, put}
use Rattle.format.specs.Layout.{image}
use Rattle.format.specs.Calls.{Edited, EditOutcome, Editor}
use Rattle.format.specs.History.{Own, Edit, State, begin, call, noted, edited, run, Back, Undoes, Undone}
use Rattle.format.specs.Demands.{EditsExactly, EditsUnchanged, CountsEdited, PutsElement}
use Rattle.format.proofs.Answers.{works, worked}
use Rattle.format.proofs.Laying.{laid_kept}
use Rattle.format.proofs.Edits.{Accepted, passed-edit, edit-passes, same_length, edited-own, home, undo-accepted}
use Rattle.format.proofs.Paging.{changed-sym, kept_trans, kept_refl}

module _ (edit : Editor) (exact : EditsExactly edit) (unchanged : EditsUnchanged edit) (counts : CountsEdited edit) (puts : PutsElement edit) (p : ℕ) (locks : List ℕ) where
  -- ---- one edit of a tag in the writer's own layout

  module _ (t : List ℕ) (c : Content) (o : Own c t) (n : ℕ) (s buffer : List ℕ) where
    accepted : (r : Edited) → (edit p t locks n s buffer).answer ≡ got r → Accepted p locks t c n s (length buffer)
    accepted r e = (passed-edit p locks t c o n s (length buffer) (tt {0}) (tt {0}) (works _ (tt {0}) ((exact p t locks n s buffer).worked r e))).0

    answers : Accepted p locks t c n s (length buffer) → (r : Edited) × ((edit p t locks n s buffer).answer ≡ got r)
    answers a = (exact p t locks n s buffer).works (worked _ (tt {0}) (tt {0}) (edit-passes p locks t c o n s (length buffer) (tt {0}) a)).0

    after : (r : Edited) → (edit p t locks n s buffer).answer ≡ got r → (edit p t locks n s buffer).tag ≡ image (length t) (put c n s)
    after r e =
        let h = puts p locks t c o n s buffer r e in
        sym h.1.lies ∙ ap (λ (m : ℕ). image m (put c n s)) h.0

    -- the old element as the desk keeps it
    handed : (r : Edited) → (edit p t locks n s buffer).answer ≡ got r → take r.old (edit p t locks n s buffer).old ≡ el c n
    handed r e =
        let h = puts p locks t c o n s buffer r e in
        ap₂ take h.2 h.3 ∙ take-append_seam (el c n) (drop (length (el c n)) buffer)

  -- the old element leads back
  module _ (t : List ℕ) (c : Content) (o : Own c t) (n : ℕ) (s buffer : List ℕ) (r : Edited) (e : (edit p t locks n s buffer).answer ≡ got r) where
    abbrev new : List ℕ
    new = image (length t) (put c n s)

    done : Accepted p locks t c n s (length buffer)
    done = accepted t c o n s buffer r e

    counted : r.pages ≡ changed p t new
    counted = counts p t locks n s buffer r e ∙ ap (changed p t) (after t c o n s buffer r e)

    led-back : (room : List ℕ) → 255 ≤ length room
        → let u = edit p new locks n (el c n) room in (u.tag ≡ t) × ((m : ℕ) × (u.answer ≡ got (record { pages = r.pages; old = m })))
    led-back room enough =
        let own = edited-own p locks t c o n s (length buffer) done in
        let u = answers new (put c n s) own n (el c n) room (undo-accepted p locks t c o n s (length buffer) done (length room) enough) in
        let tag : (edit p new locks n (el c n) room).tag ≡ t = after new (put c n s) own n (el c n) room u.0 u.1 ∙ home p locks t c o n s (length buffer) done in
        let pages : u.0.pages ≡ r.pages =
        counts p new locks n (el c n) room u.0 u.1 ∙ ap (changed p new) tag ∙ changed-sym p new t (same_length p locks t c o n s (length buffer) done) ∙ sym counted in
        (tag, (u.0.old, u.1 ∙ ap (λ (k : ℕ). got (record { pages = k; old = u.0.old })) pages))

    undoes : Undoes edit p locks new (record { number = n; old = el c n; before = t; pages = r.pages })
    unfolding Back
    undoes = record { counted = counted; back = led-back }

  -- ---- any edits

  -- what holds before the first edit and after each
  pub record Good (start : List ℕ) (st : State) : Type 0 where
    pub own : Own st.content st.tag
    pub size : length start ≡ length st.tag
    pub kept : Kept p locks start st.tag
    pub undone : Undone edit p locks st.tag st.kept

  -- a refused edit leaves everything
  refused-good : (start : List ℕ) (st : State) (e : Edit) (tag old : List ℕ) (a : Answer Edited) (x : Refusal) → a ≡ refused x → tag ≡ st.tag
      → Good start st → Good start (noted st e tag old a)
  unfolding noted
  refused-good start st e tag old a x h t g = rw (h, t) g

  -- an accepted one is applied, and can be undone
  accepted-good : (start : List ℕ) (st : State) (e : Edit) (r : Edited) → (call edit p locks st.tag e).answer ≡ got r
      → Good start st → Good start (noted st e (call edit p locks st.tag e).tag (call edit p locks st.tag e).old (got r))
  unfolding noted Undone
  accepted-good start st e r h g =
      let t : List ℕ = st.tag in
      let c : Content = st.content in
      let n : ℕ = e.number in
      let s : List ℕ = e.bytes in
      let room : ℕ = length e.room in
      let a : Accepted p locks t c n s room = accepted t c g.own n s e.room r h in
      let tag : (call edit p locks t e).tag ≡ image (length t) (put c n s) = after t c g.own n s e.room r h in
      let old : take r.old (call edit p locks t e).old ≡ el c n = handed t c g.own n s e.room r h in
      rw (tag, old) (record {
        own = edited-own p locks t c g.own n s room a;
        size = g.size ∙ sym (same_length p locks t c g.own n s room a);
        kept = kept_trans p locks start t (image (length t) (put c n s)) g.size g.kept (laid_kept p locks t (put c n s) a.laid);
        undone = (undoes t c g.own n s e.room r h, g.undone);
      })

  edited-good : (start : List ℕ) (st : State) (e : Edit) → Good start st → Good start (edited edit p locks st e)
  unfolding edited
  edited-good start st e g = go (call edit p locks st.tag e).answer refl
    where
      o : EditOutcome
      o = call edit p locks st.tag e

      go : (a : Answer Edited) → o.answer ≡ a → Good start (noted st e o.tag o.old o.answer)
      go (got r) h = rw h (accepted-good start st e r h g)
      go (refused x) h = refused-good start st e o.tag o.old o.answer x h (unchanged p st.tag locks e.number e.bytes e.room x h).0 g

  pub history : (start : List ℕ) (st : State) (es : List Edit) → Good start st → Good start (run edit p locks st es)
  unfolding run
  history start st [] g = g
  history start st (e ∷ es) g = history start (edited edit p locks st e) es (edited-good start st e g)

  pub begun : (t : List ℕ) (c : Content) → Own c t → Good t (begin t c)
  unfolding Undone
  begun t c o = record { own = o; size = refl; kept = kept_refl p locks t; undone = tt }
