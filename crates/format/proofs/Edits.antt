-- One edit on the writer's own layout: what it does, and that the old element undoes it.
use mathlib.Core.Path.{◌≡◌, ap, ap₂, ◌∙◌}
use Prim.Native.Nat.{ℕ, ◌≤◌}
use mathlib.Core.Bool.{true, ◌&&◌}
use mathlib.Core.List.{List}
use lib.ListN.{length}
use borrow.Author.Tests.{leb-true, le-leb}
use Rattle.format.specs.Answers.{got, in_order}
use Rattle.format.specs.Pages.{good_size, lock_map, locked_changed}
use Rattle.format.specs.Elements.{Content, known, el, put, value}
use Rattle.format.specs.Layout.{image, fits}
use Rattle.format.specs.Reading.{content_in}
use Rattle.format.specs.Calls.{edit_steps}
use Rattle.format.specs.History.{Own}
use Rattle.format.proofs.Tests.{and_l, and_r, and_i}
use Rattle.format.proofs.Answers.{next-ok, next-inv}
use Rattle.format.proofs.Readable.{readable-on, on-readable}
use Rattle.format.proofs.Slots.{sound-parts, value_of, put-sound, put_back, put_same}
use Rattle.format.proofs.Paging.{locked-sym, locked-self}
use Rattle.format.proofs.Laying.{Laid, laid_on, on-laid, laid-length, laid-own, own_read, own-layout}

-- an edit of the elements c on tag t passes the steps behind 7
pub record Accepted (p : ℕ) (locks t : List ℕ) (c : Content) (n : ℕ) (s : List ℕ) (room : ℕ) : Type 0 where
  pub sized : good_size p (length t) && lock_map p locks (length t) ≡ true
  pub roomy : 255 ≤ room
  pub named : known n ≡ true
  pub valued : value n s ≡ true
  pub laid : Laid p locks t (put c n s)

pub edit-passed : {A : Type 0} (p : ℕ) (t locks : List ℕ) (n : ℕ) (s : List ℕ) (room : ℕ) (v r : A) → in_order (edit_steps p room t locks n s) v ≡ got r
    → Accepted p locks t (content_in t) n s room × (v ≡ r)
unfolding edit_steps
edit-passed p t locks n s room v r e =
    let a = next-inv _ _ _ v r e in
    let b = on-readable t _ v r a.1 in
    let d = next-inv _ _ _ v r b.1 in
    let f = next-inv _ _ _ v r d.1 in
    let g = next-inv _ _ _ v r f.1 in
    let h = on-laid p locks t (put (content_in t) n s) v r g.1 in (
      record {
        sized = a.0;
        roomy = leb-true 255 room f.0;
        named = and_l (known n) (value n s) g.0;
        valued = and_r (known n) (value n s) g.0;
        laid = h.0;
      },
      h.1,
    )

module _ (p : ℕ) (locks t : List ℕ) (c : Content) (o : Own c t) where
  -- the tag holds the elements that it was laid down for
  pub own-elements : good_size p (length t) && lock_map p locks (length t) ≡ true → content_in t ≡ c
  own-elements z = (own_read p c t (and_l (good_size p (length t)) (lock_map p locks (length t)) z) o).1

  pub edit-passes : {A : Type 0} (n : ℕ) (s : List ℕ) (room : ℕ) (v : A) → Accepted p locks t c n s room → in_order (edit_steps p room t locks n s) v ≡ got v
  unfolding edit_steps
  edit-passes n s room v a =
      let g = and_l (good_size p (length t)) (lock_map p locks (length t)) a.sized in
      let r = own_read p c t g o in
      next-ok _ _ _ v a.sized ∙ readable-on t _ v r.0 ∙ next-ok _ _ _ v (own-layout p c t g o) ∙ next-ok _ _ _ v (le-leb 255 room a.roomy)
      ∙ next-ok _ _ _ v (and_i a.named a.valued) ∙ laid_on p locks t (put (content_in t) n s) v (rw r.1 a.laid)

  pub passed-edit : {A : Type 0} (n : ℕ) (s : List ℕ) (room : ℕ) (v r : A) → in_order (edit_steps p room t locks n s) v ≡ got r
      → Accepted p locks t c n s room × (v ≡ r)
  passed-edit n s room v r e =
      let a = edit-passed p t locks n s room v r e in
      (rw (own-elements a.0.sized) at a.0, a.1)

-- ---- after an accepted edit

module _ (p : ℕ) (locks t : List ℕ) (c : Content) (o : Own c t) (n : ℕ) (s : List ℕ) (room : ℕ) (a : Accepted p locks t c n s room) where
  abbrev new : List ℕ
  new = image (length t) (put c n s)

  pub same_length : length new ≡ length t
  same_length = laid-length p locks t (put c n s) a.laid

  -- the tag is the writer's own layout of the edited elements
  pub edited-own : Own (put c n s) new
  edited-own = laid-own p locks t (put c n s) a.laid (put-sound c o.sane n a.named s a.valued a.laid.clear)

  back : put (put c n s) n (el c n) ≡ c
  back = put_back c n s

  pub home : image (length new) (put (put c n s) n (el c n)) ≡ t
  home = ap₂ image same_length back ∙ o.lies

  -- the old element is accepted there
  pub undo-accepted : (room' : ℕ) → 255 ≤ room' → Accepted p locks new (put c n s) n (el c n) room'
  undo-accepted room' h = record {
    sized = ap (λ (k : ℕ). good_size p k && lock_map p locks k) same_length ∙ a.sized;
    roomy = h;
    named = a.named;
    valued = value_of c o.sane n a.named;
    laid = record {
      clear = rw back (sound-parts c o.sane).clear;
      fit = ap₂ fits same_length back ∙ o.fit;
      unlocked = ap (locked_changed p locks new) home ∙ locked-sym p locks new t same_length ∙ a.laid.unlocked;
    };
  }

-- ---- setting what is there, or removing what is absent

pub same-accepted : (p : ℕ) (locks t : List ℕ) (c : Content) (o : Own c t) (n : ℕ) (room : ℕ)
    → good_size p (length t) && lock_map p locks (length t) ≡ true → 255 ≤ room → known n ≡ true → Accepted p locks t c n (el c n) room
same-accepted p locks t c o n room z r k = record {
  sized = z;
  roomy = r;
  named = k;
  valued = value_of c o.sane n k;
  laid = record {
    clear = rw (put_same c n) (sound-parts c o.sane).clear;
    fit = rw (put_same c n) o.fit;
    unlocked = rw (put_same c n) (ap (locked_changed p locks t) o.lies ∙ locked-self p locks t);
  };
}
