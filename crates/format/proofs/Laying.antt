-- The last refusals of writing and editing, and what holds of a tag once they are passed.
use mathlib.Core.Path.{◌≡◌, ap, ◌∙◌}
use Prim.Native.Nat.{ℕ, ◌/◌, ◌≤◌}
use mathlib.Core.Bool.{Bool, true, false, not}
use mathlib.Core.List.{List, [], ◌∷◌}
use lib.Dec.{eqb}
use lib.ListN.{length}
use borrow.Author.Tests.{eqb-true, eq-eqb}
use Rattle.format.specs.Answers.{Refusal, got, refused, Step, need, in_order}
use Rattle.format.specs.Bytes.{same, joined}
use Rattle.format.specs.Pages.{good_size, lock_map, changed, locked_changed, open_pages, Kept}
use Rattle.format.specs.Elements.{Content, clash, sound}
use Rattle.format.specs.Layout.{has_layout, image, fits}
use Rattle.format.specs.Reading.{content_in, Readable}
use Rattle.format.specs.Calls.{laying_steps, own_layout}
use Rattle.format.specs.History.{Own}
use Rattle.format.proofs.Tests.{and_l, and_r, and_i, not_t, same_refl, same-eq}
use Rattle.format.proofs.Answers.{first-ok, first-no, next-ok, next-inv, none-ok, none-inv, refused-on, passed_on}
use Rattle.format.proofs.Layouts.{image-length, read_back}
use Rattle.format.proofs.Paging.{locked-kept, changed-open}

-- elements c may be laid down on tag t
pub record Laid (p : ℕ) (locks t : List ℕ) (c : Content) : Type 0 where
  pub clear : clash c.slots ≡ false
  pub fit : fits (length t) c ≡ true
  pub unlocked : locked_changed p locks t (image (length t) c) ≡ 0

pub laid_on : {A : Type 0} (p : ℕ) (locks t : List ℕ) (c : Content) (a : A) → Laid p locks t c → in_order (laying_steps p locks t c) a ≡ got a
unfolding laying_steps
laid_on p locks t c a h = next-ok _ _ _ a (ap not h.clear) ∙ next-ok _ _ _ a h.fit ∙ next-ok _ _ _ a (eq-eqb _ 0 h.unlocked) ∙ none-ok a

pub on-laid : {A : Type 0} (p : ℕ) (locks t : List ℕ) (c : Content) (a b : A) → in_order (laying_steps p locks t c) a ≡ got b → Laid p locks t c × (a ≡ b)
unfolding laying_steps
on-laid p locks t c a b e =
    let x = next-inv _ _ _ a b e in
    let y = next-inv _ _ _ a b x.1 in
    let z = next-inv _ _ _ a b y.1 in
    (record { clear = not_t (clash c.slots) x.0; fit = y.0; unlocked = eqb-true _ 0 z.0 }, none-inv a b z.1)

module _ (p : ℕ) (locks t : List ℕ) (c : Content) (l : Laid p locks t c) where
  pub laid-length : length (image (length t) c) ≡ length t
  laid-length = image-length (length t) c l.fit

  -- the new tag is the writer's own layout
  pub laid-own : sound c ≡ true → Own c (image (length t) c)
  laid-own s = record { sane = s; fit = ap (λ (n : ℕ). fits n c) laid-length ∙ l.fit; lies = ap (λ (n : ℕ). image n c) laid-length }

  pub laid_kept : Kept p locks t (image (length t) c)
  laid_kept = locked-kept p locks t (image (length t) c) l.unlocked

  -- no more pages change than are open
  pub laid-open : lock_map p locks (length t) ≡ true → changed p t (image (length t) c) ≤ open_pages locks
  unfolding lock_map
  laid-open m = changed-open p locks t (image (length t) c) (eqb-true (length locks) (length t / p) (and_l _ _ m)) l.unlocked

-- ---- the steps as the code takes them: 10 and 11 by drafting, 12 by comparing with the locked pages

abbrev pub draft_steps : ℕ → List (List ℕ) → List ℕ → List Step
draft_steps n ss blocks = need 10 (not (clash ss)) ∷ need 11 (has_layout n ss blocks) ∷ []

module _ {A : Type 0} (p : ℕ) (locks t : List ℕ) (c : Content) (a : A) where
  abbrev drafts : List Step
  drafts = draft_steps (length t) c.slots (joined c.carried)

  abbrev unlocks : Step
  unlocks = need 12 (eqb (locked_changed p locks t (image (length t) c)) 0)

  pub draft-refused : (x : Refusal) → in_order {A = Unit {0}} drafts tt ≡ refused x → in_order (laying_steps p locks t c) a ≡ refused x
  unfolding laying_steps
  draft-refused x e = refused-on drafts (unlocks ∷ []) tt a x e

  module _ (d : in_order {A = Unit {0}} drafts tt ≡ got tt) where
    pub drafted-fits : fits (length t) c ≡ true
    drafted-fits = (next-inv 11 _ _ tt tt (next-inv 10 _ _ tt tt d).1).0

    drafted-on : in_order (laying_steps p locks t c) a ≡ in_order (unlocks ∷ []) a
    unfolding laying_steps
    drafted-on = passed_on drafts (unlocks ∷ []) tt tt a d

    pub lock-refused : (x : Refusal) → unlocks ≡ refused x → in_order (laying_steps p locks t c) a ≡ refused x
    lock-refused x e = drafted-on ∙ first-no unlocks [] a x e

    pub lock-passed : unlocks ≡ got tt → in_order (laying_steps p locks t c) a ≡ got a
    lock-passed e = drafted-on ∙ first-ok unlocks [] a e ∙ none-ok a

-- ---- a tag in the writer's own layout

-- it reads as the elements that it was laid down for
pub own_read : (p : ℕ) (c : Content) (t : List ℕ) → good_size p (length t) ≡ true → Own c t → Readable t × (content_in t ≡ c)
own_read p c t g o = let r = read_back p (length t) c g o.sane o.fit in (rw o.lies at r.0, rw o.lies at r.1)

-- so the editor takes it for one
pub own-layout : (p : ℕ) (c : Content) (t : List ℕ) → good_size p (length t) ≡ true → Own c t → own_layout t ≡ true
unfolding own_layout
own-layout p c t g o =
    let r = own_read p c t g o in
    rw r.1 (and_i o.fit (ap (λ (s : List ℕ). same s t) o.lies ∙ same_refl t))

pub layout-own : (t : List ℕ) → sound (content_in t) ≡ true → own_layout t ≡ true → Own (content_in t) t
unfolding own_layout
layout-own t s e =
    let f : Bool = fits (length t) (content_in t) in
    let i : Bool = same (image (length t) (content_in t)) t in
    record { sane = s; fit = and_l f i e; lies = same-eq _ t (and_r f i e) }
