-- Editing: what the stages give is what editing must give.
use Rattle.std.specs.Prelude.{Ok, Err}
use mathlib.Core.Path.{◌≡◌, sym, ap₂, ◌∙◌}
use Prim.Native.Nat.{ℕ, ◌≤◌}
use native.Mathlib.Omega.{arith}
use mathlib.Core.Bool.{Bool, true, ◌&&◌}
use mathlib.Core.List.{List, [], ◌∷◌, ◌++◌}
use lib.Dec.{eqb, leb}
use lib.ListN.{length}
use borrow.Author.Tests.{leb-true}
use Rattle.format.specs.Answers.{plain, got, refused, Step, need, in_order}
use Rattle.format.specs.Bytes.{bytes, joined, filled}
use Rattle.format.specs.Pages.{page_size, good_size, lock_map, changed, locked_changed}
use Rattle.format.specs.Elements.{Content, el, put, known, value}
use Rattle.format.specs.Layout.{image}
use Rattle.format.specs.Reading.{content_in, tag_steps}
use Rattle.format.specs.Calls.{laying_steps, own_layout, edit_steps, editing}
use Rattle.format.specs.Numbers.{reason_number, refusal_given, Edits}
use Rattle.format.specs.declared.Edited.{Edited}
use Rattle.format.specs.declared.Reason.{Reason}
use Rattle.format.specs.declared.Refusal as code
use Rattle.format.specs.declared.Refusal.TheVariants as refusal
use Rattle.format.proofs.Tests.{and_l, and_r}
use Rattle.format.proofs.Answers.{first-no, next-ok, next-inv, refused-on, passed_on, afterwards-got, afterwards-refused}
use Rattle.format.proofs.Laying.{draft-refused, lock-refused, lock-passed}
use Rattle.format.proofs.Readable.{readable-on}
use Rattle.format.proofs.Slots.{value_of}
use Rattle.format.proofs.Values.{value-short}
use Rattle.look.specs.View.{judged}
use Rattle.look.proofs.Judged.{seen-readable, seen-sound}
use Rattle.image.specs.Drafting.{drafting}
use Rattle.pages.specs.Storing.{Sized}

-- 2 and 9
abbrev pub value_steps : ℕ → List ℕ → ℕ → List Step
value_steps n s room = need 2 (leb 255 room) ∷ need 9 (known n && value n s) ∷ []

module _ (t locks : List ℕ) (n : ℕ) (s buffer : List ℕ) where
  abbrev c : Content
  c = content_in t

  abbrev edited : Content
  edited = put c n s

  abbrev new : List ℕ
  new = image (length t) edited

  abbrev given : Edited
  given = record { pages = changed page_size t new; old = length (el c n) }

  abbrev sized : Bool
  sized = good_size page_size (length t) && lock_map page_size locks (length t)

  -- ---- refusals

  refused-edits : (x : code.Refusal) → (editing page_size t locks n s buffer).answer ≡ refused (refusal_given x) → Edits t locks n s buffer (Err x) t buffer
  unfolding editing
  refused-edits x a = record {
    answered = sym a;
    left = sym (afterwards-refused (editing page_size t locks n s buffer).answer (refusal_given x) _ t a);
    handed = sym (afterwards-refused (editing page_size t locks n s buffer).answer (refusal_given x) _ buffer a);
  }

  -- with its number alone
  abbrev Refuses : Reason → Type 0
  Refuses r = Edits t locks n s buffer (Err (refusal.Plain r)) t buffer

  number-edits : (r : Reason) → (editing page_size t locks n s buffer).answer ≡ refused (plain (reason_number r)) → Refuses r
  number-edits r a = refused-edits (refusal.Plain r) a

  pub size-edits : (r : Reason) → need 1 sized ≡ refused (plain (reason_number r)) → Refuses r
  unfolding editing edit_steps
  size-edits r e = number-edits r (first-no (need 1 sized) _ _ (plain (reason_number r)) e)

  module _ (z : Sized t locks) where
    pub look-edits : (x : code.Refusal) → judged t ≡ refused (refusal_given x) → Edits t locks n s buffer (Err x) t buffer
    unfolding editing edit_steps
    look-edits x j =
        let g = and_l (good_size page_size (length t)) (lock_map page_size locks (length t)) z in
        let f : in_order {A = Unit {0}} (tag_steps t) tt ≡ refused (refusal_given x) = sym (next-ok 1 (good_size page_size (length t)) (tag_steps t) tt g) ∙ j in
        refused-edits x (next-ok 1 sized _ _ z ∙ refused-on (tag_steps t) _ tt _ (refusal_given x) f)

    -- ---- a tag that was seen

    module _ (j : judged t ≡ got tt) where
      seen-answer : (editing page_size t locks n s buffer).answer ≡ in_order (need 13 (own_layout t) ∷ (value_steps n s (length buffer)) ++ laying_steps page_size locks t edited) given
      unfolding editing edit_steps
      seen-answer = next-ok 1 sized _ given z ∙ readable-on t _ given (seen-readable t j)

      pub own-edits : (r : Reason) → need 13 (own_layout t) ≡ refused (plain (reason_number r)) → Refuses r
      own-edits r e = number-edits r (seen-answer ∙ first-no (need 13 (own_layout t)) _ _ (plain (reason_number r)) e)

      module _ (o : own_layout t ≡ true) where
        pub value-edits : (r : Reason) → in_order {A = Unit {0}} (value_steps n s (length buffer)) tt ≡ refused (plain (reason_number r)) → Refuses r
        value-edits r e = number-edits r (seen-answer ∙ next-ok 13 (own_layout t) _ _ o ∙ refused-on (value_steps n s (length buffer)) _ tt given (plain (reason_number r)) e)

        -- ---- the rest is laying down

        module _ (p : in_order {A = Unit {0}} (value_steps n s (length buffer)) tt ≡ got tt) where
          past_two : (leb 255 (length buffer) ≡ true) × (in_order {A = Unit {0}} (need 9 (known n && value n s) ∷ []) tt ≡ got tt)
          past_two = next-inv 2 _ _ tt tt p

          past-nine : known n && value n s ≡ true
          past-nine = (next-inv 9 _ _ tt tt past_two.1).0

          pub edit-known : known n ≡ true
          edit-known = and_l (known n) (value n s) past-nine

          pub edit-value : value n s ≡ true
          edit-value = and_r (known n) (value n s) past-nine

          -- the old element has room
          pub old-room : bytes t ≡ true → length (el c n) ≤ length buffer
          old-room y = omega (arith, leb-true 255 (length buffer) past_two.0, value-short n (el c n) (value_of c (seen-sound t j y) n edit-known))

          reached : (editing page_size t locks n s buffer).answer ≡ in_order (laying_steps page_size locks t edited) given
          reached = seen-answer ∙ next-ok 13 (own_layout t) _ _ o ∙ passed_on (value_steps n s (length buffer)) _ tt tt given p

          pub draft-edits : (r : Reason) → drafting (length t) edited.slots (joined edited.carried) ≡ refused (plain (reason_number r)) → Refuses r
          unfolding drafting
          draft-edits r d = number-edits r (reached ∙ draft-refused page_size locks t edited _ (plain (reason_number r)) d)

          module _ (d : drafting (length t) edited.slots (joined edited.carried) ≡ got tt) where
            abbrev unlocks : Step
            unlocks = need 12 (eqb (locked_changed page_size locks t new) 0)

            pub lock-edits : (r : Reason) → unlocks ≡ refused (plain (reason_number r)) → Refuses r
            unfolding drafting
            lock-edits r l = number-edits r (reached ∙ lock-refused page_size locks t edited _ d (plain (reason_number r)) l)

            pub done-edits : unlocks ≡ got tt → (k len : ℕ) (tag old : List ℕ) → k ≡ changed page_size t new → len ≡ length (el c n) → tag ≡ new → old ≡ filled (el c n) buffer
                → Edits t locks n s buffer (Ok (record { pages = k; old = len })) tag old
            unfolding editing drafting
            done-edits l k len tag old ek el et eo =
                let a : (editing page_size t locks n s buffer).answer ≡ got given = reached ∙ lock-passed page_size locks t edited _ d l in
                record {
                  answered = ap₂ (λ (x w : ℕ). got (record { pages = x; old = w })) ek el ∙ sym a;
                  left = et ∙ sym (afterwards-got (editing page_size t locks n s buffer).answer given _ t a);
                  handed = eo ∙ sym (afterwards-got (editing page_size t locks n s buffer).answer given _ buffer a);
                }
