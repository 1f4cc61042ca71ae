-- What taking apart comes to, by what each stage of the code found.
use mathlib.Core.Path.{◌≡◌, refl, sym, ap, ap₂, ◌∙◌}
use Prim.Native.Nat.{ℕ}
use mathlib.Core.Bool.{Bool, true, not, ◌&&◌, ◌||◌}
use mathlib.Core.List.{List, [], ◌∷◌}
use lib.ListN.{length, drop}
use Rattle.format.specs.Answers.{Answer, plain, got, refused, Step, need, in_order}
use Rattle.format.specs.Bytes.{up_to, le16}
use Rattle.format.specs.Elements.{set_bytes, form}
use Rattle.std.specs.Prelude.{Ok, Err}
use Rattle.format.specs.Numbers.{reason_number, number_of}
use Rattle.format.specs.declared.Reason.{Reason}
use Rattle.format.specs.declared.Reason.TheVariants as reason
use Rattle.format.specs.Pieces.{Stored}
use Rattle.format.proofs.Answers.{need-inv, need-refused, next-ok, next-no, none-ok, first-no, refused-on, passed_on, worked}
use Rattle.format.proofs.Pieces.{stored-front}
use Rattle.format.proofs.Tests.{and_left}
use Rattle.identifier.specs.Parts.{dot, parts}
use Rattle.identifier.specs.Elements.{Elements, three, right_count, isil_part, item_part, set_place, pointing, good_set, good_parts, set_of, elements_of}
use Rattle.identifier.specs.Calls.{Lengths, lengths, room_for, part_steps, filled_all, parting, FillsThree}
use Rattle.identifier.proofs.Outcomes.{room-for, short-for, three-refused, three-done}
use Rattle.identifier.specs.Demands.{Room, Short}
use Rattle.parting.specs.Places.{isil_in, rest_in, place_in}
use Rattle.parting.specs.declared.set.Set.{Set}
use Rattle.parting.specs.Sets.{numbers_in, stands_in}
use Rattle.parting.proofs.Finding.{isil-found, item-found, set_found}

-- the number that a refusing stage gives
pub number-given : {A : Type 0} (a : Answer A) {k n : ℕ} → a ≡ refused (plain k) → n ≡ number_of a → a ≡ refused (plain n)
number-given a e h = e ∙ ap (λ j. refused (plain j)) (sym (h ∙ ap number_of e))

three-same : {A : Type 0} {a b c a' b' c' : A} → a ≡ a' → b ≡ b' → c ≡ c' → three a b c ≡ three a' b' c'
three-same p q r = rw (p, q, r) refl

set-numbers : (ps : List (List ℕ)) → set_bytes (numbers_in ps).total (numbers_in ps).ordinal ≡ set_of ps
unfolding set_of numbers_in
set-numbers [] = refl
set-numbers (p ∷ ps) = refl

-- past the count of parts: what code found, by the text
pub record Found (leads : Bool) (s owner rest name : List ℕ) : Type 0 where
  pub counted : need 22 (right_count leads (parts s)) ≡ got tt
  pub owner-found : owner ≡ isil_in leads s
  pub rest-found : rest ≡ rest_in leads s
  pub name-found : name ≡ up_to dot rest

module _ (leads : Bool) (s : List ℕ) (buffers : Elements) where
  abbrev out : Elements
  out = elements_of leads (parts s)

  abbrev answer : Answer Lengths
  answer = in_order (part_steps leads (lengths buffers) (parts s)) (lengths out)

  -- ---- 22

  pub count-refused : {r : Reason} → need 22 (right_count leads (parts s)) ≡ refused (plain (reason_number r)) → FillsThree (parting leads s buffers) (Err r) buffers
  unfolding part_steps
  count-refused {r} e = three-refused leads s buffers (first-no _ _ (lengths out) (plain (reason_number r)) e)

  -- ---- behind the count: what code found are the parts

  module _ {owner rest name : List ℕ} (found : Found leads s owner rest name) where
    abbrev good_names : Bool
    good_names = (not leads || form 3 owner) && form 1 name

    right : right_count leads (parts s) ≡ true
    right = need-inv 22 _ tt found.counted

    owner-is : owner ≡ isil_part leads (parts s)
    owner-is = found.owner-found ∙ sym (isil-found leads s)

    name-is : name ≡ item_part leads (parts s)
    name-is = found.name-found ∙ ap (up_to dot) found.rest-found ∙ sym (item-found leads s right)

    place_is : place_in (drop (length name) rest) ≡ set_place leads (parts s)
    place_is =
        ap (λ (l : List ℕ). place_in (drop (length l) rest)) found.name-found
        ∙ ap (λ (l : List ℕ). place_in (drop (length (up_to dot l)) l)) found.rest-found
        ∙ sym (set_found leads s right)

    abbrev steps : Bool → List Step
    steps good = need 6 good ∷ need 23 (not (pointing (set_place leads (parts s)))) ∷ need 2 (room_for (lengths buffers) out) ∷ []

    behind-count : answer ≡ in_order (steps (good_names && good_set (set_place leads (parts s)))) (lengths out)
    unfolding part_steps good_parts
    behind-count =
        next-ok 22 _ _ (lengths out) right
        ∙ ap₂ (λ (o n : List ℕ). in_order (steps ((not leads || form 3 o) && form 1 n && good_set (set_place leads (parts s)))) (lengths out)) (sym owner-is) (sym name-is)

    -- ---- 6, a name

    pub names-refused : {r : Reason} → need 6 good_names ≡ refused (plain (reason_number r)) → FillsThree (parting leads s buffers) (Err r) buffers
    names-refused {r} e =
        let n = need-refused 6 good_names (plain (reason_number r)) e in
        three-refused leads s buffers (behind-count ∙ next-no 6 _ _ (lengths out) (and_left good_names _ n.0) ∙ ap refused (sym n.1))

    -- ---- 6 and 23, the set's place

    module _ (named : need 6 good_names ≡ got tt) where
      behind-names : answer ≡ in_order (steps (good_set (set_place leads (parts s)))) (lengths out)
      behind-names = behind-count ∙ ap (λ (b : Bool). in_order (steps (b && good_set (set_place leads (parts s)))) (lengths out)) (need-inv 6 good_names tt named)

      pub set-refused : {r : Reason} → stands_in (place_in (drop (length name) rest)) ≡ refused (plain (reason_number r)) → FillsThree (parting leads s buffers) (Err r) buffers
      unfolding stands_in
      set-refused {r} e =
          three-refused leads s buffers
          (behind-names ∙ refused-on (_ ∷ _ ∷ []) _ (numbers_in (set_place leads (parts s))) (lengths out) (plain (reason_number r)) (sym (ap stands_in place_is) ∙ e))

      module _ {n : Set} (said : stands_in (place_in (drop (length name) rest)) ≡ got n) where
        behind-set : answer ≡ in_order (need 2 (room_for (lengths buffers) out) ∷ []) (lengths out)
        unfolding stands_in
        behind-set =
            behind-names ∙ passed_on (_ ∷ _ ∷ []) _ (numbers_in (set_place leads (parts s))) n (lengths out) (sym (ap stands_in place_is) ∙ said)

        set_is : set_bytes n.total n.ordinal ≡ set_of (set_place leads (parts s))
        unfolding stands_in
        set_is =
            let e : numbers_in (set_place leads (parts s)) ≡ n = (worked _ (numbers_in (set_place leads (parts s))) n (sym (ap stands_in place_is) ∙ said)).1 in
            ap (λ (m : Set). set_bytes m.total m.ordinal) (sym e) ∙ set-numbers (set_place leads (parts s))

        -- what code has found are the elements
        abbrev its : Elements
        its = three name owner (set_bytes n.total n.ordinal)

        out-is : out ≡ its
        out-is = three-same (sym name-is) (sym owner-is) (sym set_is)

        -- ---- 2

        pub no_room : Short its buffers → FillsThree (parting leads s buffers) (Err reason.Room) buffers
        no_room h = three-refused leads s buffers (behind-set ∙ next-no 2 _ [] (lengths out) (ap (room_for (lengths buffers)) out-is ∙ short-for h))

        -- ---- done

        pub taken : {p q : ℕ} (item isil set : List ℕ) → Room its buffers
            → Stored buffers.item 0 name p item
            → Stored buffers.isil 0 owner q isil
            → Stored buffers.set 0 (set_bytes n.total n.ordinal) 4 set
            → FillsThree (parting leads s buffers) (Ok (record { item = length name; isil = length owner; set = 4 })) (three item isil set)
        unfolding le16
        taken item isil set room si so ss =
            let done = behind-set ∙ next-ok 2 _ [] (lengths out) (ap (room_for (lengths buffers)) out-is ∙ room-for its buffers room) ∙ none-ok _ in
            three-done leads s buffers (three item isil set) (done ∙ ap (λ (e : Elements). got (lengths e)) out-is)
            (three-same (stored-front _ item name _ si).1 (stored-front _ isil owner _ so).1 (stored-front buffers.set set (set_bytes n.total n.ordinal) 4 ss).1
            ∙ ap (λ (e : Elements). filled_all e buffers) (sym out-is))
