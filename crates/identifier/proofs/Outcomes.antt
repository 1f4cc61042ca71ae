-- Taking apart: which of its answers is given, and what the outcome is then.
use mathlib.Core.Path.{◌≡◌, sym, ap, ◌∙◌}
use Prim.Native.Nat.{ℕ}
use mathlib.Core.Bool.{Bool, true, false, not, ◌&&◌}
use mathlib.Core.List.{List}
use lib.ListN.{length}
use lib.Dec.{leb}
use Rattle.std.specs.Prelude.{Ok, Err}
use Rattle.format.specs.Numbers.{reason_number}
use Rattle.format.specs.declared.Reason.{Reason}
use borrow.Author.Tests.{le-leb, lt-leb, leb-true, leb-false}
use Rattle.format.specs.Answers.{Answer, got, refused, plain, in_order}
use Rattle.format.proofs.Answers.{next-ok, next-no, none-ok, afterwards-got, afterwards-refused}
use Rattle.format.proofs.Tests.{never, and_l, and_r, and_i, and_left, and_no}
use Rattle.words.proofs.Cases.{decide}
use Rattle.identifier.specs.declared.Parted as code
use Rattle.identifier.specs.Parts.{parts}
use Rattle.identifier.specs.Elements.{three, Elements, right_count, good_parts, pointing, set_place, elements_of}
use Rattle.identifier.specs.Calls.{Lengths, lengths, room_for, part_steps, filled_all, parting, FillsThree}
use Rattle.identifier.specs.Demands.{Room, Short, item, isil, set}

-- ---- room

pub room-for : (e buffers : Elements) → Room e buffers → room_for (lengths buffers) e ≡ true
unfolding room_for
room-for e buffers r = and_i (and_i (le-leb _ _ r.item) (le-leb _ _ r.isil)) (le-leb _ _ r.set)

pub for-room : (e buffers : Elements) → room_for (lengths buffers) e ≡ true → Room e buffers
unfolding room_for
for-room e buffers h =
    let a : Bool = leb (length e.item) (length buffers.item) in
    let b : Bool = leb (length e.isil) (length buffers.isil) in
    let c : Bool = leb (length e.set) (length buffers.set) in
    record {
      item = leb-true _ _ (and_l a b (and_l (a && b) c h));
      isil = leb-true _ _ (and_r a b (and_l (a && b) c h));
      set = leb-true _ _ (and_r (a && b) c h);
    }

pub short-for : {e buffers : Elements} → Short e buffers → room_for (lengths buffers) e ≡ false
unfolding room_for
short-for {e} {buffers} (item h) = and_left _ _ (and_left _ _ (lt-leb (length e.item) (length buffers.item) h))
short-for {e} {buffers} (isil h) = and_left _ _ (and_no (leb (length e.item) (length buffers.item)) _ (lt-leb (length e.isil) (length buffers.isil) h))
short-for {e} {buffers} (set h) = and_no (leb (length e.item) (length buffers.item) && leb (length e.isil) (length buffers.isil)) _ (lt-leb (length e.set) (length buffers.set) h)

pub for-short : (e buffers : Elements) → room_for (lengths buffers) e ≡ false → Short e buffers
for-short e buffers h =
    decide (leb (length e.item) (length buffers.item))
    (λ a.
    decide (leb (length e.isil) (length buffers.isil))
    (λ b.
    decide (leb (length e.set) (length buffers.set))
    (λ c. never (cc (room-for e buffers (record { item = leb-true _ _ a; isil = leb-true _ _ b; set = leb-true _ _ c }), h)))
    (λ c. set (leb-false _ _ c)))
    (λ b. isil (leb-false _ _ b)))
    (λ a. item (leb-false _ _ a))

-- ---- the answers

module _ (leads : Bool) (s : List ℕ) (buffers : Elements) where
  abbrev ps : List (List ℕ)
  ps = parts s

  abbrev its : Elements
  its = elements_of leads ps

  abbrev answer : Answer Lengths
  answer = in_order (part_steps leads (lengths buffers) ps) (lengths its)

  pub count_no : right_count leads ps ≡ false → answer ≡ refused (plain 22)
  unfolding part_steps
  count_no r = next-no 22 _ _ (lengths its) r

  pub bad-no : right_count leads ps ≡ true → good_parts leads ps ≡ false → answer ≡ refused (plain 6)
  unfolding part_steps
  bad-no r g = next-ok 22 _ _ (lengths its) r ∙ next-no 6 _ _ (lengths its) g

  pub pointing-no : right_count leads ps ≡ true → good_parts leads ps ≡ true → pointing (set_place leads ps) ≡ true → answer ≡ refused (plain 23)
  unfolding part_steps
  pointing-no r g n = next-ok 22 _ _ (lengths its) r ∙ next-ok 6 _ _ (lengths its) g ∙ next-no 23 _ _ (lengths its) (ap not n)

  pub short-no : right_count leads ps ≡ true → good_parts leads ps ≡ true → pointing (set_place leads ps) ≡ false → room_for (lengths buffers) its ≡ false → answer ≡ refused (plain 2)
  unfolding part_steps
  short-no r g n m = next-ok 22 _ _ (lengths its) r ∙ next-ok 6 _ _ (lengths its) g ∙ next-ok 23 _ _ (lengths its) (ap not n) ∙ next-no 2 _ _ (lengths its) m

  pub all-ok : right_count leads ps ≡ true → good_parts leads ps ≡ true → pointing (set_place leads ps) ≡ false → room_for (lengths buffers) its ≡ true → answer ≡ got (lengths its)
  unfolding part_steps
  all-ok r g n m =
      next-ok 22 _ _ (lengths its) r ∙ next-ok 6 _ _ (lengths its) g ∙ next-ok 23 _ _ (lengths its) (ap not n) ∙ next-ok 2 _ _ (lengths its) m ∙ none-ok (lengths its)

  -- one of the five is given, under its condition
  pub data Verdict : Type 0 where
    count : right_count leads ps ≡ false → answer ≡ refused (plain 22) → Verdict
    bad : right_count leads ps ≡ true → good_parts leads ps ≡ false → answer ≡ refused (plain 6) → Verdict
    points : right_count leads ps ≡ true → good_parts leads ps ≡ true → pointing (set_place leads ps) ≡ true → answer ≡ refused (plain 23) → Verdict
    short : right_count leads ps ≡ true → good_parts leads ps ≡ true → pointing (set_place leads ps) ≡ false → room_for (lengths buffers) its ≡ false → answer ≡ refused (plain 2) → Verdict
    done : right_count leads ps ≡ true → good_parts leads ps ≡ true → pointing (set_place leads ps) ≡ false → room_for (lengths buffers) its ≡ true → answer ≡ got (lengths its) → Verdict

  pub verdict : Verdict
  verdict =
      decide (right_count leads ps)
      (λ r.
      decide (good_parts leads ps)
      (λ g.
      decide (pointing (set_place leads ps))
      (λ n. points r g n (pointing-no r g n))
      (λ n. decide (room_for (lengths buffers) its) (λ m. done r g n m (all-ok r g n m)) (λ m. short r g n m (short-no r g n m))))
      (λ g. bad r g (bad-no r g)))
      (λ r. count r (count_no r))
      -- ---- the contract, once the answer is known

  pub three-refused : {r : Reason} → answer ≡ refused (plain (reason_number r)) → FillsThree (parting leads s buffers) (Err r) buffers
  unfolding parting
  three-refused {r} e = record { answered = sym e; left = sym (afterwards-refused _ (plain (reason_number r)) (filled_all its buffers) buffers e) }

  pub three-done : {p : code.Parted} (after : Elements) → answer ≡ got (three p.item p.isil p.set) → after ≡ filled_all its buffers → FillsThree (parting leads s buffers) (Ok p) after
  unfolding parting
  three-done {p} after e f = record { answered = sym e; left = f ∙ sym (afterwards-got _ (three p.item p.isil p.set) (filled_all its buffers) buffers e) }
