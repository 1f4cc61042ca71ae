-- A number of the set information stays what it is, or is refused.
use mathlib.Core.Path.{◌≡◌, refl, sym, ap, subst, ◌∙◌}
use Prim.Native.Nat.{ℕ, ◌<◌}
use native.Mathlib.Omega.{arith}
use mathlib.Core.Bool.{Bool, true, false, not}
use mathlib.Core.List.{List, [], ◌∷◌, ◌++◌}
use Rattle.format.specs.Bytes.{all, is_empty, word}
use Rattle.format.specs.Elements.{parts_of, ordinal_of}
use Rattle.format.proofs.Tests.{all_append}
use Rattle.words.proofs.Cases.{decide}
use Rattle.identifier.specs.Parts.{dot, parts}
use Rattle.identifier.specs.SetDigits.{digit, total_in, ordinal_in}
use Rattle.identifier.specs.Elements.{Elements, right_count, good_parts, good_set, set_place, set_of, elements_of}
use Rattle.identifier.specs.Calls.{parting, joining}
use Rattle.identifier.specs.Meaning.{item, isil as led, none, set, same_numbers, SetPart, Holds, holds, Tells, tells}
use Rattle.identifier.specs.Demands.{KeepsNumbers}
use Rattle.identifier.proofs.Digits.{digits-all}
use Rattle.identifier.proofs.Sets.{bytes-numbers, halves-read, form-four, set-total, set-numbers, digits-whole, digits-not-s}
use Rattle.identifier.proofs.Holding.{parts-x-p, parts-i, good-parts, set-in, holds-found}
use Rattle.identifier.proofs.Outcomes.{bad-no}
use Rattle.identifier.proofs.Promises.{joins-elements, done-given, fronts-given, made-given}

-- what stands in the set's place
record Told (leads : Bool) (ps : List (List ℕ)) (t o : ℕ) : Type 0 where
  right : right_count leads ps ≡ true
  part : List ℕ
  stands : set_place leads ps ≡ part ∷ []
  in-digits : all digit part ≡ true
  total : total_in part ≡ t
  ordinal : ordinal_in part ≡ o

told : {leads : Bool} {s : List ℕ} {t o : ℕ} → Tells leads s t o → Told leads (parts s) t o
unfolding right_count
told (tells {t} {o} {x} {a} {b} item it d f) =
    let all_digits = all_append digit a b (digits-all d) (digits-all f) in
    let r = halves-read d f in
    subst (λ (ps : List (List ℕ)). Told false ps t o) (sym (parts-x-p x (a ++ b) it (digits-whole (a ++ b) all_digits)))
    (record { right = refl; part = a ++ b; stands = refl; in-digits = all_digits; total = r.0; ordinal = r.1 })
told (tells {t} {o} {x} {a} {b} (led {i} g) it d f) =
    let all_digits = all_append digit a b (digits-all d) (digits-all f) in
    let r = halves-read d f in
    let split = parts-i i (x ++ (dot ∷ (a ++ b))) g ∙ ap (◌∷◌ i) (parts-x-p x (a ++ b) it (digits-whole (a ++ b) all_digits)) in
    subst (λ (ps : List (List ℕ)). Told true ps t o) (sym split) (record { right = refl; part = a ++ b; stands = refl; in-digits = all_digits; total = r.0; ordinal = r.1 })

-- good parts have good set information there
told-set : (leads : Bool) (s : List ℕ) (t o : ℕ) (h : Told leads (parts s) t o) → good_parts leads (parts s) ≡ true → SetPart h.part (set_of (set_place leads (parts s)))
unfolding good_set
told-set leads s t o h g =
    let good = sym (ap good_set h.stands) ∙ (good-parts leads (parts s) g).2 in
    subst (λ (ps : List (List ℕ)). SetPart h.part (set_of ps)) (sym h.stands) (set-in h.part good (digits-not-s h.part h.in-digits))

-- what was made of elements says their numbers
made_tells : {leads : Bool} {s : List ℕ} {e : Elements} → Holds leads s e → 0 < parts_of e.set → Tells leads s (parts_of e.set) (ordinal_of e.set)
unfolding word
made_tells (holds b it none) l = absurd (omega arith)
made_tells (holds b it (set (set {t} {o} w m (same_numbers d f h k)))) l = let n = bytes-numbers t o in rw (n.0, n.1) (tells b it d f)

pub keeps-numbers : KeepsNumbers parting joining
unfolding parting
keeps-numbers =
    record {
      taken = λ leads s t o buffers n h g.
          let e : Elements = elements_of leads (parts s) in
          let it = told h in
          let found = (done-given leads s buffers n g).0 in
          let numbers = set-numbers (told-set leads s t o it (holds-found found).good) in
          let front = ap (λ (x : Elements). x.set) (fronts-given leads s buffers n g) in
          (ap parts_of front ∙ sym numbers.0 ∙ it.total, ap ordinal_of front ∙ sym numbers.1 ∙ it.ordinal);
      not_taken = λ leads s t o buffers h l.
          let it = told h in
          decide (good_parts leads (parts s))
          (λ g. let sp = told-set leads s t o it g in absurd (omega (arith, (set-total sp).1, (set-numbers sp).0, it.total)))
          (λ g. bad-no leads s buffers it.right g);
      put = λ e buffer n h l.
          let m = made-given e buffer n h in
          subst (λ (s : List ℕ). Tells (not (is_empty e.isil)) s (parts_of e.set) (ordinal_of e.set)) (sym m.0) (made_tells m.1 l);
      not-put = λ e buffer l. (joins-elements.bad e buffer).1 (λ k. omega (arith, (form-four e.set k.set).parts));
    }
