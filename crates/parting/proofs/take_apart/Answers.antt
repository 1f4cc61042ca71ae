-- Each way out is what its stage found; what is known past each stage has a name.
use Rattle.std.specs.Prelude.{Err}
use mathlib.Core.Path.{◌≡◌, refl, sym, ap, ◌∙◌}
use Prim.Native.Nat.{ℕ, ◌-◌}
use mathlib.Core.Bool.{Bool}
use mathlib.Core.List.{List}
use borrow.Author.Rules.{rules}
use lib.ListN.{length, take, drop}
use Rattle.std.proofs.lemmas.List.{take_rest}
use Rattle.format.specs.Answers.{got}
use Rattle.format.specs.Bytes.{le16}
use Rattle.format.specs.Numbers.{given}
use Rattle.identifier.specs.Demands.{item, isil, set}
use Rattle.parting.specs.declared.places.Cut.{Cut}
use Rattle.parting.specs.Places.{rest_in, place_in, cut_in}
use Rattle.parting.specs.Sets.{stands_in}
use Rattle.parting.proofs.Cutting.{Standing, cut_stands, cut-refused}
use Rattle.parting.proofs.Taking.{Found, count-refused, names-refused, set-refused, no_room, taken}
use Rattle.parting.proofs.take_apart.Goals.{then-item-name-via-then-item-name, then-item-name-via-else-item-name+then-isil-owner, then-item-name-via-else-item-name+else-isil-owner+then-set-lt4}
use Rattle.parting.proofs.take_apart.Goals as goal

-- the bytes of the identifier
abbrev name_of : List ℕ → Cut → List ℕ
name_of s c = take (c.end - c.item) (drop c.item s)

-- past the cut: what stands at the places found
record Past (leads : Bool) (s owner : List ℕ) (c : Cut) : Type 0 where
  stands : Standing leads s c
  found : Found leads s owner (rest_in leads s) (name_of s c)
  place : stands_in (place_in (take (length s - c.end) (drop c.end s))) ≡ stands_in (place_in (drop (length (name_of s c)) (rest_in leads s)))

past : (leads : Bool) (s owner : List ℕ) (c : Cut) → got c ≡ cut_in leads s → owner ≡ take c.isil s → Past leads s owner c
past leads s owner c e o =
    let t : Standing leads s c = cut_stands leads s c (sym e) in
    record {
      stands = t;
      found = record { counted = t.counted; owner-found = o ∙ t.isil; rest-found = refl; name-found = t.name };
      place = ap (λ (l : List ℕ). stands_in (place_in l)) (take_rest s c.end ∙ t.behind ∙ sym (ap (λ (l : List ℕ). drop (length l) (rest_in leads s)) t.name));
    }

pub returns-in_err-cut : goal.returns-in_err-cut
returns-in_err-cut c =
    let told : c.from_residual.result ≡ Err c.in_err-cut.field-0.0 = search rules in
    rw told (count-refused _ _ _ (cut-refused _ _ (sym c.cut_text.ensures ∙ ap given c.in_err-cut.was)))

pub slice_bounds-owner-end : goal.slice_bounds-owner-end
slice_bounds-owner-end c = let l = (cut_stands c.args.leads c.args.text.now c.in_ok-cut.cut (sym c.in_ok-cut.ensures)).led in search rules

pub slice_bounds-name-count : goal.slice_bounds-name-count
slice_bounds-name-count c = (cut_stands c.args.leads c.args.text.now c.in_ok-cut.cut (sym c.in_ok-cut.ensures)).ordered

pub slice_bounds-name-start : goal.slice_bounds-name-start
slice_bounds-name-start c = let l = (cut_stands c.args.leads c.args.text.now c.in_ok-cut.cut (sym c.in_ok-cut.ensures)).ordered in search rules

pub slice_bounds-name-end : goal.slice_bounds-name-end
slice_bounds-name-end c = let l = (cut_stands c.args.leads c.args.text.now c.in_ok-cut.cut (sym c.in_ok-cut.ensures)).ended in search rules

pub returns-in_err-names_stage : goal.returns-in_err-names_stage
returns-in_err-names_stage c =
    let p = past c.args.leads c.args.text.now (take c.in_ok-cut.cut.isil c.args.text.now) c.in_ok-cut.cut c.in_ok-cut.ensures refl in
    let told : c.from_residual-in_err-names_stage.result ≡ Err c.in_err-names_stage.field-0.0 = search rules in
    rw told (names-refused _ _ _ p.found (sym c.names_stage.ensures ∙ ap given c.in_err-names_stage.was))

pub slice_bounds-set_in-count : goal.slice_bounds-set_in-count
slice_bounds-set_in-count c = (cut_stands c.args.leads c.args.text.now c.in_ok-cut.cut (sym c.in_ok-cut.ensures)).ended

pub slice_bounds-set_in-start : goal.slice_bounds-set_in-start
slice_bounds-set_in-start c = let l = (cut_stands c.args.leads c.args.text.now c.in_ok-cut.cut (sym c.in_ok-cut.ensures)).ended in search rules

pub returns-in_err-said : goal.returns-in_err-said
returns-in_err-said c =
    let p = past c.args.leads c.args.text.now (take c.in_ok-cut.cut.isil c.args.text.now) c.in_ok-cut.cut c.in_ok-cut.ensures refl in
    let named = sym c.names_stage.ensures ∙ ap given c.in_ok-names_stage.was in
    let told : c.from_residual-in_err-said.result ≡ Err c.in_err-said.field-0.0 = search rules in
    rw told (set-refused _ _ _ p.found named (sym p.place ∙ sym c.set_in.ensures ∙ ap given c.in_err-said.was))

pub returns-then-item-name : goal.returns-then-item-name
unfolding le16
returns-then-item-name c =
    let p = past c.args.leads c.args.text.now (take c.in_ok-cut.cut.isil c.args.text.now) c.in_ok-cut.cut c.in_ok-cut.ensures refl in
    let named = sym c.names_stage.ensures ∙ ap given c.in_ok-names_stage.was in
    no_room _ _ _ p.found named (sym p.place ∙ sym c.in_ok-said.ensures)
    (elim c.then-item-name.branch [
      | then-item-name-via-then-item-name w ↦ item w.if-item-name.true
      | then-item-name-via-else-item-name+then-isil-owner w ↦ isil w.if-isil-owner.true
      | then-item-name-via-else-item-name+else-isil-owner+then-set-lt4 w ↦ set w.if-set-lt4.true
    ])

pub returns : goal.returns
unfolding le16
returns c =
    let p = past c.args.leads c.args.text.now (take c.in_ok-cut.cut.isil c.args.text.now) c.in_ok-cut.cut c.in_ok-cut.ensures refl in
    let named = sym c.names_stage.ensures ∙ ap given c.in_ok-names_stage.was in
    taken _ _ _ p.found named (sym p.place ∙ sym c.in_ok-said.ensures) _ _ _
    (record { item = c.if-item-name.false; isil = c.if-isil-owner.false; set = c.if-set-lt4.false })
    c.put_bytes.ensures c.put_bytes-2.ensures c.put_set.ensures
