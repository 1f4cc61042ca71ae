-- What is known past each stage has a name; the stages behind it go on with that.
use mathlib.Core.Path.{◌≡◌, sym, ap, ◌∙◌}
use Prim.Native.Nat.{ℕ}
use native.Mathlib.Omega.{arith}
use mathlib.Core.List.{List, [], ◌∷◌}
use Rattle.std.proofs.lemmas.Result.{err_from_is_err_and}
use Rattle.format.specs.Answers.{plain, got, need, in_order}
use Rattle.format.specs.Reading.{agree}
use Rattle.format.specs.Numbers.{given, told}
use Rattle.format.proofs.Answers.{first-ok, first-no, next-ok, none-ok, passed-no, refused-on}
use Rattle.chain.specs.declared.Chain.{Chain}
use Rattle.chain.proofs.Laws.{Surveyed, survey-whole, survey-refused}
use Rattle.look.specs.declared.judge.Fields.{Fields}
use Rattle.look.specs.Looking.{basic_judged, fields_on, FieldsOf}
use Rattle.look.specs.View.{view_in, looking}
use Rattle.look.proofs.Steps as steps
use Rattle.look.proofs.Steps.{fields-of, begun-size, stopped, looked}
use Rattle.look.proofs.Elements.{row_lies}
use Rattle.look.proofs.look_at.Goals as goal

left : (t : List ℕ) (s : Chain) (f : Fields) → got tt ≡ basic_judged t → Surveyed t s → FieldsOf t f → looking t ≡ in_order (need 7 (agree t) ∷ []) (view_in t)
left t s f b w g = steps.whole t (sym b) w.walks ∙ next-ok 6 _ _ _ g.good

pub returns-in_err-basic_stage : goal.returns-in_err-basic_stage
returns-in_err-basic_stage c =
    let p = err_from_is_err_and c.from_residual.result c.from_residual.ensures.1 in
    rw (p.1, p.2) (stopped _ (steps.basic-refused c.args.tag.now _ (sym c.in_err-basic_stage.ensures)))

pub returns-in-Err : goal.returns-in-Err
returns-in-Err c =
    let t = c.args.tag.now in
    let e = sym c.survey_of.ensures ∙ ap told c.in-Err.is in
    stopped _ (steps.begun t (sym c.in_ok-basic_stage.ensures) ∙ first-no _ _ _ _ (passed-no _ _ (survey-refused t _ e)))

pub invariant_of-sized : goal.invariant_of-sized
invariant_of-sized c = record { sized = begun-size c.args.tag.now (sym c.in_ok-basic_stage.ensures) }

pub find_fields-requires : goal.find_fields-requires
find_fields-requires c = (survey-whole _ _ (sym c.survey_of.ensures ∙ ap told c.in-Ok.is)).library

pub returns-in-Err-find_fields : goal.returns-in-Err-find_fields
returns-in-Err-find_fields c =
    let t = c.args.tag.now in
    let e = sym c.find_fields.ensures ∙ ap given c.in-Err-find_fields.is in
    let w = survey-whole _ _ (sym c.survey_of.ensures ∙ ap told c.in-Ok.is) in
    stopped _ (steps.whole t (sym c.in_ok-basic_stage.ensures) w.walks ∙ refused-on (_ ∷ []) _ (fields_on t) _ (plain _) e)

pub agree_stage-requires : goal.agree_stage-requires
agree_stage-requires c = fields-of c.args.tag.now _ (sym (ap given c.in-Ok-find_fields.is) ∙ c.find_fields.ensures)

pub returns-in_err-agree_stage : goal.returns-in_err-agree_stage
returns-in_err-agree_stage c =
    let p = err_from_is_err_and c.from_residual-in_err-agree_stage.result c.from_residual-in_err-agree_stage.ensures.1 in
    let t = c.args.tag.now in
    let b = c.in_ok-basic_stage.ensures in
    let w = survey-whole _ _ (sym c.survey_of.ensures ∙ ap told c.in-Ok.is) in
    rw (p.1, p.2) (stopped _ (left t _ _ b w (fields-of t _ (sym (ap given c.in-Ok-find_fields.is) ∙ c.find_fields.ensures)) ∙ first-no _ _ _ (plain _) (sym c.in_err-agree_stage.ensures)))

pub fill_row-requires : goal.fill_row-requires
fill_row-requires c =
    let t = c.args.tag.now in
    let sized = begun-size t (sym c.in_ok-basic_stage.ensures) in
    row_lies _ _ (survey-whole _ _ (sym c.survey_of.ensures ∙ ap told c.in-Ok.is)).library _ (fields-of t _ (sym (ap given c.in-Ok-find_fields.is) ∙ c.find_fields.ensures)) sized

pub one_piece-requires : goal.one_piece-requires
one_piece-requires c =
    omega (arith, (survey-whole _ _ (sym c.survey_of.ensures ∙ ap told c.in-Ok.is)).room, (begun-size c.args.tag.now (sym c.in_ok-basic_stage.ensures)).most)

pub returns : goal.returns
returns c =
    let t = c.args.tag.now in
    let b = c.in_ok-basic_stage.ensures in
    let w = survey-whole _ _ (sym c.survey_of.ensures ∙ ap told c.in-Ok.is) in
    let f = fields-of t _ (sym (ap given c.in-Ok-find_fields.is) ∙ c.find_fields.ensures) in
    let r = c.fill_row.ensures in
    looked w f (left t _ _ b w f ∙ first-ok _ _ _ (sym c.in_ok-agree_stage.ensures) ∙ none-ok _) r.0 r.1 c.one_piece.ensures
