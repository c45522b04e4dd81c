use Rattle.std.proofs.Common.{◌≡◌, ◌∷◌, ◌+◌, drop, sym, ap, ◌∙◌, Result}
use Rattle.std.proofs.lemmas.List.{drop_more}
use Rattle.std.proofs.Math.ListN.{drop_of_length-le}
use Rattle.transfer_reading.specs.Answers.{◌>>=◌}
use Rattle.transfer_reading.specs.Stages.{behind_all}
use Rattle.transfer_reading.specs.declared.fault.AnswerFault.{AnswerFault}
use Rattle.transfer_reading.specs.declared.stage.Stage.{Stage}
use Rattle.transfer_reading.proofs.Steps.{is_fault}
use Rattle.transfer_reading.proofs.stage.behind_all.Goals as goal

pub loop-given-preserved : goal.loop-given-preserved
unfolding behind_all
loop-given-preserved c =
    let a = c.args.asked.now in
    let rs = c.args.records.now in
    let i = c.loop-given.given-index in
    let x = c.given-item.result in
    let split : drop i rs ≡ x ∷ drop (i + 1) rs = drop_more rs i x c.loop-given-test.true ∙ ap (λ y. y ∷ drop (i + 1) rs) (sym c.given-item.is) in
    sym (ap (λ (r : Result Stage AnswerFault). r >>= λ next. behind_all a next (drop (i + 1) rs)) (sym c.in-Ok.ensures))
    ∙ sym (ap (behind_all a c.loop-given.reached) split)
    ∙ c.loop-given.invariant

pub returns-in-Err : goal.returns-in-Err
unfolding behind_all
returns-in-Err c =
    let a = c.args.asked.now in
    let rs = c.args.records.now in
    let i = c.loop-given.given-index in
    let x = c.given-item.result in
    let split : drop i rs ≡ x ∷ drop (i + 1) rs = drop_more rs i x c.loop-given-test.true ∙ ap (λ y. y ∷ drop (i + 1) rs) (sym c.given-item.is) in
    is_fault c.in-Err.fault (behind_all a c.args.stage rs)
    (sym c.loop-given.invariant
    ∙ ap (behind_all a c.loop-given.reached) split
    ∙ ap (λ (r : Result Stage AnswerFault). r >>= λ next. behind_all a next (drop (i + 1) rs)) (sym c.in-Err.ensures))

pub returns : goal.returns
unfolding behind_all
returns c =
    sym c.loop-given.invariant
    ∙ ap (behind_all c.args.asked.now c.loop-given.reached) (drop_of_length-le c.args.records.now c.loop-given-test.false)
