use Rattle.std.proofs.Common.{◌≡◌, ◌++◌, ◌∷◌, map, sym, ap, subst, ◌∙◌}
use Rattle.std.proofs.lemmas.Result.{on_ok_weaker}
use Rattle.zone_builder.specs.Repeats.{repeated, HaveOneData}
use Rattle.zone_builder.specs.Warnings.{repeated_warning}
use Rattle.zone_builder.proofs.Repeating.{others_repeated}
use Rattle.zone_builder.proofs.filling.warn_of_others.Goals as goal

pub returns-in-Some-clause-warned : goal.returns-in-Some-clause-warned
returns-in-Some-clause-warned c =
    let first = c.in-Some.field-0-0.now in
    let others = c.in-Some.others.now in
    let is : c.args.records.now ≡ first ∷ others = c.in-Some.ensures.cases.0 in
    on_ok_weaker c.warn_of_repeated.result
    (λ h. h ∙ ap (λ gs. c.args.warnings.now.items ++ map repeated_warning gs) (sym (ap repeated is ∙ others_repeated first others (subst HaveOneData is c.requires))))
    c.warn_of_repeated.ensures.warned
