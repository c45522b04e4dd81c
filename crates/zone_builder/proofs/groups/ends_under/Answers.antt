use Rattle.std.proofs.Common.{sym, ap, ◌∙◌}
use Rattle.zone_builder.specs.Groups.{ends_under}
use Rattle.zone_builder.proofs.Joining.{ends_push}
use Rattle.zone_builder.proofs.groups.ends_under.Goals as goal

pub returns-in-Some : goal.returns-in-Some
returns-in-Some c =
    c.same_as.ensures ∙ sym (ends_push c.in-Some.field-0-1.now c.in-Some.last.now c.args.key.now)
    ∙ ap (λ es. ends_under es c.args.key.now) (sym c.in-Some.ensures.cases.0)
