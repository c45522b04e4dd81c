use Rattle.std.proofs.Common.{not, map, sym, ap, ◌∙◌}
use Rattle.std.specs.Prelude.{◌==◌}
use Rattle.std.proofs.lemmas.List.{length-map}
use Rattle.zone_response.specs.Responses.{is_authority}
use Rattle.zone_response.specs.Sections.{sent_set}
use Rattle.zone_response.specs.Steps.{end_of}
use Rattle.zone_response.proofs.sections.is_authority.Goals as goal

pub returns-in-Referred : goal.returns-in-Referred
returns-in-Referred c =
    ap not c.is_empty.ensures ∙ ap (λ k. not (k == 0)) (sym (length-map c.args.answers.now sent_set))
    ∙ ap (λ e. is_authority (end_of e) (map sent_set c.args.answers.now)) (sym c.in-Referred.is)
