use Rattle.std.proofs.Common.{ap, ◌==◌, ◌∙◌}
use Rattle.zone_proto.specs.Names.{is_root}
use Rattle.denial_validation.proofs.NameTests.{root_by_count}
use Rattle.denial_validation.proofs.asked_name.AskedName.is_root.Goals as goal

pub returns : goal.returns
returns c = ap (λ k. k == 0) c.len.ensures ∙ root_by_count c.self.inside.labels ∙ ap is_root c.self.view_is
