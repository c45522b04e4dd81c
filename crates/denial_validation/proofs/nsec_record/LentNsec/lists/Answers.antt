use Rattle.std.proofs.Common.{ap, ◌==◌, ◌∙◌}
use Rattle.denial_validation.specs.NsecProofs.{lists}
use Rattle.denial_validation.proofs.ListTests.{list_any-map}
use Rattle.denial_validation.proofs.nsec_record.LentNsec.lists.Goals as goal

pub returns : goal.returns
returns c =
    c.has_type.ensures
    ∙ list_any-map (λ u. u == c.args.record_type.0) (λ t. t.0) c.self.inside.types.now
    ∙ ap (λ r. lists r c.args.record_type.0) c.self.view_is
