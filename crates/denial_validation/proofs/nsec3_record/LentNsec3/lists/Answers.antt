use Rattle.std.proofs.Common.{ap, ◌==◌, ◌∙◌}
use Rattle.std.specs.List.{list_any}
use Rattle.zone_proto.specs.declared.record_type.RecordType.{RecordType}
use Rattle.denial_validation.specs.Nsec3Proofs.{lists}
use Rattle.denial_validation.proofs.ListTests.{list_any-map}
use Rattle.denial_validation.proofs.nsec3_record.LentNsec3.lists.Goals as goal

pub returns : goal.returns
returns c =
    c.has_type.ensures
    ∙ ap (list_any (λ (t : RecordType). t.0 == c.args.record_type.0)) c.as_slice.ensures
    ∙ list_any-map (λ u. u == c.args.record_type.0) (λ t. t.0) c.self.inside.rdata.now.types
    ∙ ap (λ r. lists r c.args.record_type.0) c.self.view_is
