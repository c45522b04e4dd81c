use Rattle.std.proofs.Common.{ap, ◌==◌, ◌∙◌, List, length}
use Rattle.zone_proto.specs.declared.record_type.RecordType.{RecordType}
use Rattle.denial_validation.specs.Nsec3Proofs.{lists_none}
use Rattle.denial_validation.proofs.ListTests.{empty_by_length}
use Rattle.denial_validation.proofs.nsec3_record.LentNsec3.lists_none.Goals as goal

pub returns : goal.returns
returns c =
    c.is_empty.ensures
    ∙ ap (λ (types : List RecordType). length types == 0) c.as_slice.ensures
    ∙ empty_by_length (λ t. t.0) c.self.inside.rdata.now.types
    ∙ ap lists_none c.self.view_is
