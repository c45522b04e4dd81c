use Rattle.std.proofs.Common.{◌∙◌, ap}
use Rattle.zone_proto.specs.declared.rdata.RData.TheVariants as V
use Rattle.zone_proto.specs.HashedOwners.{hashed_owner}
use Rattle.zone_proto.specs.Types.{NSEC3}
use Rattle.zone_denial.specs.Nsec3Circle.{nsec3_data}
use Rattle.zone_denial.specs.Nsec3Nodes.{types_of}
use Rattle.zone_denial.specs.OneRecordSets.{one_record_set}
use Rattle.zone_denial.proofs.nsec3_standing.is_set_of_name.Goals as goal

pub returns-in-Ok-clause-set : goal.returns-in-Ok-clause-set
returns-in-Ok-clause-set c = λ passed serial.
    c.is_nsec3_set.ensures passed serial
    ∙ ap (λ o. one_record_set NSEC3 c.args.ttl serial o (V.NSEC3 (nsec3_data c.args.parameters.now c.args.next.now.digest (types_of c.args.name.now.name.now)))) (c.in-Ok.ensures.ok ∙ ap (hashed_owner c.args.origin.now) c.as_slice.ensures)
