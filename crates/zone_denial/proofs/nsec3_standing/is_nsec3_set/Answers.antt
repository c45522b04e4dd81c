use Rattle.std.proofs.Common.{◌≡◌, ◌∙◌, rules}
use Rattle.zone_proto.specs.declared.rdata.RData.TheVariants as V
use Rattle.zone_denial.specs.Nsec3Circle.{nsec3_data}
use Rattle.zone_denial.specs.Nsec3Nodes.{types_of}
use Rattle.zone_denial.specs.OneRecordSets.{one_record_set}
use Rattle.zone_denial.proofs.nsec3_standing.is_nsec3_set.Goals as goal

pub returns-in-Some-NSEC3 : goal.returns-in-Some-NSEC3
returns-in-Some-NSEC3 c = λ passed serial.
    let made : c.in-Some-NSEC3.field-0.now ≡ V.NSEC3 (nsec3_data c.args.parameters.now c.args.next.now.digest (types_of c.args.name.now.name.now)) = search (rules, c.is_nsec3_data.ensures passed) in
    c.in-Some-NSEC3.ensures.whole serial ∙ (λ i. one_record_set (c.requires i) c.args.ttl serial c.args.owner.now (made i))
