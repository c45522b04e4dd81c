use Rattle.std.proofs.Common.{◌≡◌, ◌∙◌, map, rules}
use Rattle.std.specs.Borrow.{Bor}
use Rattle.std.specs.Ordering.{nat_cmp}
use Rattle.zone_proto.specs.declared.rdata.RData.TheVariants as V
use Rattle.zone_proto.specs.declared.rr_key.RrKey.{RrKey}
use Rattle.zone_proto.specs.Types.{NSEC, RRSIG}
use Rattle.zone_denial.specs.NsecSets.{nsec_data}
use Rattle.zone_denial.specs.OneRecordSets.{one_record_set}
use Rattle.zone_denial.specs.TypeLists.{joined}
use Rattle.zone_denial.proofs.nsec_standing.is_nsec_set.Goals as goal

pub returns-in-Some-NSEC-clause-whole : goal.returns-in-Some-NSEC-clause-whole
returns-in-Some-NSEC-clause-whole c = λ passed serial.
    let types = joined nat_cmp NSEC (joined nat_cmp RRSIG (map (λ (k : Bor RrKey). k.now.record_type.0) c.args.keys.now)) in
    let made : c.in-Some-NSEC.field-0.now ≡ V.NSEC (nsec_data c.args.next.now types) = search (rules, c.is_nsec_data.ensures passed) in
    c.in-Some-NSEC.ensures.whole serial ∙ (λ i. one_record_set (c.requires i) c.args.ttl serial c.args.name.now (made i))
