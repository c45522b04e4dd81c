use Rattle.std.proofs.Common.{◌≡◌, ap, sym, ◌∙◌, rules}
use Rattle.zone_proto.specs.declared.record.Record.{Record}
use Rattle.zone_proto.specs.Names.{lower}
use Rattle.zone_proto.specs.Sets.{RRset}
use Rattle.zone_map.proofs.Upserting.{same_from_lower}
use Rattle.zone_denial.proofs.nsec3_standing.is_announced.Goals as goal

pub insert-requires-clause-owner : goal.insert-requires-clause-owner
insert-requires-clause-owner c =
    let owner : c.in_ok-record.record.name ≡ c.args.origin.now = ap (λ (r : Record). r.name) c.in_ok-record.ensures.ok in
    let stood : lower c.in_ok-copy.copy.owner ≡ c.args.origin.now = ap (λ (s : RRset). lower s.owner) c.in_ok-copy.ensures.ok ∙ c.in-Some.ensures.stored.owner ∙ search rules in
    same_from_lower c.in_ok-record.record.name c.in_ok-copy.copy.owner (ap lower owner ∙ c.in_ok-clone.ensures.valid.lower ∙ sym stood)
