use Rattle.std.proofs.Common.{◌≡◌, sym, ap, ◌∙◌}
use Rattle.zone_proto.specs.Data.{type_of}
use Rattle.zone_proto.specs.Names.{lower}
use Rattle.zone_proto.specs.Sets.{RRset, empty_set}
use Rattle.zone_map.proofs.Upserting.{same_from_lower}
use Rattle.zone_journal.proofs.Reading.{begun_is}
use Rattle.zone_journal.proofs.grouping.begun.Goals as goal

pub insert-requires-clause-owner : goal.insert-requires-clause-owner
insert-requires-clause-owner c =
    let owner : c.new-set.result.owner ≡ c.args.first.name = ap (λ (s : RRset). s.owner) c.new-set.ensures ∙ c.in_ok-clone.ensures.ok in
    same_from_lower c.args.first.name c.new-set.result.owner (ap lower (sym owner))

pub returns : goal.returns
returns c =
    let made : c.new-set.result ≡ empty_set c.args.first.name (type_of c.args.first.rdata) 0 =
    c.new-set.ensures ∙ (λ i. empty_set (c.in_ok-clone.ensures.ok i) (c.record_type.ensures i) 0) in
    begun_is c.new-set.result c.insert.new.self c.args.first made c.in_ok-insert.ensures.after
