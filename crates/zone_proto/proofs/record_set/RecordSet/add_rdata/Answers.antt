use Rattle.std.proofs.Common.{◌≡◌, ◌∙◌, ap}
use Rattle.zone_proto.specs.NameLaws.{caseless_eq_equiv}
use Rattle.zone_proto.specs.Sets.{RRset}
use Rattle.zone_proto.specs.declared.record.Record.{Record}
use Rattle.zone_proto.proofs.record_set.RecordSet.add_rdata.Goals as goal

pub insert-requires-clause-owner : goal.insert-requires-clause-owner
insert-requires-clause-owner c =
    let name : c.from_rdata-new.result.name ≡ c.args.self.now.owner =
    ap (λ (r : Record). r.name) c.from_rdata-new.ensures ∙ c.in_ok-clone.ensures.ok ∙ ap (λ (s : RRset). s.owner) c.self.view_is in
    rw name (caseless_eq_equiv.refl c.args.self.now.owner)
