use Rattle.std.proofs.Common.{◌++◌, ◌∷◌, [], subst}
use Rattle.zone_proto.specs.Results.{IsChange}
use Rattle.zone_proto.specs.Sets.{RRset}
use Rattle.zone_proto.specs.SetInside.{set_of}
use Rattle.zone_proto.proofs.SetLaws.{signed_after, signature_put}
use Rattle.zone_proto.proofs.record_set.RecordSet.insert_rrsig.Goals as goal

pub invariant_of-self : goal.invariant_of-self
invariant_of-self c =
    record {
      set = c.self.invariant.set;
      signed = signed_after c.self.inside.rrsigs.items c.put_last.new.records.items c.args.rrsig c.put_last.result c.requires.kind c.self.invariant.signed c.put_last.ensures;
    }

pub returns : goal.returns
returns c =
    subst (λ (s : RRset). IsChange s (record s { signatures = s.signatures ++ c.args.rrsig ∷ [] }) c.put_last.result (record (set_of c.self.inside) { signatures = c.put_last.new.records.items })) c.self.view_is
    (signature_put (set_of c.self.inside) c.put_last.new.records.items c.args.rrsig c.put_last.result c.put_last.ensures)
