use Rattle.std.proofs.Common.{◌∙◌, ap, sym, subst, map, arith}
use Rattle.zone_proto.specs.Sets.{IsSet, AreSignatures, record_under}
use Rattle.zone_proto.proofs.SetLaws.{IsSet-under}
use Rattle.zone_proto.proofs.record_set.RecordSet.clone_under.Goals as goal

pub invariant_of-result : goal.invariant_of-result
invariant_of-result c =
    let copies = c.in_ok-records.ensures.ok ∙ ap (map (record_under c.args.owner c.args.ttl)) c.as_slice.ensures.value in
    record {
      set =
          subst (IsSet c.args.owner c.self.inside.record_type.0) (sym copies)
          (IsSet-under c.self.inside.name c.args.owner c.args.ttl c.self.inside.record_type.0 c.self.inside.records.items c.self.invariant.set);
      signed = subst AreSignatures (sym c.new.ensures.items) (λ k d h. absurd (omega arith));
    }
