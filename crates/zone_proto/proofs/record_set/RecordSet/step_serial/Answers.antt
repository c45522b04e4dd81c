use Rattle.zone_proto.proofs.Stepped.{IsSet-step_first}
use Rattle.zone_proto.proofs.record_set.RecordSet.step_serial.Goals as goal

pub invariant_of-self-in_default-step : goal.invariant_of-self-in_default-step
invariant_of-self-in_default-step c =
    record {
      set =
          IsSet-step_first c.self.inside.name c.self.inside.record_type.0 c.self.inside.records.items c.in-Some.first.now c.step.new.rdata
          c.in-Some.ensures.value c.in-Some.ensures.item.3.0 c.step.ensures.data c.self.invariant.set;
      signed = c.self.invariant.signed;
    }
