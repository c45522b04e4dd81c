use Rattle.std.proofs.Common.{◌≡◌, Bor, map, take}
use Rattle.zone_proto.specs.declared.rdata.RData.{RData}
use Rattle.zone_builder.specs.declared.given.GivenRecord.{GivenRecord}
use Rattle.zone_builder.proofs.repeats.data_of.Given as goal

-- those of the records so far
abbrev pub invariant-loop-given : goal.invariant-loop-given
invariant-loop-given l = map (λ (d : Bor RData). d.now) l.list.items ≡ map (λ (g : GivenRecord). g.record.rdata) (take l.given-index l.records)
