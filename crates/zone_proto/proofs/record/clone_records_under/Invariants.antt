use Rattle.std.proofs.Common.{◌≡◌, map, take}
use Rattle.zone_proto.specs.Sets.{record_under}
use Rattle.zone_proto.proofs.record.clone_records_under.Given as goal

-- the records that were passed are copied
abbrev pub invariant-loop-stored : goal.invariant-loop-stored
invariant-loop-stored l = l.copies.items ≡ map (record_under l.owner l.ttl) (take l.stored-index l.records)
