use Rattle.std.proofs.Common.{◌≡◌, ◌++◌, ◌==◌, not, drop}
use Rattle.std.specs.Prelude.{filter}
use Rattle.zone_proto.specs.declared.record_type.RecordType.{RecordType}
use Rattle.zone_proto.specs.Types.{NSEC3}
use Rattle.hashed_changes.proofs.types.without_nsec3.Given as goal

-- those so far, and those of the types that are left, are all
abbrev pub invariant-loop-record_type : goal.invariant-loop-record_type
invariant-loop-record_type l =
    l.others.items ++ filter (λ (t : RecordType). not (t.0 == NSEC3)) (drop l.record_type-index l.types)
    ≡ filter (λ (t : RecordType). not (t.0 == NSEC3)) l.types
