use Rattle.std.proofs.Common.{◌≡◌, ◌++◌, filter, drop}
use Rattle.zone_proto.specs.declared.record_type.RecordType.{RecordType}
use Rattle.zone_trimming.specs.Trimming.{stays_listed}
use Rattle.zone_trimming.proofs.trimming.trimmed_types.Given as goal

-- the types that were kept, and those of what is left
abbrev pub invariant-loop-record_type : goal.invariant-loop-record_type
invariant-loop-record_type l = l.kept.items ++ filter (λ (t : RecordType). stays_listed l.types t.0) (drop l.record_type-index l.types) ≡ filter (λ (t : RecordType). stays_listed l.types t.0) l.types
