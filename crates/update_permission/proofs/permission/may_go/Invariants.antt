use Rattle.std.proofs.Common.{◌≡◌, drop}
use Rattle.std.specs.Prelude.{map}
use Rattle.std.specs.List.{list_all}
use Rattle.zone_proto.specs.declared.record_type.RecordType.{RecordType}
use Rattle.update_permission.specs.Permissions.{may_go}
use Rattle.update_permission.proofs.permission.may_go.Given as goal

-- those that are left may go just where all may
abbrev pub invariant-loop-record_type : goal.invariant-loop-record_type
invariant-loop-record_type l =
    list_all (may_go l.rules l.key l.origin l.name) (map (λ (t : RecordType). t.0) (drop l.record_type-index l.types))
    ≡ list_all (may_go l.rules l.key l.origin l.name) (map (λ (t : RecordType). t.0) l.types)
