use Rattle.std.proofs.Common.{◌≡◌, ◌++◌, map}
use Rattle.std.specs.Prelude.{◌==◌, filter}
use Rattle.zone_proto.specs.Types.{NSEC}
use Rattle.zone_verify.proofs.nsec.nsec_entries.Given as goal

-- the entries so far, and those that are left of this type, are all of the type
abbrev pub invariant-loop-key : goal.invariant-loop-key
invariant-loop-key l =
    map (λ e. (e.0.now, e.1.now)) l.entries.items ++ filter (λ e. e.0.record_type.0 == NSEC) l.key-iterator ≡ filter (λ e. e.0.record_type.0 == NSEC) l.records
