use Rattle.std.proofs.Common.{◌≡◌, ◌++◌}
use Rattle.std.specs.Prelude.{filter}
use Rattle.zone_proto.specs.Sets.{RRset}
use Rattle.zone_proto.specs.declared.rr_key.RrKey.{RrKey}
use Rattle.zone_map.specs.Zones.{owns}
use Rattle.update_in_place.proofs.exchange.common_entries.Given as goal

-- those so far, and those that are left
abbrev pub invariant-loop-key : goal.invariant-loop-key
invariant-loop-key l =
    l.entries.items ++ filter (λ (e : RrKey × RRset). owns l.other e.0.name e.0.record_type.0) l.key-iterator
    ≡ filter (λ (e : RrKey × RRset). owns l.other e.0.name e.0.record_type.0) l.zone
