use Rattle.std.proofs.Common.{◌≡◌, drop}
use Rattle.std.specs.Prelude.{flat_map}
use Rattle.zone_planner.specs.Keys.{key_data, with_data}
use Rattle.zone_planner.proofs.keys.put_keys.Given as goal

-- the zone so far, with the data of the other keys, is the zone with those of all
abbrev pub invariant-loop-key : goal.invariant-loop-key
invariant-loop-key l =
    with_data l.origin l.ttl l.serial l.records (flat_map (key_data l.origin) (drop l.key-index l.keys))
    ≡ with_data l.origin l.ttl l.serial l.fn.records (flat_map (key_data l.origin) l.keys)
