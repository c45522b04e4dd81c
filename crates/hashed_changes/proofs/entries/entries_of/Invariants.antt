use Rattle.std.proofs.Common.{◌≡◌, ◌++◌, drop}
use Rattle.std.specs.Prelude.{filter_map}
use Rattle.zone_map.specs.Zones.{AreStored}
use Rattle.hashed_changes.specs.Renewals.{entry_of}
use Rattle.hashed_changes.proofs.entries.entries_of.Given as goal

-- those so far are stored, and with those of the ones that are left they are all
abbrev pub invariant-loop-renewal : goal.invariant-loop-renewal
invariant-loop-renewal l = record {
  made : l.entries.items ++ filter_map (entry_of l.parameters l.ttl l.serial) (drop l.renewal-index l.made) ≡ filter_map (entry_of l.parameters l.ttl l.serial) l.made;
  stored : AreStored l.entries.items;
}
