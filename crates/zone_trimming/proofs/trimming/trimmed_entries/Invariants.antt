use Rattle.std.proofs.Common.{◌≡◌, ◌++◌, map}
use Rattle.zone_proto.specs.declared.rr_key.RrKey.{RrKey}
use Rattle.zone_proto.specs.Sets.{RRset}
use Rattle.zone_map.specs.Zones.{AreStored}
use Rattle.zone_trimming.specs.Trimming.{trimmed_set}
use Rattle.zone_trimming.proofs.trimming.trimmed_entries.Given as goal

-- the entries so far, and those of the sets that are left
abbrev pub invariant-loop-key : goal.invariant-loop-key
invariant-loop-key l = record {
  made : l.entries.items ++ map (λ (e : RrKey × RRset). (e.0, trimmed_set e.1)) l.key-iterator ≡ map (λ (e : RrKey × RRset). (e.0, trimmed_set e.1)) l.sets;
  stored : AreStored l.entries.items;
  left : AreStored l.key-iterator;
}
