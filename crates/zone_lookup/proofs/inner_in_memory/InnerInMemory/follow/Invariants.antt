use Rattle.std.proofs.Common.{◌≡◌, ◌⊎◌, length}
use Rattle.std.specs.Prelude.{Some}
use Rattle.zone_map.specs.Zones.{IsZone}
use Rattle.zone_lookup.proofs.AdditionalRuns.{left, Goes}
use Rattle.zone_lookup.proofs.inner_in_memory.InnerInMemory.follow.Given as goal

abbrev pub invariant-loop-search_type : goal.invariant-loop-search_type
invariant-loop-search_type g l = record {
  goes : Goes l.self.records l.lookup_options.dnssec_ok l.search_type.0 l.fn.seen.items l.fn.from l.fn.sets l.fn.searches l.sets l.seen l.name l.searches;
  zoned : IsZone l.self.records ⊎ (l.searches ≡ l.fn.searches);
}

-- each turn searches one of the names that are left
abbrev pub decreases-loop-search_type : goal.decreases-loop-search_type
decreases-loop-search_type g l = length (left l.self.records l.lookup_options.dnssec_ok l.search_type.0 l.seen (Some l.name))
