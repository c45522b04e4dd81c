-- The sets of denial that are in a zone, as they would be made now
use Rattle.std.specs.Prelude.{ℕ, ◌==◌, map, filter}
use Rattle.zone_proto.specs.declared.rr_key.RrKey.{RrKey}
use Rattle.zone_proto.specs.Sets.{RRset}
use Rattle.zone_map.specs.Standing.{renumbered}
use Rattle.zone_map.specs.Zones.{Sets}

-- the sets of a type by their keys, each with a serial and without signatures
abbrev pub standing_sets : ℕ → ℕ → Sets → Sets
standing_sets t serial m = map (λ (e : RrKey × RRset). (e.0, renumbered serial e.1)) (filter (λ (e : RrKey × RRset). e.0.record_type.0 == t) m)
