-- The records of a zone that is held, to which differences are applied (RFC 1995 section 4)
use Rattle.std.specs.Prelude.{ℕ, List, ◌++◌, map}
use Rattle.std.specs.List.{flat_map}
use Rattle.std.specs.Map.{values_of}
use Rattle.zone_proto.specs.Sets.{RRset}
use Rattle.zone_proto.specs.declared.record.Record.{Record}
use Rattle.zone_map.specs.Zones.{Sets}

-- the record with another TTL
abbrev pub with_ttl : ℕ → Record → Record
with_ttl ttl r = record r { ttl = ttl }

-- the records of a set and its signatures, all with the set's TTL (RFC 2181 section 5.2, RFC 4034 section 3)
abbrev pub records_of_set : RRset → List Record
records_of_set s = map (with_ttl s.ttl) s.records ++ map (with_ttl s.ttl) s.signatures

-- those of all sets, in the order of their keys
abbrev pub records_in : Sets → List Record
records_in m = flat_map records_of_set (values_of m)
