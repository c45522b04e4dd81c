-- The records of a zone in the order in which its file has them
use Rattle.std.specs.Prelude.{List, [], ◌++◌, Option, Some, None, if◌then◌else◌}
use Rattle.std.specs.List.{flat_map}
use Rattle.zone_proto.specs.Keys.{key_eq}
use Rattle.zone_proto.specs.Sets.{RRset}
use Rattle.zone_proto.specs.declared.record.Record.{Record}
use Rattle.zone_proto.specs.declared.rr_key.RrKey.{RrKey}
use Rattle.zone_map.specs.Zones.{Sets, set_at}

-- the records of a set, and its signatures behind them
abbrev pub records_of : RRset → List Record
records_of s = s.records ++ s.signatures

abbrev pub records_if : Option RRset → List Record
records_if None = []
records_if (Some s) = records_of s

-- those of a set, unless it is the one under a key
abbrev pub records_unless_at : RrKey → (RrKey × RRset) → List Record
records_unless_at k e = if key_eq k e.0 then [] else records_of e.1

-- those of all sets but that one, in the order of their keys
abbrev pub other_records : RrKey → Sets → List Record
other_records k m = flat_map (records_unless_at k) m

-- those of the set under the key of the SOA first, then those of all others
abbrev pub zone_records : RrKey → Sets → List Record
zone_records soa m = records_if (set_at m soa.name soa.record_type.0) ++ other_records soa m
