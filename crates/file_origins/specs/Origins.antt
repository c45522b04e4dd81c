-- The origin of the zone of a file
use Rattle.std.specs.Prelude.{Bool, ◌==◌, List, [], Option, Some, None}
use Rattle.std.specs.List.{find}
use Rattle.std.specs.Option.{option_map_or}
use Rattle.zone_proto.specs.Data.{type_of}
use Rattle.zone_proto.specs.Names.{Name}
use Rattle.zone_proto.specs.Types.{SOA}
use Rattle.zone_file.specs.declared.placed.PlacedRecord.{PlacedRecord}

-- a record of a file is an SOA
abbrev pub is_soa : PlacedRecord → Bool
is_soa p = type_of p.given.rdata == SOA

-- the origin of a zone: the one that is named, or else the owner of the first SOA, or the root
abbrev pub origin_of : Option Name → List PlacedRecord → Name
origin_of (Some n) ps = n
origin_of None ps = option_map_or (λ (p : PlacedRecord). p.given.name) (find is_soa ps) []
