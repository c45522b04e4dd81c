-- Which version of a zone a secondary holds
use Rattle.std.specs.Prelude.{◌≡◌, Bool, ◌==◌, ◌&&◌, List, [], Option, Some, None}
use Rattle.std.specs.List.{list_any}
use Rattle.std.specs.Map.{lookup}
use Rattle.zone_proto.specs.Keys.{key_eq}
use Rattle.zone_proto.specs.Records.{same_record}
use Rattle.zone_proto.specs.Sets.{RRset}
use Rattle.zone_proto.specs.declared.record.Record.{Record}
use Rattle.zone_proto.specs.declared.rr_key.RrKey.{RrKey}
use Rattle.zone_map.specs.Zones.{Sets}
use Rattle.shown_zones.specs.Sending.{sent}
use Rattle.transfer_reading.specs.Differences.{Held, records_at}

-- the same record, with the same TTL
abbrev pub is_exactly : Record → Record → Bool
is_exactly x r = same_record x r && x.ttl == r.ttl

abbrev pub has_exactly : List Record → Record → Bool
has_exactly rs r = list_any (λ (x : Record). is_exactly x r) rs

-- lists have the same records, with the same TTLs, in any order
abbrev pub SameRecords : List Record → List Record → Type 0
SameRecords xs ys = (r : Record) → has_exactly xs r ≡ has_exactly ys r

-- the records and signatures that answers show of a set, if there is one
abbrev pub sent_if : Option RRset → List Record
sent_if None = []
sent_if (Some s) = sent s

-- A secondary holds a version: under each key the records and signatures that answers show of it, with their TTLs, in any order.
abbrev pub Holds : Held → Sets → Type 0
Holds h m = (k : RrKey) → SameRecords (records_at h k) (sent_if (lookup (key_eq k) m))
