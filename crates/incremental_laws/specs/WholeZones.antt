-- What a secondary makes of a whole zone
use Rattle.std.specs.Prelude.{◌≡◌, ℕ, ◌==◌, if◌then◌else◌, List, [], ◌++◌, Some, Ok}
use Rattle.std.specs.List.{flat_map}
use Rattle.std.specs.Map.{values_of}
use Rattle.zone_proto.specs.Names.{Name, lower}
use Rattle.zone_proto.specs.Sets.{RRset}
use Rattle.zone_proto.specs.Types.{SOA}
use Rattle.zone_proto.specs.declared.record.Record.{Record}
use Rattle.zone_map.specs.Zones.{Sets, set_at}
use Rattle.shown_zones.specs.Sending.{sent, sent_alone}
use Rattle.transfer_reading.specs.Differences.{held_of}
use Rattle.transfer_reading.specs.Laws.{AsksFor}
use Rattle.transfer_reading.specs.Outcomes.{said_by, zone_of}
use Rattle.transfer_reading.specs.Stages.{behind_all}
use Rattle.transfer_reading.specs.declared.asked.Asked.{Asked}
use Rattle.transfer_reading.specs.declared.stage.Stage.TheVariants.{Before, WholeZone}
use Rattle.incremental_laws.specs.Holding.{Holds}
use Rattle.incremental_laws.specs.Versions.{IsVersion}

-- a set as it is between the two SOA records: of an SOA the signatures alone (RFC 5936 section 2.2)
abbrev pub between : RRset → RRset
between s = if s.record_type == SOA then record s { records = [] } else s

abbrev pub sent_between : RRset → List Record
sent_between s = sent (between s)

-- the SOA record, all sets in the order of their keys, each with its signatures, and the SOA record again
abbrev pub sent_zone : RRset → Sets → List Record
sent_zone soa z = sent_alone soa ++ (flat_map sent_between (values_of z) ++ sent_alone soa)

-- A secondary that asks for a zone, or for what changed since an older version, is sent a version of it whole, which has no other SOA.
pub record IsSentWhole (a : Asked) (serial : ℕ) (z : Sets) (soa : RRset) : Type 0 where
  pub asked : AsksFor a.question serial
  pub version : IsVersion a.origin serial z
  pub soa_is : set_at z (lower a.origin) SOA ≡ Some soa
  pub alone : (n : Name) (s : RRset) → set_at z n SOA ≡ Some s → n ≡ lower a.origin

-- It takes it as a whole zone.
abbrev pub ZonesAreTaken : Type 0
ZonesAreTaken = (a : Asked) (serial : ℕ) (z : Sets) (soa : RRset) → IsSentWhole a serial z soa → behind_all a Before (sent_zone soa z) ≡ Ok WholeZone

-- The records that it has then are those of the version, whatever it held.
abbrev pub ZonesMakeTheVersion : Type 0
ZonesMakeTheVersion = (a : Asked) (serial : ℕ) (z : Sets) (soa : RRset) (held : List Record) → IsSentWhole a serial z soa
    → (rs : List Record) × (said_by WholeZone a.origin (sent_zone soa z) held ≡ Ok (zone_of rs)) × Holds (held_of rs) z
