-- What a zone has that is made of the records of a transfer: exactly these, TTLs aside
use Rattle.std.specs.Prelude.{◌≡◌, ℕ, Bool, true, false, if◌then◌else◌, List, ◌++◌, Option, Some, None}
use Rattle.std.specs.List.{Contains}
use Rattle.zone_proto.specs.Names.{Name, lower}
use Rattle.zone_proto.specs.Sets.{RRset}
use Rattle.zone_proto.specs.declared.record.Record.{Record}
use Rattle.zone_map.specs.Zones.{set_at, Sets}
use Rattle.zone_builder.specs.Records.{is_signature, set_type}
use Rattle.transfer_reading.specs.Differences.{has_record}
use Rattle.transferred_zones.specs.TransferredZones.{IsZoneOf}

-- a set has a record: among its signatures, if it is one, and else among its records
abbrev pub has_in : Option RRset → Record → Bool
has_in None r = false
has_in (Some s) r = has_record (if is_signature r.rdata then s.signatures else s.records) r

-- Each of some records is in the set of its owner and type, or as a signature in that which it covers; and whatever is in a set is one of them.
pub record HasExactly (rs : List Record) (m : Sets) : Type 0 where
  pub has : (r : Record) → Contains rs r → has_in (set_at m (lower r.name) (set_type r.rdata)) r ≡ true
  pub only : (n : Name) (t : ℕ) (s : RRset) (x : Record) → set_at m n t ≡ Some s → Contains (s.records ++ s.signatures) x → has_record rs x ≡ true

-- The zone of records has these records, and no others.
abbrev pub ZonesHaveExactly : Type 0
ZonesHaveExactly = (origin : Name) (rs : List Record) (m : Sets) → IsZoneOf origin rs m → HasExactly rs m
