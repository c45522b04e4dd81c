-- Laws of transfers
use Rattle.std.specs.Prelude.{◌≡◌, ◌≢◌, ◌↔◌, ℕ, false, cond, List, [], ◌∷◌, ◌++◌, Some}
use Rattle.std.specs.List.{Contains, IsDistinct}
use Rattle.zone_proto.specs.declared.record.Record.{Record}
use Rattle.zone_proto.specs.Data.{type_of}
use Rattle.zone_proto.specs.Names.{Name, IsAbove}
use Rattle.zone_proto.specs.Records.{same_record}
use Rattle.zone_proto.specs.Sets.{RRset}
use Rattle.zone_proto.specs.Types.{CNAME, SOA}
use Rattle.lookup_types.specs.declared.lookup_options.LookupOptions.{LookupOptions}
use Rattle.zone_handler.specs.declared.zone_transfer.ZoneTransfer.{ZoneTransfer}
use Rattle.zone_handler.specs.Sets.{set_records}
use Rattle.zone_handler.specs.Transfers.{transfer_records}
use Rattle.zone_map.specs.Direct.{is_delegated}
use Rattle.zone_map.specs.Zones.{Sets, set_at, owns, IsZone}
use Rattle.zone_in_memory.specs.Transfers.{plain, IsTransfer}

-- the zone has this SOA set: it is at the origin, which is no alias, and nothing above the origin is a cut
pub record HasSoa (m : Sets) (origin : Name) (s : RRset) : Type 0 where
  pub stored : set_at m origin SOA ≡ Some s
  pub no_alias : owns m origin CNAME ≡ false
  pub on_top : (a : Name) → IsAbove a origin → is_delegated m a ≡ false

-- the transfer of a zone that has an SOA begins and ends with the SOA record; its signatures follow the first one where the options ask for DNSSEC, and then come the records between the two
abbrev pub BeginsAndEndsWithSoa : Type 0
BeginsAndEndsWithSoa = (sign : LookupOptions → RRset → List Record) (origin : Name) (m : Sets) (options : LookupOptions) (t : ZoneTransfer) (s : RRset)
    → IsZone m → HasSoa m origin s → IsTransfer sign origin m options t
    → (r : Record) × (s.records ≡ r ∷ []) × (transfer_records t ≡ r ∷ cond options.dnssec_ok s.signatures [] ++ t.records ++ r ∷ [])

-- between the two stands each record that the zone's sets give to a client with the options, unless it is an SOA, and no other
abbrev pub HasEachRecord : Type 0
HasEachRecord = (sign : LookupOptions → RRset → List Record) (origin : Name) (m : Sets) (options : LookupOptions) (t : ZoneTransfer)
    → IsZone m → IsTransfer sign origin m options t
    → (r : Record) → Contains t.records r ↔ ((n : Name) × (u : ℕ) × (s : RRset) × (set_at m n u ≡ Some s) × Contains (set_records options s) r × (type_of r.rdata ≢ SOA))

-- and is there once: no two of them are equal, where no signatures are asked for
abbrev pub HasNoneTwice : Type 0
HasNoneTwice = (sign : LookupOptions → RRset → List Record) (origin : Name) (m : Sets) (t : ZoneTransfer) → IsZone m → IsTransfer sign origin m plain t → IsDistinct same_record t.records
