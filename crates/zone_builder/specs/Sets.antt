-- The sets of a zone that is made of records
use Rattle.std.specs.Prelude.{ℕ, Bool, cond, List, [], ◌∷◌, ◌++◌, map, fold, min, Option, Some, None, option_map, unwrap_or}
use Rattle.std.specs.List.{list_any}
use Rattle.zone_proto.specs.declared.rdata.RData.{RData}
use Rattle.zone_proto.specs.declared.record.Record.{Record}
use Rattle.zone_proto.specs.declared.rr_key.RrKey.{RrKey}
use Rattle.zone_proto.specs.Data.{same_data, type_of}
use Rattle.zone_proto.specs.Names.{Name}
use Rattle.zone_proto.specs.Sets.{RRset, empty_set, first_serial}
use Rattle.zone_proto.specs.Types.{SOA}
use Rattle.zone_map.specs.Zones.{Sets}
use Rattle.zone_denial.specs.Nsec3Sets.{with_taken}
use Rattle.zone_builder.specs.declared.given.GivenRecord.{GivenRecord}
use Rattle.zone_builder.specs.declared.groups.Group.{Group}
use Rattle.zone_builder.specs.Records.{given_at, signing_at, records_of}

-- a record has these data
abbrev pub has_data : List Record → RData → Bool
has_data rs d = list_any (λ (r : Record). same_data r.rdata d) rs

-- a record with another TTL
abbrev pub with_ttl : ℕ → Record → Record
with_ttl ttl r = record r { ttl = ttl }

-- the least TTL of records, in seconds; the greatest that there is, where there is no record
abbrev pub least_ttl : List GivenRecord → ℕ
least_ttl gs = fold (λ (least : ℕ) (g : GivenRecord). min least g.record.ttl) 4294967295 gs

-- the set that records of one owner and type make: they are inserted in order, each with the least TTL of all (RFC 2181 section 5.2), so that of equal data one stays; none without records
abbrev pub set_of : ℕ → List GivenRecord → Option RRset
set_of serial [] = None
set_of serial (g ∷ gs) = Some (fold (with_taken serial) (empty_set g.record.name (type_of g.record.rdata) serial) (map (with_ttl (least_ttl (g ∷ gs))) (records_of (g ∷ gs))))

-- records with one more behind them, unless one has its data
abbrev pub with_new : List Record → Record → List Record
with_new rs r = cond (has_data rs r.rdata) rs (rs ++ r ∷ [])

-- a set with further signatures in order, each with this TTL: of equal data one stays (RFC 2181 section 5)
abbrev pub signed_by : ℕ → List GivenRecord → RRset → RRset
signed_by ttl signatures s = record s { signatures = fold with_new s.signatures (map (with_ttl ttl) (records_of signatures)) }

-- the set that records and their signatures make, which all have the least TTL of the records (RFC 4034 section 3)
abbrev pub signed_set_of : ℕ → List GivenRecord → List GivenRecord → Option RRset
signed_set_of serial gs signatures = option_map (signed_by (least_ttl gs) signatures) (set_of serial gs)

-- the set that a group makes
abbrev pub set_in : ℕ → Group → Option RRset
set_in serial g = signed_set_of serial g.records.items g.signatures.items

-- sets by their keys, and behind them one that may be there
abbrev pub with_set : Sets → RrKey → Option RRset → Sets
with_set m k None = m
with_set m k (Some s) = m ++ (k, s) ∷ []

module _ (origin : Name) (gs : List GivenRecord) where
  -- the serial of the zone: that of the first SOA at the origin
  abbrev pub loaded_serial : ℕ
  loaded_serial = unwrap_or (first_serial (records_of (given_at origin gs origin SOA))) 0

  -- the sets of the zone, by name and type
  abbrev pub loaded_set : Name → ℕ → Option RRset
  loaded_set n t = signed_set_of loaded_serial (given_at origin gs n t) (signing_at origin gs n t)
