-- NSEC3 records, as a validator reads them
use Rattle.std.specs.Prelude.{ℕ, Bool, List, map, filter_map, Option, Some, None, option_map}
use Rattle.zone_proto.specs.declared.rdata.RData.{RData}
use Rattle.zone_proto.specs.declared.rdata.RData.TheVariants as V
use Rattle.zone_proto.specs.declared.rdata.denial.NSEC3.{NSEC3 as Nsec3Data}
use Rattle.zone_proto.specs.declared.record.Record.{Record}
use Rattle.zone_proto.specs.Names.{Name, lower}

-- an NSEC3 record: its owner, in lower case, the next digest, the types that its bit map lists, and the Opt-Out flag (RFC 5155
-- section 3)
pub record Nsec3Record : Type 0 where
  pub owner : Name
  pub next : List ℕ
  pub types : List ℕ
  pub opt_out : Bool

-- the NSEC3 record of an owner and data
abbrev pub nsec3_record : Name → Nsec3Data → Nsec3Record
nsec3_record owner data' = record {
  owner = lower owner;
  next = data'.next_hashed_owner_name;
  types = map (λ t. t.0) data'.types;
  opt_out = data'.opt_out;
}

-- NSEC3 data
abbrev pub nsec3_data : RData → Option Nsec3Data
nsec3_data (V.NSEC3 a) = Some a
nsec3_data _ = None

-- a record, if it is one of type NSEC3
abbrev pub read_nsec3 : Record → Option Nsec3Record
read_nsec3 r = option_map (nsec3_record r.name) (nsec3_data r.rdata)

-- the NSEC3 records among some records
abbrev pub nsec3_records : List Record → List Nsec3Record
nsec3_records rs = filter_map read_nsec3 rs
