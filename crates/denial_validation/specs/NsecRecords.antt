-- NSEC records, as a validator reads them
use Rattle.std.specs.Borrow.{Bor}
use Rattle.std.specs.Prelude.{ℕ, List, map, filter_map, Option, Some, None, option_map}
use Rattle.zone_proto.specs.declared.rdata.RData.{RData}
use Rattle.zone_proto.specs.declared.rdata.RData.TheVariants as V
use Rattle.zone_proto.specs.declared.rdata.denial.NSEC.{NSEC as NsecData}
use Rattle.zone_proto.specs.declared.record.Record.{Record}
use Rattle.zone_proto.specs.Names.{Name, lower}

-- an NSEC record: its owner, the next name, and the types that its bit map lists (RFC 4034 section 4.1); names in lower case
pub record NsecRecord : Type 0 where
  pub owner : Name
  pub next : Name
  pub types : List ℕ

-- the NSEC record of an owner and data
abbrev pub nsec_record : Name → NsecData → NsecRecord
nsec_record owner data' = record { owner = lower owner; next = lower data'.next_domain_name; types = map (λ t. t.0) data'.types }

-- NSEC data
abbrev pub nsec_data : RData → Option NsecData
nsec_data (V.NSEC a) = Some a
nsec_data _ = None

-- a record, if it is one of type NSEC
abbrev pub read_nsec : Record → Option NsecRecord
read_nsec r = option_map (nsec_record r.name) (nsec_data r.rdata)

-- the NSEC records among some records
abbrev pub nsec_records : List Record → List NsecRecord
nsec_records rs = filter_map read_nsec rs

-- and among records that are lent
abbrev pub lent_nsec : List (Bor Record) → List NsecRecord
lent_nsec lent = nsec_records (map (λ r. r.now) lent)
