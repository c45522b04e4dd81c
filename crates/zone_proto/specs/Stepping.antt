-- The next serial of a zone
use Rattle.std.specs.Prelude.{List, [], ◌∷◌, ◌+◌, ◌%◌, ◌^◌, unwrap_or}
use Rattle.zone_proto.specs.Sets.{RRset, first_serial}
use Rattle.zone_proto.specs.declared.rdata.RData.{RData}
use Rattle.zone_proto.specs.declared.rdata.RData.TheVariants as V
use Rattle.zone_proto.specs.declared.rdata.start_of_authority.SOA.{SOA as SoaData}
use Rattle.zone_proto.specs.declared.record.Record.{Record}

-- SOA data with the next serial, modulo 2^32
abbrev pub stepped_soa : SoaData → SoaData
stepped_soa a = record a { serial = (a.serial + 1) % 2 ^ 32 }

-- data with the next serial, where they are those of an SOA
abbrev pub stepped_data : RData → RData
stepped_data (V.SOA a) = V.SOA (stepped_soa a)
stepped_data d = d

-- records whose first has the next serial, where it is an SOA
abbrev pub stepped_records : List Record → List Record
stepped_records [] = []
stepped_records (r ∷ rs) = record r { rdata = stepped_data r.rdata } ∷ rs

-- a set whose SOA has the next serial, which is the set's too
abbrev pub stepped : RRset → RRset
stepped s = record s { serial = unwrap_or (first_serial (stepped_records s.records)) s.serial; records = stepped_records s.records }
