-- The records that record sets give a client
use Rattle.std.specs.Prelude.{Bool, not, List, filter, ◌==◌}
use Rattle.std.specs.List.{flat_map}
use Rattle.zone_proto.specs.declared.record.Record.{Record}
use Rattle.zone_proto.specs.Data.{type_of}
use Rattle.zone_proto.specs.Sets.{RRset, lent}
use Rattle.zone_proto.specs.Types.{SOA}
use Rattle.lookup_types.specs.declared.lookup_options.LookupOptions.{LookupOptions}

-- one set: its records in order, and after them its signatures where the client asked for DNSSEC (RFC 4035 section 3.1.1)
abbrev pub set_records : LookupOptions → RRset → List Record
set_records options set = lent set options.dnssec_ok

-- several sets, one after the other
abbrev pub sets_records : LookupOptions → List RRset → List Record
sets_records options sets = flat_map (set_records options) sets

-- those of some records that aren't of type SOA
abbrev pub without_soa : List Record → List Record
without_soa records = filter (λ (r : Record). not (type_of r.rdata == SOA)) records

-- several sets as a transfer of the zone has them between its two SOA records (RFC 5936 section 2.2): the signatures of an SOA aren't of type SOA, and stay
abbrev pub axfr_records : Bool → List RRset → List Record
axfr_records dnssec_ok sets = without_soa (sets_records (record { dnssec_ok = dnssec_ok }) sets)
