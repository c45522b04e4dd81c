-- The SOA of a zone's record sets
use Rattle.std.specs.Prelude.{ℕ, List, [], ◌∷◌, Option, Some, None, option_and_then}
use Rattle.std.specs.Option.{option_map_or}
use Rattle.zone_proto.specs.declared.rdata.RData.{RData}
use Rattle.zone_proto.specs.declared.rdata.RData.TheVariants as V
use Rattle.zone_proto.specs.declared.rdata.start_of_authority.SOA.{SOA as SoaData}
use Rattle.zone_proto.specs.declared.record.Record.{Record}
use Rattle.zone_proto.specs.Names.{Name}
use Rattle.zone_proto.specs.Types.{SOA}
use Rattle.zone_map.specs.Zones.{Sets, set_at}

-- SOA data
abbrev pub soa_of : RData → Option SoaData
soa_of (V.SOA a) = Some a
soa_of _ = None

-- the SOA data of a list's first record
abbrev pub first_soa : List Record → Option SoaData
first_soa [] = None
first_soa (r ∷ rs) = soa_of r.rdata

-- the zone's SOA: the data of the first record of the SOA set at the origin (RFC 1035 section 3.3.13)
abbrev pub soa : Sets → Name → Option SoaData
soa m origin = option_and_then (λ s. first_soa s.records) (set_at m origin SOA)

-- its serial and its minimum, 0 without an SOA
abbrev pub serial : Sets → Name → ℕ
serial m origin = option_map_or (λ a. a.serial) (soa m origin) 0

abbrev pub minimum : Sets → Name → ℕ
minimum m origin = option_map_or (λ a. a.minimum) (soa m origin) 0
