-- What the SOA record of a zone says to secondaries (RFC 1035 section 3.3.13)
use Rattle.std.specs.Prelude.{ℕ, List, [], ◌∷◌, Option, Some, None, option_and_then}
use Rattle.std.specs.Int.{cast_unsigned, w32}
use Rattle.zone_proto.specs.Sets.{RRset}
use Rattle.zone_proto.specs.declared.rdata.RData.{RData}
use Rattle.zone_proto.specs.declared.rdata.RData.TheVariants.{SOA}
use Rattle.zone_proto.specs.declared.record.Record.{Record}
use Rattle.zone_proto.specs.declared.rr_key.RrKey.{RrKey}
use Rattle.zone_map.specs.Zones.{set_at, Sets}
use Rattle.zone_secondary.specs.declared.version.Version.{Version}

-- intervals are numbers without a sign
abbrev pub version_in_data : RData → Option Version
version_in_data (SOA soa) = Some (record {
  serial = soa.serial;
  refresh = cast_unsigned w32 soa.refresh;
  retry = cast_unsigned w32 soa.retry;
  expire = cast_unsigned w32 soa.expire;
})
version_in_data _ = None

abbrev pub version_in_records : List Record → Option Version
version_in_records [] = None
version_in_records (r ∷ rs) = version_in_data r.rdata

-- the version of the zone that has its SOA record under a key
abbrev pub version_in : Sets → RrKey → Option Version
version_in m apex = option_and_then (λ (s : RRset). version_in_records s.records) (set_at m apex.name apex.record_type.0)
