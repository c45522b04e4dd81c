-- The ZONEMD records of a zone (RFC 8976 section 4)
use Rattle.std.specs.Prelude.{Bool, true, List, Option, Some, None}
use Rattle.std.specs.List.{list_all}
use Rattle.std.specs.Option.{is_none}
use Rattle.zone_proto.specs.declared.record.Record.{Record}
use Rattle.zone_proto.specs.declared.rdata.RData.{RData}
use Rattle.zone_proto.specs.declared.rdata.RData.TheVariants as V
use Rattle.zone_proto.specs.Names.{Name}
use Rattle.zone_proto.specs.Sets.{RRset}
use Rattle.zone_map.specs.Zones.{Sets, set_at}
use Rattle.zone_lookup.specs.StartOfAuthority.{serial}
use Rattle.zone_digest.specs.Verifying.{digest_fault}
use Rattle.zone_digest.specs.ZoneText.{zonemd_type}

-- nothing is wrong with a record of a set, where its scheme and algorithm are known: it has the serial of the SOA and the digest of the
-- zone, and no other record has one by the same
abbrev pub is_digest_right : Name → Sets → List Record → RData → Bool
is_digest_right origin m set (V.Other d) = is_none (digest_fault origin m (serial m origin) set d.octets)
is_digest_right origin m set _ = true

abbrev pub is_set_right : Name → Sets → Option RRset → Bool
is_set_right origin m None = true
is_set_right origin m (Some s) = list_all (λ (r : Record). is_digest_right origin m s.records r.rdata) s.records

-- so it is with each ZONEMD record of the origin
abbrev pub are_digests_right : Name → Sets → Bool
are_digests_right origin m = is_set_right origin m (set_at m origin zonemd_type)
