-- A set of the zone as it is sent in an authority section, with some TTL
use Rattle.std.proofs.Common.{◌≡◌, ℕ, cond}
use Rattle.std.specs.Prelude.{Some, ◌==◌}
use Rattle.zone_proto.specs.Names.{Name}
use Rattle.zone_proto.specs.Sets.{RRset}
use Rattle.zone_proto.specs.Types.{NS}
use Rattle.zone_map.specs.Zones.{Sets, set_at}
use Rattle.zone_response.specs.declared.response.Part.{Part}
use Rattle.zone_response.specs.declared.response.Part.TheVariants as part
use Rattle.zone_response.specs.Sections.{sent}

-- the zone's own set of a name and a type, of which those signatures are there that cover the type
pub record IsSentSet (m : Sets) (p : Part) (s : RRset) : Type 0 where
  pub name : Name
  pub record_type : ℕ
  pub stored : RRset
  pub stands : set_at m name record_type ≡ Some stored
  pub ttl : ℕ
  pub sent : s ≡ sent p ttl stored

-- one of the authority section is signed, but for NS, which here is a child's (RFC 4035 section 2.2)
abbrev pub authority_part : RRset → Part
authority_part s = cond (s.record_type == NS) part.Records part.Signed
