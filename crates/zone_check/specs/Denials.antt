-- What is reported of a zone's denials, and what is served from its file
use Rattle.std.specs.Prelude.{◌≡◌, ◌⊎◌, [], Option, Some, None, option_and_then, slice_get}
use Rattle.zone_proto.specs.declared.rdata.RData.{RData}
use Rattle.zone_proto.specs.declared.rdata.RData.TheVariants as V
use Rattle.zone_proto.specs.declared.rdata.denial.NSEC3PARAM.{NSEC3PARAM as Nsec3Parameters}
use Rattle.zone_proto.specs.declared.record.Record.{Record}
use Rattle.zone_proto.specs.Names.{Name}
use Rattle.zone_proto.specs.Sets.{RRset}
use Rattle.zone_proto.specs.Types.{NSEC, NSEC3, NSEC3PARAM}
use Rattle.zone_map.specs.Zones.{Sets, owners, set_at}
use Rattle.zone_builder.specs.declared.loading.Loaded.{Loaded}
use Rattle.zone_database.specs.Zones.{served_zone, zone_of_records}
use Rattle.zone_response.specs.Queries.{Zone}
use Rattle.response_laws.specs.HashedSayings.{DeniesByNsec3}
use Rattle.response_laws.specs.ProvedSayings.{DeniesByNsec}
use Rattle.zone_check.specs.declared.denial.Denial.{Denial}
use Rattle.zone_check.specs.declared.denial.Denial.TheVariants as denial

-- the zone that a server makes of what was loaded
abbrev pub served : Loaded → Zone
served loaded = served_zone (zone_of_records loaded.origin loaded.records)

-- a zone without sets of denial
pub record DeniesNothing (z : Zone) : Type 0 where
  pub kind : z.nx_proof_kind ≡ None
  pub no_nsec : owners z.sets NSEC ≡ []
  pub no_nsec3 : owners z.sets NSEC3 ≡ []

-- what is reported of a zone is so; where it has a closed chain, the laws of response_laws speak of it
abbrev pub IsReported : Zone → Denial → Type 0
IsReported z denial.Nothing = DeniesNothing z
IsReported z denial.NsecChain = DeniesByNsec z
IsReported z denial.Nsec3Chain = (parameters : Nsec3Parameters) × DeniesByNsec3 z parameters
IsReported z denial.Open = Unit {0}

-- the parameters that the first NSEC3PARAM record of the origin announces
abbrev pub announced : RData → Option Nsec3Parameters
announced (V.NSEC3PARAM parameters) = Some parameters
announced d = None

abbrev pub first_announced : Name → Sets → Option Nsec3Parameters
first_announced origin m = option_and_then (λ (s : RRset). option_and_then (λ (r : Record). announced r.rdata) (slice_get s.records 0)) (set_at m origin NSEC3PARAM)

-- a zone without sets of denial, or one of which these laws speak
abbrev pub DeniesRightly : Zone → Type 0
DeniesRightly z = DeniesNothing z ⊎ (DeniesByNsec z ⊎ ((parameters : Nsec3Parameters) × DeniesByNsec3 z parameters))
