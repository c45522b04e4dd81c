-- Zones that have expired: how they are put among others, and what they answer
use Rattle.std.proofs.Common.{◌≡◌, ℕ, List, [], true, refl, sym, subst}
use Rattle.std.specs.Prelude.{Option, Some, None, unwrap_or}
use Rattle.std.specs.Option.{option_map_or}
use Rattle.zone_proto.specs.declared.response_code.ResponseCode.{ResponseCode}
use Rattle.zone_proto.specs.declared.response_code.ResponseCode.TheVariants as code
use Rattle.zone_proto.specs.Names.{Name}
use Rattle.zone_map.specs.Zones.{Sets, IsZone}
use Rattle.zone_map.proofs.Stored.{IsZone-none}
use Rattle.zone_response.specs.Queries.{Inquiry, inquiry}
use Rattle.zone_response.specs.Responses.{bare, refusal, refused, without_soa, IsResponseTo}
use Rattle.zone_response.specs.Sections.{Sections}
use Rattle.zone_database.specs.declared.outcome.Outcome.{Outcome}
use Rattle.zone_database.specs.declared.outcome.Outcome.TheVariants as outcome
use Rattle.zone_database.specs.declared.zone.Zone.{Zone}
use Rattle.zone_database.specs.Calls.{PutsZone}
use Rattle.zone_database.specs.Databases.{has_zone}
use Rattle.zone_database.specs.Zones.{served_zone}
use Rattle.expiry_calls.specs.Expiry.{expired_zone, ExpiresAt, ExpiredZonesArentSent, ExpiredZonesFail}

-- a zone may have no sets
pub no_sets : (m : Sets) → m ≡ [] → IsZone m
no_sets m none = subst IsZone (sym none) IsZone-none

-- a zone that is there has expired once one without sets is in its place
pub expires : (origin : Name) (old new : List Zone) (o : Outcome) → has_zone origin old ≡ true → PutsZone (expired_zone origin) old o new → ExpiresAt origin old o new
expires origin old new outcome.Done there put = (there, put)
expires origin old new outcome.NoMemory there same = same
expires origin old new outcome.Ignored there put = absurd put
expires origin old new outcome.Closed there put = absurd put
expires origin old new outcome.BadName there put = absurd put
expires origin old new outcome.BadText there put = absurd put
expires origin old new outcome.NoRoom there put = absurd put
expires origin old new outcome.NoZone there put = absurd put
expires origin old new outcome.ZoneExists there put = absurd put
expires origin old new outcome.BadTransport there put = absurd put

-- ---- the laws

-- the response of a zone without SOA, by the refusal if there is one
by_refusal : (i : Inquiry) (c : Option ResponseCode) (r : Sections) → IsResponseTo i (option_map_or refused c without_soa) r → r ≡ bare (unwrap_or c code.ServFail)
by_refusal i (Some c) r is = is
by_refusal i None r is = is

pub expired_zones_fail : ExpiredZonesFail
expired_zones_fail origin q r is = by_refusal (inquiry (served_zone (expired_zone origin)) q) (refusal origin q) r is

pub expired_zones_arent_sent : ExpiredZonesArentSent
expired_zones_arent_sent t message q origin = refl
