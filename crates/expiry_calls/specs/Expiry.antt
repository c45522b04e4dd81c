-- Zones that have expired: those of which a secondary couldn't ask the primary for their expire interval (RFC 1034 section 4.3.5)
use Rattle.std.specs.Prelude.{◌≡◌, ℕ, List, [], true, false, unwrap_or}
use Rattle.zone_proto.specs.declared.response_code.ResponseCode.TheVariants as code
use Rattle.zone_proto.specs.Names.{Name, lower}
use Rattle.message_reading.specs.declared.query.Query.{Query as ReadQuery}
use Rattle.zone_response.specs.Queries.{Query}
use Rattle.zone_response.specs.Responses.{bare, refusal, IsResponse}
use Rattle.zone_response.specs.Sections.{Sections}
use Rattle.zone_server.specs.declared.transfer_policy.TransferPolicy.TheVariants.{AllowAll}
use Rattle.zone_server.specs.declared.transport.Transport.{Transport}
use Rattle.zone_server.specs.Transfers.{by_code, policy_reply}
use Rattle.zone_database.specs.declared.outcome.Outcome.{Outcome}
use Rattle.zone_database.specs.declared.outcome.Outcome.TheVariants.{Done, NoMemory, NoZone}
use Rattle.zone_database.specs.declared.zone.Zone.{Zone}
use Rattle.zone_database.specs.Calls.{Ends, WithName, origin_of}
use Rattle.zone_database.specs.Databases.{has_zone, with_zone}
use Rattle.zone_database.specs.Zones.{served_zone, zone_of_records}

-- the zone of an origin that has expired: it has no sets
abbrev pub expired_zone : Name → Zone
expired_zone origin = zone_of_records origin []

-- ---- the call

-- the zone of an origin has expired, and the others are as they were; or there is none, or no memory was found, and nothing changes
abbrev pub ExpiresAt : Name → List Zone → Outcome → List Zone → Type 0
ExpiresAt origin old Done new = (has_zone origin old ≡ true) × (new ≡ with_zone (expired_zone origin) old)
ExpiresAt origin old NoZone new = (has_zone origin old ≡ false) × (new ≡ old)
ExpiresAt origin old NoMemory new = new ≡ old
ExpiresAt origin old outcome new = ⊥

-- the same for an origin that is given as text: nothing changes, either, where that is no name
abbrev pub Expires : List ℕ → List Zone → Outcome → List Zone → Type 0
Expires origin old outcome new = WithName (origin_of origin) (λ name. ExpiresAt (lower name) old outcome new) (Ends old outcome new)

-- ---- the laws

-- what a zone that has expired is asked gets a code alone: that of the refusal where it isn't asked what a zone answers, and else SERVFAIL
abbrev pub ExpiredZonesFail : Type 0
ExpiredZonesFail = (origin : Name) (q : Query) (r : Sections) → IsResponse (served_zone (expired_zone origin)) q r → r ≡ bare (unwrap_or (refusal origin q) code.ServFail)

-- a query for such a zone, or for what changed in it, from one who may have it gets SERVFAIL
abbrev pub ExpiredZonesArentSent : Type 0
ExpiredZonesArentSent = (t : Transport) (message : List ℕ) (q : ReadQuery) (origin : Name) → policy_reply t message q (served_zone (expired_zone origin)) AllowAll ≡ by_code code.ServFail
