-- What the calls of a program that isn't written in Rattle do to the zones that it keeps, and what they tell
use Rattle.std.specs.Prelude.{◌≡◌, ◌≢◌, ◌⊎◌, ◌<◌, ◌++◌, ◌==◌, ℕ, List, [], drop, length, map, min, Bool, true, false, if◌then◌else◌, Option, Some, None, Result, Ok, Err}
use Rattle.std.specs.List.{find}
use Rattle.call_handles.specs.Rooms.{HasText, IsUntouched, StandsIn}
use Rattle.zone_proto.specs.declared.error.ProtoError.{ProtoError}
use Rattle.zone_proto.specs.Names.{Name, lower}
use Rattle.zone_tokens.specs.Names.{name_under}
use Rattle.zone_lookup.specs.StartOfAuthority.{serial}
use Rattle.zone_server.specs.declared.transport.Transport.{Transport}
use Rattle.zone_server.specs.declared.transport.Transport.TheVariants as transports
use Rattle.zone_server.specs.Answers.{IsAnswer}
use Rattle.zone_database.specs.declared.database.ZoneDatabase.{ZoneDatabase}
use Rattle.zone_database.specs.declared.outcome.Outcome.{Outcome}
use Rattle.zone_database.specs.declared.outcome.Outcome.TheVariants.{Done, Ignored, Closed, BadName, BadText, NoMemory, NoRoom, NoZone, ZoneExists, BadTransport}
use Rattle.zone_database.specs.declared.reading.TextFault.{TextFault}
use Rattle.zone_database.specs.declared.reading.TextFault.TheVariants as fault
use Rattle.zone_database.specs.declared.zone.Zone.{Zone}
use Rattle.zone_database.specs.Databases.{begins_at, has_zone, with_zone, without, zones_in}
use Rattle.zone_database.specs.Texts.{IsTextFault, IsZoneOfText}
use Rattle.zone_database.specs.Zones.{served_zone}

-- ---- what the caller gives

-- the origin that octets name: a name in its text form (RFC 1035 section 5.1), of which a final dot may be left out
abbrev pub origin_of : List ℕ → Result Name ProtoError
origin_of octets = name_under [] octets

-- the transport of a number: 0 is UDP, by which the way takes so many octets, and 1 is TCP
abbrev pub transport_of : ℕ → ℕ → Option Transport
transport_of limit number =
    if number == 0 then Some (transports.Udp (min limit 65535))
    else (if number == 1 then Some transports.Tcp
    else None)

-- ---- what is told in a room of the caller's

-- what is reported about a text: warnings where the call is done, the fault where the text is bad, and nothing
-- elsewhere
abbrev pub IsReported : Outcome → ℕ → List ℕ → List ℕ → Type 0
IsReported Done written before after = HasText written before after
IsReported BadText written before after = HasText written before after
IsReported outcome written before after = IsUntouched written before after

-- a response in the room, whose length is returned; where it is longer than the room, that is left as it was
abbrev pub IsGiven : List ℕ → Outcome → ℕ → List ℕ → List ℕ → Type 0
IsGiven octets Done written before after = (written ≡ length octets) × StandsIn octets before after
IsGiven octets NoRoom written before after = (length before < length octets) × (written ≡ length octets) × (after ≡ before)
IsGiven octets outcome written before after = ⊥

-- ---- what is done to the zones that are there, and what is reported about them

-- a zone is among the others, in place of the one of its origin if there is one; or no memory was found, and nothing
-- changes
abbrev pub PutsZone : Zone → List Zone → Outcome → List Zone → Type 0
PutsZone z old Done new = new ≡ with_zone z old
PutsZone z old NoMemory new = new ≡ old
PutsZone z old outcome new = ⊥

-- the zone that a text makes is among the others, in place of the one of its origin if there is one; or nothing
-- changes: the text makes no zone, or no memory was found
abbrev pub IsPut : Name → List ℕ → List Zone → Outcome → List Zone → Type 0
IsPut origin text old Done new = (z : Zone) × IsZoneOfText origin text z × (new ≡ with_zone z old)
IsPut origin text old BadText new = (e : TextFault) × IsTextFault origin text e × (e ≢ fault.Memory) × (new ≡ old)
IsPut origin text old NoMemory new = new ≡ old
IsPut origin text old outcome new = ⊥

-- the same where there is no zone of this origin; if there is one, nothing changes
abbrev pub IsPutBeside : Bool → Name → List ℕ → List Zone → Outcome → List Zone → Type 0
IsPutBeside false origin text old outcome new = IsPut origin text old outcome new
IsPutBeside true origin text old outcome new = ((outcome ≡ ZoneExists) ⊎ (outcome ≡ NoMemory)) × (new ≡ old)

abbrev pub IsMade : Name → List ℕ → List Zone → Outcome → List Zone → Type 0
IsMade origin text old outcome new = IsPutBeside (has_zone (lower origin) old) origin text old outcome new

-- the zone of an origin is taken out; or there is none
abbrev pub IsTakenOut : Name → List Zone → Outcome → List Zone → Type 0
IsTakenOut origin old outcome new = (new ≡ without origin old) × (outcome ≡ (if has_zone origin old then Done else NoZone))

-- answers of the zone of an origin are kept, which changes no zone; or there is none, or no memory was found
abbrev pub IsPreparedAt : Name → List Zone → Outcome → List Zone → Type 0
IsPreparedAt origin old outcome new = (new ≡ old) × ((outcome ≡ NoMemory) ⊎ (outcome ≡ (if has_zone origin old then Done else NoZone)))

-- the serial of the zone of an origin is written; or there is none, or no memory was found, and the number stays
abbrev pub IsSerialOf : Name → ℕ → ℕ → Option Zone → Outcome → Type 0
IsSerialOf origin before after (Some z) Done = after ≡ serial z.inner.records z.origin
IsSerialOf origin before after (Some z) NoMemory = after ≡ before
IsSerialOf origin before after (Some z) outcome = ⊥
IsSerialOf origin before after None outcome = (outcome ≡ NoZone) × (after ≡ before)

abbrev pub IsSerialAt : Name → ℕ → ℕ → List Zone → Outcome → Type 0
IsSerialAt origin before after zs outcome = IsSerialOf origin before after (find (begins_at origin) zs) outcome

-- ---- the same for an origin that is given as text: it may be no name, and memory may be refused, and then nothing changes

abbrev pub WithName : Result Name ProtoError → (Name → Type 0) → (Outcome → Type 0) → Type 0
WithName (Ok name) does ends = does name ⊎ ends NoMemory
WithName (Err e) does ends = ends BadName ⊎ ends NoMemory

-- the call ends so, and the zones stay
abbrev pub Ends : {X : Type 0} → X → Outcome → X → Outcome → Type 0
Ends old outcome new end = (outcome ≡ end) × (new ≡ old)

abbrev pub IsLoaded : List ℕ → List ℕ → List Zone → Outcome → List Zone → Type 0
IsLoaded origin text old outcome new = WithName (origin_of origin) (λ name. IsPut name text old outcome new) (Ends old outcome new)

abbrev pub IsAdded : List ℕ → List ℕ → List Zone → Outcome → List Zone → Type 0
IsAdded origin text old outcome new = WithName (origin_of origin) (λ name. IsMade name text old outcome new) (Ends old outcome new)

abbrev pub IsDropped : List ℕ → List Zone → Outcome → List Zone → Type 0
IsDropped origin old outcome new = WithName (origin_of origin) (λ name. IsTakenOut (lower name) old outcome new) (Ends old outcome new)

abbrev pub IsPrepared : List ℕ → List Zone → Outcome → List Zone → Type 0
IsPrepared origin old outcome new = WithName (origin_of origin) (λ name. IsPreparedAt (lower name) old outcome new) (Ends old outcome new)

abbrev pub IsSerial : List ℕ → ℕ → ℕ → List Zone → Outcome → Type 0
IsSerial origin before after zs outcome = WithName (origin_of origin) (λ name. IsSerialAt (lower name) before after zs outcome) (Ends before outcome after)

-- the answer to a message: a response, or none; or no memory was found
abbrev pub IsAnswered : List Zone → Transport → List ℕ → Outcome → ℕ → List ℕ → List ℕ → Type 0
IsAnswered zs t message Ignored written before after = IsAnswer (map served_zone zs) t message [] × IsUntouched written before after
IsAnswered zs t message NoMemory written before after = IsUntouched written before after
IsAnswered zs t message outcome written before after = (octets : List ℕ) × IsAnswer (map served_zone zs) t message octets × (octets ≢ []) × IsGiven octets outcome written before after

-- ---- the same of a handle, which may hold no zones

-- these zones are held, and what was held before is given back; or no memory was found, and it stays
abbrev pub IsCreated : List Zone → Option ZoneDatabase → Outcome → Option ZoneDatabase → Type 0
IsCreated zs old Done new = (c : ZoneDatabase) × (zones_in c ≡ zs) × (new ≡ Some c)
IsCreated zs old NoMemory new = new ≡ old
IsCreated zs old outcome new = ⊥

-- a call changes the zones, if there are any: `does` says of those before, how the call ended, and those after
abbrev pub ChangesHeld : (List Zone → Outcome → List Zone → Type 0) → Option ZoneDatabase → Outcome → Option ZoneDatabase → Type 0
ChangesHeld does None outcome new = (outcome ≡ Closed) × (new ≡ None)
ChangesHeld does (Some c) outcome new = (after : ZoneDatabase) × does (zones_in c) outcome (zones_in after) × (new ≡ Some after)

-- a call asks the zones, if there are any; where there are none it leaves what is `unchanged`
abbrev pub AsksHeld : (List Zone → Outcome → Type 0) → Type 0 → Option ZoneDatabase → Outcome → Type 0
AsksHeld does unchanged None outcome = (outcome ≡ Closed) × unchanged
AsksHeld does unchanged (Some c) outcome = does (zones_in c) outcome

-- a message that came by a transport, if its number is one's, is answered from the zones
abbrev pub AnswersHeld : Option Transport → List ℕ → Option ZoneDatabase → Outcome → ℕ → List ℕ → List ℕ → Type 0
AnswersHeld None message held outcome written before after = (outcome ≡ BadTransport) × IsUntouched written before after
AnswersHeld (Some t) message held outcome written before after =
    AsksHeld (λ zs o. IsAnswered zs t message o written before after) (IsUntouched written before after) held outcome
