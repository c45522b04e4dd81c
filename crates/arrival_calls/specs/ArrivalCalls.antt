-- What the calls do that answer messages with options, for a program that isn't written in Rattle
use Rattle.std.specs.Prelude.{◌≡◌, ◌≢◌, ℕ, ◌==◌, ◌%◌, ◌^◌, Bool, not, List, [], drop, length, map, take, Option, Some, None, if◌then◌else◌}
use Rattle.message_cookies.specs.declared.secrets.CookieSecrets.{CookieSecrets}
use Rattle.zone_server.specs.declared.transport.Transport.{Transport}
use Rattle.server_options.specs.declared.arrival.Arrival.{Arrival}
use Rattle.server_options.specs.declared.arrival.ServerOptions.{ServerOptions}
use Rattle.server_options.specs.declared.asking.CookieState.{CookieState}
use Rattle.server_options.specs.declared.asking.CookieState.TheVariants.{Absent, Malformed, Unknown, Known}
use Rattle.server_options.specs.declared.summary.ResponseKind.{ResponseKind}
use Rattle.server_options.specs.declared.summary.ResponseKind.TheVariants.{Answer, Referral, NoData, NameError, Refused, Failed, Truncated, Other}
use Rattle.server_options.specs.declared.summary.Summary.{Summary}
use Rattle.server_options.specs.ServerAnswers.{IsAnswerToArrival, cookie_state}
use Rattle.server_options.specs.Summaries.{summary_of}
use Rattle.zone_database.specs.declared.database.ZoneDatabase.{ZoneDatabase}
use Rattle.zone_database.specs.declared.outcome.Outcome.{Outcome}
use Rattle.zone_database.specs.declared.outcome.Outcome.TheVariants.{Ignored, Closed, NoMemory, BadTransport}
use Rattle.zone_database.specs.declared.zone.Zone.{Zone}
use Rattle.call_handles.specs.Rooms.{IsUntouched}
use Rattle.zone_database.specs.Calls.{transport_of, IsGiven}
use Rattle.zone_database.specs.Databases.{zones_in}
use Rattle.zone_database.specs.Zones.{served_zone}
use Rattle.arrival_calls.specs.declared.client.ClientMessage.{ClientMessage}
use Rattle.arrival_calls.specs.declared.client.ServerSettings.{ServerSettings}
use Rattle.arrival_calls.specs.declared.summary_numbers.SummaryNumbers.{SummaryNumbers}

-- ---- what the caller gives

-- the secrets for cookies that octets are: 16 are the current one, and 32 the current one and the one before it
abbrev pub secrets_of : List ℕ → Option CookieSecrets
secrets_of octets =
    if length octets == 16 then Some (record { current = octets; previous = None })
    else if length octets == 32 then Some (record { current = take 16 octets; previous = Some (drop 16 octets) })
    else None

-- the options of a server with these settings
abbrev pub options_of : ServerSettings → ServerOptions
options_of s = record { nsid = s.nsid; secrets = secrets_of s.secrets.now; cookies_required = not (s.cookies_required == 0) }

-- a message that came by a transport, with its moment by 2^32, as cookies have it (RFC 9018 section 4.3)
abbrev pub arrival_of : ClientMessage → Transport → Arrival
arrival_of m t = record { message = m.octets; address = m.address; moment = m.moment % 2 ^ 32; transport = t }

-- ---- what the caller is told

-- the number of a kind
abbrev pub kind_number : ResponseKind → ℕ
kind_number Answer = 0
kind_number Referral = 1
kind_number NoData = 2
kind_number NameError = 3
kind_number Refused = 4
kind_number Failed = 5
kind_number Truncated = 6
kind_number Other = 7

-- the number of what a cookie tells
abbrev pub cookie_number : CookieState → ℕ
cookie_number Absent = 0
cookie_number Malformed = 1
cookie_number Unknown = 2
cookie_number Known = 3

abbrev pub bit : Bool → ℕ
bit holds = if holds then 1 else 0

-- a summary in numbers
abbrev pub numbers_of : Option Summary → SummaryNumbers
numbers_of None = record { code = 0; kind = 0; truncated = 0; cookie = 0; origin_labels = 0 }
numbers_of (Some s) = record {
  code = s.code;
  kind = kind_number s.kind;
  truncated = bit s.truncated;
  cookie = cookie_number s.cookie;
  origin_labels = s.origin_labels;
}

-- ---- calls

-- The answer to a message: a response, with a summary of it; or none, or no memory was found, and then the summary stays as it was.
abbrev pub IsArrivalAnswered : List Zone → ServerOptions → Arrival → SummaryNumbers → Outcome → ℕ → List ℕ → List ℕ → SummaryNumbers → Type 0
IsArrivalAnswered zs o a old Ignored written before after new =
    (labels : ℕ) × IsAnswerToArrival (map served_zone zs) o a labels [] × IsUntouched written before after × (new ≡ old)
IsArrivalAnswered zs o a old NoMemory written before after new = IsUntouched written before after × (new ≡ old)
IsArrivalAnswered zs o a old outcome written before after new =
    (labels : ℕ) × (octets : List ℕ) × IsAnswerToArrival (map served_zone zs) o a labels octets × (octets ≢ [])
    × IsGiven octets outcome written before after × (new ≡ numbers_of (summary_of (cookie_state o a) labels octets))

-- the same of a handle, which may hold no zones
abbrev pub AnswersArrivalHeld : ServerOptions → Arrival → Option ZoneDatabase → SummaryNumbers → Outcome → ℕ → List ℕ → List ℕ → SummaryNumbers → Type 0
AnswersArrivalHeld o a None old outcome written before after new =
    (outcome ≡ Closed) × IsUntouched written before after × (new ≡ old)
AnswersArrivalHeld o a (Some c) old outcome written before after new =
    IsArrivalAnswered (zones_in c) o a old outcome written before after new

-- the same of what the caller gives, which may have a number of no transport
abbrev pub AnswersBy : Option Transport → ServerSettings → ClientMessage → Option ZoneDatabase → SummaryNumbers → Outcome → ℕ → List ℕ → List ℕ → SummaryNumbers → Type 0
AnswersBy None s m held old outcome written before after new =
    (outcome ≡ BadTransport) × IsUntouched written before after × (new ≡ old)
AnswersBy (Some t) s m held old outcome written before after new =
    AnswersArrivalHeld (options_of s) (arrival_of m t) held old outcome written before after new

abbrev pub AnswersClient : ServerSettings → ClientMessage → Option ZoneDatabase → SummaryNumbers → Outcome → ℕ → List ℕ → List ℕ → SummaryNumbers → Type 0
AnswersClient s m held old outcome written before after new =
    AnswersBy (transport_of m.limit m.transport) s m held old outcome written before after new
