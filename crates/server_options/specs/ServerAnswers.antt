-- What messages are answered with by a server that answers options
use Rattle.std.specs.Prelude.{◌≡◌, ℕ, Bool, List, Option, Some, None}
use Rattle.message_cookies.specs.declared.secrets.CookieSecrets.{CookieSecrets}
use Rattle.message_options.specs.Options.{opt_of}
use Rattle.message_reading.specs.declared.record_frame.RecordFrame.{RecordFrame}
use Rattle.zone_response.specs.Queries.{Zone}
use Rattle.zone_server.specs.Answers.{IsAnswerFrom}
use Rattle.server_options.specs.Asking.{comes_again, cookie_in, header_alone, limit_by, lowered, nsid_in, reserved, state_of}
use Rattle.server_options.specs.BadCookies.{IsAnswerOrBadCookie}
use Rattle.server_options.specs.Completing.{completed}
use Rattle.server_options.specs.declared.arrival.Arrival.{Arrival}
use Rattle.server_options.specs.declared.arrival.ServerOptions.{ServerOptions}
use Rattle.server_options.specs.declared.asking.CookieState.{CookieState}
use Rattle.server_options.specs.declared.asking.CookieState.TheVariants.{Absent, Malformed}

-- the response that `zone_server` gives, or BADCOOKIE, with room for options, and with these
abbrev pub IsCompleted : List Zone → Arrival → Bool → CookieState → Option (CookieSecrets × List ℕ) → List ℕ → ℕ → ℕ → List ℕ → Type 0
IsCompleted zs a required state cookie nsid limit labels octets =
    (response : List ℕ)
    × IsAnswerOrBadCookie (comes_again required a.transport state) zs (lowered a.transport limit (reserved state nsid)) a.message.now labels response
    × (octets ≡ completed limit cookie nsid a response)

-- A malformed COOKIE option is answered by FORMERR (RFC 7873 section 5.2.2), as the header of the message alone is, which isn't of the form
-- of a query.
abbrev pub AnswersByState : List Zone → Arrival → Bool → CookieState → Option (CookieSecrets × List ℕ) → List ℕ → ℕ → ℕ → List ℕ → Type 0
AnswersByState zs a required Malformed cookie nsid limit labels octets = IsAnswerFrom zs a.transport (header_alone a.message.now) labels octets
AnswersByState zs a required state cookie nsid limit labels octets = IsCompleted zs a required state cookie nsid limit labels octets

abbrev pub AnswersOptions : List Zone → Arrival → Bool → Option (CookieSecrets × List ℕ) → List ℕ → ℕ → ℕ → List ℕ → Type 0
AnswersOptions zs a required cookie nsid size labels octets =
    AnswersByState zs a required (state_of cookie a) cookie nsid (limit_by a.transport size) labels octets

-- without an OPT record a query is answered as `zone_server` does
abbrev pub AnswersOpt : List Zone → ServerOptions → Arrival → Option (RecordFrame × List ℕ) → ℕ → List ℕ → Type 0
AnswersOpt zs o a None labels octets = IsAnswerFrom zs a.transport a.message.now labels octets
AnswersOpt zs o a (Some opt) labels octets =
    AnswersOptions zs a o.cookies_required (cookie_in o.secrets opt.1) (nsid_in o.nsid.now opt.1) opt.0.class labels octets

-- octets are the answer to a message, from a zone whose origin has so many labels, or from none, 0: no octets are no answer
abbrev pub IsAnswerToArrival : List Zone → ServerOptions → Arrival → ℕ → List ℕ → Type 0
IsAnswerToArrival zs o a labels octets = AnswersOpt zs o a (opt_of a.message.now) labels octets

-- ---- cookies

abbrev pub cookie_state_by : ServerOptions → Arrival → Option (RecordFrame × List ℕ) → CookieState
cookie_state_by o a None = Absent
cookie_state_by o a (Some opt) = state_of (cookie_in o.secrets opt.1) a

-- what a message tells by a COOKIE option: whether it has a cookie that the server made for the address that it came from, not long ago
abbrev pub cookie_state : ServerOptions → Arrival → CookieState
cookie_state o a = cookie_state_by o a (opt_of a.message.now)
