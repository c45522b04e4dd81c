-- What a query asks by its options
use Rattle.std.specs.Prelude.{ℕ, ◌+◌, ◌-◌, Bool, false, List, [], ◌∷◌, length, max, min, Option, Some, None}
use Rattle.message_cookies.specs.Cookies.{checked_cookie}
use Rattle.message_cookies.specs.declared.checking.CheckedCookie.{CheckedCookie}
use Rattle.message_cookies.specs.declared.checking.CheckedCookie.TheVariants as checked
use Rattle.message_cookies.specs.declared.secrets.CookieSecrets.{CookieSecrets}
use Rattle.message_options.specs.Options.{option_value}
use Rattle.message_reading.specs.Octets.{◌>>=◌, octets_of}
use Rattle.zone_server.specs.declared.transport.Transport.{Transport}
use Rattle.zone_server.specs.declared.transport.Transport.TheVariants as transports
use Rattle.zone_server.specs.Limits.{datagram_size}
use Rattle.server_options.specs.declared.arrival.Arrival.{Arrival}
use Rattle.server_options.specs.declared.asking.CookieState.{CookieState}
use Rattle.server_options.specs.declared.asking.CookieState.TheVariants.{Absent, Known, Malformed, Unknown}

-- ---- cookies

-- the secrets of the server, and the value of the COOKIE option, 10, among the options of a query (RFC 7873 section 4), if both are there
abbrev pub cookie_in : Option CookieSecrets → List ℕ → Option (CookieSecrets × List ℕ)
cookie_in None options = None
cookie_in (Some secrets) options = option_value 64 10 options >>= λ value. Some (secrets, value)

-- a client that has a valid cookie is known (RFC 7873 sections 5.2.2 to 5.2.5)
abbrev pub state_by : CheckedCookie → CookieState
state_by checked.Malformed = Malformed
state_by checked.ClientAlone = Unknown
state_by checked.Invalid = Unknown
state_by checked.Valid = Known

abbrev pub state_of : Option (CookieSecrets × List ℕ) → Arrival → CookieState
state_of None a = Absent
state_of (Some cookie) a = state_by (checked_cookie cookie.0 cookie.1 a.address.now a.moment)

-- whether a client is sent back for the cookie that it gets, by a server that requires cookies (RFC 7873 sections 5.2.3 and 5.2.4): over TCP
-- its address is known to be its own
abbrev pub comes_again : Bool → Transport → CookieState → Bool
comes_again required (transports.Udp limit) Unknown = required
comes_again required t state = false

-- ---- the identifier

abbrev pub if_asked : Option (List ℕ) → List ℕ → List ℕ
if_asked None nsid = []
if_asked (Some value) nsid = nsid

-- the server's identifier, if the query asks for it by option 3 (RFC 5001 section 2.1); its value there is ignored
abbrev pub nsid_in : List ℕ → List ℕ → List ℕ
nsid_in nsid options = if_asked (option_value 64 3 options) nsid

-- ---- a message that is no query

-- the header of a message, its first twelve octets (RFC 1035 section 4.1.1)
abbrev pub header_by : Option (List ℕ × List ℕ) → List ℕ → List ℕ
header_by None message = message
header_by (Some front) message = front.0

abbrev pub header_alone : List ℕ → List ℕ
header_alone message = header_by (octets_of 12 message) message

-- ---- room

-- how many octets the response to a query with an OPT record may have that takes so many octets (RFC 6891 section 6.2.3): as `limit_for` of
-- `zone_server` has it
abbrev pub limit_by : Transport → ℕ → ℕ
limit_by (transports.Udp limit) size = max 512 (min size (min limit datagram_size))
limit_by transports.Tcp size = 65535

-- an option of a cookie has 28 octets
abbrev pub reserved_for_cookie : CookieState → ℕ
reserved_for_cookie Absent = 0
reserved_for_cookie _ = 28

abbrev pub reserved_for_nsid : List ℕ → ℕ
reserved_for_nsid [] = 0
reserved_for_nsid (b ∷ rest) = 4 + length (b ∷ rest)

-- how many octets a response leaves for options
abbrev pub reserved : CookieState → List ℕ → ℕ
reserved state nsid = reserved_for_cookie state + reserved_for_nsid nsid

-- the way over UDP takes fewer octets, so that there is room for so many more within the limit; but never fewer than 512
abbrev pub lowered : Transport → ℕ → ℕ → Transport
lowered (transports.Udp limit) most room = transports.Udp (max 512 (most - room))
lowered transports.Tcp most room = transports.Tcp
