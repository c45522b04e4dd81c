-- Clients that are sent back for a cookie
use Rattle.std.specs.Prelude.{◌≡◌, ℕ, Bool, true, false, List, Result, Ok, Err}
use Rattle.zone_proto.specs.declared.response_code.ResponseCode.{ResponseCode}
use Rattle.zone_proto.specs.declared.response_code.ResponseCode.TheVariants.{Other}
use Rattle.message_reading.specs.declared.error.ReadError.{ReadError}
use Rattle.message_reading.specs.declared.query.Query.{Query}
use Rattle.message_reading.specs.Queries.{query_of}
use Rattle.zone_response.specs.Queries.{Zone}
use Rattle.zone_response.specs.Responses.{bare}
use Rattle.zone_server.specs.Answers.{IsAnswerFrom, IsAnswerFromTo, IsSent}
use Rattle.zone_server.specs.Limits.{limit_for}
use Rattle.zone_server.specs.declared.transport.Transport.{Transport}

-- BADCOOKIE (RFC 7873 section 8)
abbrev pub bad_cookie : ResponseCode
bad_cookie = Other 23

-- the code alone, to what is a query; what is none is answered as ever
abbrev pub IsBadCookieTo : List Zone → Transport → Result Query ReadError → ℕ → List ℕ → Type 0
IsBadCookieTo zs t (Ok q) labels octets = (labels ≡ 0) × IsSent (limit_for t q.extension) q (bare bad_cookie) octets
IsBadCookieTo zs t (Err e) labels octets = IsAnswerFromTo zs t (Err e) labels octets

-- the answer to a message, or that, where the client is to come again
abbrev pub IsAnswerOrBadCookie : Bool → List Zone → Transport → List ℕ → ℕ → List ℕ → Type 0
IsAnswerOrBadCookie false zs t message labels octets = IsAnswerFrom zs t message labels octets
IsAnswerOrBadCookie true zs t message labels octets = IsBadCookieTo zs t (query_of message) labels octets
