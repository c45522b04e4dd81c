-- Responses signed (RFC 8945 section 5.3)
use Rattle.std.specs.Prelude.{ℕ, ◌+◌, ◌%◌, Bool, List, [], ◌++◌, length, nat_le, Option, Some, None, if◌then◌else◌}
use Rattle.zone_proto.specs.Names.{Name, wire_length}
use Rattle.message_hmac.specs.Algorithms.{size_by}
use Rattle.message_tsig.specs.declared.key.Key.{Key}
use Rattle.message_tsig.specs.declared.tsig.Tsig.{Tsig}
use Rattle.message_tsig.specs.declared.verdict.TsigError.{TsigError}
use Rattle.message_tsig.specs.declared.verdict.TsigError.TheVariants as errors
use Rattle.message_tsig.specs.Keys.{algorithm_name}
use Rattle.message_tsig.specs.Replies.{header_text, refusal_text, truncated_text}
use Rattle.message_tsig.specs.Texts.{short_at, time_text, with_additionals}
use Rattle.message_tsig.specs.Tsigs.{following_text, record_text, response_text}
use Rattle.message_tsig.specs.Verdicts.{mac_under}

-- a message with a TSIG behind its records
abbrev pub with_tsig : List ℕ → Tsig → List ℕ
with_tsig message t = with_additionals ((short_at 10 message + 1) % 65536) message ++ record_text t

-- how far apart clocks may be, in seconds (RFC 8945 section 10)
abbrev pub fudge : ℕ
fudge = 300

-- a TSIG of these names at a moment, without its MAC
abbrev pub stamp : Name → Name → ℕ → ℕ → ℕ → Tsig
stamp name algorithm original_id now error = record {
  name = name;
  algorithm = algorithm;
  time = now;
  fudge = fudge;
  mac = [];
  original_id = original_id;
  error = error;
  other = [];
}

-- ---- the messages of a response

-- The MAC that comes before a message in what its own MAC is made of: for the first message of a response that of the request (section
-- 4.3.1), and for each further one that of the message before (section 5.3.1).
pub data Prior : Type 0 where
  of_request : List ℕ → Prior
  of_message : List ℕ → Prior

-- what the MAC of a message is made of: after the first, the timers stand in place of the variables
abbrev pub text_in : Prior → Tsig → List ℕ → List ℕ
text_in (of_request mac) t message = response_text mac t message
text_in (of_message mac) t message = following_text mac t message

-- the prior MAC as the program keeps it
abbrev pub prior_at : Bool → List ℕ → Prior
prior_at is_first prior = if is_first then of_request prior else of_message prior

-- how far a response is signed: the identifier that the request had where it was signed, and the MAC that comes before the next message
pub record Signing : Type 0 where
  pub original_id : ℕ
  pub prior : Prior

-- the TSIG of a message of a response under a key, without its MAC
abbrev pub response_stamp : Key → ℕ → Signing → Tsig
response_stamp k now s = stamp k.name (algorithm_name k.algorithm) s.original_id now 0

abbrev pub response_mac : Key → ℕ → Signing → List ℕ → List ℕ
response_mac k now s message = mac_under k (text_in s.prior (response_stamp k now s) message)

-- the message with its TSIG
abbrev pub signed_message : Key → ℕ → Signing → List ℕ → List ℕ
signed_message k now s message = with_tsig message (record (response_stamp k now s) { mac = response_mac k now s message })

-- how far the response is signed after it
abbrev pub behind_signed : Key → ℕ → Signing → List ℕ → Signing
behind_signed k now s message = record s { prior = of_message (response_mac k now s message) }

-- ---- the room for a TSIG

-- how many octets the TSIG of a response has
abbrev pub tsig_size : Key → ℕ
tsig_size k = wire_length k.name + wire_length (algorithm_name k.algorithm) + size_by k.algorithm + 26

-- a limit leaves room for a TSIG behind a message
abbrev pub has_room : ℕ → ℕ → List ℕ → Bool
has_room limit size message = nat_le (length message + size) limit

-- A message of a response; or what goes out in its place where a limit leaves no room for the TSIG: the questions alone, with TC
-- (section 5.3), and where there is no room for these, the header alone.
abbrev pub fitting : ℕ → ℕ → List ℕ → List ℕ
fitting limit size message =
    if has_room limit size message then message
    else (if has_room limit size (truncated_text message) then truncated_text message else header_text message)

-- ---- refusals (section 5.3.2)

abbrev pub error_number : TsigError → ℕ
error_number errors.BadSig = 16
error_number errors.BadKey = 17
error_number errors.BadTime = 18
error_number errors.BadTrunc = 22

-- NOTAUTH (section 3)
abbrev pub not_authentic : ℕ
not_authentic = 9

-- BADTIME has the time and the fudge of the request, and the server's time beside (section 5.2.3)
abbrev pub refusal_stamp : Tsig → ℕ → TsigError → Tsig
refusal_stamp request now errors.BadTime =
    record (stamp request.name request.algorithm request.original_id now (error_number errors.BadTime)) { time = request.time; fudge = request.fudge; other = time_text now }
refusal_stamp request now e = stamp request.name request.algorithm request.original_id now (error_number e)

-- it is signed where the MAC of the request was right
abbrev pub refusal_mac : Option Key → Tsig → Tsig → List ℕ → List ℕ
refusal_mac None request t message = []
refusal_mac (Some k) request t message = mac_under k (response_text request.mac t message)

abbrev pub refused_text : Tsig → TsigError → Option Key → ℕ → List ℕ → List ℕ
refused_text request e k now message =
    let answer = refusal_text message not_authentic in
    let t = refusal_stamp request now e in
    with_tsig answer (record t { mac = refusal_mac k request t answer })
