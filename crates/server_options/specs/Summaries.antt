-- What an answer was
use Rattle.std.specs.Prelude.{ℕ, ◌+◌, ◌*◌, ◌/◌, ◌==◌, ◌&&◌, not, List, length, nat_lt, Option, Some, None, if◌then◌else◌}
use Rattle.message_options.specs.Options.{opt_of}
use Rattle.message_reading.specs.Headers.{header_of}
use Rattle.message_reading.specs.Octets.{◌>>=◌}
use Rattle.message_reading.specs.declared.header.Header.{Header}
use Rattle.message_reading.specs.declared.record_frame.RecordFrame.{RecordFrame}
use Rattle.server_options.specs.declared.asking.CookieState.{CookieState}
use Rattle.server_options.specs.declared.summary.ResponseKind.{ResponseKind}
use Rattle.server_options.specs.declared.summary.ResponseKind.TheVariants.{Answer, Failed, NameError, NoData, Other, Referral, Refused, Truncated}
use Rattle.server_options.specs.declared.summary.Summary.{Summary}

-- the code, whose upper eight bits are in the TTL of an OPT record (RFC 6891 section 6.1.3)
abbrev pub code_with : Header → Option (RecordFrame × List ℕ) → ℕ
code_with header None = header.response_code
code_with header (Some opt) = header.response_code + 16 * (opt.0.ttl / 16777216)

-- The kind of a response by its code, its header, and what its sections are said to have: a name error (RFC 1035 section 4.1.1), another
-- error, an answer, or none: a referral isn't authoritative and has authorities (RFC 2308 section 2.2), and what TC leaves out isn't told.
abbrev pub kind_by : Header → ℕ → ResponseKind
kind_by header code =
    if not (header.opcode == 0) then Other
    else if code == 3 then NameError
    else if code == 5 then Refused
    else if nat_lt 0 code then Failed
    else if nat_lt 0 header.answers then Answer
    else if header.truncated then Truncated
    else if nat_lt 0 header.authorities && not header.authoritative then Referral
    else NoData

-- what a response was, from a zone whose origin has so many labels, to a query that told this by a cookie; none without a header
abbrev pub summary_of : CookieState → ℕ → List ℕ → Option Summary
summary_of cookie labels octets = header_of octets >>= λ h. Some (record {
  code = code_with h.0 (opt_of octets);
  kind = kind_by h.0 (code_with h.0 (opt_of octets));
  size = length octets;
  truncated = h.0.truncated;
  cookie = cookie;
  origin_labels = labels;
})
