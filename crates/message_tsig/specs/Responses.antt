-- What the messages of a response are found to be by those who signed the request (RFC 8945 sections 5.3.1 and 5.4)
use Rattle.std.specs.Prelude.{◌≡◌, ℕ, ◌+◌, ◌≤◌, ◌%◌, ◌==◌, ◌&&◌, Bool, true, List, [], ◌++◌, slice_index, nat_lt, Option, Some, None, if◌then◌else◌}
use Rattle.message_tsig.specs.declared.key.Key.{Key}
use Rattle.message_tsig.specs.declared.place.Place.{Place}
use Rattle.message_tsig.specs.declared.place.Place.TheVariants as at
use Rattle.message_tsig.specs.declared.response_checker.CheckedResponse.{CheckedResponse as Kept}
use Rattle.message_tsig.specs.declared.response_checker.CheckedResponse.TheVariants as kept
use Rattle.message_tsig.specs.declared.response_checker.ResponseFault.{ResponseFault}
use Rattle.message_tsig.specs.declared.response_checker.ResponseFault.TheVariants as faults
use Rattle.message_tsig.specs.declared.tsig.Tsig.{Tsig}
use Rattle.message_tsig.specs.declared.verdict.TsigError.TheVariants as errors
use Rattle.message_tsig.specs.declared.verdict.Verdict.{Verdict}
use Rattle.message_tsig.specs.declared.verdict.Verdict.TheVariants as verdicts
use Rattle.message_tsig.specs.Checkings.{Checking, is_behind_first}
use Rattle.message_tsig.specs.Keys.{names_key}
use Rattle.message_tsig.specs.Places.{place_of, without}
use Rattle.message_tsig.specs.Signing.{not_authentic, of_message, of_request, Prior}
use Rattle.message_tsig.specs.Texts.{counted_text, short_at}
use Rattle.message_tsig.specs.Tsigs.{signed_text, timers, tsig_at, variables}
use Rattle.message_tsig.specs.Verdicts.{mac_under, verdict_of}

-- A message has a TSIG that is right, and is what the octets are without it. Or it has none, where it need not. Or the server refused the
-- request, by an error in a TSIG that is right, or in one that isn't. Or it is wrong.
pub data Found : Type 0 where
  signed : Tsig → List ℕ → Found
  unsigned : Found
  refused : Tsig → Found
  refused_unsigned : Tsig → Found
  wrong : ResponseFault → Found

-- ---- what a MAC is made of

-- The MAC before comes first: for the first message that of the request (section 4.3.1). For each further one it is that of the last message
-- that had a TSIG, and the messages behind that one, which had none, follow it as they came (section 5.3.1).
abbrev pub text_before : Prior → List ℕ → List ℕ
text_before (of_request mac) since = counted_text mac
text_before (of_message mac) since = counted_text mac ++ since

-- and the variables, or for each further message the timers, come last
abbrev pub text_behind : Prior → Tsig → List ℕ
text_behind (of_request mac) t = variables t
text_behind (of_message mac) t = timers t

-- what the MAC of the next message is made of, where the message without its TSIG is this
abbrev pub checked_text : Checking → Tsig → List ℕ → List ℕ
checked_text c t message = signed_text (text_before c.prior c.since) t message (text_behind c.prior t)

-- ---- a message

-- behind a message with a TSIG up to 99 may be without (section 5.3.1)
abbrev pub may_be_unsigned : Checking → Bool
may_be_unsigned c = is_behind_first c.prior && nat_lt c.count 99

abbrev pub found_unsigned : Checking → Found
found_unsigned c = if may_be_unsigned c then unsigned else wrong faults.Missing

-- the code of a message is NOTAUTH, and its TSIG has an error (section 5.4)
abbrev pub is_refusal : Tsig → List ℕ → Bool
is_refusal t message = (slice_index message 3 % 16 == not_authentic) && nat_lt 0 t.error

-- a TSIG isn't right, by this fault: a refusal may be so, since a server without the key can't sign it (section 5.3.2)
abbrev pub found_unverified : Tsig → List ℕ → ResponseFault → Found
found_unverified t message fault = if is_refusal t message then refused_unsigned t else wrong fault

abbrev pub found_by_verdict : Tsig → List ℕ → Verdict → Found
found_by_verdict t message verdicts.Right = if nat_lt 0 t.error then refused t else signed t message
found_by_verdict t message verdicts.Malformed = found_unverified t message faults.Malformed
found_by_verdict t message (verdicts.Wrong e) = found_unverified t message (faults.Tsig e)

-- a TSIG and the message without it
abbrev pub found_by_tsig : Key → ℕ → Checking → Option Tsig → List ℕ → Found
found_by_tsig k now c None message = wrong faults.Malformed
found_by_tsig k now c (Some t) message =
    if names_key t k then found_by_verdict t message (verdict_of k now t (checked_text c t message))
    else found_unverified t message (faults.Tsig errors.BadKey)

abbrev pub found_by_place : Key → ℕ → Checking → List ℕ → Place → Found
found_by_place k now c message at.Absent = found_unsigned c
found_by_place k now c message at.Misplaced = wrong faults.Malformed
found_by_place k now c message (at.Last offset) =
    found_by_tsig k now c (tsig_at offset message) (without (short_at 10 message) offset message)

-- the key of the request, a moment in seconds since 1970, how far the response is checked, and its next message
unfoldable pub found_of : Key → ℕ → Checking → List ℕ → Found
found_of k now c message = found_by_place k now c message (place_of message)

-- how far the response is checked behind a message; one that is refused or wrong counts for nothing
abbrev pub checking_behind : Checking → List ℕ → Found → Checking
checking_behind c message (signed t rest) = record { prior = of_message t.mac; since = []; count = 0 }
checking_behind c message unsigned = record c { since = c.since ++ message; count = c.count + 1 }
checking_behind c message _ = c

-- ---- what a signed message is

-- A message ends with a TSIG under the key and without an error, whose MAC is the one that the standard defines of what came before and the
-- rest of the message, and the moment is within its fudge.
pub record IsAuthenticResponse (k : Key) (now : ℕ) (c : Checking) (message : List ℕ) (t : Tsig) (rest : List ℕ) : Type 0 where
  pub offset : ℕ
  pub last : place_of message ≡ at.Last offset
  pub tsig : tsig_at offset message ≡ Some t
  pub rest_is : rest ≡ without (short_at 10 message) offset message
  pub key : names_key t k ≡ true
  pub mac : t.mac ≡ mac_under k (checked_text c t rest)
  pub not_late : now ≤ t.time + t.fudge
  pub not_early : t.time ≤ now + t.fudge
  pub no_error : t.error ≡ 0

-- what is found signed is authentic
abbrev pub IsAuthenticResponseIfSigned : Key → ℕ → Checking → List ℕ → Kept → Type 0
IsAuthenticResponseIfSigned k now c message (kept.Signed t m) = IsAuthenticResponse k now c message t m.items
IsAuthenticResponseIfSigned k now c message _ = Unit {0}

-- ---- as the program keeps it

abbrev pub found_kept : Kept → Found
found_kept (kept.Signed t m) = signed t m.items
found_kept kept.Unsigned = unsigned
found_kept (kept.Refused t) = refused t
found_kept (kept.RefusedUnsigned t) = refused_unsigned t
found_kept (kept.Wrong fault) = wrong fault
