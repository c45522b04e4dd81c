-- What the TSIG of a request is found to be (RFC 8945 section 5.2)
use Rattle.std.specs.Prelude.{◌≡◌, ℕ, ◌+◌, ◌≤◌, List, Option, Some, None, option_copied, if◌then◌else◌}
use Rattle.message_reading.specs.declared.header.Header.{Header}
use Rattle.message_reading.specs.Headers.{header_of}
use Rattle.message_tsig.specs.declared.key.Key.{Key}
use Rattle.message_tsig.specs.declared.checking.Checked.{Checked as Kept}
use Rattle.message_tsig.specs.declared.checking.Checked.TheVariants as kept
use Rattle.message_tsig.specs.declared.place.Place.{Place}
use Rattle.message_tsig.specs.declared.place.Place.TheVariants as at
use Rattle.message_tsig.specs.declared.tsig.Tsig.{Tsig}
use Rattle.message_tsig.specs.declared.verdict.TsigError.{TsigError}
use Rattle.message_tsig.specs.declared.verdict.TsigError.TheVariants as errors
use Rattle.message_tsig.specs.declared.verdict.Verdict.{Verdict}
use Rattle.message_tsig.specs.declared.verdict.Verdict.TheVariants as verdicts
use Rattle.message_tsig.specs.Keys.{key_for}
use Rattle.message_tsig.specs.Places.{place_of, without}
use Rattle.message_tsig.specs.Texts.{short_at}
use Rattle.message_tsig.specs.Tsigs.{request_text, tsig_at}
use Rattle.message_tsig.specs.Verdicts.{mac_under, verdict_of}

-- A message has no TSIG; or one that can't be read, stands elsewhere than last or isn't the only one: FORMERR; or one that is refused, by
-- an error, with the key where its MAC was found right; or one that is right. In the last two cases the octets are the message without it.
pub data Checked : Type 0 where
  unsigned : Checked
  malformed : Checked
  refused : Tsig → TsigError → Option Key → List ℕ → Checked
  signed : Tsig → Key → List ℕ → Checked

-- a key is told of where the MAC was right: what is wrong is the moment, or that the MAC is cut
abbrev pub by_verdict : Tsig → Key → List ℕ → Verdict → Checked
by_verdict t k message verdicts.Right = signed t k message
by_verdict t k message verdicts.Malformed = malformed
by_verdict t k message (verdicts.Wrong errors.BadTime) = refused t errors.BadTime (Some k) message
by_verdict t k message (verdicts.Wrong errors.BadTrunc) = refused t errors.BadTrunc (Some k) message
by_verdict t k message (verdicts.Wrong e) = refused t e None message

abbrev pub by_key : ℕ → Tsig → Option Key → List ℕ → Checked
by_key now t None message = refused t errors.BadKey None message
by_key now t (Some k) message = by_verdict t k message (verdict_of k now t (request_text t message))

-- a TSIG and the message without it
abbrev pub by_tsig : List Key → ℕ → Option Tsig → List ℕ → Checked
by_tsig keys now None message = malformed
by_tsig keys now (Some t) message = by_key now t (key_for t keys) message

abbrev pub by_place : List Key → ℕ → List ℕ → Place → Checked
by_place keys now message at.Absent = unsigned
by_place keys now message at.Misplaced = malformed
by_place keys now message (at.Last offset) = by_tsig keys now (tsig_at offset message) (without (short_at 10 message) offset message)

-- a response gets no answer, so its TSIG isn't looked for
abbrev pub by_header : List Key → ℕ → List ℕ → Option (Header × List ℕ) → Checked
by_header keys now message None = unsigned
by_header keys now message (Some h) = if h.0.is_response then unsigned else by_place keys now message (place_of message)

-- the keys of a server, a moment in seconds since 1970, and a message
unfoldable pub checked_of : List Key → ℕ → List ℕ → Checked
checked_of keys now message = by_header keys now message (header_of message)

-- ---- what a signed message is

-- A message ends with a TSIG under one of the keys, whose MAC is the one that the standard defines of the rest of the message, and the
-- moment is within its fudge.
pub record IsAuthentic (keys : List Key) (now : ℕ) (message : List ℕ) (t : Tsig) (k : Key) (rest : List ℕ) : Type 0 where
  pub offset : ℕ
  pub last : place_of message ≡ at.Last offset
  pub tsig : tsig_at offset message ≡ Some t
  pub rest_is : rest ≡ without (short_at 10 message) offset message
  pub key : key_for t keys ≡ Some k
  pub mac : t.mac ≡ mac_under k (request_text t rest)
  pub not_late : now ≤ t.time + t.fudge
  pub not_early : t.time ≤ now + t.fudge

-- what is found signed is authentic
abbrev pub IsAuthenticIfSigned : List Key → ℕ → List ℕ → Kept → Type 0
IsAuthenticIfSigned keys now message (kept.Signed t k m) = IsAuthentic keys now message t k.now m.items
IsAuthenticIfSigned keys now message _ = Unit {0}

-- ---- as the program keeps it

abbrev pub checked_kept : Kept → Checked
checked_kept kept.Unsigned = unsigned
checked_kept kept.Malformed = malformed
checked_kept (kept.Refused t e k m) = refused t e (option_copied k) m.items
checked_kept (kept.Signed t k m) = signed t k.now m.items
