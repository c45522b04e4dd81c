-- Messages that may ask for a zone, or be signed
use Rattle.std.specs.Prelude.{◌≡◌, ℕ, ◌%◌, true, false, List, Option, Some, None, option_copied, Result, Ok, Err}
use Rattle.std.specs.Bool.{MatchBool}
use Rattle.message_reading.specs.declared.error.ReadError.{ReadError}
use Rattle.message_reading.specs.declared.header.Header.{Header}
use Rattle.message_reading.specs.declared.query.Query.{Query}
use Rattle.message_reading.specs.Headers.{header_of}
use Rattle.message_reading.specs.Queries.{query_of}
use Rattle.message_tsig.specs.declared.key.Key.{Key}
use Rattle.message_tsig.specs.declared.tsig.Tsig.{Tsig}
use Rattle.message_tsig.specs.Checking.{Checked, IsAuthentic, unsigned, malformed, refused, signed, checked_of}
use Rattle.message_tsig.specs.Signing.{refused_text}
use Rattle.zone_server.specs.declared.transport.Transport.{Transport}
use Rattle.zone_server.specs.BareHeaders.{IsBareHeader}
use Rattle.zone_server.specs.Transfers.{asks_for_transfer}
use Rattle.transfer_messages.specs.declared.opening.Opened.{Opened}
use Rattle.transfer_messages.specs.declared.opening.Opened.TheVariants as opened
use Rattle.transfer_messages.specs.declared.sealing.Sealing.{Sealing}
use Rattle.transfer_messages.specs.Seals.{IsSameKey, signer_of}

-- the response to a request under a key is signed so
pub record IsSealing (t : Tsig) (k : Key) (s : Sealing) : Type 0 where
  pub key : IsSameKey k s.key
  pub signer : s.signer ≡ signer_of t

abbrev pub IsSealingIfAny : Tsig → Key → Option Sealing → Type 0
IsSealingIfAny t k None = ⊥
IsSealingIfAny t k (Some s) = IsSealing t k s

-- ---- what a message is found to be

abbrev pub IsOther : Opened → Type 0
IsOther opened.Other = Unit {0}
IsOther _ = ⊥

abbrev pub IsRefused : Opened → Type 0
IsRefused opened.Refused = Unit {0}
IsRefused _ = ⊥

-- it was found signed, and is these octets without its TSIG
abbrev pub IsSigned : Tsig → Key → List ℕ → Opened → Type 0
IsSigned t k message (opened.Signed octets s) = (octets.items ≡ message) × IsSealing t k s
IsSigned t k message _ = ⊥

-- it is a request for a transfer that isn't signed
abbrev pub IsUnsignedRequest : List ℕ → Query → Opened → Type 0
IsUnsignedRequest message q (opened.Transfer r) = (r.message.items ≡ message) × (r.query ≡ q) × (r.key ≡ None) × (r.sealing ≡ None)
IsUnsignedRequest message q _ = ⊥

-- it is one that was found signed under a key
abbrev pub IsSignedRequest : Tsig → Key → List ℕ → Query → Opened → Type 0
IsSignedRequest t k message q (opened.Transfer r) =
    (r.message.items ≡ message) × (r.query ≡ q) × (option_copied r.key ≡ Some k) × IsSealingIfAny t k r.sealing
IsSignedRequest t k message q _ = ⊥

abbrev pub OpensUnsigned : Transport → List ℕ → Result Query ReadError → Opened → Type 0
OpensUnsigned t message (Ok q) o = MatchBool (asks_for_transfer t q) (IsUnsignedRequest message q o) (IsOther o)
OpensUnsigned t message (Err e) o = IsOther o

abbrev pub OpensSigned : Transport → Tsig → Key → List ℕ → Result Query ReadError → Opened → Type 0
OpensSigned t tsig k message (Ok q) o = MatchBool (asks_for_transfer t q) (IsSignedRequest tsig k message q o) (IsSigned tsig k message o)
OpensSigned t tsig k message (Err e) o = IsSigned tsig k message o

-- an opcode has four bits
abbrev pub four_bits : Header → Header
four_bits h = record h { opcode = h.opcode % 16 }

-- FORMERR, a header alone; none where there is no header
abbrev pub OpensHeader : Option (Header × List ℕ) → Opened → List ℕ → Type 0
OpensHeader None o octets = IsOther o
OpensHeader (Some h) o octets = IsRefused o × IsBareHeader (four_bits h.0) 1 octets

-- the response is there
abbrev pub OpensRefused : List ℕ → Opened → List ℕ → Type 0
OpensRefused text o octets = IsRefused o × (octets ≡ text)

-- what a message is found to be, by what its TSIG is
abbrev pub OpensBy : ℕ → Transport → List ℕ → Checked → Opened → List ℕ → Type 0
OpensBy now t message unsigned o octets = OpensUnsigned t message (query_of message) o
OpensBy now t message malformed o octets = OpensHeader (header_of message) o octets
OpensBy now t message (refused tsig e k m) o octets = OpensRefused (refused_text tsig e k now m) o octets
OpensBy now t message (signed tsig k m) o octets = OpensSigned t tsig k m (query_of m) o

-- by the keys of a server at a moment
abbrev pub Opens : List Key → ℕ → Transport → List ℕ → Opened → List ℕ → Type 0
Opens keys now t message o octets = OpensBy now t message (checked_of keys now message) o octets

-- A request for a transfer that is under a key was signed with it: its TSIG is found authentic (RFC 8945 section 5.2).
abbrev pub IsAuthenticRequest : List Key → ℕ → List ℕ → Opened → Type 0
IsAuthenticRequest keys now message (opened.Transfer r) =
    (k : Key) → option_copied r.key ≡ Some k → (tsig : Tsig) × IsAuthentic keys now message tsig k r.message.items
IsAuthenticRequest keys now message _ = Unit {0}

-- ---- on the way

-- the query that was read, if it asks for a transfer
abbrev pub IsAsked : Transport → Result Query ReadError → Option Query → Type 0
IsAsked t read (Some q) = (read ≡ Ok q) × (asks_for_transfer t q ≡ true)
IsAsked t (Ok q) None = asks_for_transfer t q ≡ false
IsAsked t (Err e) None = Unit {0}
