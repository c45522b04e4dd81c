-- Which signature of an earlier version of a zone fits into the place of a blank one
use Rattle.std.specs.Prelude.{ℕ, ◌-◌, ◌%◌, ◌^◌, ◌==◌, ◌&&◌, not, Bool, List, [], ◌∷◌, length, nat_lt, nat_le, cond, if◌then◌else◌, Option, Some, None}
use Rattle.std.specs.Option.{option_or}
use Rattle.std.specs.Str.{bytes_eq}
use Rattle.zone_proto.specs.declared.rdata.RData.{RData}
use Rattle.zone_proto.specs.declared.rdata.RData.TheVariants as V
use Rattle.zone_proto.specs.declared.rdata.signing.DNSKEY.{DNSKEY}
use Rattle.zone_proto.specs.declared.rdata.signing.RRSIG.{RRSIG}
use Rattle.zone_proto.specs.declared.record.Record.{Record}
use Rattle.zone_proto.specs.Names.{same_name}
use Rattle.zone_proto.specs.Sets.{RRset}
use Rattle.zone_proto.specs.Signing.{SignedPart}
use Rattle.zone_proto.specs.Types.{IN}
use Rattle.zone_planning.specs.Filling.{is_as_long}
use Rattle.zone_planning.specs.SignedData.{signed_data}
use Rattle.zone_keeping.specs.declared.span.Span.{Span}

-- ---- when it holds

-- a moment is another or before it, modulo 2^32 (RFC 1982 section 3.2)
abbrev pub is_not_after : ℕ → ℕ → Bool
is_not_after one other = if nat_le one other then nat_lt (other - one) (2 ^ 31) else nat_lt (2 ^ 31) (one - other)

-- a signature holds at both moments (RFC 4034 section 3.1.5)
abbrev pub holds : Span → RRSIG → Bool
holds span r = is_not_after r.inception (span.from % 2 ^ 32) && is_not_after (span.until % 2 ^ 32) r.expiration

-- ---- what it is of

-- it is by the key that is to make the blank one, of a set of the same type, labels and TTL
abbrev pub is_alike : RRSIG → RRSIG → Bool
is_alike blank r =
    (r.type_covered.0 == blank.type_covered.0)
    && ((r.algorithm == blank.algorithm)
    && ((r.num_labels == blank.num_labels)
    && ((r.original_ttl == blank.original_ttl) && ((r.key_tag == blank.key_tag) && same_name r.signer_name blank.signer_name))))

-- it is no blank one, in whose place one octet stands, and as long as those of the key
abbrev pub is_made : DNSKEY → RRSIG → Bool
is_made key r = not (length r.signature == 1) && is_as_long key r.signature

-- the set of which this is the part that is signed
abbrev pub set_of : SignedPart → RRset
set_of part = record { owner = part.owner; record_type = part.record_type; class = IN; ttl = part.ttl; serial = 0; records = part.records; signatures = [] }

-- it is made of the octets that it would be made of for this set (RFC 4034 section 3.1.8.1)
abbrev pub is_same : SignedPart → RRset → RRSIG → Bool
is_same part old r = bytes_eq (signed_data r (set_of part)) (signed_data r old)

-- a signature of a set of the old zone fits into the place of a blank one of this set, which this key is to make
abbrev pub fits : Span → DNSKEY → SignedPart → RRset → RRSIG → RRSIG → Bool
fits span key part old blank r = is_alike blank r && (holds span r && (is_made key r && is_same part old r))

-- ---- the first that fits

abbrev pub fitting : Span → DNSKEY → SignedPart → RRset → RRSIG → RData → Option RRSIG
fitting span key part old blank (V.RRSIG r) = cond (fits span key part old blank r) (Some r) None
fitting span key part old blank d = None

-- the first of these signatures of a set of the old zone that fits
abbrev pub first_fit : Span → DNSKEY → SignedPart → RRset → RRSIG → List Record → Option RRSIG
first_fit span key part old blank [] = None
first_fit span key part old blank (r ∷ rs) = option_or (fitting span key part old blank r.rdata) (first_fit span key part old blank rs)
