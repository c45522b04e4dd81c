-- What a zone asks its parent to have, by CDS and CDNSKEY (RFC 7344)
use Rattle.std.specs.Prelude.{ℕ, ◌+◌, ◌*◌, ◌==◌, ◌||◌, ◌&&◌, not, List, [], ◌∷◌, length, nat_le, Bool, true, false, Option, Some, None, if◌then◌else◌}
use Rattle.std.specs.List.{flat_map, list_any}
use Rattle.std.specs.Cmp.Lexicographic.{pointwise}
use Rattle.sha1.specs.Sha1.{sha1}
use Rattle.sha2.specs.Sha256.{sha256}
use Rattle.zone_proto.specs.declared.record.Record.{Record}
use Rattle.zone_proto.specs.declared.rdata.RData.{RData}
use Rattle.zone_proto.specs.declared.rdata.RData.TheVariants as V
use Rattle.zone_proto.specs.declared.rdata.signing.DNSKEY.{DNSKEY as KeyData}
use Rattle.zone_proto.specs.Names.{Name}
use Rattle.zone_proto.specs.Sets.{RRset}
use Rattle.zone_proto.specs.Types.{DNSKEY}
use Rattle.zone_map.specs.Zones.{Sets, set_at}
use Rattle.message_writing.specs.DataText.{dnskey_text}
use Rattle.zone_keys.specs.KeyTags.{key_tag}
use Rattle.zone_keys.specs.Digests.{digested}
use Rattle.zone_publication.specs.declared.finding.Finding.{Finding}
use Rattle.zone_publication.specs.declared.finding.What.TheVariants as what
use Rattle.zone_publication.specs.Delegations.{CDS, finding, finding_if}
use Rattle.zone_publication.specs.Names.{is_below}
use Rattle.zone_publication.specs.Signatures.{is_zone_key}

abbrev pub CDNSKEY : ℕ
CDNSKEY = 60

-- the digest of a key by its type: SHA-1 (RFC 4034 section 5.1.4) or SHA-256 (RFC 4509); of others nothing is known
abbrev pub is_digest : Name → KeyData → ℕ → List ℕ → Bool
is_digest origin key d digest =
    if d == 1 then pointwise ◌==◌ (sha1 (digested origin key)) digest
    else (if d == 2 then pointwise ◌==◌ (sha256 (digested origin key)) digest
    else true)

-- data of CDS are those of a key of the zone: its tag, its algorithm, the type of a digest, and its digest by that (section 3.1); a
-- key of more octets than data may have has no tag
abbrev pub is_digest_of : Name → KeyData → List ℕ → Bool
is_digest_of origin key (a ∷ b ∷ algorithm ∷ d ∷ digest) =
    nat_le (length key.public_key) 65531
    && (((a * 256 + b) == key_tag key) && ((algorithm == key.algorithm) && is_digest origin key d digest))
is_digest_of origin key _ = false

-- data of CDNSKEY are those of the DNSKEY (section 3.2)
abbrev pub is_request_for : Name → ℕ → List ℕ → KeyData → Bool
is_request_for origin t octets key =
    if t == CDS then is_digest_of origin key octets else pointwise ◌==◌ (dnskey_text key) octets

-- of a key of the zone: "The DNSKEY RR Flags MUST have Flags bit 7 set" (RFC 4034 section 5.2)
abbrev pub is_request_of : Name → ℕ → List ℕ → RData → Bool
is_request_of origin t octets (V.DNSKEY key) = is_zone_key key && is_request_for origin t octets key
is_request_of origin t octets _ = false

-- algorithm 0 asks for no DS (RFC 8078 section 4)
abbrev pub is_zero_at : ℕ → List ℕ → Bool
is_zero_at t (a ∷ b ∷ c ∷ d ∷ more) = if t == CDS then c == 0 else d == 0
is_zero_at t _ = false

-- Each record has its key among those of the apex: "MUST be signed with a key that is represented in both the current DNSKEY and DS
-- RRsets", and "MUST NOT break the current delegation" (section 4.1)
abbrev pub octets_finding : Name → ℕ → Name → List Record → List ℕ → List Finding
octets_finding n t origin keys octets =
    if is_zero_at t octets then []
    else finding_if (not (list_any (λ (k : Record). is_request_of origin t octets k.rdata) keys)) (finding n t what.WithoutKey)

abbrev pub request_finding : Name → ℕ → Name → List Record → RData → List Finding
request_finding n t origin keys (V.Other d) = octets_finding n t origin keys d.octets
request_finding n t origin keys _ = []

abbrev pub keys_in : Option RRset → List Record
keys_in None = []
keys_in (Some s) = s.records

-- "Location: MUST be at the Child zone apex" (section 4.1)
abbrev pub requests : Name → Sets → Name → ℕ → List Record → List Finding
requests origin m n t rs =
    if not (t == CDS || t == CDNSKEY) then []
    else (if is_below origin n then finding n t what.NotAtApex ∷ []
    else flat_map (λ r. request_finding n t origin (keys_in (set_at m origin DNSKEY)) r.rdata) rs)
