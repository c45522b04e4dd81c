-- What a signature is made of (RFC 4034 section 3.1.8.1): signature = sign(RRSIG_RDATA | RR(1) | RR(2)...)
use Rattle.std.specs.Prelude.{ℕ, List, [], ◌∷◌, ◌++◌, length}
use Rattle.zone_proto.specs.Names.{lower, wire_form}
use Rattle.zone_proto.specs.Sets.{RRset}
use Rattle.zone_proto.specs.declared.rdata.signing.RRSIG.{RRSIG}
use Rattle.message_writing.specs.DataText.{short_text, long_text, fixed_text}
use Rattle.zone_planning.specs.Canonical.{canonical_set}

-- RR(i) = owner | type | class | TTL | RDATA length | RDATA, of class IN
abbrev pub record_text : List ℕ → ℕ → ℕ → List ℕ → List ℕ
record_text owner t ttl octets = owner ++ (short_text t ++ (short_text 1 ++ (long_text ttl ++ (short_text (length octets) ++ octets))))

abbrev pub records_text : List ℕ → ℕ → ℕ → List (List ℕ) → List ℕ
records_text owner t ttl [] = []
records_text owner t ttl (o ∷ os) = record_text owner t ttl o ++ records_text owner t ttl os

-- RRSIG_RDATA: the data of the RRSIG record without the signature, the signer's name in canonical form
unfoldable pub front_text : RRSIG → List ℕ
front_text rrsig = fixed_text rrsig ++ wire_form (lower rrsig.signer_name)

-- RR(1) | RR(2)...: the records in canonical form and order, each with the original TTL
unfoldable pub set_text : ℕ → RRset → List ℕ
set_text ttl set = records_text (wire_form (lower set.owner)) set.record_type ttl (canonical_set set.records)

unfoldable pub signed_data : RRSIG → RRset → List ℕ
signed_data rrsig set = front_text rrsig ++ set_text rrsig.original_ttl set
