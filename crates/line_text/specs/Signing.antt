-- The data of DNSKEY and RRSIG records (RFC 4034 sections 2 and 3): how they are printed, octets in hex
use Rattle.std.specs.Prelude.{ℕ, List, [], ◌∷◌}
use Rattle.std.specs.Fmt.{decimal}
use Rattle.zone_proto.specs.declared.rdata.signing.DNSKEY.{DNSKEY as KeyData}
use Rattle.zone_proto.specs.declared.rdata.signing.RRSIG.{RRSIG as SignatureData}
use Rattle.zone_proto.specs.Text.{name_text}
use Rattle.zone_proto.specs.TypeText.{type_text}
use Rattle.line_text.specs.Hex.{hex_text}
use Rattle.line_text.specs.Words.{spaced}

abbrev pub key_text : KeyData → List ℕ
key_text d = spaced (decimal d.flags ∷ decimal d.protocol ∷ decimal d.algorithm ∷ hex_text d.public_key ∷ [])

abbrev pub signature_text : SignatureData → List ℕ
signature_text d = spaced (
    type_text d.type_covered.0 ∷ decimal d.algorithm ∷ decimal d.num_labels
    ∷ decimal d.original_ttl ∷ decimal d.expiration ∷ decimal d.inception
    ∷ decimal d.key_tag ∷ name_text d.signer_name ∷ hex_text d.signature ∷ [])
