-- Records in the form of zone files (RFC 1035 section 5.1)
use Rattle.std.specs.Prelude.{ℕ, ℤ, ◌++◌, List, [], ◌∷◌}
use Rattle.std.specs.Fmt.{decimal}
use Rattle.std.specs.Int.{w32, cast_unsigned}
use Rattle.std.specs.List.{flat_map}
use Rattle.zone_proto.specs.declared.record.Record.{Record}
use Rattle.zone_proto.specs.declared.rdata.RData.{RData}
use Rattle.zone_proto.specs.declared.rdata.RData.TheVariants as V
use Rattle.zone_proto.specs.declared.rdata.start_of_authority.SOA.{SOA as SoaData}
use Rattle.zone_proto.specs.declared.rdata.signing.DNSKEY.{DNSKEY as KeyData}
use Rattle.zone_proto.specs.declared.rdata.signing.RRSIG.{RRSIG as SignatureData}
use Rattle.zone_proto.specs.declared.rdata.denial.NSEC.{NSEC as DenialData}
use Rattle.zone_proto.specs.declared.rdata.denial.NSEC3.{NSEC3 as HashedData}
use Rattle.zone_proto.specs.Base32.{base32_text}
use Rattle.zone_proto.specs.Data.{type_of}
use Rattle.zone_proto.specs.Text.{name_text}
use Rattle.zone_proto.specs.TypeText.{class_text}
use Rattle.line_text.specs.Addresses.{ipv4_text}
use Rattle.line_text.specs.Denial.{nsec3_parameters_text, opt_out_flag}
use Rattle.line_text.specs.Hex.{hex_text}
use Rattle.line_text.specs.MailExchange.{mx_text}
use Rattle.line_text.specs.Service.{srv_text}
use Rattle.line_text.specs.Words.{spaced}
use Rattle.zone_file_writer.specs.Addresses.{address_text}
use Rattle.zone_file_writer.specs.Moments.{moment_text}
use Rattle.zone_file_writer.specs.Others.{base64_text}
use Rattle.zone_file_writer.specs.Rows.{other_words}
use Rattle.zone_file_writer.specs.Words.{type_word, types_text, words_text}

-- an SOA (RFC 1035 section 3.3.13), its timers as numbers of 32 bits without a sign
abbrev pub timer_text : ℤ → List ℕ
timer_text z = decimal (cast_unsigned w32 z)

abbrev pub soa_text : SoaData → List ℕ
soa_text d = spaced (
    name_text d.mname ∷ name_text d.rname ∷ decimal d.serial
    ∷ timer_text d.refresh ∷ timer_text d.retry ∷ timer_text d.expire ∷ decimal d.minimum ∷ [])

-- a DNSKEY (RFC 4034 section 2.2)
abbrev pub key_text : KeyData → List ℕ
key_text d = spaced (decimal d.flags ∷ decimal d.protocol ∷ decimal d.algorithm ∷ base64_text d.public_key ∷ [])

-- an RRSIG (RFC 4034 section 3.2), its moments as dates
abbrev pub signature_text : SignatureData → List ℕ
signature_text d = spaced (
    type_word d.type_covered.0 ∷ decimal d.algorithm ∷ decimal d.num_labels
    ∷ decimal d.original_ttl ∷ moment_text d.expiration ∷ moment_text d.inception
    ∷ decimal d.key_tag ∷ name_text d.signer_name ∷ base64_text d.signature ∷ [])

-- an NSEC: the next name, and types (RFC 4034 section 4.2)
abbrev pub nsec_text : DenialData → List ℕ
nsec_text d = name_text d.next_domain_name ++ types_text d.types

-- an NSEC3: its parameters with the salt in hex, the next hashed owner in base32hex, and types (RFC 5155 section 3.3)
abbrev pub nsec3_text : HashedData → List ℕ
nsec3_text d =
    spaced (
    decimal d.algorithm ∷ decimal (opt_out_flag d.opt_out) ∷ decimal d.iterations
    ∷ hex_text d.salt ∷ base32_text d.next_hashed_owner_name ∷ [])
    ++ types_text d.types

-- data by their type
abbrev pub master_data_text : RData → List ℕ
master_data_text (V.A a) = ipv4_text a
master_data_text (V.AAAA a) = address_text a
master_data_text (V.NS n) = name_text n
master_data_text (V.CNAME n) = name_text n
master_data_text (V.ANAME n) = name_text n
master_data_text (V.SOA d) = soa_text d
master_data_text (V.MX d) = mx_text d
master_data_text (V.SRV d) = srv_text d
master_data_text (V.DNSKEY d) = key_text d
master_data_text (V.NSEC d) = nsec_text d
master_data_text (V.NSEC3 d) = nsec3_text d
master_data_text (V.NSEC3PARAM d) = nsec3_parameters_text d
master_data_text (V.RRSIG d) = signature_text d
master_data_text (V.Other d) = words_text (other_words d.record_type.0 d.octets)

-- a record: its owner, TTL, class, type and data, without the end of its line
abbrev pub master_text : Record → List ℕ
master_text r = spaced (
    name_text r.name ∷ decimal r.ttl ∷ class_text r.dns_class.0 ∷ type_word (type_of r.rdata) ∷ master_data_text r.rdata ∷ [])

-- records, each in a line of its own
abbrev pub lines_text : List Record → List ℕ
lines_text = flat_map (λ r. master_text r ++ 10 ∷ [])
