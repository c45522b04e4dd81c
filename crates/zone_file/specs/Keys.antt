-- The data of keys, signatures and digests
use Rattle.std.specs.Prelude.{Result, Ok}
use Rattle.zone_proto.specs.declared.rdata.signing.DNSKEY.{DNSKEY as KeyData}
use Rattle.zone_proto.specs.declared.rdata.signing.RRSIG.{RRSIG as SignatureData}
use Rattle.zone_proto.specs.Names.{Name}
use Rattle.record_fields.specs.Readings.{◌>>=◌}
use Rattle.record_fields.specs.Fields.{Left, Reading, next_name, next_type, next_u8, next_u16, next_u32, next_moment, next_algorithm}
use Rattle.record_fields.specs.Texts.{next_base64}

-- DNSKEY: RFC 4034 section 2.2
unfoldable pub next_dnskey : Left → Reading KeyData
next_dnskey l = do
  flags ← next_u16 l
  protocol ← next_u8 flags.1
  algorithm ← next_algorithm protocol.1
  key ← next_base64 algorithm.1
  Ok (record { flags = flags.0; protocol = protocol.0; algorithm = algorithm.0; public_key = key.0 }, key.1)

-- RRSIG: RFC 4034 section 3.2
unfoldable pub next_rrsig : Name → Left → Reading SignatureData
next_rrsig origin l = do
  covered ← next_type l
  algorithm ← next_algorithm covered.1
  labels ← next_u8 algorithm.1
  ttl ← next_u32 labels.1
  expiration ← next_moment ttl.1
  inception ← next_moment expiration.1
  tag ← next_u16 inception.1
  signer ← next_name origin tag.1
  signature ← next_base64 signer.1
  Ok (
    record {
      type_covered = covered.0;
      algorithm = algorithm.0;
      num_labels = labels.0;
      original_ttl = ttl.0;
      expiration = expiration.0;
      inception = inception.0;
      key_tag = tag.0;
      signer_name = signer.0;
      signature = signature.0;
    },
    signature.1,
  )
