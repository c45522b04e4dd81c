-- What the digests of keys are made of (RFC 4034 section 5.1.4)
use Rattle.std.specs.Prelude.{ℕ, ◌/◌, ◌%◌, List, [], ◌∷◌, ◌++◌}
use Rattle.zone_proto.specs.declared.rdata.signing.DNSKEY.{DNSKEY}
use Rattle.zone_proto.specs.Names.{Name, wire_form}
use Rattle.sha2.specs.Sha256.{sha256}
use Rattle.message_writing.specs.DataText.{dnskey_text, short_text}
use Rattle.zone_keys.specs.KeyTags.{key_tag}

-- the canonical form of the owner, and behind it the key's data
abbrev pub digested : Name → DNSKEY → List ℕ
digested owner key = wire_form owner ++ dnskey_text key

-- what a key's data begin with
abbrev pub front_text : DNSKEY → List ℕ
front_text key = key.flags / 256 ∷ key.flags % 256 ∷ key.protocol ∷ key.algorithm ∷ []

-- the data of the DS record of a key: its tag, its algorithm, the number of SHA-256, which is 2, and the digest (RFC 4034 section 5.1, RFC 4509 section 2.1)
abbrev pub ds_text : Name → DNSKEY → List ℕ
ds_text owner key = short_text (key_tag key) ++ (key.algorithm ∷ 2 ∷ sha256 (digested owner key))
