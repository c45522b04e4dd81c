-- Public keys, as the data of DNSKEY records (RFC 4034 section 2.1)
use Rattle.std.specs.Prelude.{◌≡◌, ℕ, List, [], ◌∷◌, Option, Some, None, option_and_then, option_map}
use Rattle.zone_proto.specs.declared.rdata.RData.{RData}
use Rattle.zone_proto.specs.declared.rdata.RData.TheVariants as V
use Rattle.zone_proto.specs.declared.rdata.signing.DNSKEY.{DNSKEY}
use Rattle.zone_proto.specs.Types.{DNSKEY as dnskey_type}
use Rattle.message_reading.specs.DataForms.{plain_data_of}
use Rattle.zone_planning.specs.Filling.{signatures_text}

-- the key that data are
abbrev pub as_key : RData → Option DNSKEY
as_key (V.DNSKEY k) = Some k
as_key d = None

-- the key whose data octets are
abbrev pub key_in : List ℕ → Option DNSKEY
key_in octets = option_and_then as_key (plain_data_of dnskey_type octets)

-- the keys of several, if each are those of a key
abbrev pub keys_in : List (List ℕ) → Option (List DNSKEY)
keys_in [] = Some []
keys_in (o ∷ os) = option_and_then (λ (k : DNSKEY). option_map (λ (ks : List DNSKEY). k ∷ ks) (keys_in os)) (key_in o)

-- octets are the data of these keys, one after the other, each behind two octets that count its octets, as signatures are
abbrev pub AreKeys : List ℕ → List DNSKEY → Type 0
AreKeys octets keys = (texts : List (List ℕ)) × (signatures_text texts ≡ octets) × (keys_in texts ≡ Some keys)

-- they aren't those of any
abbrev pub AreNoKeys : List ℕ → Type 0
AreNoKeys octets = (texts : List (List ℕ)) → signatures_text texts ≡ octets → keys_in texts ≡ None
