-- What is done with the keys of a zone, and what is served by that
use Rattle.std.specs.Prelude.{Bool, List, [], ◌∷◌, ◌++◌, map, filter}
use Rattle.zone_rollover.specs.declared.key_use.Key.{Key}
use Rattle.zone_rollover.specs.declared.key_use.KeyUse.{KeyUse}
use Rattle.zone_rollover.specs.declared.key_use.UsedKey.{UsedKey}

-- the keys with which this is done
abbrev pub keys_where : (KeyUse → Bool) → List UsedKey → List Key
keys_where test keys = map (λ (k : UsedKey). k.key) (filter (λ (k : UsedKey). test k.usage) keys)

-- the DNSKEY set
abbrev pub dnskey_set : List UsedKey → List Key
dnskey_set keys = keys_where (λ (u : KeyUse). u.is_published) keys

-- the keys by which the DNSKEY set has signatures, and so have CDS and CDNSKEY (RFC 7344 section 4.1)
abbrev pub dnskey_signers : List UsedKey → List Key
dnskey_signers keys = keys_where (λ (u : KeyUse). u.signs_keys) keys

-- the keys by which each other set that the zone signs has signatures
abbrev pub set_signers : List UsedKey → List Key
set_signers keys = keys_where (λ (u : KeyUse). u.signs_others) keys

-- the keys of which the parent is to have DS records
abbrev pub wanted_ds : List UsedKey → List Key
wanted_ds keys = keys_where (λ (u : KeyUse). u.wants_ds) keys

-- one of two DS sets, or both
abbrev pub either_or_both : List Key → List Key → List (List Key)
either_or_both before after = before ∷ (before ++ after) ∷ after ∷ []
