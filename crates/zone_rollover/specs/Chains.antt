-- Chains of trust through a zone: from the DS set of its parent over its DNSKEY set to each set that it signs. A DS set is seen as the keys of which it has records, and signatures as the keys that made them
use Rattle.std.specs.Prelude.{◌≡◌, List, Contains}
use Rattle.zone_rollover.specs.declared.key_use.Key.{Key}
use Rattle.zone_rollover.specs.declared.key_use.UsedKey.{UsedKey}
use Rattle.zone_rollover.specs.KeyUses.{dnskey_set, dnskey_signers, set_signers, wanted_ds}

-- a DNSKEY set is authenticated by a DS set
pub record IsAuthenticated (ds keys signers : List Key) : Type 0 where
  -- one of the keys of the DS set is in the DNSKEY set, and has signed it (RFC 4035 section 5.2)
  pub found : (key : Key) × Contains ds key × Contains keys key × Contains signers key
  -- of each algorithm in the DS set there is such a key (RFC 4035 section 2.2)
  pub each_algorithm : (d : Key) → Contains ds d → (key : Key) × (key.algorithm ≡ d.algorithm) × Contains ds key × Contains keys key × Contains signers key

-- a set with signatures by these keys is authenticated by a DNSKEY set
pub record IsSigned (keys signers : List Key) : Type 0 where
  -- one of the keys in the DNSKEY set has signed it (RFC 4035 section 5.3.1)
  pub found : (key : Key) × Contains keys key × Contains signers key
  -- of each algorithm in the DNSKEY set there is such a key (RFC 4035 section 2.2)
  pub each_algorithm : (k : Key) → Contains keys k → (key : Key) × (key.algorithm ≡ k.algorithm) × Contains keys key × Contains signers key

-- the chain from a DS set over the DNSKEY set of a zone, as it is with `keys`, to its other sets: CDS or CDNSKEY as they are signed with `requests`, and any other as with `others`
pub record IsChain (ds : List Key) (keys requests others : List UsedKey) : Type 0 where
  pub delegation : IsAuthenticated ds (dnskey_set keys) (dnskey_signers keys)
  -- the DNSKEY set is signed by each of its algorithms as all sets are
  pub keys_signed : IsSigned (dnskey_set keys) (dnskey_signers keys)
  -- CDS and CDNSKEY have signatures by the keys that sign DNSKEY (RFC 7344 section 4.1)
  pub requests_signed : IsSigned (dnskey_set keys) (dnskey_signers requests)
  pub set_signed : IsSigned (dnskey_set keys) (set_signers others)

-- a zone at rest: with what its parent is to have, the chain to each of its sets is whole
abbrev pub IsWhole : List UsedKey → Type 0
IsWhole keys = IsChain (wanted_ds keys) keys keys keys
