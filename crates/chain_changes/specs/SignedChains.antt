-- The chain of NSEC sets of a signed zone, whoever signed it, and what is true of it once those that a change makes others are made anew
use Rattle.std.specs.Prelude.{◌≡◌, ℕ, List, Some, IsTrue}
use Rattle.std.specs.List.{Contains}
use Rattle.zone_proto.specs.declared.rr_key.RrKey.{RrKey}
use Rattle.zone_proto.specs.Names.{Name, lower}
use Rattle.zone_proto.specs.Sets.{RRset}
use Rattle.zone_proto.specs.Types.{SOA, RRSIG, NSEC}
use Rattle.zone_map.specs.Zones.{Sets, IsZone, set_at, owns}
use Rattle.zone_denial.specs.Authority.{is_authoritative}
use Rattle.zone_denial.specs.Chains.{IsNsecChain}
use Rattle.zone_denial.specs.NsecCircle.{types_of}
use Rattle.zone_denial.specs.NsecSets.{nsec_set_at}
use Rattle.zone_trimming.specs.Trimming.{trimmed_at}
use Rattle.zone_trimming.specs.TrimmedChains.{HasTrimmedNsecSets}
use Rattle.chain_changes.specs.Renewal.{HaveChanges, IsRenewed, nsec_records}

-- The NSEC sets of a zone are a chain, as BIND, ldns, Knot and this library write it, of whichever TTLs: it goes through all names that the zone is authoritative for, those
-- below a DNAME too, and each list has RRSIG, since each NSEC set is signed itself (RFC 4035 section 2.3).
pub record IsSignedNsecChain (origin : Name) (m : Sets) : Type 0 where
  pub chain : IsNsecChain origin m
  pub complete : (n : Name) → IsTrue (is_authoritative origin m NSEC n) → IsTrue (owns m n NSEC)
  pub signed : (n : Name) (s : RRset) (types : List ℕ) → set_at m n NSEC ≡ Some s → types_of s ≡ Some types → Contains types RRSIG

-- Where the NSEC sets of a zone are those that are made for it, with trimmed lists, it has one.
abbrev pub TrimmedIsSigned : Type 0
TrimmedIsSigned = (origin : Name) (m after : Sets) (ttl serial : ℕ) → IsZone m → IsZone after → lower origin ≡ origin → IsTrue (owns m origin SOA)
    → HasTrimmedNsecSets origin m ttl serial after → IsSignedNsecChain origin after

-- Where a zone has one, sets of it come or go and its NSEC sets stay as they are until they are renewed, with trimmed lists and whichever TTL and serial, the zone then has one too.
abbrev pub RenewedStaysChain : Type 0
RenewedStaysChain = (origin : Name) (m after put : Sets) (keys : List RrKey) (ttl serial : ℕ) → IsZone after → IsZone put → lower origin ≡ origin → IsTrue (owns after origin SOA)
    → HaveChanges keys m after → ((n : Name) → nsec_records after n ≡ nsec_records m n) → IsSignedNsecChain origin m
    → IsRenewed origin keys after (trimmed_at (nsec_set_at origin after ttl serial)) put → IsSignedNsecChain origin put
