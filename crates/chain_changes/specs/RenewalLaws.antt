-- What is true of a zone once the NSEC sets that a change makes others are made anew
use Rattle.std.specs.Prelude.{◌≡◌, ℕ, false, List, option_map}
use Rattle.zone_proto.specs.declared.rr_key.RrKey.{RrKey}
use Rattle.zone_proto.specs.Names.{Name, lower}
use Rattle.zone_proto.specs.Sets.{RRset}
use Rattle.zone_proto.specs.Types.{NSEC}
use Rattle.zone_map.specs.Zones.{Sets, IsZone, owns}
use Rattle.zone_denial.specs.Authority.{is_authoritative}
use Rattle.zone_denial.specs.NsecCircle.{IsNsecCircle}
use Rattle.zone_denial.specs.NsecSets.{nsec_set_at}
use Rattle.chain_changes.specs.Renewal.{HaveChanges, IsRenewed, nsec_records, is_renewed}

-- where the names that own NSEC are those that the zone was authoritative for, the NSEC set of each name that isn't renewed is as it was
abbrev pub OthersStay : Type 0
OthersStay = (origin : Name) (m after : Sets) (keys : List RrKey) → HaveChanges keys m after → ((n : Name) → owns after n NSEC ≡ is_authoritative origin m NSEC n)
    → (n : Name) → is_renewed origin after keys n ≡ false → (ttl serial t : ℕ) → nsec_set_at origin after ttl serial n t ≡ nsec_set_at origin m ttl serial n t

-- where the NSEC sets were those of the zone before, they are a circle once these are renewed
abbrev pub RenewedIsCircle : Type 0
RenewedIsCircle = (origin : Name) (m after put : Sets) (keys : List RrKey) (ttl serial : ℕ) → IsZone after → lower origin ≡ origin → HaveChanges keys m after
    → ((n : Name) → nsec_records after n ≡ option_map (λ (s : RRset). s.records) (nsec_set_at origin m ttl serial n NSEC))
    → IsRenewed origin keys after (nsec_set_at origin after ttl serial) put → IsNsecCircle origin put
