-- What is true of a zone whose NSEC sets have trimmed lists, once those that a change makes others are made anew
use Rattle.std.specs.Prelude.{◌≡◌, ℕ, List, option_map, IsTrue}
use Rattle.zone_proto.specs.declared.rr_key.RrKey.{RrKey}
use Rattle.zone_proto.specs.Names.{Name, lower}
use Rattle.zone_proto.specs.Sets.{RRset}
use Rattle.zone_proto.specs.Types.{SOA, NSEC}
use Rattle.zone_map.specs.Zones.{Sets, IsZone, owns}
use Rattle.zone_denial.specs.Chains.{IsNsecChain}
use Rattle.zone_denial.specs.NsecSets.{nsec_set_at}
use Rattle.zone_trimming.specs.Trimming.{trimmed_at}
use Rattle.chain_changes.specs.Renewal.{HaveChanges, IsRenewed, nsec_records}

-- where the NSEC sets were those of the zone before, with trimmed lists, and these are renewed so, they are a chain
abbrev pub RenewedIsNsecChain : Type 0
RenewedIsNsecChain = (origin : Name) (m after put : Sets) (keys : List RrKey) (ttl serial : ℕ) → IsZone after → IsZone put → lower origin ≡ origin → IsTrue (owns after origin SOA)
    → HaveChanges keys m after
    → ((n : Name) → nsec_records after n ≡ option_map (λ (s : RRset). s.records) (trimmed_at (nsec_set_at origin m ttl serial) n NSEC))
    → IsRenewed origin keys after (trimmed_at (nsec_set_at origin after ttl serial)) put → IsNsecChain origin put
