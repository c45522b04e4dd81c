-- What is true of a signed zone that is changed in place
use Rattle.std.specs.Prelude.{◌≡◌, ℕ, List, option_map, IsTrue}
use Rattle.zone_proto.specs.Names.{Name, lower}
use Rattle.zone_proto.specs.Sets.{RRset}
use Rattle.zone_proto.specs.Types.{SOA, NSEC}
use Rattle.zone_map.specs.Zones.{Sets, IsZone, owns}
use Rattle.zone_denial.specs.Chains.{IsNsecChain}
use Rattle.zone_denial.specs.NsecSets.{nsec_set_at}
use Rattle.zone_trimming.specs.Trimming.{trimmed_at}
use Rattle.update_in_place.specs.Parts.{AreChanged}
use Rattle.chain_changes.specs.Renewal.{IsRenewed, nsec_records}
use Rattle.signed_changes.specs.Renewing.{changed_keys}

-- Where the NSEC sets were those of the zone before an update, with trimmed lists, and those that it makes others are renewed, they are a chain.
abbrev pub ChangedIsNsecChain : Type 0
ChangedIsNsecChain = (origin : Name) (names : List Name) (old changed put before after : Sets) (ttl serial : ℕ) → IsZone changed → IsZone put → lower origin ≡ origin
    → IsTrue (owns changed origin SOA) → AreChanged names old changed before after
    → ((n : Name) → nsec_records changed n ≡ option_map (λ (s : RRset). s.records) (trimmed_at (nsec_set_at origin old ttl serial) n NSEC))
    → IsRenewed origin (changed_keys before after) changed (trimmed_at (nsec_set_at origin changed ttl serial)) put → IsNsecChain origin put
