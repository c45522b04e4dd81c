-- A signed zone that is changed and whose NSEC sets are renewed has a chain of them
use Rattle.chain_changes.proofs.Changes.{changes_told}
use Rattle.chain_changes.proofs.TrimmedChain.{renewed_is_nsec_chain}
use Rattle.signed_changes.specs.Laws.{ChangedIsNsecChain}
use Rattle.signed_changes.specs.Renewing.{changed_keys}

pub changed_is_nsec_chain : ChangedIsNsecChain
changed_is_nsec_chain origin names old changed put before after ttl serial zone stands low soa is told renewed =
    renewed_is_nsec_chain origin old changed put (changed_keys before after) ttl serial zone stands low soa (changes_told names old changed before after is) told renewed
