-- A zone whose NSEC sets are renewed with trimmed lists has a chain of them
use Rattle.zone_trimming.specs.Trimming.{trimmed_set}
use Rattle.zone_trimming.proofs.TrimmedChain.{trimmed_is_nsec_chain}
use Rattle.chain_changes.specs.TrimmedRenewals.{RenewedIsNsecChain}
use Rattle.chain_changes.proofs.RenewedCircle.{all_made}

pub renewed_is_nsec_chain : RenewedIsNsecChain
renewed_is_nsec_chain origin m after put keys ttl serial zone stands low soa told stood is =
    trimmed_is_nsec_chain origin after put ttl serial zone stands low soa
    (record { others = is.others; denials = all_made trimmed_set origin m after put keys ttl serial told stood is })
