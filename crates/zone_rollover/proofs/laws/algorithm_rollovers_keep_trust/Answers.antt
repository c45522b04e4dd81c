use Rattle.zone_rollover.specs.AlgorithmRollovers.{stage_at}
use Rattle.zone_rollover.proofs.AlgorithmTrust.{asks_in_time, has_rrsigs_in_time, has_dnskey_in_time, is_seen_in_time, is_removed_in_time}
use Rattle.zone_rollover.proofs.AlgorithmChains.{algorithm_chain}
use Rattle.zone_rollover.proofs.laws.algorithm_rollovers_keep_trust.Goals as goal

pub returns : goal.returns
returns c timing stage others old new ok before after moment p k q s request_ttl ttl ds held_ds in_ds held_keys shorter short held_request shortest held_set =
    algorithm_chain others old new before after (stage_at stage k) (stage_at stage q) (stage_at stage s) (stage_at stage p) ds
    (asks_in_time timing stage moment k q request_ttl ok held_keys.0 short held_request)
    (has_rrsigs_in_time timing stage moment k s ttl ok held_keys.0 shortest held_set)
    (has_dnskey_in_time timing stage moment k p ok held_keys held_ds.0)
    (is_seen_in_time timing stage moment k p ok held_keys.0 held_ds)
    (is_removed_in_time timing stage moment k q ok held_keys held_request.0)
    (is_removed_in_time timing stage moment k s ok held_keys held_set.0)
    in_ds
