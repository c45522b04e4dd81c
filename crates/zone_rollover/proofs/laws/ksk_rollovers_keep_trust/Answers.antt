use Rattle.zone_rollover.specs.KskRollovers.{stage_at}
use Rattle.zone_rollover.proofs.KskTrust.{has_dnskey_in_time, has_new_in_time, is_seen_in_time, signs_in_time}
use Rattle.zone_rollover.proofs.KskChains.{ksk_chain}
use Rattle.zone_rollover.proofs.laws.ksk_rollovers_keep_trust.Goals as goal

pub returns : goal.returns
returns c timing stage others old new ok alike before after moment p k q s request_ttl ttl ds held_ds in_ds held_keys shorter short held_request shortest held_set =
    ksk_chain others old new alike before after (stage_at stage k) (stage_at stage q) (stage_at stage s) (stage_at stage p) ds
    (has_dnskey_in_time timing stage moment k p ok held_keys held_ds.0)
    (has_new_in_time timing stage moment k q ok held_keys held_request.0)
    (is_seen_in_time timing stage moment k p ok held_keys.0 held_ds)
    (signs_in_time timing stage moment k q request_ttl ok held_keys.0 shorter held_request)
    in_ds
