use Rattle.std.proofs.Common.{List, subst}
use Rattle.zone_rollover.specs.declared.key_use.Key.{Key}
use Rattle.zone_rollover.specs.Chains.{IsChain}
use Rattle.zone_rollover.specs.KeyUses.{wanted_ds}
use Rattle.zone_rollover.specs.ZskRollovers.{keys_at, stage_at}
use Rattle.zone_rollover.proofs.KeyLists.{only_one}
use Rattle.zone_rollover.proofs.ZskTrust.{has_dnskey_in_time, has_rrsigs_in_time}
use Rattle.zone_rollover.proofs.ZskChains.{zsk_chain}
use Rattle.zone_rollover.proofs.laws.zsk_rollovers_keep_trust.Goals as goal

pub returns : goal.returns
returns c timing stage others old new ok alike before after moment p k q s request_ttl ttl ds held_ds in_ds held_keys shorter short held_request shortest held_set =
    let chain = zsk_chain others old new alike before after (stage_at stage k) (stage_at stage q) (stage_at stage s) (stage_at stage p)
    (has_dnskey_in_time timing stage moment k s ttl ok held_keys held_set.0)
    (has_rrsigs_in_time timing stage moment k s ttl ok held_keys.0 shortest held_set) in
    let same = only_one (wanted_ds (keys_at others old new (stage_at stage p))) ds in_ds in
    subst (λ (d : List Key). IsChain d (keys_at others old new (stage_at stage k)) (keys_at others old new (stage_at stage q)) (keys_at others old new (stage_at stage s))) same chain
