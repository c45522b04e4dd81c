-- The pre-publication of a key that signs the zone keeps the chain of trust
use Rattle.std.proofs.Common.{◌≡◌, ℕ, ◌+◌, ◌≤◌, Bool, true, false, arith}
use Rattle.std.specs.Prelude.{IsTrue}
use Rattle.std.proofs.lemmas.Bool.Decides.{nat_tests}
use Rattle.zone_rollover.specs.declared.timing.Timing.{Timing}
use Rattle.zone_rollover.specs.declared.zsk_rollover.ZskStage.{ZskStage}
use Rattle.zone_rollover.specs.declared.zsk_rollover.ZskStage.TheVariants.{Initial, NewDnskey, NewRrsigs, DnskeyRemoved}
use Rattle.zone_rollover.specs.Caches.{MayHold}
use Rattle.zone_rollover.specs.ZskRollovers.{is_timed, stage_at}

-- the new key is in the DNSKEY set
abbrev pub has_dnskey : ZskStage → Bool
has_dnskey Initial = false
has_dnskey (NewDnskey _) = true
has_dnskey (NewRrsigs _ _) = true
has_dnskey (DnskeyRemoved _ _ _) = true

-- the new key signs
abbrev pub has_rrsigs : ZskStage → Bool
has_rrsigs Initial = false
has_rrsigs (NewDnskey _) = false
has_rrsigs (NewRrsigs _ _) = true
has_rrsigs (DnskeyRemoved _ _ _) = true

-- the old key is gone
abbrev pub is_removed : ZskStage → Bool
is_removed Initial = false
is_removed (NewDnskey _) = false
is_removed (NewRrsigs _ _) = false
is_removed (DnskeyRemoved _ _ _) = true

-- where a cache may hold what the new key signed, each DNSKEY set that it may hold has the new key
pub has_dnskey_in_time : (timing : Timing) (stage : ZskStage) (moment k s ttl : ℕ) → IsTrue (is_timed timing stage)
    → MayHold timing.propagation timing.key_ttl k moment → s ≤ moment
    → has_rrsigs (stage_at stage s) ≡ true → has_dnskey (stage_at stage k) ≡ true
has_dnskey_in_time timing Initial moment k s ttl ok held before h = grind (arith, nat_tests)
has_dnskey_in_time timing (NewDnskey d) moment k s ttl ok held before h = grind (arith, nat_tests)
has_dnskey_in_time timing (NewRrsigs d n) moment k s ttl ok held before h = grind (arith, nat_tests)
has_dnskey_in_time timing (DnskeyRemoved d n r) moment k s ttl ok held before h = grind (arith, nat_tests)

-- where a cache may hold a DNSKEY set without the old key, the new one signed each set that it may hold
pub has_rrsigs_in_time : (timing : Timing) (stage : ZskStage) (moment k s ttl : ℕ) → IsTrue (is_timed timing stage)
    → k ≤ moment → ttl ≤ timing.greatest_ttl → MayHold (timing.signing + timing.propagation) ttl s moment
    → is_removed (stage_at stage k) ≡ true → has_rrsigs (stage_at stage s) ≡ true
has_rrsigs_in_time timing Initial moment k s ttl ok before short held h = grind (arith, nat_tests)
has_rrsigs_in_time timing (NewDnskey d) moment k s ttl ok before short held h = grind (arith, nat_tests)
has_rrsigs_in_time timing (NewRrsigs d n) moment k s ttl ok before short held h = grind (arith, nat_tests)
has_rrsigs_in_time timing (DnskeyRemoved d n r) moment k s ttl ok before short held h = grind (arith, nat_tests)
