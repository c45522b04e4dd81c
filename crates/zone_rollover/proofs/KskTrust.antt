-- What caches may hold at once while keys are rolled by double signature
use Rattle.std.proofs.Common.{◌≡◌, ℕ, ◌≤◌, Bool, true, false, arith}
use Rattle.std.specs.Prelude.{IsTrue}
use Rattle.std.proofs.lemmas.Bool.Decides.{nat_tests}
use Rattle.zone_rollover.specs.declared.timing.Timing.{Timing}
use Rattle.zone_rollover.specs.declared.ksk_rollover.KskStage.{KskStage}
use Rattle.zone_rollover.specs.declared.ksk_rollover.KskStage.TheVariants.{Initial, NewDnskey, DsSubmitted, DsSeen, DnskeyRemoved}
use Rattle.zone_rollover.specs.Caches.{MayHold}
use Rattle.zone_rollover.specs.KskRollovers.{is_timed, stage_at}

-- the new key is in the DNSKEY set
abbrev pub has_dnskey : KskStage → Bool
has_dnskey Initial = false
has_dnskey (NewDnskey _) = true
has_dnskey (DsSubmitted _ _) = true
has_dnskey (DsSeen _ _ _) = true
has_dnskey (DnskeyRemoved _ _ _ _) = true

-- the parent was asked
abbrev pub is_asked : KskStage → Bool
is_asked Initial = false
is_asked (NewDnskey _) = false
is_asked (DsSubmitted _ _) = true
is_asked (DsSeen _ _ _) = true
is_asked (DnskeyRemoved _ _ _ _) = true

-- the parent has the new DS set
abbrev pub is_seen : KskStage → Bool
is_seen Initial = false
is_seen (NewDnskey _) = false
is_seen (DsSubmitted _ _) = false
is_seen (DsSeen _ _ _) = true
is_seen (DnskeyRemoved _ _ _ _) = true

-- the old key is gone
abbrev pub is_removed : KskStage → Bool
is_removed Initial = false
is_removed (NewDnskey _) = false
is_removed (DsSubmitted _ _) = false
is_removed (DsSeen _ _ _) = false
is_removed (DnskeyRemoved _ _ _ _) = true

-- where a cache may hold a new DS set, each DNSKEY set that it may hold has the new key
pub has_dnskey_in_time : (timing : Timing) (stage : KskStage) (moment k p : ℕ) → IsTrue (is_timed timing stage)
    → MayHold timing.propagation timing.key_ttl k moment → p ≤ moment
    → is_asked (stage_at stage p) ≡ true → has_dnskey (stage_at stage k) ≡ true
has_dnskey_in_time timing Initial moment k p ok held before h = grind (arith, nat_tests)
has_dnskey_in_time timing (NewDnskey d) moment k p ok held before h = grind (arith, nat_tests)
has_dnskey_in_time timing (DsSubmitted d a) moment k p ok held before h = grind (arith, nat_tests)
has_dnskey_in_time timing (DsSeen d a n) moment k p ok held before h = grind (arith, nat_tests)
has_dnskey_in_time timing (DnskeyRemoved d a n r) moment k p ok held before h = grind (arith, nat_tests)

-- where a cache may hold a DNSKEY set without the old key, each DS set that it may hold is the new one
pub is_seen_in_time : (timing : Timing) (stage : KskStage) (moment k p : ℕ) → IsTrue (is_timed timing stage)
    → k ≤ moment → MayHold timing.parent_propagation timing.ds_ttl p moment
    → is_removed (stage_at stage k) ≡ true → is_seen (stage_at stage p) ≡ true
is_seen_in_time timing Initial moment k p ok before held h = grind (arith, nat_tests)
is_seen_in_time timing (NewDnskey d) moment k p ok before held h = grind (arith, nat_tests)
is_seen_in_time timing (DsSubmitted d a) moment k p ok before held h = grind (arith, nat_tests)
is_seen_in_time timing (DsSeen d a n) moment k p ok before held h = grind (arith, nat_tests)
is_seen_in_time timing (DnskeyRemoved d a n r) moment k p ok before held h = grind (arith, nat_tests)

-- where a cache may hold CDS or CDNSKEY without the old key's signature, each DNSKEY set that it may hold has the new key
pub has_new_in_time : (timing : Timing) (stage : KskStage) (moment k q : ℕ) → IsTrue (is_timed timing stage)
    → MayHold timing.propagation timing.key_ttl k moment → q ≤ moment
    → is_removed (stage_at stage q) ≡ true → has_dnskey (stage_at stage k) ≡ true
has_new_in_time timing Initial moment k q ok held before h = grind (arith, nat_tests)
has_new_in_time timing (NewDnskey d) moment k q ok held before h = grind (arith, nat_tests)
has_new_in_time timing (DsSubmitted d a) moment k q ok held before h = grind (arith, nat_tests)
has_new_in_time timing (DsSeen d a n) moment k q ok held before h = grind (arith, nat_tests)
has_new_in_time timing (DnskeyRemoved d a n r) moment k q ok held before h = grind (arith, nat_tests)

-- where a cache may hold a DNSKEY set without the old key, the new one signed CDS and CDNSKEY as it may hold them
pub signs_in_time : (timing : Timing) (stage : KskStage) (moment k q ttl : ℕ) → IsTrue (is_timed timing stage)
    → k ≤ moment → ttl ≤ timing.key_ttl → MayHold timing.propagation ttl q moment
    → is_removed (stage_at stage k) ≡ true → has_dnskey (stage_at stage q) ≡ true
signs_in_time timing Initial moment k q ttl ok before short held h = grind (arith, nat_tests)
signs_in_time timing (NewDnskey d) moment k q ttl ok before short held h = grind (arith, nat_tests)
signs_in_time timing (DsSubmitted d a) moment k q ttl ok before short held h = grind (arith, nat_tests)
signs_in_time timing (DsSeen d a n) moment k q ttl ok before short held h = grind (arith, nat_tests)
signs_in_time timing (DnskeyRemoved d a n r) moment k q ttl ok before short held h = grind (arith, nat_tests)
