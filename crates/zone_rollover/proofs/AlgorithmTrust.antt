-- What caches may hold at once while the algorithm is changed
use Rattle.std.proofs.Common.{◌≡◌, ℕ, ◌+◌, ◌≤◌, Bool, true, false, arith}
use Rattle.std.specs.Prelude.{IsTrue}
use Rattle.std.proofs.lemmas.Bool.Decides.{nat_tests}
use Rattle.zone_rollover.specs.declared.timing.Timing.{Timing}
use Rattle.zone_rollover.specs.declared.algorithm_rollover.AlgorithmStage.{AlgorithmStage}
use Rattle.zone_rollover.specs.declared.algorithm_rollover.AlgorithmStage.TheVariants.{Initial, NewRrsigs, NewDnskey, DsSubmitted, DsSeen, DnskeyRemoved, RrsigsRemoved}
use Rattle.zone_rollover.specs.Caches.{MayHold}
use Rattle.zone_rollover.specs.AlgorithmRollovers.{is_timed, stage_at}

-- the new keys sign
abbrev pub has_rrsigs : AlgorithmStage → Bool
has_rrsigs Initial = false
has_rrsigs (NewRrsigs _) = true
has_rrsigs (NewDnskey _ _) = true
has_rrsigs (DsSubmitted _ _ _) = true
has_rrsigs (DsSeen _ _ _ _) = true
has_rrsigs (DnskeyRemoved _ _ _ _ _) = true
has_rrsigs (RrsigsRemoved _ _ _ _ _ _) = true

-- the new keys are in the DNSKEY set
abbrev pub has_dnskey : AlgorithmStage → Bool
has_dnskey Initial = false
has_dnskey (NewRrsigs _) = false
has_dnskey (NewDnskey _ _) = true
has_dnskey (DsSubmitted _ _ _) = true
has_dnskey (DsSeen _ _ _ _) = true
has_dnskey (DnskeyRemoved _ _ _ _ _) = true
has_dnskey (RrsigsRemoved _ _ _ _ _ _) = true

-- the parent was asked
abbrev pub is_asked : AlgorithmStage → Bool
is_asked Initial = false
is_asked (NewRrsigs _) = false
is_asked (NewDnskey _ _) = false
is_asked (DsSubmitted _ _ _) = true
is_asked (DsSeen _ _ _ _) = true
is_asked (DnskeyRemoved _ _ _ _ _) = true
is_asked (RrsigsRemoved _ _ _ _ _ _) = true

-- the parent has the new DS set
abbrev pub is_seen : AlgorithmStage → Bool
is_seen Initial = false
is_seen (NewRrsigs _) = false
is_seen (NewDnskey _ _) = false
is_seen (DsSubmitted _ _ _) = false
is_seen (DsSeen _ _ _ _) = true
is_seen (DnskeyRemoved _ _ _ _ _) = true
is_seen (RrsigsRemoved _ _ _ _ _ _) = true

-- the old keys are gone from the DNSKEY set
abbrev pub is_removed : AlgorithmStage → Bool
is_removed Initial = false
is_removed (NewRrsigs _) = false
is_removed (NewDnskey _ _) = false
is_removed (DsSubmitted _ _ _) = false
is_removed (DsSeen _ _ _ _) = false
is_removed (DnskeyRemoved _ _ _ _ _) = true
is_removed (RrsigsRemoved _ _ _ _ _ _) = true

-- the old keys sign nothing
abbrev pub is_over : AlgorithmStage → Bool
is_over Initial = false
is_over (NewRrsigs _) = false
is_over (NewDnskey _ _) = false
is_over (DsSubmitted _ _ _) = false
is_over (DsSeen _ _ _ _) = false
is_over (DnskeyRemoved _ _ _ _ _) = false
is_over (RrsigsRemoved _ _ _ _ _ _) = true

-- where a cache may hold a DNSKEY set with the new keys, they signed each set that it may hold
pub has_rrsigs_in_time : (timing : Timing) (stage : AlgorithmStage) (moment k s ttl : ℕ) → IsTrue (is_timed timing stage)
    → k ≤ moment → ttl ≤ timing.greatest_ttl → MayHold (timing.signing + timing.propagation) ttl s moment
    → has_dnskey (stage_at stage k) ≡ true → has_rrsigs (stage_at stage s) ≡ true
has_rrsigs_in_time timing Initial moment k s ttl ok before short held h = grind (arith, nat_tests)
has_rrsigs_in_time timing (NewRrsigs a) moment k s ttl ok before short held h = grind (arith, nat_tests)
has_rrsigs_in_time timing (NewDnskey a d) moment k s ttl ok before short held h = grind (arith, nat_tests)
has_rrsigs_in_time timing (DsSubmitted a d q) moment k s ttl ok before short held h = grind (arith, nat_tests)
has_rrsigs_in_time timing (DsSeen a d q n) moment k s ttl ok before short held h = grind (arith, nat_tests)
has_rrsigs_in_time timing (DnskeyRemoved a d q n r) moment k s ttl ok before short held h = grind (arith, nat_tests)
has_rrsigs_in_time timing (RrsigsRemoved a d q n r e) moment k s ttl ok before short held h = grind (arith, nat_tests)

-- where a cache may hold a new DS set, each DNSKEY set that it may hold has the new keys
pub has_dnskey_in_time : (timing : Timing) (stage : AlgorithmStage) (moment k p : ℕ) → IsTrue (is_timed timing stage)
    → MayHold timing.propagation timing.key_ttl k moment → p ≤ moment
    → is_asked (stage_at stage p) ≡ true → has_dnskey (stage_at stage k) ≡ true
has_dnskey_in_time timing Initial moment k p ok held before h = grind (arith, nat_tests)
has_dnskey_in_time timing (NewRrsigs a) moment k p ok held before h = grind (arith, nat_tests)
has_dnskey_in_time timing (NewDnskey a d) moment k p ok held before h = grind (arith, nat_tests)
has_dnskey_in_time timing (DsSubmitted a d q) moment k p ok held before h = grind (arith, nat_tests)
has_dnskey_in_time timing (DsSeen a d q n) moment k p ok held before h = grind (arith, nat_tests)
has_dnskey_in_time timing (DnskeyRemoved a d q n r) moment k p ok held before h = grind (arith, nat_tests)
has_dnskey_in_time timing (RrsigsRemoved a d q n r e) moment k p ok held before h = grind (arith, nat_tests)

-- where a cache may hold a DNSKEY set without the old keys, each DS set that it may hold is the new one
pub is_seen_in_time : (timing : Timing) (stage : AlgorithmStage) (moment k p : ℕ) → IsTrue (is_timed timing stage)
    → k ≤ moment → MayHold timing.parent_propagation timing.ds_ttl p moment
    → is_removed (stage_at stage k) ≡ true → is_seen (stage_at stage p) ≡ true
is_seen_in_time timing Initial moment k p ok before held h = grind (arith, nat_tests)
is_seen_in_time timing (NewRrsigs a) moment k p ok before held h = grind (arith, nat_tests)
is_seen_in_time timing (NewDnskey a d) moment k p ok before held h = grind (arith, nat_tests)
is_seen_in_time timing (DsSubmitted a d q) moment k p ok before held h = grind (arith, nat_tests)
is_seen_in_time timing (DsSeen a d q n) moment k p ok before held h = grind (arith, nat_tests)
is_seen_in_time timing (DnskeyRemoved a d q n r) moment k p ok before held h = grind (arith, nat_tests)
is_seen_in_time timing (RrsigsRemoved a d q n r e) moment k p ok before held h = grind (arith, nat_tests)

-- where a cache may hold a set without the old keys' signatures, no DNSKEY set that it may hold has the old keys
pub is_removed_in_time : (timing : Timing) (stage : AlgorithmStage) (moment k s : ℕ) → IsTrue (is_timed timing stage)
    → MayHold timing.propagation timing.key_ttl k moment → s ≤ moment
    → is_over (stage_at stage s) ≡ true → is_removed (stage_at stage k) ≡ true
is_removed_in_time timing Initial moment k s ok held before h = grind (arith, nat_tests)
is_removed_in_time timing (NewRrsigs a) moment k s ok held before h = grind (arith, nat_tests)
is_removed_in_time timing (NewDnskey a d) moment k s ok held before h = grind (arith, nat_tests)
is_removed_in_time timing (DsSubmitted a d q) moment k s ok held before h = grind (arith, nat_tests)
is_removed_in_time timing (DsSeen a d q n) moment k s ok held before h = grind (arith, nat_tests)
is_removed_in_time timing (DnskeyRemoved a d q n r) moment k s ok held before h = grind (arith, nat_tests)
is_removed_in_time timing (RrsigsRemoved a d q n r e) moment k s ok held before h = grind (arith, nat_tests)

-- where a cache may hold a DNSKEY set with the new keys, they signed CDS and CDNSKEY as it may hold them
pub asks_in_time : (timing : Timing) (stage : AlgorithmStage) (moment k s ttl : ℕ) → IsTrue (is_timed timing stage)
    → k ≤ moment → ttl ≤ timing.greatest_ttl → MayHold timing.propagation ttl s moment
    → has_dnskey (stage_at stage k) ≡ true → has_rrsigs (stage_at stage s) ≡ true
asks_in_time timing stage moment k s ttl ok before short held h =
    let longer : MayHold (timing.signing + timing.propagation) ttl s moment = (held.0, omega (arith, held.1)) in
    has_rrsigs_in_time timing stage moment k s ttl ok before short longer h
