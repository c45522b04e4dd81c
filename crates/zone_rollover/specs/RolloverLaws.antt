-- What rollovers keep: at each moment, whatever caches hold, the chain of trust is whole. The zone has to be so before and after: with the old keys alone, and with the new ones. (A last stage has moments, which don't matter to what is done with keys.)
use Rattle.std.specs.Prelude.{◌≡◌, ℕ, List, IsTrue}
use Rattle.zone_rollover.specs.declared.key_use.Key.{Key}
use Rattle.zone_rollover.specs.declared.key_use.Role.{Role}
use Rattle.zone_rollover.specs.declared.key_use.UsedKey.{UsedKey}
use Rattle.zone_rollover.specs.declared.timing.Timing.{Timing}
use Rattle.zone_rollover.specs.declared.zsk_rollover.ZskStage.{ZskStage}
use Rattle.zone_rollover.specs.declared.zsk_rollover.ZskStage.TheVariants as OfZsk
use Rattle.zone_rollover.specs.declared.ksk_rollover.KskStage.{KskStage}
use Rattle.zone_rollover.specs.declared.ksk_rollover.KskStage.TheVariants as OfKsk
use Rattle.zone_rollover.specs.declared.algorithm_rollover.AlgorithmStage.{AlgorithmStage}
use Rattle.zone_rollover.specs.declared.algorithm_rollover.AlgorithmStage.TheVariants as OfAlgorithm
use Rattle.zone_rollover.specs.Caches.{IsTrusted}
use Rattle.zone_rollover.specs.Chains.{IsWhole}
use Rattle.zone_rollover.specs.ZskRollovers as Zsk
use Rattle.zone_rollover.specs.KskRollovers as Ksk
use Rattle.zone_rollover.specs.AlgorithmRollovers as Algorithm

-- of two keys of one algorithm that sign the zone; what the parent has stays
abbrev pub ZskRolloversKeepTrust : Type 0
ZskRolloversKeepTrust =
    (timing : Timing) (stage : ZskStage) (others : List UsedKey) (old new : Key) → IsTrue (Zsk.is_timed timing stage)
    → new.algorithm ≡ old.algorithm
    → IsWhole (Zsk.keys_at others old new OfZsk.Initial)
    → IsWhole (Zsk.keys_at others old new (OfZsk.DnskeyRemoved 0 0 0))
    → (moment : ℕ) → IsTrusted timing (λ p. Zsk.parent_at others old new (Zsk.stage_at stage p)) (λ t. Zsk.keys_at others old new (Zsk.stage_at stage t)) moment

-- of two keys of one algorithm that the parent tells of
abbrev pub KskRolloversKeepTrust : Type 0
KskRolloversKeepTrust =
    (timing : Timing) (stage : KskStage) (others : List UsedKey) (old new : Key) → IsTrue (Ksk.is_timed timing stage)
    → new.algorithm ≡ old.algorithm
    → IsWhole (Ksk.keys_at others old new OfKsk.Initial)
    → IsWhole (Ksk.keys_at others old new (OfKsk.DnskeyRemoved 0 0 0 0))
    → (moment : ℕ) → IsTrusted timing (λ p. Ksk.parent_at others old new (Ksk.stage_at stage p)) (λ t. Ksk.keys_at others old new (Ksk.stage_at stage t)) moment

-- of keys of whatever algorithms and roles
abbrev pub AlgorithmRolloversKeepTrust : Type 0
AlgorithmRolloversKeepTrust =
    (timing : Timing) (stage : AlgorithmStage) (others : List UsedKey) (old new : List (Key × Role)) → IsTrue (Algorithm.is_timed timing stage)
    → IsWhole (Algorithm.keys_at others old new OfAlgorithm.Initial)
    → IsWhole (Algorithm.keys_at others old new (OfAlgorithm.RrsigsRemoved 0 0 0 0 0 0))
    → (moment : ℕ) → IsTrusted timing (λ p. Algorithm.parent_at others old new (Algorithm.stage_at stage p)) (λ t. Algorithm.keys_at others old new (Algorithm.stage_at stage t)) moment
