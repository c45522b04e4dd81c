-- The change to keys of another algorithm: signatures come before keys, and go after them (RFC 6781 section 4.1.4)
use Rattle.std.specs.Prelude.{ℕ, ◌+◌, ◌&&◌, nat_le, Bool, true, false, List, [], ◌∷◌, ◌++◌, map, if◌then◌else◌, Option, Some, None}
use Rattle.zone_rollover.specs.declared.key_use.Key.{Key}
use Rattle.zone_rollover.specs.declared.key_use.KeyUse.{KeyUse}
use Rattle.zone_rollover.specs.declared.key_use.UsedKey.{UsedKey}
use Rattle.zone_rollover.specs.declared.key_use.TheConstants.KeyUse.{KSK, ZSK, CSK}
use Rattle.zone_rollover.specs.declared.key_use.Generation.{Generation}
use Rattle.zone_rollover.specs.declared.key_use.Generation.TheVariants.{Old, New}
use Rattle.zone_rollover.specs.declared.key_use.Role.{Role}
use Rattle.zone_rollover.specs.declared.key_use.Role.TheVariants.{Ksk, Zsk, Csk}
use Rattle.zone_rollover.specs.declared.steps.Due.{Due}
use Rattle.zone_rollover.specs.declared.steps.Step.TheVariants as Step
use Rattle.zone_rollover.specs.declared.steps.Wait.TheVariants as Wait
use Rattle.zone_rollover.specs.declared.timing.Timing.{Timing}
use Rattle.zone_signing.specs.Signatures.{last_moment}
use Rattle.zone_rollover.specs.declared.algorithm_rollover.AlgorithmStage.{AlgorithmStage}
use Rattle.zone_rollover.specs.declared.algorithm_rollover.AlgorithmStage.TheVariants.{Initial, NewRrsigs, NewDnskey, DsSubmitted, DsSeen, DnskeyRemoved, RrsigsRemoved}
use Rattle.zone_rollover.specs.KeyUses.{wanted_ds, either_or_both}
use Rattle.zone_rollover.specs.Waits.{keys_wait, sets_wait, ds_wait}

-- ---- what is done with the keys

-- a key that is in use
abbrev pub in_use : Role → KeyUse
in_use Ksk = KSK
in_use Zsk = ZSK
in_use Csk = CSK

-- of a use as much as is done: it is in the DNSKEY set, signs, and the parent is to tell of it
abbrev pub part_of : KeyUse → (in_dnskey in_rrsigs in_ds : Bool) → KeyUse
part_of u in_dnskey in_rrsigs in_ds = record {
  is_published = u.is_published && in_dnskey;
  signs_keys = u.signs_keys && in_rrsigs;
  signs_others = u.signs_others && in_rrsigs;
  wants_ds = u.wants_ds && in_ds;
}

abbrev pub is_old : Generation → Bool
is_old Old = true
is_old New = false

abbrev pub is_new : Generation → Bool
is_new Old = false
is_new New = true

abbrev pub use_of : AlgorithmStage → Generation → Role → KeyUse
use_of Initial g role = part_of (in_use role) (is_old g) (is_old g) (is_old g)
use_of (NewRrsigs _) g role = part_of (in_use role) (is_old g) true (is_old g)
use_of (NewDnskey _ _) g role = part_of (in_use role) true true (is_old g)
use_of (DsSubmitted _ _ _) g role = part_of (in_use role) true true (is_new g)
use_of (DsSeen _ _ _ _) g role = part_of (in_use role) true true (is_new g)
use_of (DnskeyRemoved _ _ _ _ _) g role = part_of (in_use role) (is_new g) true (is_new g)
use_of (RrsigsRemoved _ _ _ _ _ _) g role = part_of (in_use role) (is_new g) (is_new g) (is_new g)

-- the keys of the zone at a stage: those that stay as they are, the old ones and the new ones, each with its role
abbrev pub keys_at : List UsedKey → List (Key × Role) → List (Key × Role) → AlgorithmStage → List UsedKey
keys_at others old new stage =
    others ++ (map (λ (k : Key × Role). record { key = k.0; usage = use_of stage Old k.1 }) old
    ++ map (λ (k : Key × Role). record { key = k.0; usage = use_of stage New k.1 }) new)

-- the DS sets that the parent may have: once it is asked, and until the new one is seen, that of before, the new one, or both
abbrev pub parent_at : List UsedKey → List (Key × Role) → List (Key × Role) → AlgorithmStage → List (List Key)
parent_at others old new (DsSubmitted a d s) = either_or_both (wanted_ds (keys_at others old new Initial)) (wanted_ds (keys_at others old new (DsSubmitted a d s)))
parent_at others old new stage = wanted_ds (keys_at others old new stage) ∷ []

-- ---- its steps

abbrev pub due : Timing → AlgorithmStage → Option Due
due timing Initial = Some (record { step = Step.NewRrsigs; from = 0; waits_for = Wait.Nothing })
due timing (NewRrsigs a) = Some (record { step = Step.NewDnskey; from = a + sets_wait timing; waits_for = Wait.CachedSets })
due timing (NewDnskey a d) = Some (record { step = Step.DsSubmitted; from = d + keys_wait timing; waits_for = Wait.CachedKeys })
due timing (DsSubmitted a d s) = Some (record { step = Step.DsSeen; from = s; waits_for = Wait.Parent })
due timing (DsSeen a d s p) = Some (record { step = Step.DnskeyRemoved; from = p + ds_wait timing; waits_for = Wait.CachedDs })
due timing (DnskeyRemoved a d s p r) = Some (record { step = Step.RrsigsRemoved; from = r + keys_wait timing; waits_for = Wait.CachedKeys })
due timing (RrsigsRemoved a d s p r e) = None

-- the stage after a step at a moment
abbrev pub stage_after : AlgorithmStage → ℕ → AlgorithmStage
stage_after Initial moment = NewRrsigs moment
stage_after (NewRrsigs a) moment = NewDnskey a moment
stage_after (NewDnskey a d) moment = DsSubmitted a d moment
stage_after (DsSubmitted a d s) moment = DsSeen a d s moment
stage_after (DsSeen a d s p) moment = DnskeyRemoved a d s p moment
stage_after (DnskeyRemoved a d s p r) moment = RrsigsRemoved a d s p r moment
stage_after (RrsigsRemoved a d s p r e) moment = RrsigsRemoved a d s p r e

-- each step was taken when it might be
abbrev pub is_timed : Timing → AlgorithmStage → Bool
is_timed timing Initial = true
is_timed timing (NewRrsigs a) = nat_le a last_moment
is_timed timing (NewDnskey a d) = nat_le (a + sets_wait timing) d && nat_le d last_moment
is_timed timing (DsSubmitted a d s) = nat_le (a + sets_wait timing) d && (nat_le (d + keys_wait timing) s && nat_le s last_moment)
is_timed timing (DsSeen a d s p) = nat_le (a + sets_wait timing) d && (nat_le (d + keys_wait timing) s && (nat_le s p && nat_le p last_moment))
is_timed timing (DnskeyRemoved a d s p r) =
    nat_le (a + sets_wait timing) d && (nat_le (d + keys_wait timing) s && (nat_le s p && (nat_le (p + ds_wait timing) r && nat_le r last_moment)))
is_timed timing (RrsigsRemoved a d s p r e) =
    nat_le (a + sets_wait timing) d
    && (nat_le (d + keys_wait timing) s && (nat_le s p && (nat_le (p + ds_wait timing) r && (nat_le (r + keys_wait timing) e && nat_le e last_moment))))

-- ---- its past

abbrev pub since_rrsigs : ℕ → ℕ → AlgorithmStage
since_rrsigs a t = if nat_le a t then NewRrsigs a else Initial

abbrev pub since_dnskey : ℕ → ℕ → ℕ → AlgorithmStage
since_dnskey a d t = if nat_le d t then NewDnskey a d else since_rrsigs a t

abbrev pub since_submission : ℕ → ℕ → ℕ → ℕ → AlgorithmStage
since_submission a d s t = if nat_le s t then DsSubmitted a d s else since_dnskey a d t

abbrev pub since_sight : ℕ → ℕ → ℕ → ℕ → ℕ → AlgorithmStage
since_sight a d s p t = if nat_le p t then DsSeen a d s p else since_submission a d s t

abbrev pub since_dnskey_removal : ℕ → ℕ → ℕ → ℕ → ℕ → ℕ → AlgorithmStage
since_dnskey_removal a d s p r t = if nat_le r t then DnskeyRemoved a d s p r else since_sight a d s p t

abbrev pub since_rrsigs_removal : ℕ → ℕ → ℕ → ℕ → ℕ → ℕ → ℕ → AlgorithmStage
since_rrsigs_removal a d s p r e t = if nat_le e t then RrsigsRemoved a d s p r e else since_dnskey_removal a d s p r t

-- the stage that it was in at a moment
abbrev pub stage_at : AlgorithmStage → ℕ → AlgorithmStage
stage_at Initial t = Initial
stage_at (NewRrsigs a) t = since_rrsigs a t
stage_at (NewDnskey a d) t = since_dnskey a d t
stage_at (DsSubmitted a d s) t = since_submission a d s t
stage_at (DsSeen a d s p) t = since_sight a d s p t
stage_at (DnskeyRemoved a d s p r) t = since_dnskey_removal a d s p r t
stage_at (RrsigsRemoved a d s p r e) t = since_rrsigs_removal a d s p r e t
