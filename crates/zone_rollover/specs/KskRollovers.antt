-- The double signature by keys that the parent tells of (RFC 6781 section 4.1.2, RFC 7583 section 3.3.1)
use Rattle.std.specs.Prelude.{ℕ, ◌+◌, ◌&&◌, nat_le, Bool, true, List, [], ◌∷◌, ◌++◌, if◌then◌else◌, Option, Some, None}
use Rattle.zone_rollover.specs.declared.key_use.Key.{Key}
use Rattle.zone_rollover.specs.declared.key_use.KeyUse.{KeyUse}
use Rattle.zone_rollover.specs.declared.key_use.UsedKey.{UsedKey}
use Rattle.zone_rollover.specs.declared.key_use.TheConstants.KeyUse.{NONE, SIGNS_KEYS, KSK}
use Rattle.zone_rollover.specs.declared.key_use.Generation.{Generation}
use Rattle.zone_rollover.specs.declared.key_use.Generation.TheVariants.{Old, New}
use Rattle.zone_rollover.specs.declared.steps.Due.{Due}
use Rattle.zone_rollover.specs.declared.steps.Step.TheVariants as Step
use Rattle.zone_rollover.specs.declared.steps.Wait.TheVariants as Wait
use Rattle.zone_rollover.specs.declared.timing.Timing.{Timing}
use Rattle.zone_signing.specs.Signatures.{last_moment}
use Rattle.zone_rollover.specs.declared.ksk_rollover.KskStage.{KskStage}
use Rattle.zone_rollover.specs.declared.ksk_rollover.KskStage.TheVariants.{Initial, NewDnskey, DsSubmitted, DsSeen, DnskeyRemoved}
use Rattle.zone_rollover.specs.KeyUses.{wanted_ds, either_or_both}
use Rattle.zone_rollover.specs.Waits.{keys_wait, ds_wait}

-- ---- what is done with the two keys

abbrev pub use_of : KskStage → Generation → KeyUse
use_of Initial Old = KSK
use_of Initial New = NONE
use_of (NewDnskey _) Old = KSK
use_of (NewDnskey _) New = SIGNS_KEYS
use_of (DsSubmitted _ _) Old = SIGNS_KEYS
use_of (DsSubmitted _ _) New = KSK
use_of (DsSeen _ _ _) Old = SIGNS_KEYS
use_of (DsSeen _ _ _) New = KSK
use_of (DnskeyRemoved _ _ _ _) Old = NONE
use_of (DnskeyRemoved _ _ _ _) New = KSK

-- the keys of the zone at a stage: those that stay as they are, and these two
abbrev pub keys_at : List UsedKey → Key → Key → KskStage → List UsedKey
keys_at others old new stage = others ++ record { key = old; usage = use_of stage Old } ∷ record { key = new; usage = use_of stage New } ∷ []

-- the DS sets that the parent may have: once it is asked, and until the new one is seen, that of before, the new one, or both
abbrev pub parent_at : List UsedKey → Key → Key → KskStage → List (List Key)
parent_at others old new (DsSubmitted d s) = either_or_both (wanted_ds (keys_at others old new Initial)) (wanted_ds (keys_at others old new (DsSubmitted d s)))
parent_at others old new stage = wanted_ds (keys_at others old new stage) ∷ []

-- ---- its steps

abbrev pub due : Timing → KskStage → Option Due
due timing Initial = Some (record { step = Step.NewDnskey; from = 0; waits_for = Wait.Nothing })
due timing (NewDnskey d) = Some (record { step = Step.DsSubmitted; from = d + keys_wait timing; waits_for = Wait.CachedKeys })
due timing (DsSubmitted d s) = Some (record { step = Step.DsSeen; from = s; waits_for = Wait.Parent })
due timing (DsSeen d s p) = Some (record { step = Step.DnskeyRemoved; from = p + ds_wait timing; waits_for = Wait.CachedDs })
due timing (DnskeyRemoved d s p r) = None

-- the stage after a step at a moment
abbrev pub stage_after : KskStage → ℕ → KskStage
stage_after Initial moment = NewDnskey moment
stage_after (NewDnskey d) moment = DsSubmitted d moment
stage_after (DsSubmitted d s) moment = DsSeen d s moment
stage_after (DsSeen d s p) moment = DnskeyRemoved d s p moment
stage_after (DnskeyRemoved d s p r) moment = DnskeyRemoved d s p r

-- each step was taken when it might be
abbrev pub is_timed : Timing → KskStage → Bool
is_timed timing Initial = true
is_timed timing (NewDnskey d) = nat_le d last_moment
is_timed timing (DsSubmitted d s) = nat_le (d + keys_wait timing) s && nat_le s last_moment
is_timed timing (DsSeen d s p) = nat_le (d + keys_wait timing) s && (nat_le s p && nat_le p last_moment)
is_timed timing (DnskeyRemoved d s p r) = nat_le (d + keys_wait timing) s && (nat_le s p && (nat_le (p + ds_wait timing) r && nat_le r last_moment))

-- ---- its past

abbrev pub since_dnskey : ℕ → ℕ → KskStage
since_dnskey d t = if nat_le d t then NewDnskey d else Initial

abbrev pub since_submission : ℕ → ℕ → ℕ → KskStage
since_submission d s t = if nat_le s t then DsSubmitted d s else since_dnskey d t

abbrev pub since_sight : ℕ → ℕ → ℕ → ℕ → KskStage
since_sight d s p t = if nat_le p t then DsSeen d s p else since_submission d s t

abbrev pub since_removal : ℕ → ℕ → ℕ → ℕ → ℕ → KskStage
since_removal d s p r t = if nat_le r t then DnskeyRemoved d s p r else since_sight d s p t

-- the stage that it was in at a moment
abbrev pub stage_at : KskStage → ℕ → KskStage
stage_at Initial t = Initial
stage_at (NewDnskey d) t = since_dnskey d t
stage_at (DsSubmitted d s) t = since_submission d s t
stage_at (DsSeen d s p) t = since_sight d s p t
stage_at (DnskeyRemoved d s p r) t = since_removal d s p r t
