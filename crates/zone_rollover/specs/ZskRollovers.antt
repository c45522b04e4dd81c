-- The pre-publication of a key that signs the zone (RFC 6781 section 4.1.1.1, RFC 7583 section 3.2.1)
use Rattle.std.specs.Prelude.{ℕ, ◌+◌, ◌&&◌, nat_le, Bool, true, List, [], ◌∷◌, ◌++◌, if◌then◌else◌, Option, Some, None}
use Rattle.zone_rollover.specs.declared.key_use.Key.{Key}
use Rattle.zone_rollover.specs.declared.key_use.KeyUse.{KeyUse}
use Rattle.zone_rollover.specs.declared.key_use.UsedKey.{UsedKey}
use Rattle.zone_rollover.specs.declared.key_use.TheConstants.KeyUse.{NONE, PUBLISHED, ZSK}
use Rattle.zone_rollover.specs.declared.key_use.Generation.{Generation}
use Rattle.zone_rollover.specs.declared.key_use.Generation.TheVariants.{Old, New}
use Rattle.zone_rollover.specs.declared.steps.Due.{Due}
use Rattle.zone_rollover.specs.declared.steps.Step.TheVariants as Step
use Rattle.zone_rollover.specs.declared.steps.Wait.TheVariants as Wait
use Rattle.zone_rollover.specs.declared.timing.Timing.{Timing}
use Rattle.zone_signing.specs.Signatures.{last_moment}
use Rattle.zone_rollover.specs.declared.zsk_rollover.ZskStage.{ZskStage}
use Rattle.zone_rollover.specs.declared.zsk_rollover.ZskStage.TheVariants.{Initial, NewDnskey, NewRrsigs, DnskeyRemoved}
use Rattle.zone_rollover.specs.KeyUses.{wanted_ds}
use Rattle.zone_rollover.specs.Waits.{keys_wait, sets_wait}

-- ---- what is done with the two keys

abbrev pub use_of : ZskStage → Generation → KeyUse
use_of Initial Old = ZSK
use_of Initial New = NONE
use_of (NewDnskey _) Old = ZSK
use_of (NewDnskey _) New = PUBLISHED
use_of (NewRrsigs _ _) Old = PUBLISHED
use_of (NewRrsigs _ _) New = ZSK
use_of (DnskeyRemoved _ _ _) Old = NONE
use_of (DnskeyRemoved _ _ _) New = ZSK

-- the keys of the zone at a stage: those that stay as they are, and these two
abbrev pub keys_at : List UsedKey → Key → Key → ZskStage → List UsedKey
keys_at others old new stage = others ++ record { key = old; usage = use_of stage Old } ∷ record { key = new; usage = use_of stage New } ∷ []

-- the DS set that the parent has
abbrev pub parent_at : List UsedKey → Key → Key → ZskStage → List (List Key)
parent_at others old new stage = wanted_ds (keys_at others old new stage) ∷ []

-- ---- its steps

abbrev pub due : Timing → ZskStage → Option Due
due timing Initial = Some (record { step = Step.NewDnskey; from = 0; waits_for = Wait.Nothing })
due timing (NewDnskey d) = Some (record { step = Step.NewRrsigs; from = d + keys_wait timing; waits_for = Wait.CachedKeys })
due timing (NewRrsigs d s) = Some (record { step = Step.DnskeyRemoved; from = s + sets_wait timing; waits_for = Wait.CachedSets })
due timing (DnskeyRemoved d s r) = None

-- the stage after a step at a moment
abbrev pub stage_after : ZskStage → ℕ → ZskStage
stage_after Initial moment = NewDnskey moment
stage_after (NewDnskey d) moment = NewRrsigs d moment
stage_after (NewRrsigs d s) moment = DnskeyRemoved d s moment
stage_after (DnskeyRemoved d s r) moment = DnskeyRemoved d s r

-- each step was taken when it might be
abbrev pub is_timed : Timing → ZskStage → Bool
is_timed timing Initial = true
is_timed timing (NewDnskey d) = nat_le d last_moment
is_timed timing (NewRrsigs d s) = nat_le (d + keys_wait timing) s && nat_le s last_moment
is_timed timing (DnskeyRemoved d s r) = nat_le (d + keys_wait timing) s && (nat_le (s + sets_wait timing) r && nat_le r last_moment)

-- ---- its past

abbrev pub since_dnskey : ℕ → ℕ → ZskStage
since_dnskey d t = if nat_le d t then NewDnskey d else Initial

abbrev pub since_rrsigs : ℕ → ℕ → ℕ → ZskStage
since_rrsigs d s t = if nat_le s t then NewRrsigs d s else since_dnskey d t

abbrev pub since_removal : ℕ → ℕ → ℕ → ℕ → ZskStage
since_removal d s r t = if nat_le r t then DnskeyRemoved d s r else since_rrsigs d s t

-- the stage that it was in at a moment
abbrev pub stage_at : ZskStage → ℕ → ZskStage
stage_at Initial t = Initial
stage_at (NewDnskey d) t = since_dnskey d t
stage_at (NewRrsigs d s) t = since_rrsigs d s t
stage_at (DnskeyRemoved d s r) t = since_removal d s r t
