-- Timelines of rollovers, computed from the definitions
use Rattle.std.proofs.Common.{◌≡◌, ℕ, List, [], ◌∷◌, refl}
use Rattle.std.specs.Prelude.{Option, Some, None, Ok, Err}
use Rattle.zone_rollover.specs.declared.key_use.Key.{Key}
use Rattle.zone_rollover.specs.declared.steps.Due.{Due}
use Rattle.zone_rollover.specs.declared.steps.Step.{Step}
use Rattle.zone_rollover.specs.declared.steps.Step.TheVariants as S
use Rattle.zone_rollover.specs.declared.steps.StepFault.TheVariants.{TooEarly}
use Rattle.zone_rollover.specs.declared.steps.Wait.{Wait}
use Rattle.zone_rollover.specs.declared.steps.Wait.TheVariants as W
use Rattle.zone_rollover.specs.declared.zsk_rollover.ZskStage.TheVariants as Z
use Rattle.zone_rollover.specs.declared.ksk_rollover.KskStage.TheVariants as K
use Rattle.zone_rollover.specs.declared.algorithm_rollover.AlgorithmStage.TheVariants as A
use Rattle.zone_rollover.specs.KeyUses.{dnskey_set, dnskey_signers, set_signers, wanted_ds}
use Rattle.zone_rollover.specs.Steps.{allowed}
use Rattle.zone_rollover.specs.Waits.{keys_wait, sets_wait, ds_wait}
use Rattle.zone_rollover.specs.ZskRollovers as Zsk
use Rattle.zone_rollover.specs.KskRollovers as Ksk
use Rattle.zone_rollover.specs.AlgorithmRollovers as Algorithm
use Rattle.zone_rollover.proofs.ExampleKeys.{ksk, zsk, new_ksk, new_zsk, other_ksk, other_zsk, with_ksk, with_zsk, old_pair, new_pair, timing}

abbrev due : Step → ℕ → Wait → Option Due
due step from wait = Some (record { step = step; from = from; waits_for = wait })

-- Ipub = Dprp + TTLkey; Iret = Dsgn + Dprp + TTLsig; Iret = DprpP + TTLds
ipub : keys_wait timing ≡ 3660
ipub = refl

zsk_iret : sets_wait timing ≡ 87660
zsk_iret = refl

ksk_iret : ds_wait timing ≡ 7500
ksk_iret = refl

-- ---- the pre-publication of a ZSK (RFC 7583 section 3.2.1): Tpub 1000000, Trdy 1003660, Tact (Tret of the old key) 1100000, Tdea 1187660, Trem 1200000

zsk_published : Zsk.due timing (Z.NewDnskey 1000000) ≡ due S.NewRrsigs 1003660 W.CachedKeys
zsk_published = refl

zsk_not_ready : allowed (Zsk.due timing (Z.NewDnskey 1000000)) 1003659 ≡ Err (TooEarly 1003660)
zsk_not_ready = refl

zsk_ready : allowed (Zsk.due timing (Z.NewDnskey 1000000)) 1003660 ≡ Ok tt
zsk_ready = refl

zsk_retired : Zsk.due timing (Z.NewRrsigs 1000000 1100000) ≡ due S.DnskeyRemoved 1187660 W.CachedSets
zsk_retired = refl

zsk_removed : Zsk.due timing (Z.DnskeyRemoved 1000000 1100000 1200000) ≡ None
zsk_removed = refl

-- what is in the zone: keys 1 and 2, then 4 beside them, which signs in place of 2, and then without 2
abbrev zsk_at : ℕ → ℕ → ℕ → ℕ → List Key × List Key
zsk_at p a r t =
    let keys = Zsk.keys_at with_ksk zsk new_zsk (Zsk.stage_at (Z.DnskeyRemoved p a r) t) in
    (dnskey_set keys, set_signers keys)

zsk_before : zsk_at 1000000 1100000 1200000 999999 ≡ (ksk ∷ zsk ∷ [], zsk ∷ [])
zsk_before = refl

zsk_both : zsk_at 1000000 1100000 1200000 1000000 ≡ (ksk ∷ zsk ∷ new_zsk ∷ [], zsk ∷ [])
zsk_both = refl

zsk_signing : zsk_at 1000000 1100000 1200000 1100000 ≡ (ksk ∷ zsk ∷ new_zsk ∷ [], new_zsk ∷ [])
zsk_signing = refl

zsk_after : zsk_at 1000000 1100000 1200000 1200000 ≡ (ksk ∷ new_zsk ∷ [], new_zsk ∷ [])
zsk_after = refl

-- ---- the double signature by KSKs (RFC 7583 section 3.3.1): Tpub 1000000, Trdy 1003660, Tsbm 1010000, Tact (Tret of the old key) 1050000, Tdea 1057500, Trem 1060000

ksk_published : Ksk.due timing (K.NewDnskey 1000000) ≡ due S.DsSubmitted 1003660 W.CachedKeys
ksk_published = refl

ksk_submitted : Ksk.due timing (K.DsSubmitted 1000000 1010000) ≡ due S.DsSeen 1010000 W.Parent
ksk_submitted = refl

ksk_retired : Ksk.due timing (K.DsSeen 1000000 1010000 1050000) ≡ due S.DnskeyRemoved 1057500 W.CachedDs
ksk_retired = refl

-- what is in the zone, and what the parent may have: both keys sign the DNSKEY set until the old one is gone
abbrev ksk_at : ℕ → List Key × List Key × List (List Key)
ksk_at t =
    let stage = Ksk.stage_at (K.DnskeyRemoved 1000000 1010000 1050000 1060000) t in
    let keys = Ksk.keys_at with_zsk ksk new_ksk stage in
    (dnskey_set keys, dnskey_signers keys, Ksk.parent_at with_zsk ksk new_ksk stage)

ksk_before : ksk_at 999999 ≡ (zsk ∷ ksk ∷ [], ksk ∷ [], (ksk ∷ []) ∷ [])
ksk_before = refl

ksk_both : ksk_at 1000000 ≡ (zsk ∷ ksk ∷ new_ksk ∷ [], ksk ∷ new_ksk ∷ [], (ksk ∷ []) ∷ [])
ksk_both = refl

ksk_asked : ksk_at 1010000 ≡ (zsk ∷ ksk ∷ new_ksk ∷ [], ksk ∷ new_ksk ∷ [], (ksk ∷ []) ∷ (ksk ∷ new_ksk ∷ []) ∷ (new_ksk ∷ []) ∷ [])
ksk_asked = refl

ksk_seen : ksk_at 1050000 ≡ (zsk ∷ ksk ∷ new_ksk ∷ [], ksk ∷ new_ksk ∷ [], (new_ksk ∷ []) ∷ [])
ksk_seen = refl

ksk_after : ksk_at 1060000 ≡ (zsk ∷ new_ksk ∷ [], new_ksk ∷ [], (new_ksk ∷ []) ∷ [])
ksk_after = refl

-- ---- a change of the algorithm (RFC 6781 section 4.1.4, figure 8): new RRSIGs 1000000, new DNSKEY 1100000, new DS 1110000 to 1120000, DNSKEY removal 1130000, RRSIGs removal 1140000

new_rrsigs : Algorithm.due timing (A.NewRrsigs 1000000) ≡ due S.NewDnskey 1087660 W.CachedSets
new_rrsigs = refl

new_dnskey : Algorithm.due timing (A.NewDnskey 1000000 1100000) ≡ due S.DsSubmitted 1103660 W.CachedKeys
new_dnskey = refl

new_ds : Algorithm.due timing (A.DsSeen 1000000 1100000 1110000 1120000) ≡ due S.DnskeyRemoved 1127500 W.CachedDs
new_ds = refl

dnskey_removal : Algorithm.due timing (A.DnskeyRemoved 1000000 1100000 1110000 1120000 1130000) ≡ due S.RrsigsRemoved 1133660 W.CachedKeys
dnskey_removal = refl

-- the DNSKEY set, its signatures and those of the other sets, and the DS set that is wanted, as in that figure; but the KSKs sign as long as the ZSKs do, for CDS and CDNSKEY
abbrev algorithm_at : ℕ → List Key × List Key × List Key × List Key
algorithm_at t =
    let keys = Algorithm.keys_at [] old_pair new_pair (Algorithm.stage_at (A.RrsigsRemoved 1000000 1100000 1110000 1120000 1130000 1140000) t) in
    (dnskey_set keys, dnskey_signers keys, set_signers keys, wanted_ds keys)

at_initial : algorithm_at 999999 ≡ (ksk ∷ zsk ∷ [], ksk ∷ [], zsk ∷ [], ksk ∷ [])
at_initial = refl

at_new_rrsigs : algorithm_at 1000000 ≡ (ksk ∷ zsk ∷ [], ksk ∷ other_ksk ∷ [], zsk ∷ other_zsk ∷ [], ksk ∷ [])
at_new_rrsigs = refl

at_new_dnskey : algorithm_at 1100000 ≡ (ksk ∷ zsk ∷ other_ksk ∷ other_zsk ∷ [], ksk ∷ other_ksk ∷ [], zsk ∷ other_zsk ∷ [], ksk ∷ [])
at_new_dnskey = refl

at_new_ds : algorithm_at 1120000 ≡ (ksk ∷ zsk ∷ other_ksk ∷ other_zsk ∷ [], ksk ∷ other_ksk ∷ [], zsk ∷ other_zsk ∷ [], other_ksk ∷ [])
at_new_ds = refl

at_dnskey_removal : algorithm_at 1130000 ≡ (other_ksk ∷ other_zsk ∷ [], ksk ∷ other_ksk ∷ [], zsk ∷ other_zsk ∷ [], other_ksk ∷ [])
at_dnskey_removal = refl

at_rrsigs_removal : algorithm_at 1140000 ≡ (other_ksk ∷ other_zsk ∷ [], other_ksk ∷ [], other_zsk ∷ [], other_ksk ∷ [])
at_rrsigs_removal = refl
