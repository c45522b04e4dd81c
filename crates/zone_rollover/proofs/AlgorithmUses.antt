-- What is done with the keys at each stage of a change of the algorithm, by the parts of their use
use Rattle.std.proofs.Common.{◌≡◌, Bool, true, false, List, ◌++◌, refl, ap, sym, ◌∙◌}
use Rattle.std.specs.Prelude.{◌&&◌}
use Rattle.zone_rollover.specs.declared.key_use.Key.{Key}
use Rattle.zone_rollover.specs.declared.key_use.KeyUse.{KeyUse}
use Rattle.zone_rollover.specs.declared.key_use.Role.{Role}
use Rattle.zone_rollover.specs.declared.key_use.UsedKey.{UsedKey}
use Rattle.zone_rollover.specs.declared.key_use.Generation.{Generation}
use Rattle.zone_rollover.specs.declared.key_use.Generation.TheVariants.{Old, New}
use Rattle.zone_rollover.specs.declared.algorithm_rollover.AlgorithmStage.{AlgorithmStage}
use Rattle.zone_rollover.specs.declared.algorithm_rollover.AlgorithmStage.TheVariants.{Initial, NewRrsigs, NewDnskey, DsSubmitted, DsSeen, DnskeyRemoved, RrsigsRemoved}
use Rattle.zone_rollover.specs.KeyUses.{keys_where, dnskey_set, dnskey_signers, set_signers, wanted_ds}
use Rattle.zone_rollover.specs.AlgorithmRollovers.{in_use, part_of, is_old, is_new, use_of, keys_at}
use Rattle.zone_rollover.proofs.KeyLists.{IsWithin, IsCovered, within_parts, within_step, within_left, within_right, within_changed, covered_changed, covered_both, covered_left, covered_right, keys_where-append}
use Rattle.zone_rollover.proofs.UsedParts.{used, within_used}

-- the keys of a generation are in the DNSKEY set
abbrev pub in_dnskey : AlgorithmStage → Generation → Bool
in_dnskey Initial g = is_old g
in_dnskey (NewRrsigs _) g = is_old g
in_dnskey (NewDnskey _ _) g = true
in_dnskey (DsSubmitted _ _ _) g = true
in_dnskey (DsSeen _ _ _ _) g = true
in_dnskey (DnskeyRemoved _ _ _ _ _) g = is_new g
in_dnskey (RrsigsRemoved _ _ _ _ _ _) g = is_new g

-- they sign
abbrev pub in_rrsigs : AlgorithmStage → Generation → Bool
in_rrsigs Initial g = is_old g
in_rrsigs (NewRrsigs _) g = true
in_rrsigs (NewDnskey _ _) g = true
in_rrsigs (DsSubmitted _ _ _) g = true
in_rrsigs (DsSeen _ _ _ _) g = true
in_rrsigs (DnskeyRemoved _ _ _ _ _) g = true
in_rrsigs (RrsigsRemoved _ _ _ _ _ _) g = is_new g

-- the parent is to tell of them
abbrev pub in_ds : AlgorithmStage → Generation → Bool
in_ds Initial g = is_old g
in_ds (NewRrsigs _) g = is_old g
in_ds (NewDnskey _ _) g = is_old g
in_ds (DsSubmitted _ _ _) g = is_new g
in_ds (DsSeen _ _ _ _) g = is_new g
in_ds (DnskeyRemoved _ _ _ _ _) g = is_new g
in_ds (RrsigsRemoved _ _ _ _ _ _) g = is_new g

use_by_parts : (stage : AlgorithmStage) (g : Generation) (role : Role) → use_of stage g role ≡ part_of (in_use role) (in_dnskey stage g) (in_rrsigs stage g) (in_ds stage g)
use_by_parts Initial g role = refl
use_by_parts (NewRrsigs _) g role = refl
use_by_parts (NewDnskey _ _) g role = refl
use_by_parts (DsSubmitted _ _ _) g role = refl
use_by_parts (DsSeen _ _ _ _) g role = refl
use_by_parts (DnskeyRemoved _ _ _ _ _) g role = refl
use_by_parts (RrsigsRemoved _ _ _ _ _ _) g role = refl

and_wider : (x a b : Bool) → (a ≡ true → b ≡ true) → (x && a) ≡ true → (x && b) ≡ true
and_wider true a b p h = p h
and_wider false a b p h = h

-- a test of a use is one part of it, as far as that is done
abbrev IsPart : (KeyUse → Bool) → (KeyUse → Bool) → (AlgorithmStage → Generation → Bool) → Type 0
IsPart test part done = (stage : AlgorithmStage) (g : Generation) (role : Role) → test (use_of stage g role) ≡ (part (in_use role) && done stage g)

-- what is done for a generation at one stage is done at another
abbrev pub IsKept : (AlgorithmStage → Generation → Bool) → AlgorithmStage → AlgorithmStage → Generation → Type 0
IsKept done a b g = done a g ≡ true → done b g ≡ true

kept_use : (test part : KeyUse → Bool) (done : AlgorithmStage → Generation → Bool) → IsPart test part done → (a b : AlgorithmStage) (g : Generation) → IsKept done a b g
    → (role : Role) → test (use_of a g role) ≡ true → test (use_of b g role) ≡ true
kept_use test part done is a b g p role h = is b g role ∙ and_wider (part (in_use role)) (done a g) (done b g) p (sym (is a g role) ∙ h)

module _ (others : List UsedKey) (old new : List (Key × Role)) where
  abbrev keys : AlgorithmStage → List UsedKey
  keys stage = keys_at others old new stage

  -- the keys that are rolled, at a stage
  abbrev rolled : AlgorithmStage → List UsedKey
  rolled stage = used (use_of stage Old) old ++ used (use_of stage New) new

  within : (test part : KeyUse → Bool) (done : AlgorithmStage → Generation → Bool) → IsPart test part done → (a b : AlgorithmStage)
      → IsKept done a b Old → IsKept done a b New → IsWithin (keys_where test (keys a)) (keys_where test (keys b))
  within test part done is a b o n =
      within_changed test others (rolled a) (rolled b)
      (rw (keys_where-append test (used (use_of a Old) old) (used (use_of a New) new), keys_where-append test (used (use_of b Old) old) (used (use_of b New) new))
      (within_parts (keys_where test (used (use_of a Old) old)) (keys_where test (used (use_of a New) new)) (keys_where test (used (use_of b Old) old)) (keys_where test (used (use_of b New) new))
      (within_used test (use_of a Old) (use_of b Old) (kept_use test part done is a b Old o) old)
      (within_used test (use_of a New) (use_of b New) (kept_use test part done is a b New n) new)))

  pub within_dnskey : (a b : AlgorithmStage) → IsKept in_dnskey a b Old → IsKept in_dnskey a b New → IsWithin (dnskey_set (keys a)) (dnskey_set (keys b))
  within_dnskey a b o n =
      within (λ (u : KeyUse). u.is_published) (λ (u : KeyUse). u.is_published) in_dnskey (λ s g r. ap (λ (u : KeyUse). u.is_published) (use_by_parts s g r)) a b o n

  pub within_signers : (a b : AlgorithmStage) → IsKept in_rrsigs a b Old → IsKept in_rrsigs a b New → IsWithin (dnskey_signers (keys a)) (dnskey_signers (keys b))
  within_signers a b o n =
      within (λ (u : KeyUse). u.signs_keys) (λ (u : KeyUse). u.signs_keys) in_rrsigs (λ s g r. ap (λ (u : KeyUse). u.signs_keys) (use_by_parts s g r)) a b o n

  pub within_rrsigs : (a b : AlgorithmStage) → IsKept in_rrsigs a b Old → IsKept in_rrsigs a b New → IsWithin (set_signers (keys a)) (set_signers (keys b))
  within_rrsigs a b o n =
      within (λ (u : KeyUse). u.signs_others) (λ (u : KeyUse). u.signs_others) in_rrsigs (λ s g r. ap (λ (u : KeyUse). u.signs_others) (use_by_parts s g r)) a b o n

  pub within_ds : (a b : AlgorithmStage) → IsKept in_ds a b Old → IsKept in_ds a b New → IsWithin (wanted_ds (keys a)) (wanted_ds (keys b))
  within_ds a b o n =
      within (λ (u : KeyUse). u.wants_ds) (λ (u : KeyUse). u.wants_ds) in_ds (λ s g r. ap (λ (u : KeyUse). u.wants_ds) (use_by_parts s g r)) a b o n

  -- each key in the DNSKEY set of one stage is in that of another, if it is an old one, or in that of a third
  pub covered_dnskey : (z a b : AlgorithmStage) → IsKept in_dnskey z a Old → IsKept in_dnskey z b New → IsCovered (dnskey_set (keys z)) (dnskey_set (keys a)) (dnskey_set (keys b))
  covered_dnskey z a b o n =
      let test : KeyUse → Bool = λ u. u.is_published in
      let part : AlgorithmStage → Generation → List (Key × Role) → List Key = λ s g ks. keys_where test (used (use_of s g) ks) in
      let is : IsPart test test in_dnskey = λ s g r. ap (λ (u : KeyUse). u.is_published) (use_by_parts s g r) in
      let first = part a Old old ++ part a New new in
      let second = part b Old old ++ part b New new in
      let olds = covered_left (part z Old old) first second
      (within_step (part z Old old) (part a Old old) first (within_used test (use_of z Old) (use_of a Old) (kept_use test test in_dnskey is z a Old o) old) (within_left (part a Old old) (part a New new))) in
      let news = covered_right (part z New new) first second
      (within_step (part z New new) (part b New new) second (within_used test (use_of z New) (use_of b New) (kept_use test test in_dnskey is z b New n) new) (within_right (part b Old old) (part b New new))) in
      covered_changed test others (rolled z) (rolled a) (rolled b)
      (rw (keys_where-append test (used (use_of z Old) old) (used (use_of z New) new), keys_where-append test (used (use_of a Old) old) (used (use_of a New) new), keys_where-append test (used (use_of b Old) old) (used (use_of b New) new))
      (covered_both (part z Old old) (part z New new) first second olds news))
