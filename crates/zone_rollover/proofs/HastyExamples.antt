-- Each wait is needed: a step taken a second earlier leaves caches with parts of no chain of trust
use Rattle.std.proofs.Common.{◌≡◌, ℕ, List, [], ◌∷◌, refl, ap, sym, ◌∙◌, ◌⊎◌, inl, inr, arith}
use Rattle.std.specs.Prelude.{Contains}
use Rattle.std.proofs.lemmas.List.Elements.{Contains-push_cases}
use Rattle.zone_rollover.specs.declared.key_use.Key.{Key}
use Rattle.zone_rollover.specs.declared.zsk_rollover.ZskStage.{ZskStage}
use Rattle.zone_rollover.specs.declared.zsk_rollover.ZskStage.TheVariants as Z
use Rattle.zone_rollover.specs.declared.ksk_rollover.KskStage.{KskStage}
use Rattle.zone_rollover.specs.declared.ksk_rollover.KskStage.TheVariants as K
use Rattle.zone_rollover.specs.declared.algorithm_rollover.AlgorithmStage.{AlgorithmStage}
use Rattle.zone_rollover.specs.declared.algorithm_rollover.AlgorithmStage.TheVariants as A
use Rattle.zone_rollover.specs.Caches.{IsTrusted}
use Rattle.zone_rollover.specs.ZskRollovers as Zsk
use Rattle.zone_rollover.specs.KskRollovers as Ksk
use Rattle.zone_rollover.specs.AlgorithmRollovers as Algorithm
use Rattle.zone_rollover.proofs.KeyLists.{only_one}
use Rattle.zone_rollover.proofs.ExampleKeys.{ksk, zsk, new_ksk, new_zsk, other_ksk, other_zsk, with_ksk, with_zsk, old_pair, new_pair, timing}

abbrev ZskTrusted : Key → ZskStage → ℕ → Type 0
ZskTrusted new stage t = IsTrusted timing (λ p. Zsk.parent_at with_ksk zsk new (Zsk.stage_at stage p)) (λ k. Zsk.keys_at with_ksk zsk new (Zsk.stage_at stage k)) t

abbrev KskTrusted : KskStage → ℕ → Type 0
KskTrusted stage t = IsTrusted timing (λ p. Ksk.parent_at with_zsk ksk new_ksk (Ksk.stage_at stage p)) (λ k. Ksk.keys_at with_zsk ksk new_ksk (Ksk.stage_at stage k)) t

abbrev AlgorithmTrusted : AlgorithmStage → ℕ → Type 0
AlgorithmTrusted stage t = IsTrusted timing (λ p. Algorithm.parent_at [] old_pair new_pair (Algorithm.stage_at stage p)) (λ k. Algorithm.keys_at [] old_pair new_pair (Algorithm.stage_at stage k)) t

-- an element of two
one_of_two : (x y v : Key) → Contains (x ∷ y ∷ []) v → (x ≡ v) ⊎ (y ≡ v)
one_of_two x y v h = elim (Contains-push_cases (x ∷ []) y v h) [ inl l ↦ inl (only_one x v l) | inr e ↦ inr e ]

-- the first of a list
its_first : {X : Type 0} (x : X) (xs : List X) → Contains (x ∷ xs) x
its_first x xs = (0, omega (arith), refl)

number_of : Key → ℕ
number_of k = k.number

-- the new ZSK signs at 1003659, where it was published at 1000000: a cache may hold the DNSKEY set of 999999
hasty_signatures : ZskTrusted new_zsk (Z.NewRrsigs 1000000 1003659) 1003659 → ⊥
hasty_signatures trusted =
    let chain = trusted 1003659 999999 1003659 1003659 0 0 (ksk ∷ []) (omega arith, omega arith) (its_first (ksk ∷ []) []) (omega arith, omega arith) (omega arith) (omega arith) (omega arith, omega arith) (omega arith) (omega arith, omega arith) in
    let found = chain.set_signed.found in
    elim (one_of_two ksk zsk found.0 found.1) [
      | inl e ↦ omega (arith, ap (λ (k : Key). k.number) (e ∙ sym (only_one new_zsk found.0 found.2)))
      | inr e ↦ omega (arith, ap (λ (k : Key). k.number) (e ∙ sym (only_one new_zsk found.0 found.2)))
    ]

-- the old ZSK is gone at 1187659, where the new one signs since 1100000: a cache may hold a set that the old one signed, as it was at 1099999
hasty_zsk_removal : ZskTrusted new_zsk (Z.DnskeyRemoved 1000000 1100000 1187659) 1187659 → ⊥
hasty_zsk_removal trusted =
    let chain = trusted 1187659 1187659 1187659 1099999 0 86400 (ksk ∷ []) (omega arith, omega arith) (its_first (ksk ∷ []) []) (omega arith, omega arith) (omega arith) (omega arith) (omega arith, omega arith) (omega arith) (omega arith, omega arith) in
    let found = chain.set_signed.found in
    elim (one_of_two ksk new_zsk found.0 found.1) [
      | inl e ↦ omega (arith, ap (λ (k : Key). k.number) (e ∙ sym (only_one zsk found.0 found.2)))
      | inr e ↦ omega (arith, ap (λ (k : Key). k.number) (e ∙ sym (only_one zsk found.0 found.2)))
    ]

-- a new ZSK of another algorithm is published: no set has a signature of that algorithm
foreign_zsk : ZskTrusted other_zsk (Z.NewDnskey 1000000) 1000000 → ⊥
foreign_zsk trusted =
    let chain = trusted 1000000 1000000 1000000 1000000 0 0 (ksk ∷ []) (omega arith, omega arith) (its_first (ksk ∷ []) []) (omega arith, omega arith) (omega arith) (omega arith) (omega arith, omega arith) (omega arith) (omega arith, omega arith) in
    let found = chain.set_signed.each_algorithm other_zsk (2, omega arith, refl) in
    omega (arith, found.1, ap (λ (k : Key). k.algorithm) (only_one zsk found.0 found.3))

-- the parent is asked at 1003659, where the new KSK was published at 1000000: a cache may hold the DNSKEY set of 999999
hasty_submission : KskTrusted (K.DsSubmitted 1000000 1003659) 1003659 → ⊥
hasty_submission trusted =
    let chain = trusted 1003659 999999 1003659 1003659 0 0 (new_ksk ∷ []) (omega arith, omega arith) (2, omega arith, refl) (omega arith, omega arith) (omega arith) (omega arith) (omega arith, omega arith) (omega arith) (omega arith, omega arith) in
    let found = chain.delegation.found in
    elim (one_of_two zsk ksk found.0 found.2) [
      | inl e ↦ omega (arith, ap (λ (k : Key). k.number) (e ∙ sym (only_one new_ksk found.0 found.1)))
      | inr e ↦ omega (arith, ap (λ (k : Key). k.number) (e ∙ sym (only_one new_ksk found.0 found.1)))
    ]

-- the old KSK is gone at 1057499, where the new DS set was seen at 1050000: a cache may hold that of 1049999
hasty_ksk_removal : KskTrusted (K.DnskeyRemoved 1000000 1010000 1050000 1057499) 1057499 → ⊥
hasty_ksk_removal trusted =
    let chain = trusted 1049999 1057499 1057499 1057499 0 0 (ksk ∷ []) (omega arith, omega arith) (0, omega arith, refl) (omega arith, omega arith) (omega arith) (omega arith) (omega arith, omega arith) (omega arith) (omega arith, omega arith) in
    let found = chain.delegation.found in
    elim (one_of_two zsk new_ksk found.0 found.2) [
      | inl e ↦ omega (arith, ap (λ (k : Key). k.number) (e ∙ sym (only_one ksk found.0 found.1)))
      | inr e ↦ omega (arith, ap (λ (k : Key). k.number) (e ∙ sym (only_one ksk found.0 found.1)))
    ]

-- keys of another algorithm are published at 1087659, where they sign since 1000000: a cache may hold a set as it was at 999999
hasty_dnskey : AlgorithmTrusted (A.NewDnskey 1000000 1087659) 1087659 → ⊥
hasty_dnskey trusted =
    let chain = trusted 1087659 1087659 1087659 999999 0 86400 (ksk ∷ []) (omega arith, omega arith) (its_first (ksk ∷ []) []) (omega arith, omega arith) (omega arith) (omega arith) (omega arith, omega arith) (omega arith) (omega arith, omega arith) in
    let found = chain.set_signed.each_algorithm other_zsk (3, omega arith, refl) in
    omega (arith, found.1, ap (λ (k : Key). k.algorithm) (only_one zsk found.0 found.3))

-- the parent is asked at 1103659, where they were published at 1100000: a cache may hold the DNSKEY set of 1099999
hasty_ds : AlgorithmTrusted (A.DsSubmitted 1000000 1100000 1103659) 1103659 → ⊥
hasty_ds trusted =
    let chain = trusted 1103659 1099999 1103659 1103659 0 0 (other_ksk ∷ []) (omega arith, omega arith) (2, omega arith, refl) (omega arith, omega arith) (omega arith) (omega arith) (omega arith, omega arith) (omega arith) (omega arith, omega arith) in
    let found = chain.delegation.found in
    elim (one_of_two ksk zsk found.0 found.2) [
      | inl e ↦ omega (arith, ap (λ (k : Key). k.number) (e ∙ sym (only_one other_ksk found.0 found.1)))
      | inr e ↦ omega (arith, ap (λ (k : Key). k.number) (e ∙ sym (only_one other_ksk found.0 found.1)))
    ]

-- the old keys are gone at 1127499, where the new DS set was seen at 1120000: a cache may hold that of 1119999
hasty_dnskey_removal : AlgorithmTrusted (A.DnskeyRemoved 1000000 1100000 1110000 1120000 1127499) 1127499 → ⊥
hasty_dnskey_removal trusted =
    let chain = trusted 1119999 1127499 1127499 1127499 0 0 (ksk ∷ []) (omega arith, omega arith) (0, omega arith, refl) (omega arith, omega arith) (omega arith) (omega arith) (omega arith, omega arith) (omega arith) (omega arith, omega arith) in
    let found = chain.delegation.found in
    elim (one_of_two other_ksk other_zsk found.0 found.2) [
      | inl e ↦ omega (arith, ap (λ (k : Key). k.number) (e ∙ sym (only_one ksk found.0 found.1)))
      | inr e ↦ omega (arith, ap (λ (k : Key). k.number) (e ∙ sym (only_one ksk found.0 found.1)))
    ]

-- their signatures are gone at 1133659, where they were in the DNSKEY set until 1130000: a cache may hold that of 1129999
hasty_rrsigs_removal : AlgorithmTrusted (A.RrsigsRemoved 1000000 1100000 1110000 1120000 1130000 1133659) 1133659 → ⊥
hasty_rrsigs_removal trusted =
    let chain = trusted 1133659 1129999 1133659 1133659 0 0 (other_ksk ∷ []) (omega arith, omega arith) (its_first (other_ksk ∷ []) []) (omega arith, omega arith) (omega arith) (omega arith) (omega arith, omega arith) (omega arith) (omega arith, omega arith) in
    let found = chain.set_signed.each_algorithm zsk (1, omega arith, refl) in
    omega (arith, found.1, ap (λ (k : Key). k.algorithm) (only_one other_zsk found.0 found.3))
