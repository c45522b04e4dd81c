-- The premises of the laws are met: the zones of the examples are whole before and after, and their steps are taken in time
use Rattle.std.proofs.Common.{◌≡◌, List, [], ◌∷◌, refl, ap, ◌∙◌, inl, inr, arith}
use Rattle.std.specs.Prelude.{Contains, true}
use Rattle.std.proofs.lemmas.List.Elements.{Contains-push_cases}
use Rattle.zone_rollover.specs.declared.key_use.Key.{Key}
use Rattle.zone_rollover.specs.declared.zsk_rollover.ZskStage.TheVariants as Z
use Rattle.zone_rollover.specs.declared.ksk_rollover.KskStage.TheVariants as K
use Rattle.zone_rollover.specs.declared.algorithm_rollover.AlgorithmStage.TheVariants as A
use Rattle.zone_rollover.specs.Chains.{IsAuthenticated, IsSigned, IsWhole}
use Rattle.zone_rollover.specs.ZskRollovers as Zsk
use Rattle.zone_rollover.specs.KskRollovers as Ksk
use Rattle.zone_rollover.specs.AlgorithmRollovers as Algorithm
use Rattle.zone_rollover.proofs.KeyLists.{only_one}
use Rattle.zone_rollover.proofs.ExampleKeys.{ksk, zsk, new_ksk, new_zsk, other_ksk, other_zsk, with_ksk, with_zsk, old_pair, new_pair, timing}

zsk_timed : Zsk.is_timed timing (Z.DnskeyRemoved 1000000 1100000 1200000) ≡ true
zsk_timed = refl

ksk_timed : Ksk.is_timed timing (K.DnskeyRemoved 1000000 1010000 1050000 1060000) ≡ true
ksk_timed = refl

algorithm_timed : Algorithm.is_timed timing (A.RrsigsRemoved 1000000 1100000 1110000 1120000 1130000 1140000) ≡ true
algorithm_timed = refl

-- ---- the zones are whole

-- by the DS record of a key that is in the DNSKEY set and signs it
delegated : (key : Key) (keys : List Key) → Contains keys key → IsAuthenticated (key ∷ []) keys (key ∷ [])
delegated key keys h = record {
  found = (key, (0, omega arith, refl), h, (0, omega arith, refl));
  each_algorithm = λ d c. (key, ap (λ (k : Key). k.algorithm) (only_one key d c), (0, omega arith, refl), h, (0, omega arith, refl));
}

-- by a key that is one of two of the same algorithm in the DNSKEY set
signed : (key x y : Key) → Contains (x ∷ y ∷ []) key → key.algorithm ≡ x.algorithm → key.algorithm ≡ y.algorithm → IsSigned (x ∷ y ∷ []) (key ∷ [])
signed key x y h p q = record {
  found = (key, h, (0, omega arith, refl));
  each_algorithm = λ d c. elim (Contains-push_cases (x ∷ []) y d c) [
    | inl l ↦ (key, p ∙ ap (λ (k : Key). k.algorithm) (only_one x d l), h, (0, omega arith, refl))
    | inr e ↦ (key, q ∙ ap (λ (k : Key). k.algorithm) e, h, (0, omega arith, refl))
  ];
}

zsk_before : IsWhole (Zsk.keys_at with_ksk zsk new_zsk Z.Initial)
zsk_before = record {
  delegation = delegated ksk (ksk ∷ zsk ∷ []) (0, omega arith, refl);
  keys_signed = signed ksk ksk zsk (0, omega arith, refl) refl refl;
  requests_signed = signed ksk ksk zsk (0, omega arith, refl) refl refl;
  set_signed = signed zsk ksk zsk (1, omega arith, refl) refl refl;
}

zsk_after : IsWhole (Zsk.keys_at with_ksk zsk new_zsk (Z.DnskeyRemoved 0 0 0))
zsk_after = record {
  delegation = delegated ksk (ksk ∷ new_zsk ∷ []) (0, omega arith, refl);
  keys_signed = signed ksk ksk new_zsk (0, omega arith, refl) refl refl;
  requests_signed = signed ksk ksk new_zsk (0, omega arith, refl) refl refl;
  set_signed = signed new_zsk ksk new_zsk (1, omega arith, refl) refl refl;
}

ksk_before : IsWhole (Ksk.keys_at with_zsk ksk new_ksk K.Initial)
ksk_before = record {
  delegation = delegated ksk (zsk ∷ ksk ∷ []) (1, omega arith, refl);
  keys_signed = signed ksk zsk ksk (1, omega arith, refl) refl refl;
  requests_signed = signed ksk zsk ksk (1, omega arith, refl) refl refl;
  set_signed = signed zsk zsk ksk (0, omega arith, refl) refl refl;
}

ksk_after : IsWhole (Ksk.keys_at with_zsk ksk new_ksk (K.DnskeyRemoved 0 0 0 0))
ksk_after = record {
  delegation = delegated new_ksk (zsk ∷ new_ksk ∷ []) (1, omega arith, refl);
  keys_signed = signed new_ksk zsk new_ksk (1, omega arith, refl) refl refl;
  requests_signed = signed new_ksk zsk new_ksk (1, omega arith, refl) refl refl;
  set_signed = signed zsk zsk new_ksk (0, omega arith, refl) refl refl;
}

algorithm_before : IsWhole (Algorithm.keys_at [] old_pair new_pair A.Initial)
algorithm_before = record {
  delegation = delegated ksk (ksk ∷ zsk ∷ []) (0, omega arith, refl);
  keys_signed = signed ksk ksk zsk (0, omega arith, refl) refl refl;
  requests_signed = signed ksk ksk zsk (0, omega arith, refl) refl refl;
  set_signed = signed zsk ksk zsk (1, omega arith, refl) refl refl;
}

algorithm_after : IsWhole (Algorithm.keys_at [] old_pair new_pair (A.RrsigsRemoved 0 0 0 0 0 0))
algorithm_after = record {
  delegation = delegated other_ksk (other_ksk ∷ other_zsk ∷ []) (0, omega arith, refl);
  keys_signed = signed other_ksk other_ksk other_zsk (0, omega arith, refl) refl refl;
  requests_signed = signed other_ksk other_ksk other_zsk (0, omega arith, refl) refl refl;
  set_signed = signed other_zsk other_ksk other_zsk (1, omega arith, refl) refl refl;
}
