-- The chains of trust of each stages of a change of the algorithm that caches may hold parts of at once
use Rattle.std.proofs.Common.{◌≡◌, ℕ, Bool, true, false, List, [], ◌∷◌, ◌++◌, refl, subst, ◌⊎◌, inl, inr}
use Rattle.std.specs.Prelude.{Contains}
use Rattle.zone_rollover.specs.declared.key_use.Key.{Key}
use Rattle.zone_rollover.specs.declared.key_use.Role.{Role}
use Rattle.zone_rollover.specs.declared.key_use.UsedKey.{UsedKey}
use Rattle.zone_rollover.specs.declared.key_use.Generation.TheVariants.{Old, New}
use Rattle.zone_rollover.specs.declared.algorithm_rollover.AlgorithmStage.{AlgorithmStage}
use Rattle.zone_rollover.specs.declared.algorithm_rollover.AlgorithmStage.TheVariants.{Initial, NewRrsigs, NewDnskey, DsSubmitted, DsSeen, DnskeyRemoved, RrsigsRemoved}
use Rattle.zone_rollover.specs.KeyUses.{dnskey_set, dnskey_signers, wanted_ds}
use Rattle.zone_rollover.specs.Chains.{IsSigned, IsChain, IsWhole}
use Rattle.zone_rollover.specs.AlgorithmRollovers.{keys_at, parent_at}
use Rattle.zone_rollover.proofs.KeyLists.{IsWithin, within_self, within_parts, only_one, one_of_three}
use Rattle.zone_rollover.proofs.ChainParts.{within_alike, signed_wider, signed_both}
use Rattle.zone_rollover.proofs.Sides.{IsSame, HasKeysOf, HasKeysOfBoth, SignsAs, chain_of_one, chain_of_both}
use Rattle.zone_rollover.proofs.AlgorithmTrust.{has_rrsigs, has_dnskey, is_asked, is_seen, is_removed, is_over}
use Rattle.zone_rollover.proofs.AlgorithmUses.{IsKept, in_dnskey, in_rrsigs, in_ds, within_dnskey, within_signers, within_rrsigs, within_ds, covered_dnskey}

module _ (others : List UsedKey) (old new : List (Key × Role)) where
  abbrev keys : AlgorithmStage → List UsedKey
  keys stage = keys_at others old new stage

  abbrev first : AlgorithmStage
  first = Initial

  abbrev last : AlgorithmStage
  last = RrsigsRemoved 0 0 0 0 0 0

  -- all keys are in the DNSKEY set
  both : (stage : AlgorithmStage) → in_dnskey stage Old ≡ true → in_dnskey stage New ≡ true → in_rrsigs stage Old ≡ true → in_rrsigs stage New ≡ true
      → HasKeysOfBoth (keys first) (keys last) (keys stage)
  both stage o n x y = record {
    one_in = within_dnskey others old new first stage (λ h. o) (λ h. n);
    two_in = within_dnskey others old new last stage (λ h. o) (λ h. n);
    covered = covered_dnskey others old new stage first last (λ h. refl) (λ h. refl);
    one_signs = within_signers others old new first stage (λ h. x) (λ h. y);
    two_signs = within_signers others old new last stage (λ h. x) (λ h. y);
  }

  -- the same keys are in it as at another stage
  same : (a b : AlgorithmStage) → in_dnskey a Old ≡ in_dnskey b Old → in_dnskey a New ≡ in_dnskey b New → IsKept in_rrsigs a b Old → IsKept in_rrsigs a b New
      → HasKeysOf (keys a) (keys b)
  same a b o n x y = record {
    same = record {
      to = within_dnskey others old new a b (λ h. cc) (λ h. cc);
      from = within_dnskey others old new b a (λ h. cc) (λ h. cc);
    };
    signers = within_signers others old new a b x y;
  }

  -- ---- CDS and CDNSKEY, and the other sets

  old_keep : (s : AlgorithmStage) → is_over s ≡ false → in_rrsigs s Old ≡ true
  old_keep Initial e = refl
  old_keep (NewRrsigs a) e = refl
  old_keep (NewDnskey a d) e = refl
  old_keep (DsSubmitted a d q) e = refl
  old_keep (DsSeen a d q n) e = refl
  old_keep (DnskeyRemoved a d q n r) e = refl
  old_keep (RrsigsRemoved a d q n r x) e = cc

  new_keep : (s : AlgorithmStage) → has_rrsigs s ≡ true → in_rrsigs s New ≡ true
  new_keep Initial e = cc
  new_keep (NewRrsigs a) e = refl
  new_keep (NewDnskey a d) e = refl
  new_keep (DsSubmitted a d q) e = refl
  new_keep (DsSeen a d q n) e = refl
  new_keep (DnskeyRemoved a d q n r) e = refl
  new_keep (RrsigsRemoved a d q n r x) e = refl

  none_of : (b : Bool) → false ≡ true → b ≡ true
  none_of b e = cc

  old_sign : (s : AlgorithmStage) → is_over s ≡ false → SignsAs (keys first) (keys s)
  old_sign s e = within_rrsigs others old new first s (λ h. old_keep s e) (none_of (in_rrsigs s New))

  new_sign : (s : AlgorithmStage) → has_rrsigs s ≡ true → SignsAs (keys last) (keys s)
  new_sign s e = within_rrsigs others old new last s (none_of (in_rrsigs s Old)) (λ h. new_keep s e)

  old_request : (s : AlgorithmStage) → is_over s ≡ false → IsWithin (dnskey_signers (keys first)) (dnskey_signers (keys s))
  old_request s e = within_signers others old new first s (λ h. old_keep s e) (none_of (in_rrsigs s New))

  new_request : (s : AlgorithmStage) → has_rrsigs s ≡ true → IsWithin (dnskey_signers (keys last)) (dnskey_signers (keys s))
  new_request s e = within_signers others old new last s (none_of (in_rrsigs s Old)) (λ h. new_keep s e)

  -- ---- the DS sets that the parent may have

  wanted_as : (a b : AlgorithmStage) → in_ds a Old ≡ in_ds b Old → in_ds a New ≡ in_ds b New → IsSame (wanted_ds (keys a)) (wanted_ds (keys b))
  wanted_as a b o n = record {
    to = within_ds others old new a b (λ h. cc) (λ h. cc);
    from = within_ds others old new b a (λ h. cc) (λ h. cc);
  }

  abbrev IsFirst : List Key → Type 0
  IsFirst ds = IsSame (wanted_ds (keys first)) ds

  abbrev IsLast : List Key → Type 0
  IsLast ds = IsSame (wanted_ds (keys last)) ds

  abbrev AreBoth : List Key → Type 0
  AreBoth ds = IsSame (wanted_ds (keys first) ++ wanted_ds (keys last)) ds

  first_along : (stage : AlgorithmStage) (ds : List Key) → true ≡ in_ds stage Old → false ≡ in_ds stage New → Contains (wanted_ds (keys stage) ∷ []) ds → IsFirst ds
  first_along stage ds o n h = subst (λ (d : List Key). IsFirst d) (only_one (wanted_ds (keys stage)) ds h) (wanted_as first stage o n)

  last_along : (stage : AlgorithmStage) (ds : List Key) → false ≡ in_ds stage Old → true ≡ in_ds stage New → Contains (wanted_ds (keys stage) ∷ []) ds → IsLast ds
  last_along stage ds o n h = subst (λ (d : List Key). IsLast d) (only_one (wanted_ds (keys stage)) ds h) (wanted_as last stage o n)

  both_along : (a d q : ℕ) → AreBoth (wanted_ds (keys first) ++ wanted_ds (keys (DsSubmitted a d q)))
  both_along a d q =
      let f = wanted_ds (keys first) in
      let l = wanted_ds (keys last) in
      let s = wanted_ds (keys (DsSubmitted a d q)) in
      let alike = wanted_as last (DsSubmitted a d q) refl refl in
      record { to = within_parts f l f s (within_self f) alike.to; from = within_parts f s f l (within_self f) alike.from }

  not_asked : (p : AlgorithmStage) (ds : List Key) → is_asked p ≡ false → Contains (parent_at others old new p) ds → IsFirst ds
  not_asked Initial ds e h = first_along Initial ds refl refl h
  not_asked (NewRrsigs a) ds e h = first_along (NewRrsigs a) ds refl refl h
  not_asked (NewDnskey a d) ds e h = first_along (NewDnskey a d) ds refl refl h
  not_asked (DsSubmitted a d q) ds e h = cc
  not_asked (DsSeen a d q n) ds e h = cc
  not_asked (DnskeyRemoved a d q n r) ds e h = cc
  not_asked (RrsigsRemoved a d q n r x) ds e h = cc

  seen : (p : AlgorithmStage) (ds : List Key) → is_seen p ≡ true → Contains (parent_at others old new p) ds → IsLast ds
  seen Initial ds e h = cc
  seen (NewRrsigs a) ds e h = cc
  seen (NewDnskey a d) ds e h = cc
  seen (DsSubmitted a d q) ds e h = cc
  seen (DsSeen a d q n) ds e h = last_along (DsSeen a d q n) ds refl refl h
  seen (DnskeyRemoved a d q n r) ds e h = last_along (DnskeyRemoved a d q n r) ds refl refl h
  seen (RrsigsRemoved a d q n r x) ds e h = last_along (RrsigsRemoved a d q n r x) ds refl refl h

  in_between : (a d q : ℕ) (ds : List Key) → Contains (parent_at others old new (DsSubmitted a d q)) ds → IsFirst ds ⊎ (AreBoth ds ⊎ IsLast ds)
  in_between a d q ds h =
      let f = wanted_ds (keys first) in
      let s = wanted_ds (keys (DsSubmitted a d q)) in
      elim (one_of_three f (f ++ s) s ds h) [
        | inl e ↦ inl (subst (λ (x : List Key). IsFirst x) e (wanted_as first first refl refl))
        | inr (inl e) ↦ inr (inl (subst (λ (x : List Key). AreBoth x) e (both_along a d q)))
        | inr (inr e) ↦ inr (inr (subst (λ (x : List Key). IsLast x) e (wanted_as last (DsSubmitted a d q) refl refl)))
      ]

  any : (p : AlgorithmStage) (ds : List Key) → Contains (parent_at others old new p) ds → IsFirst ds ⊎ (AreBoth ds ⊎ IsLast ds)
  any Initial ds h = inl (not_asked Initial ds refl h)
  any (NewRrsigs a) ds h = inl (not_asked (NewRrsigs a) ds refl h)
  any (NewDnskey a d) ds h = inl (not_asked (NewDnskey a d) ds refl h)
  any (DsSubmitted a d q) ds h = in_between a d q ds h
  any (DsSeen a d q n) ds h = inr (inr (seen (DsSeen a d q n) ds refl h))
  any (DnskeyRemoved a d q n r) ds h = inr (inr (seen (DnskeyRemoved a d q n r) ds refl h))
  any (RrsigsRemoved a d q n r x) ds h = inr (inr (seen (RrsigsRemoved a d q n r x) ds refl h))

  module _ (before : IsWhole (keys first)) (after : IsWhole (keys last)) where
    -- a test that can't be true
    no_test : {A : Type 0} (b : Bool) → (b ≡ true → false ≡ true) → b ≡ true → A
    no_test b never e = absurd (let wrong : false ≡ true = never e in cc)

    requests_of_one : (one : List UsedKey) (stage q : AlgorithmStage) → IsWhole one → HasKeysOf one (keys stage) → IsWithin (dnskey_signers one) (dnskey_signers (keys q))
        → IsSigned (dnskey_set (keys stage)) (dnskey_signers (keys q))
    requests_of_one one stage q whole has signs =
        signed_wider (dnskey_set one) (dnskey_signers one) (dnskey_set (keys stage)) (dnskey_signers (keys q)) whole.keys_signed has.same.to
        (within_alike (dnskey_set (keys stage)) (dnskey_set one) has.same.from) signs

    with_old_by : (stage q s p : AlgorithmStage) (ds : List Key) → HasKeysOf (keys first) (keys stage) → (asked requests sets : Bool)
        → is_asked p ≡ asked → is_over q ≡ requests → is_over s ≡ sets
        → (asked ≡ true → false ≡ true) → (requests ≡ true → false ≡ true) → (sets ≡ true → false ≡ true)
        → Contains (parent_at others old new p) ds → IsChain ds (keys stage) (keys q) (keys s)
    with_old_by stage q s p ds has true x y a o u never_asked never_request never_over h = no_test true never_asked refl
    with_old_by stage q s p ds has false true y a o u never_asked never_request never_over h = no_test true never_request refl
    with_old_by stage q s p ds has false false true a o u never_asked never_request never_over h = no_test true never_over refl
    with_old_by stage q s p ds has false false false a o u never_asked never_request never_over h =
        chain_of_one (keys first) (keys stage) (keys q) (keys s) ds before has (requests_of_one (keys first) stage q before has (old_request q o)) (old_sign s u) (not_asked p ds a h)

    with_old : (stage q s p : AlgorithmStage) (ds : List Key) → HasKeysOf (keys first) (keys stage) → (is_asked p ≡ true → false ≡ true)
        → (is_over q ≡ true → false ≡ true) → (is_over s ≡ true → false ≡ true)
        → Contains (parent_at others old new p) ds → IsChain ds (keys stage) (keys q) (keys s)
    with_old stage q s p ds has a o u h = with_old_by stage q s p ds has (is_asked p) (is_over q) (is_over s) refl refl refl a o u h

    with_both_by : (stage q s p : AlgorithmStage) (ds : List Key) → HasKeysOfBoth (keys first) (keys last) (keys stage) → (requests sets : Bool)
        → is_over q ≡ requests → is_over s ≡ sets → (requests ≡ true → false ≡ true) → (sets ≡ true → false ≡ true)
        → has_rrsigs q ≡ true → has_rrsigs s ≡ true → Contains (parent_at others old new p) ds → IsChain ds (keys stage) (keys q) (keys s)
    with_both_by stage q s p ds has true y o u never_request never_over asks signs h = no_test true never_request refl
    with_both_by stage q s p ds has false true o u never_request never_over asks signs h = no_test true never_over refl
    with_both_by stage q s p ds has false false o u never_request never_over asks signs h =
        chain_of_both (keys first) (keys last) (keys stage) (keys q) (keys s) before after has ds
        (signed_both (dnskey_set (keys first)) (dnskey_signers (keys first)) (dnskey_set (keys last)) (dnskey_signers (keys last))
        (dnskey_set (keys stage)) (dnskey_signers (keys q)) before.keys_signed after.keys_signed has.covered has.one_in has.two_in (old_request q o) (new_request q asks))
        (old_sign s u) (new_sign s signs) (any p ds h)

    with_both : (stage q s p : AlgorithmStage) (ds : List Key) → HasKeysOfBoth (keys first) (keys last) (keys stage)
        → (is_over q ≡ true → false ≡ true) → (is_over s ≡ true → false ≡ true)
        → has_rrsigs q ≡ true → has_rrsigs s ≡ true → Contains (parent_at others old new p) ds → IsChain ds (keys stage) (keys q) (keys s)
    with_both stage q s p ds has o u asks signs h = with_both_by stage q s p ds has (is_over q) (is_over s) refl refl o u asks signs h

    with_new : (stage q s p : AlgorithmStage) (ds : List Key) → HasKeysOf (keys last) (keys stage) → is_seen p ≡ true → has_rrsigs q ≡ true → has_rrsigs s ≡ true
        → Contains (parent_at others old new p) ds → IsChain ds (keys stage) (keys q) (keys s)
    with_new stage q s p ds has n asks signs h =
        chain_of_one (keys last) (keys stage) (keys q) (keys s) ds after has (requests_of_one (keys last) stage q after has (new_request q asks)) (new_sign s signs) (seen p ds n h)

    pub algorithm_chain : (k q s p : AlgorithmStage) (ds : List Key)
        → (has_dnskey k ≡ true → has_rrsigs q ≡ true) → (has_dnskey k ≡ true → has_rrsigs s ≡ true) → (is_asked p ≡ true → has_dnskey k ≡ true)
        → (is_removed k ≡ true → is_seen p ≡ true) → (is_over q ≡ true → is_removed k ≡ true) → (is_over s ≡ true → is_removed k ≡ true)
        → Contains (parent_at others old new p) ds → IsChain ds (keys k) (keys q) (keys s)
    algorithm_chain Initial q s p ds asks signed asked gone out over h =
        with_old Initial q s p ds (same first Initial refl refl (λ e. e) (λ e. e)) asked out over h
    algorithm_chain (NewRrsigs a) q s p ds asks signed asked gone out over h =
        with_old (NewRrsigs a) q s p ds (same first (NewRrsigs a) refl refl (λ e. refl) (λ e. refl)) asked out over h
    algorithm_chain (NewDnskey a d) q s p ds asks signed asked gone out over h =
        with_both (NewDnskey a d) q s p ds (both (NewDnskey a d) refl refl refl refl) out over (asks refl) (signed refl) h
    algorithm_chain (DsSubmitted a d i) q s p ds asks signed asked gone out over h =
        with_both (DsSubmitted a d i) q s p ds (both (DsSubmitted a d i) refl refl refl refl) out over (asks refl) (signed refl) h
    algorithm_chain (DsSeen a d i n) q s p ds asks signed asked gone out over h =
        with_both (DsSeen a d i n) q s p ds (both (DsSeen a d i n) refl refl refl refl) out over (asks refl) (signed refl) h
    algorithm_chain (DnskeyRemoved a d i n r) q s p ds asks signed asked gone out over h =
        with_new (DnskeyRemoved a d i n r) q s p ds (same last (DnskeyRemoved a d i n r) refl refl (λ e. refl) (λ e. refl)) (gone refl) (asks refl) (signed refl) h
    algorithm_chain (RrsigsRemoved a d i n r x) q s p ds asks signed asked gone out over h =
        with_new (RrsigsRemoved a d i n r x) q s p ds (same last (RrsigsRemoved a d i n r x) refl refl (λ e. e) (λ e. e)) (gone refl) (asks refl) (signed refl) h
