-- The chains of trust of each two stages of a double signature that caches may hold parts of at once
use Rattle.std.proofs.Common.{◌≡◌, ℕ, Bool, true, false, List, [], ◌∷◌, ◌++◌, refl, sym, subst, ◌⊎◌, inl, inr}
use Rattle.std.specs.Prelude.{Contains}
use Rattle.zone_rollover.specs.declared.key_use.Key.{Key}
use Rattle.zone_rollover.specs.declared.key_use.KeyUse.{KeyUse}
use Rattle.zone_rollover.specs.declared.key_use.UsedKey.{UsedKey}
use Rattle.zone_rollover.specs.declared.key_use.Generation.TheVariants.{Old, New}
use Rattle.zone_rollover.specs.declared.ksk_rollover.KskStage.{KskStage}
use Rattle.zone_rollover.specs.declared.ksk_rollover.KskStage.TheVariants.{Initial, NewDnskey, DsSubmitted, DsSeen, DnskeyRemoved}
use Rattle.zone_rollover.specs.KeyUses.{keys_where, dnskey_set, dnskey_signers, wanted_ds}
use Rattle.zone_rollover.specs.Chains.{IsSigned, IsChain, IsWhole}
use Rattle.zone_rollover.specs.KskRollovers.{keys_at, parent_at, use_of}
use Rattle.zone_rollover.proofs.KeyLists.{IsWithin, within_self, within_parts, within_left, within_right, within_changed, covered_changed, covered_append, covered_turned, keys_where-append, only_one, one_of_three}
use Rattle.zone_rollover.proofs.ChainParts.{AreAlike, last_alike, covered_alike, within_alike, signed_wider}
use Rattle.zone_rollover.proofs.Sides.{IsSame, HasKeysOf, HasKeysOfBoth, SignsAs, chain_of_one, chain_of_both}
use Rattle.zone_rollover.proofs.KskTrust.{has_dnskey, is_asked, is_seen, is_removed}

module _ (others : List UsedKey) (old new : Key) where
  abbrev keys : KskStage → List UsedKey
  keys stage = keys_at others old new stage

  -- the two keys at a stage
  abbrev pair : KskStage → List UsedKey
  pair stage = record { key = old; usage = use_of stage Old } ∷ record { key = new; usage = use_of stage New } ∷ []

  abbrev within : (test : KeyUse → Bool) (a b : KskStage) → IsWithin (keys_where test (pair a)) (keys_where test (pair b)) → IsWithin (keys_where test (keys a)) (keys_where test (keys b))
  within test a b h = within_changed test others (pair a) (pair b) h

  abbrev is_in : KeyUse → Bool
  is_in u = u.is_published

  abbrev signs : KeyUse → Bool
  signs u = u.signs_keys

  abbrev wants : KeyUse → Bool
  wants u = u.wants_ds

  abbrev first : KskStage
  first = Initial

  abbrev last : KskStage
  last = DnskeyRemoved 0 0 0 0

  -- neither key signs other sets
  no_rrsigs : (stage : KskStage) → keys_where (λ (u : KeyUse). u.signs_others) (pair stage) ≡ []
  no_rrsigs Initial = refl
  no_rrsigs (NewDnskey _) = refl
  no_rrsigs (DsSubmitted _ _) = refl
  no_rrsigs (DsSeen _ _ _) = refl
  no_rrsigs (DnskeyRemoved _ _ _ _) = refl

  same_rrsigs : (a b : KskStage) → SignsAs (keys a) (keys b)
  same_rrsigs a b = within (λ (u : KeyUse). u.signs_others) a b (rw (no_rrsigs a, no_rrsigs b) (within_self []))

  -- both keys are in the DNSKEY set and sign it
  both : (stage : KskStage) → keys_where is_in (pair stage) ≡ old ∷ new ∷ [] → keys_where signs (pair stage) ≡ old ∷ new ∷ [] → HasKeysOfBoth (keys first) (keys last) (keys stage)
  both stage p s = record {
    one_in = within is_in first stage (rw p (within_left (old ∷ []) (new ∷ [])));
    two_in = within is_in last stage (rw p (within_right (old ∷ []) (new ∷ [])));
    covered = covered_changed is_in others (pair stage) (pair first) (pair last) (rw p (covered_append (old ∷ []) (new ∷ [])));
    one_signs = within signs first stage (rw s (within_left (old ∷ []) (new ∷ [])));
    two_signs = within signs last stage (rw s (within_right (old ∷ []) (new ∷ [])));
  }

  removed : (d a n r : ℕ) → HasKeysOf (keys last) (keys (DnskeyRemoved d a n r))
  removed d a n r = record {
    same = record {
      to = within is_in last (DnskeyRemoved d a n r) (within_self (new ∷ []));
      from = within is_in (DnskeyRemoved d a n r) last (within_self (new ∷ []));
    };
    signers = within signs last (DnskeyRemoved d a n r) (within_self (new ∷ []));
  }

  -- ---- the DS sets that the parent may have

  wanted_as : (a b : KskStage) → keys_where wants (pair a) ≡ keys_where wants (pair b) → IsSame (wanted_ds (keys a)) (wanted_ds (keys b))
  wanted_as a b e = record {
    to = within wants a b (rw e (within_self (keys_where wants (pair b))));
    from = within wants b a (rw e (within_self (keys_where wants (pair b))));
  }

  abbrev IsFirst : List Key → Type 0
  IsFirst ds = IsSame (wanted_ds (keys first)) ds

  abbrev IsLast : List Key → Type 0
  IsLast ds = IsSame (wanted_ds (keys last)) ds

  abbrev AreBoth : List Key → Type 0
  AreBoth ds = IsSame (wanted_ds (keys first) ++ wanted_ds (keys last)) ds

  first_along : (stage : KskStage) (ds : List Key) → keys_where wants (pair first) ≡ keys_where wants (pair stage) → Contains (wanted_ds (keys stage) ∷ []) ds → IsFirst ds
  first_along stage ds e h = subst (λ (d : List Key). IsFirst d) (only_one (wanted_ds (keys stage)) ds h) (wanted_as first stage e)

  last_along : (stage : KskStage) (ds : List Key) → keys_where wants (pair last) ≡ keys_where wants (pair stage) → Contains (wanted_ds (keys stage) ∷ []) ds → IsLast ds
  last_along stage ds e h = subst (λ (d : List Key). IsLast d) (only_one (wanted_ds (keys stage)) ds h) (wanted_as last stage e)

  both_along : (d a : ℕ) → AreBoth (wanted_ds (keys first) ++ wanted_ds (keys (DsSubmitted d a)))
  both_along d a =
      let f = wanted_ds (keys first) in
      let l = wanted_ds (keys last) in
      let s = wanted_ds (keys (DsSubmitted d a)) in
      let same = wanted_as last (DsSubmitted d a) refl in
      record { to = within_parts f l f s (within_self f) same.to; from = within_parts f s f l (within_self f) same.from }

  not_asked : (p : KskStage) (ds : List Key) → is_asked p ≡ false → Contains (parent_at others old new p) ds → IsFirst ds
  not_asked Initial ds e h = first_along Initial ds refl h
  not_asked (NewDnskey d) ds e h = first_along (NewDnskey d) ds refl h
  not_asked (DsSubmitted d a) ds e h = cc
  not_asked (DsSeen d a n) ds e h = cc
  not_asked (DnskeyRemoved d a n r) ds e h = cc

  seen : (p : KskStage) (ds : List Key) → is_seen p ≡ true → Contains (parent_at others old new p) ds → IsLast ds
  seen Initial ds e h = cc
  seen (NewDnskey d) ds e h = cc
  seen (DsSubmitted d a) ds e h = cc
  seen (DsSeen d a n) ds e h = last_along (DsSeen d a n) ds refl h
  seen (DnskeyRemoved d a n r) ds e h = last_along (DnskeyRemoved d a n r) ds refl h

  in_between : (d a : ℕ) (ds : List Key) → Contains (parent_at others old new (DsSubmitted d a)) ds → IsFirst ds ⊎ (AreBoth ds ⊎ IsLast ds)
  in_between d a ds h =
      let f = wanted_ds (keys first) in
      let s = wanted_ds (keys (DsSubmitted d a)) in
      elim (one_of_three f (f ++ s) s ds h) [
        | inl e ↦ inl (subst (λ (x : List Key). IsFirst x) e (wanted_as first first refl))
        | inr (inl e) ↦ inr (inl (subst (λ (x : List Key). AreBoth x) e (both_along d a)))
        | inr (inr e) ↦ inr (inr (subst (λ (x : List Key). IsLast x) e (wanted_as last (DsSubmitted d a) refl)))
      ]

  any : (p : KskStage) (ds : List Key) → Contains (parent_at others old new p) ds → IsFirst ds ⊎ (AreBoth ds ⊎ IsLast ds)
  any Initial ds h = inl (not_asked Initial ds refl h)
  any (NewDnskey d) ds h = inl (not_asked (NewDnskey d) ds refl h)
  any (DsSubmitted d a) ds h = in_between d a ds h
  any (DsSeen d a n) ds h = inr (inr (seen (DsSeen d a n) ds refl h))
  any (DnskeyRemoved d a n r) ds h = inr (inr (seen (DnskeyRemoved d a n r) ds refl h))

  -- ---- CDS and CDNSKEY

  old_signs : (q : KskStage) → is_removed q ≡ false → IsWithin (dnskey_signers (keys first)) (dnskey_signers (keys q))
  old_signs Initial e = within_self (dnskey_signers (keys first))
  old_signs (NewDnskey d) e = within signs first (NewDnskey d) (within_left (old ∷ []) (new ∷ []))
  old_signs (DsSubmitted d a) e = within signs first (DsSubmitted d a) (within_left (old ∷ []) (new ∷ []))
  old_signs (DsSeen d a n) e = within signs first (DsSeen d a n) (within_left (old ∷ []) (new ∷ []))
  old_signs (DnskeyRemoved d a n r) e = cc

  new_signs : (q : KskStage) → has_dnskey q ≡ true → IsWithin (dnskey_signers (keys last)) (dnskey_signers (keys q))
  new_signs Initial e = cc
  new_signs (NewDnskey d) e = within signs last (NewDnskey d) (within_right (old ∷ []) (new ∷ []))
  new_signs (DsSubmitted d a) e = within signs last (DsSubmitted d a) (within_right (old ∷ []) (new ∷ []))
  new_signs (DsSeen d a n) e = within signs last (DsSeen d a n) (within_right (old ∷ []) (new ∷ []))
  new_signs (DnskeyRemoved d a n r) e = within signs last (DnskeyRemoved d a n r) (within_self (new ∷ []))

  has_new : (q : KskStage) → is_removed q ≡ true → has_dnskey q ≡ true
  has_new Initial e = cc
  has_new (NewDnskey d) e = refl
  has_new (DsSubmitted d a) e = refl
  has_new (DsSeen d a n) e = refl
  has_new (DnskeyRemoved d a n r) e = refl

  module _ (alike : new.algorithm ≡ old.algorithm) (before : IsWhole (keys first)) (after : IsWhole (keys last)) where
    last_like_first : AreAlike (dnskey_set (keys last)) (dnskey_set (keys first))
    last_like_first =
        rw (keys_where-append is_in others (pair last), keys_where-append is_in others (pair first)) (last_alike (dnskey_set others) new old (sym alike))

    first_like_last : AreAlike (dnskey_set (keys first)) (dnskey_set (keys last))
    first_like_last =
        rw (keys_where-append is_in others (pair last), keys_where-append is_in others (pair first)) (last_alike (dnskey_set others) old new alike)

    requests_with_old : (q : KskStage) (b : Bool) → is_removed q ≡ b → (b ≡ true → false ≡ true) → IsSigned (dnskey_set (keys first)) (dnskey_signers (keys q))
    requests_with_old q true e never = absurd (let wrong : false ≡ true = never refl in cc)
    requests_with_old q false e never =
        let itself = within_self (dnskey_set (keys first)) in
        signed_wider (dnskey_set (keys first)) (dnskey_signers (keys first)) (dnskey_set (keys first)) (dnskey_signers (keys q)) before.keys_signed itself
        (within_alike (dnskey_set (keys first)) (dnskey_set (keys first)) itself) (old_signs q e)

    requests_with_both : (stage q : KskStage) (b : Bool) → is_removed q ≡ b → HasKeysOfBoth (keys first) (keys last) (keys stage)
        → IsSigned (dnskey_set (keys stage)) (dnskey_signers (keys q))
    requests_with_both stage q false e has =
        signed_wider (dnskey_set (keys first)) (dnskey_signers (keys first)) (dnskey_set (keys stage)) (dnskey_signers (keys q)) before.keys_signed has.one_in
        (covered_alike (dnskey_set (keys stage)) (dnskey_set (keys first)) (dnskey_set (keys last)) has.covered last_like_first) (old_signs q e)
    requests_with_both stage q true e has =
        signed_wider (dnskey_set (keys last)) (dnskey_signers (keys last)) (dnskey_set (keys stage)) (dnskey_signers (keys q)) after.keys_signed has.two_in
        (covered_alike (dnskey_set (keys stage)) (dnskey_set (keys last)) (dnskey_set (keys first))
        (covered_turned (dnskey_set (keys stage)) (dnskey_set (keys first)) (dnskey_set (keys last)) has.covered) first_like_last) (new_signs q (has_new q e))

    requests_with_new : (stage q : KskStage) → HasKeysOf (keys last) (keys stage) → has_dnskey q ≡ true → IsSigned (dnskey_set (keys stage)) (dnskey_signers (keys q))
    requests_with_new stage q has e =
        signed_wider (dnskey_set (keys last)) (dnskey_signers (keys last)) (dnskey_set (keys stage)) (dnskey_signers (keys q)) after.keys_signed has.same.to
        (within_alike (dnskey_set (keys stage)) (dnskey_set (keys last)) has.same.from) (new_signs q e)

    -- ---- all of the chain

    with_both : (stage q s p : KskStage) (ds : List Key) → HasKeysOfBoth (keys first) (keys last) (keys stage) → Contains (parent_at others old new p) ds
        → IsChain ds (keys stage) (keys q) (keys s)
    with_both stage q s p ds has h =
        chain_of_both (keys first) (keys last) (keys stage) (keys q) (keys s) before after has ds (requests_with_both stage q (is_removed q) refl has)
        (same_rrsigs first s) (same_rrsigs last s) (any p ds h)

    with_old : (q s p : KskStage) (ds : List Key) (b : Bool) → is_asked p ≡ b → (b ≡ true → false ≡ true) → (is_removed q ≡ true → false ≡ true)
        → Contains (parent_at others old new p) ds → IsChain ds (keys first) (keys q) (keys s)
    with_old q s p ds true e never gone h = absurd (let wrong : false ≡ true = never refl in cc)
    with_old q s p ds false e never gone h =
        let itself = within_self (dnskey_set (keys first)) in
        chain_of_one (keys first) (keys first) (keys q) (keys s) ds before
        (record { same = record { to = itself; from = itself }; signers = within_self (dnskey_signers (keys first)) })
        (requests_with_old q (is_removed q) refl gone)
        (same_rrsigs first s)
        (not_asked p ds e h)

    pub ksk_chain : (k q s p : KskStage) (ds : List Key) → (is_asked p ≡ true → has_dnskey k ≡ true) → (is_removed q ≡ true → has_dnskey k ≡ true)
        → (is_removed k ≡ true → is_seen p ≡ true) → (is_removed k ≡ true → has_dnskey q ≡ true)
        → Contains (parent_at others old new p) ds → IsChain ds (keys k) (keys q) (keys s)
    ksk_chain Initial q s p ds early gone late signed h = with_old q s p ds (is_asked p) refl early gone h
    ksk_chain (NewDnskey d) q s p ds early gone late signed h = with_both (NewDnskey d) q s p ds (both (NewDnskey d) refl refl) h
    ksk_chain (DsSubmitted d a) q s p ds early gone late signed h = with_both (DsSubmitted d a) q s p ds (both (DsSubmitted d a) refl refl) h
    ksk_chain (DsSeen d a n) q s p ds early gone late signed h = with_both (DsSeen d a n) q s p ds (both (DsSeen d a n) refl refl) h
    ksk_chain (DnskeyRemoved d a n r) q s p ds early gone late signed h =
        chain_of_one (keys last) (keys (DnskeyRemoved d a n r)) (keys q) (keys s) ds after (removed d a n r)
        (requests_with_new (DnskeyRemoved d a n r) q (removed d a n r) (signed refl)) (same_rrsigs last s) (seen p ds (late refl) h)
