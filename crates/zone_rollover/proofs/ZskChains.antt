-- The chains of trust of each two stages of a pre-publication that caches may hold parts of at once
use Rattle.std.proofs.Common.{◌≡◌, ℕ, Bool, true, false, List, [], ◌∷◌, refl, sym}
use Rattle.zone_rollover.specs.declared.key_use.Key.{Key}
use Rattle.zone_rollover.specs.declared.key_use.KeyUse.{KeyUse}
use Rattle.zone_rollover.specs.declared.key_use.UsedKey.{UsedKey}
use Rattle.zone_rollover.specs.declared.key_use.Generation.TheVariants.{Old, New}
use Rattle.zone_rollover.specs.declared.zsk_rollover.ZskStage.{ZskStage}
use Rattle.zone_rollover.specs.declared.zsk_rollover.ZskStage.TheVariants.{Initial, NewDnskey, NewRrsigs, DnskeyRemoved}
use Rattle.zone_rollover.specs.KeyUses.{keys_where, dnskey_set, dnskey_signers, set_signers, wanted_ds}
use Rattle.zone_rollover.specs.Chains.{IsAuthenticated, IsSigned, IsChain, IsWhole}
use Rattle.zone_rollover.specs.ZskRollovers.{keys_at, use_of}
use Rattle.zone_rollover.proofs.KeyLists.{IsWithin, IsCovered, within_self, within_left, within_right, within_changed, covered_changed, covered_append, covered_turned, keys_where-append}
use Rattle.zone_rollover.proofs.ChainParts.{AreAlike, last_alike, covered_alike, within_alike, authenticated_wider, authenticated_same, signed_wider, signed_both}
use Rattle.zone_rollover.proofs.ZskTrust.{has_dnskey, has_rrsigs, is_removed}

module _ (others : List UsedKey) (old new : Key) where
  abbrev keys : ZskStage → List UsedKey
  keys stage = keys_at others old new stage

  -- the two keys at a stage
  abbrev pair : ZskStage → List UsedKey
  pair stage = record { key = old; usage = use_of stage Old } ∷ record { key = new; usage = use_of stage New } ∷ []

  abbrev within : (test : KeyUse → Bool) (a b : ZskStage) → IsWithin (keys_where test (pair a)) (keys_where test (pair b)) → IsWithin (keys_where test (keys a)) (keys_where test (keys b))
  within test a b h = within_changed test others (pair a) (pair b) h

  -- the parent is to have the same at each stage, and the same keys sign the DNSKEY set
  no_ds : (stage : ZskStage) → keys_where (λ (u : KeyUse). u.wants_ds) (pair stage) ≡ []
  no_ds Initial = refl
  no_ds (NewDnskey _) = refl
  no_ds (NewRrsigs _ _) = refl
  no_ds (DnskeyRemoved _ _ _) = refl

  no_signer : (stage : ZskStage) → keys_where (λ (u : KeyUse). u.signs_keys) (pair stage) ≡ []
  no_signer Initial = refl
  no_signer (NewDnskey _) = refl
  no_signer (NewRrsigs _ _) = refl
  no_signer (DnskeyRemoved _ _ _) = refl

  same_ds : (a b : ZskStage) → IsWithin (wanted_ds (keys a)) (wanted_ds (keys b))
  same_ds a b = within (λ (u : KeyUse). u.wants_ds) a b (rw (no_ds a, no_ds b) (within_self []))

  same_signers : (a b : ZskStage) → IsWithin (dnskey_signers (keys a)) (dnskey_signers (keys b))
  same_signers a b = within (λ (u : KeyUse). u.signs_keys) a b (rw (no_signer a, no_signer b) (within_self []))

  -- what has the signatures of one stage's DNSKEY set is signed with those of another's
  signed_alike : (stage q : ZskStage) → IsSigned (dnskey_set (keys stage)) (dnskey_signers (keys stage)) → IsSigned (dnskey_set (keys stage)) (dnskey_signers (keys q))
  signed_alike stage q h =
      let itself = within_self (dnskey_set (keys stage)) in
      signed_wider (dnskey_set (keys stage)) (dnskey_signers (keys stage)) (dnskey_set (keys stage)) (dnskey_signers (keys q)) h itself
      (within_alike (dnskey_set (keys stage)) (dnskey_set (keys stage)) itself) (same_signers stage q)

  -- the keys of one stage are in another's DNSKEY set
  abbrev Publishes : ZskStage → ZskStage → Type 0
  Publishes a b = IsWithin (dnskey_set (keys a)) (dnskey_set (keys b))

  -- the DNSKEY set of a stage that has the keys of another is authenticated if the other's is
  authenticated : (a b p : ZskStage) → Publishes a b → IsAuthenticated (wanted_ds (keys a)) (dnskey_set (keys a)) (dnskey_signers (keys a))
      → IsAuthenticated (wanted_ds (keys p)) (dnskey_set (keys b)) (dnskey_signers (keys b))
  authenticated a b p w h =
      authenticated_same (wanted_ds (keys a)) (wanted_ds (keys p)) (dnskey_set (keys b)) (dnskey_signers (keys b))
      (authenticated_wider (wanted_ds (keys a)) (dnskey_set (keys a)) (dnskey_signers (keys a)) (dnskey_set (keys b)) (dnskey_signers (keys b)) h w (same_signers a b))
      (same_ds a p)
      (same_ds p a)

  -- ---- the DNSKEY sets

  abbrev is_in : KeyUse → Bool
  is_in u = u.is_published

  abbrev first : ZskStage
  first = Initial

  abbrev last : ZskStage
  last = DnskeyRemoved 0 0 0

  -- both keys are in the DNSKEY set
  record HasBoth (stage : ZskStage) : Type 0 where
    pub before : Publishes first stage
    pub after : Publishes last stage
    pub covered : IsCovered (dnskey_set (keys stage)) (dnskey_set (keys first)) (dnskey_set (keys last))

  both_new : (d : ℕ) → HasBoth (NewDnskey d)
  both_new d = record {
    before = within is_in first (NewDnskey d) (within_left (old ∷ []) (new ∷ []));
    after = within is_in last (NewDnskey d) (within_right (old ∷ []) (new ∷ []));
    covered = covered_changed is_in others (pair (NewDnskey d)) (pair first) (pair last) (covered_append (old ∷ []) (new ∷ []));
  }

  both_signing : (d n : ℕ) → HasBoth (NewRrsigs d n)
  both_signing d n = record {
    before = within is_in first (NewRrsigs d n) (within_left (old ∷ []) (new ∷ []));
    after = within is_in last (NewRrsigs d n) (within_right (old ∷ []) (new ∷ []));
    covered = covered_changed is_in others (pair (NewRrsigs d n)) (pair first) (pair last) (covered_append (old ∷ []) (new ∷ []));
  }

  removed_from : (d n r : ℕ) → Publishes (DnskeyRemoved d n r) last
  removed_from d n r = within is_in (DnskeyRemoved d n r) last (within_self (new ∷ []))

  removed_to : (d n r : ℕ) → Publishes last (DnskeyRemoved d n r)
  removed_to d n r = within is_in last (DnskeyRemoved d n r) (within_self (new ∷ []))

  module _ (alike : new.algorithm ≡ old.algorithm) (before : IsWhole (keys first)) (after : IsWhole (keys last)) where
    last_like_first : AreAlike (dnskey_set (keys last)) (dnskey_set (keys first))
    last_like_first =
        rw (keys_where-append is_in others (pair last), keys_where-append is_in others (pair first)) (last_alike (dnskey_set others) new old (sym alike))

    first_like_last : AreAlike (dnskey_set (keys first)) (dnskey_set (keys last))
    first_like_last =
        rw (keys_where-append is_in others (pair last), keys_where-append is_in others (pair first)) (last_alike (dnskey_set others) old new alike)

    -- the DNSKEY set is signed
    signed_with_both : (stage : ZskStage) → HasBoth stage → IsSigned (dnskey_set (keys stage)) (dnskey_signers (keys stage))
    signed_with_both stage h =
        signed_both (dnskey_set (keys first)) (dnskey_signers (keys first)) (dnskey_set (keys last)) (dnskey_signers (keys last))
        (dnskey_set (keys stage)) (dnskey_signers (keys stage))
        before.keys_signed after.keys_signed h.covered h.before h.after (same_signers first stage) (same_signers last stage)

    -- a set that the old key signed, or the new one, with both keys
    old_with_both : (stage s : ZskStage) → HasBoth stage → IsWithin (set_signers (keys first)) (set_signers (keys s)) → IsSigned (dnskey_set (keys stage)) (set_signers (keys s))
    old_with_both stage s h w =
        signed_wider (dnskey_set (keys first)) (set_signers (keys first)) (dnskey_set (keys stage)) (set_signers (keys s)) before.set_signed h.before
        (covered_alike (dnskey_set (keys stage)) (dnskey_set (keys first)) (dnskey_set (keys last)) h.covered last_like_first) w

    new_with_both : (stage s : ZskStage) → HasBoth stage → IsWithin (set_signers (keys last)) (set_signers (keys s)) → IsSigned (dnskey_set (keys stage)) (set_signers (keys s))
    new_with_both stage s h w =
        signed_wider (dnskey_set (keys last)) (set_signers (keys last)) (dnskey_set (keys stage)) (set_signers (keys s)) after.set_signed h.after
        (covered_alike (dnskey_set (keys stage)) (dnskey_set (keys last)) (dnskey_set (keys first))
        (covered_turned (dnskey_set (keys stage)) (dnskey_set (keys first)) (dnskey_set (keys last)) h.covered) first_like_last) w

    -- ---- the other sets

    signed_by_old : (s : ZskStage) → has_rrsigs s ≡ false → IsWithin (set_signers (keys first)) (set_signers (keys s))
    signed_by_old Initial h = within_self (set_signers (keys first))
    signed_by_old (NewDnskey d) h = within (λ (u : KeyUse). u.signs_others) first (NewDnskey d) (within_self (old ∷ []))
    signed_by_old (NewRrsigs d n) h = cc
    signed_by_old (DnskeyRemoved d n r) h = cc

    signed_by_new : (s : ZskStage) → has_rrsigs s ≡ true → IsWithin (set_signers (keys last)) (set_signers (keys s))
    signed_by_new Initial h = cc
    signed_by_new (NewDnskey d) h = cc
    signed_by_new (NewRrsigs d n) h = within (λ (u : KeyUse). u.signs_others) last (NewRrsigs d n) (within_self (new ∷ []))
    signed_by_new (DnskeyRemoved d n r) h = within (λ (u : KeyUse). u.signs_others) last (DnskeyRemoved d n r) (within_self (new ∷ []))

    -- each set, whichever key signed it, with both keys
    signed_in_both : (stage s : ZskStage) (b : Bool) → has_rrsigs s ≡ b → HasBoth stage → IsSigned (dnskey_set (keys stage)) (set_signers (keys s))
    signed_in_both stage s true e h = new_with_both stage s h (signed_by_new s e)
    signed_in_both stage s false e h = old_with_both stage s h (signed_by_old s e)

    with_both : (stage q s p : ZskStage) → HasBoth stage → IsChain (wanted_ds (keys p)) (keys stage) (keys q) (keys s)
    with_both stage q s p h = record {
      delegation = authenticated first stage p h.before before.delegation;
      keys_signed = signed_with_both stage h;
      requests_signed = signed_alike stage q (signed_with_both stage h);
      set_signed = signed_in_both stage s (has_rrsigs s) refl h;
    }

    -- what the new key doesn't sign, with the old key alone
    with_old : (q s p : ZskStage) (b : Bool) → has_rrsigs s ≡ b → (b ≡ true → false ≡ true) → IsChain (wanted_ds (keys p)) (keys first) (keys q) (keys s)
    with_old q s p true e never = absurd (let wrong : false ≡ true = never refl in cc)
    with_old q s p false e never = record {
      delegation = authenticated first first p (within_self (dnskey_set (keys first))) before.delegation;
      keys_signed = before.keys_signed;
      requests_signed = signed_alike first q before.keys_signed;
      set_signed = signed_wider (dnskey_set (keys first)) (set_signers (keys first)) (dnskey_set (keys first)) (set_signers (keys s)) before.set_signed
          (within_self (dnskey_set (keys first)))
          (within_alike (dnskey_set (keys first)) (dnskey_set (keys first)) (within_self (dnskey_set (keys first)))) (signed_by_old s e);
    }

    -- what the new key signs, with it alone
    with_new : (d n r : ℕ) (q s p : ZskStage) → has_rrsigs s ≡ true → IsChain (wanted_ds (keys p)) (keys (DnskeyRemoved d n r)) (keys q) (keys s)
    with_new d n r q s p e =
        let stage = DnskeyRemoved d n r in
        let alike = within_alike (dnskey_set (keys stage)) (dnskey_set (keys last)) (removed_from d n r) in
        let by_keys = signed_wider (dnskey_set (keys last)) (dnskey_signers (keys last)) (dnskey_set (keys stage)) (dnskey_signers (keys stage)) after.keys_signed
        (removed_to d n r) alike (same_signers last stage) in
        record {
          delegation = authenticated last stage p (removed_to d n r) after.delegation;
          keys_signed = by_keys;
          requests_signed = signed_alike stage q by_keys;
          set_signed = signed_wider (dnskey_set (keys last)) (set_signers (keys last)) (dnskey_set (keys stage)) (set_signers (keys s)) after.set_signed
              (removed_to d n r) alike (signed_by_new s e);
        }

    pub zsk_chain : (k q s p : ZskStage) → (has_rrsigs s ≡ true → has_dnskey k ≡ true) → (is_removed k ≡ true → has_rrsigs s ≡ true)
        → IsChain (wanted_ds (keys p)) (keys k) (keys q) (keys s)
    zsk_chain Initial q s p early late = with_old q s p (has_rrsigs s) refl early
    zsk_chain (NewDnskey d) q s p early late = with_both (NewDnskey d) q s p (both_new d)
    zsk_chain (NewRrsigs d n) q s p early late = with_both (NewRrsigs d n) q s p (both_signing d n)
    zsk_chain (DnskeyRemoved d n r) q s p early late = with_new d n r q s p (late refl)
