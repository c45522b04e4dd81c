-- Chains of trust of a zone that has the keys of before, those of after, or both
use Rattle.std.proofs.Common.{List, ◌++◌, ◌⊎◌, inl, inr}
use Rattle.zone_rollover.specs.declared.key_use.Key.{Key}
use Rattle.zone_rollover.specs.declared.key_use.UsedKey.{UsedKey}
use Rattle.zone_rollover.specs.KeyUses.{dnskey_set, dnskey_signers, set_signers, wanted_ds}
use Rattle.zone_rollover.specs.Chains.{IsAuthenticated, IsSigned, IsChain, IsWhole}
use Rattle.zone_rollover.proofs.KeyLists.{IsWithin, IsCovered}
use Rattle.zone_rollover.proofs.ChainParts.{within_alike, authenticated_wider, authenticated_same, authenticated_both, signed_wider, signed_both}

-- two lists have the same keys
pub record IsSame (xs ys : List Key) : Type 0 where
  pub to : IsWithin xs ys
  pub from : IsWithin ys xs

-- a zone has the DNSKEY set of another, with all of its signatures
pub record HasKeysOf (one keys : List UsedKey) : Type 0 where
  pub same : IsSame (dnskey_set one) (dnskey_set keys)
  pub signers : IsWithin (dnskey_signers one) (dnskey_signers keys)

-- a zone has the DNSKEY sets of two others together, with all of their signatures
pub record HasKeysOfBoth (one two keys : List UsedKey) : Type 0 where
  pub one_in : IsWithin (dnskey_set one) (dnskey_set keys)
  pub two_in : IsWithin (dnskey_set two) (dnskey_set keys)
  pub covered : IsCovered (dnskey_set keys) (dnskey_set one) (dnskey_set two)
  pub one_signs : IsWithin (dnskey_signers one) (dnskey_signers keys)
  pub two_signs : IsWithin (dnskey_signers two) (dnskey_signers keys)

-- each other set is signed as in another zone
abbrev pub SignsAs : List UsedKey → List UsedKey → Type 0
SignsAs one keys = IsWithin (set_signers one) (set_signers keys)

-- with the keys of a zone that is whole
pub chain_of_one : (one keys requests others : List UsedKey) (ds : List Key) → IsWhole one → HasKeysOf one keys
    → IsSigned (dnskey_set keys) (dnskey_signers requests) → SignsAs one others → IsSame (wanted_ds one) ds
    → IsChain ds keys requests others
chain_of_one one keys requests others ds whole has asked signs same =
    let alike = within_alike (dnskey_set keys) (dnskey_set one) has.same.from in
    record {
      delegation = authenticated_same (wanted_ds one) ds (dnskey_set keys) (dnskey_signers keys)
          (authenticated_wider (wanted_ds one) (dnskey_set one) (dnskey_signers one) (dnskey_set keys) (dnskey_signers keys) whole.delegation has.same.to has.signers)
          same.to same.from;
      keys_signed = signed_wider (dnskey_set one) (dnskey_signers one) (dnskey_set keys) (dnskey_signers keys) whole.keys_signed has.same.to alike has.signers;
      requests_signed = asked;
      set_signed = signed_wider (dnskey_set one) (set_signers one) (dnskey_set keys) (set_signers others) whole.set_signed has.same.to alike signs;
    }

module _ (one two keys requests others : List UsedKey) (first : IsWhole one) (second : IsWhole two) (has : HasKeysOfBoth one two keys) where
  by_one : IsAuthenticated (wanted_ds one) (dnskey_set keys) (dnskey_signers keys)
  by_one = authenticated_wider (wanted_ds one) (dnskey_set one) (dnskey_signers one) (dnskey_set keys) (dnskey_signers keys) first.delegation has.one_in has.one_signs

  by_two : IsAuthenticated (wanted_ds two) (dnskey_set keys) (dnskey_signers keys)
  by_two = authenticated_wider (wanted_ds two) (dnskey_set two) (dnskey_signers two) (dnskey_set keys) (dnskey_signers keys) second.delegation has.two_in has.two_signs

  by_either : (ds : List Key) → IsSame (wanted_ds one) ds ⊎ (IsSame (wanted_ds one ++ wanted_ds two) ds ⊎ IsSame (wanted_ds two) ds)
      → IsAuthenticated ds (dnskey_set keys) (dnskey_signers keys)
  by_either ds (inl s) = authenticated_same (wanted_ds one) ds (dnskey_set keys) (dnskey_signers keys) by_one s.to s.from
  by_either ds (inr (inl s)) =
      authenticated_same (wanted_ds one ++ wanted_ds two) ds (dnskey_set keys) (dnskey_signers keys)
      (authenticated_both (wanted_ds one) (wanted_ds two) (dnskey_set keys) (dnskey_signers keys) by_one by_two) s.to s.from
  by_either ds (inr (inr s)) = authenticated_same (wanted_ds two) ds (dnskey_set keys) (dnskey_signers keys) by_two s.to s.from

  -- with the keys of two zones that are whole, whichever of their DS sets the parent has
  pub chain_of_both : (ds : List Key) → IsSigned (dnskey_set keys) (dnskey_signers requests) → SignsAs one others → SignsAs two others
      → IsSame (wanted_ds one) ds ⊎ (IsSame (wanted_ds one ++ wanted_ds two) ds ⊎ IsSame (wanted_ds two) ds)
      → IsChain ds keys requests others
  chain_of_both ds asked one_signs two_signs side = record {
    delegation = by_either ds side;
    keys_signed = signed_both (dnskey_set one) (dnskey_signers one) (dnskey_set two) (dnskey_signers two) (dnskey_set keys) (dnskey_signers keys)
        first.keys_signed second.keys_signed has.covered has.one_in has.two_in has.one_signs has.two_signs;
    requests_signed = asked;
    set_signed = signed_both (dnskey_set one) (set_signers one) (dnskey_set two) (set_signers two) (dnskey_set keys) (set_signers others)
        first.set_signed second.set_signed has.covered has.one_in has.two_in one_signs two_signs;
  }
