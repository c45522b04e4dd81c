-- A signed zone's chain of NSEC sets stays one where those that a change makes others are made anew
use Rattle.std.proofs.Common.{◌≡◌, ◌≢◌, ◌==◌, ℕ, Bool, true, false, not, ◌&&◌, List, length, map, refl, sym, ap, ◌∙◌, eqb-true}
use Rattle.std.specs.Prelude.{Option, Some, None, is_some, option_map}
use Rattle.std.specs.Cmp.{both_ways}
use Rattle.std.specs.List.{Contains}
use Rattle.zone_proto.specs.declared.record.Record.{Record}
use Rattle.zone_proto.specs.declared.rr_key.RrKey.{RrKey}
use Rattle.zone_proto.specs.Names.{Name, lower, is_above}
use Rattle.zone_proto.specs.Sets.{RRset}
use Rattle.zone_proto.specs.Types.{NS, SOA, RRSIG, NSEC, NSEC3}
use Rattle.zone_map.specs.Zones.{Sets, IsZone, set_at, owns}
use Rattle.zone_denial.specs.Authority.{is_authoritative}
use Rattle.zone_denial.specs.Chains.{is_delegation, IsInNsecChain, IsRightList, next_owner}
use Rattle.zone_denial.specs.NsecCircle.{first_nsec}
use Rattle.zone_denial.specs.NsecSets.{nsec_set_at}
use Rattle.zone_denial.proofs.Chain.NsecSecured.{same_next}
use Rattle.zone_denial.proofs.Names.AuthoritativeNames.{same_authority}
use Rattle.zone_trimming.specs.Trimming.{trimmed_at}
use Rattle.chain_changes.specs.Renewal.{nsec_records, is_renewed, HaveChanges, IsRenewed}
use Rattle.chain_changes.specs.SignedChains.{IsSignedNsecChain, RenewedStaysChain}
use Rattle.chain_changes.proofs.ListsMade.{next_is, told_apart}
use Rattle.chain_changes.proofs.OthersStay.{types_stay, authority_stays, next_stays}
use Rattle.chain_changes.proofs.RenewedCircle.{some_mapped}
use Rattle.chain_changes.proofs.SignedSets.{records_of, IsSignedSet, OwnsByAuthority, signed_from, made_owned, made_signed}

-- zones whose NSEC sets of a name have the same records
same_owner : (a b : Sets) (n : Name) → nsec_records a n ≡ nsec_records b n → owns a n NSEC ≡ owns b n NSEC
same_owner a b n e = sym (some_mapped (λ (s : RRset). s.records) (set_at a n NSEC)) ∙ ap is_some e ∙ some_mapped (λ (s : RRset). s.records) (set_at b n NSEC)

set_with : (records : List Record) (o : Option RRset) → Some records ≡ records_of o → (r : RRset) × (o ≡ Some r) × (records ≡ r.records)
set_with records None q = absurd cc
set_with records (Some r) q = (r, refl, cc)

apart : (t : ℕ) → t ≢ NSEC → (t == NSEC) ≡ false
apart t h = by (t == NSEC) refl
  where
    by : (b : Bool) → (t == NSEC) ≡ b → b ≡ false
    by true e = absurd (h (eqb-true t NSEC e))
    by false e = refl

module _ (origin : Name) (m after put : Sets) (keys : List RrKey) (ttl serial : ℕ) (zone : IsZone after) (stands : IsZone put) (low : lower origin ≡ origin) (soa : owns after origin SOA ≡ true)
    (told : HaveChanges keys m after) (stood : (n : Name) → nsec_records after n ≡ nsec_records m n) (was : IsSignedNsecChain origin m)
    (is : IsRenewed origin keys after (trimmed_at (nsec_set_at origin after ttl serial)) put) where
  -- ---- who owns NSEC

  before : OwnsByAuthority origin m
  before n = both_ways (owns m n NSEC) (is_authoritative origin m NSEC n) (was.chain.authoritative n) (was.complete n)

  had : (n : Name) → owns after n NSEC ≡ is_authoritative origin m NSEC n
  had n = same_owner after m n (stood n) ∙ before n

  held : OwnsByAuthority origin put
  held n = by (is_renewed origin after keys n) refl ∙ sym (same_authority NSEC refl origin after put is.others n)
    where
      by : (b : Bool) → is_renewed origin after keys n ≡ b → owns put n NSEC ≡ is_authoritative origin after NSEC n
      by true e = made_owned origin after put ttl serial zone low soa is.others n (is.anew n e)
      by false e = same_owner put after n (is.kept n e) ∙ had n ∙ sym (authority_stays origin m after keys told had n e)

  -- ---- the set of a name that keeps its own

  module _ (n : Name) (s : RRset) (there : set_at put n NSEC ≡ Some s) (off : is_renewed origin after keys n ≡ false) where
    old : (r : RRset) × (set_at m n NSEC ≡ Some r) × (s.records ≡ r.records)
    old = set_with s.records (set_at m n NSEC) (sym (ap records_of there) ∙ is.kept n off ∙ stood n)

    old_set : IsInNsecChain origin m n old.0
    old_set = was.chain.each n old.0 old.1

    same : (t : ℕ) → (t == NSEC) ≡ false → owns put n t ≡ owns m n t
    same t h = is.others n t h ∙ types_stay origin m after keys told had n off t h

    cut : is_delegation origin put n ≡ is_delegation origin m n
    cut = λ i. is_above origin n && (same NS refl i && not (same SOA refl i))

    next : next_owner origin m n ≡ next_owner origin put n
    next =
        sym (next_is origin m before n)
        ∙ sym (next_stays origin m after keys told had n off (sym (before n) ∙ ap is_some old.1))
        ∙ sym (same_next origin after put is.others n)
        ∙ next_is origin put held n

    signature : Contains old_set.types RRSIG
    signature = was.signed n old.0 old_set.types old.1 old_set.listed

    right : IsRightList origin put n old_set.types
    right = record {
      at_delegation = λ d t stated.
          let h = same t (apart t (told_apart t NSEC stated refl)) in
          let r = old_set.right.at_delegation (sym cut ∙ d) t stated in
          (λ c. h ∙ r.0 c, λ k. r.1 (sym h ∙ k));
      exact = λ d t a b x.
          let h = same t (apart t b) in
          let r = old_set.right.exact (sym cut ∙ d) t a b x in
          (λ c. h ∙ r.0 c, λ k. r.1 (sym h ∙ k));
      signed = λ d h. signature;
    }

    kept : IsSignedSet origin put n s
    kept = (
      record {
        single = ap length old.2 ∙ old_set.single;
        next = ap (λ rs. option_map (λ a. lower a.next_domain_name) (first_nsec rs)) old.2 ∙ old_set.next ∙ ap Some next;
        types = old_set.types;
        listed = ap (λ rs. option_map (λ a. map (λ t. t.0) a.types) (first_nsec rs)) old.2 ∙ old_set.listed;
        right = right;
        own = λ d. old_set.own (sym cut ∙ d);
        hashed = (λ c. same NSEC3 refl ∙ old_set.hashed.0 c, λ k. old_set.hashed.1 (sym (same NSEC3 refl) ∙ k));
      },
      signature,
    )

  each : (n : Name) (s : RRset) → set_at put n NSEC ≡ Some s → IsSignedSet origin put n s
  each n s e = by (is_renewed origin after keys n) refl
    where
      by : (b : Bool) → is_renewed origin after keys n ≡ b → IsSignedSet origin put n s
      by true h = made_signed origin after put ttl serial zone low soa is.others held n s e (is.anew n h)
      by false h = kept n s e h

  stays_signed : IsSignedNsecChain origin put
  stays_signed = signed_from origin put stands (is.others origin SOA refl ∙ soa) held each

pub renewed_stays_chain : RenewedStaysChain
renewed_stays_chain origin m after put keys ttl serial zone stands low soa told stood was is =
    stays_signed origin m after put keys ttl serial zone stands low soa told stood was is
