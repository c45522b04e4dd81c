-- On a chain of NSEC3 sets, the set that covers a hashed name off it is that of a name whose digest and the next
-- one cover the digest of the hashed name
use Rattle.std.proofs.Common.{◌≡◌, ℕ, true, List, refl, sym, ap, ◌∙◌, subst, Less, is_lt}
use Rattle.std.specs.Prelude.{Option, Some, None, filter}
use Rattle.std.specs.Option.{option_or}
use Rattle.zone_proto.specs.declared.rdata.denial.NSEC3PARAM.{NSEC3PARAM as Nsec3Parameters}
use Rattle.zone_proto.specs.Names.{Name, name_cmp, octets_cmp}
use Rattle.zone_proto.specs.Order.{is_before, greatest}
use Rattle.zone_proto.specs.Types.{NSEC3}
use Rattle.zone_proto.proofs.Members.{In, In-filter, In-from_filter}
use Rattle.zone_proto.proofs.Ordering.Orders.{IsTop, less_test, greatest_is, greatest_none, has_greatest}
use Rattle.zone_proto.proofs.Names.Tree.{name_order}
use Rattle.zone_map.specs.Zones.{Sets, owners}
use Rattle.zone_map.proofs.Owned.{owner_in}
use Rattle.zone_denial.specs.Chains.{IsNsec3Chain}
use Rattle.zone_denial.specs.Covering.{covers}
use Rattle.zone_denial.specs.Nsec3Circle.{digests, next_digest}
use Rattle.zone_denial.specs.Nsec3Denial.{cover_owner}
use Rattle.zone_denial.specs.Nsec3Zones.{IsHashedOn, HasDistinctDigests}
use Rattle.zone_denial.proofs.Hashed.CoveringPairs.{IsLastBefore, before_it, last_of_all, last_covers}
use Rattle.zone_denial.proofs.Chains.Nsec3Names.{origin_in}
use Rattle.zone_denial.proofs.Chains.Nsec3Owners.{owner, named_hashed, named_owns, owners_as_digests, name_of_owner, digest_in, name_of_digest}
use Rattle.zone_denial.proofs.Hashed.Nsec3Owners.{octets_order}

module _ {origin : Name} {beside m : Sets} {hash : Name → Option (List ℕ)} {parameters : Nsec3Parameters} {names : List Name} {x : Name} (zone : IsNsec3Chain origin beside m hash parameters names) (apart : HasDistinctDigests (IsHashedOn names x) hash) where
  abbrev all_digests : List (List ℕ)
  all_digests = digests hash names

  named_owner : (n : Name) → In n names → In (owner zone apart n) (owners m NSEC3)
  named_owner n i = owner_in m (owner zone apart n) NSEC3 (named_owns zone apart n i)

  -- n is the name of the chain whose set covers c
  pub record IsCover (c n : Name) : Type 0 where
    pub on : In n names
    pub is_cover : cover_owner m (owner zone apart c) ≡ Some (owner zone apart n)
    pub covered : covers octets_cmp (apart.digest n) (next_digest all_digests (apart.digest n)) (apart.digest c) ≡ true

  module _ (c : Name) (hashed : IsHashedOn names x c) (off : In c names → ⊥) where
    abbrev earlier : List Name
    earlier = filter (λ o. is_before name_cmp o (owner zone apart c)) (owners m NSEC3)

    digest_off : In (apart.digest c) all_digests → ⊥
    digest_off i =
        let r = name_of_digest zone apart (apart.digest c) i in
        off (subst (λ w. In w names) (sym (apart.apart c r.0 hashed (named_hashed zone apart r.0 r.1) r.2)) r.1)

    -- a digest before the name's is that of an earlier owner
    earlier_owner : (d : List ℕ) → In d all_digests → octets_cmp d (apart.digest c) ≡ Less → (n : Name) × In n names × (d ≡ apart.digest n) × In (owner zone apart n) earlier
    earlier_owner d i less =
        let r = name_of_digest zone apart d i in
        let before : name_cmp (owner zone apart r.0) (owner zone apart c) ≡ Less =
        owners_as_digests zone apart r.0 c (named_hashed zone apart r.0 r.1) hashed ∙ ap (λ e. octets_cmp e (apart.digest c)) (sym r.2) ∙ less in
        (r.0, r.1, r.2, In-filter (λ o. is_before name_cmp o (owner zone apart c)) (owner zone apart r.0) (owners m NSEC3) (named_owner r.0 r.1) (ap is_lt before))

    same_order : (n k : Name) (d : List ℕ) → In n names → In k names → d ≡ apart.digest k → octets_cmp (apart.digest n) d ≡ Less → name_cmp (owner zone apart n) (owner zone apart k) ≡ Less
    same_order n k d i j e less = owners_as_digests zone apart n k (named_hashed zone apart n i) (named_hashed zone apart k j) ∙ ap (octets_cmp (apart.digest n)) (sym e) ∙ less

    -- the owner of the set that covers is the last before the name's or the last of all, and so is its digest
    last_earlier : (n : Name) → In n names → IsTop name_order earlier (owner zone apart n) → IsLastBefore octets_order all_digests (apart.digest c) (apart.digest n)
    last_earlier n i top =
        before_it
        (sym (owners_as_digests zone apart n c (named_hashed zone apart n i) hashed)
        ∙ less_test (name_cmp (owner zone apart n) (owner zone apart c)) (In-from_filter (λ o. is_before name_cmp o (owner zone apart c)) (owner zone apart n) (owners m NSEC3) top.among).1)
        (λ d j less more.
        let k = earlier_owner d j less in
        top.none_greater (owner zone apart k.0) k.3 (same_order n k.0 d i k.1 k.2 more))

    last_owner : (n : Name) → In n names → greatest name_cmp earlier ≡ None → IsTop name_order (owners m NSEC3) (owner zone apart n) → IsLastBefore octets_order all_digests (apart.digest c) (apart.digest n)
    last_owner n i none top =
        last_of_all
        (λ d j less. let k = earlier_owner d j less in greatest_none name_order earlier none (owner zone apart k.0) k.3)
        (λ d j more.
        let k = name_of_digest zone apart d j in
        top.none_greater (owner zone apart k.0) (named_owner k.0 k.1) (same_order n k.0 d i k.1 k.2 more))

    cover_from : (n : Name) → In n names → cover_owner m (owner zone apart c) ≡ Some (owner zone apart n) → IsLastBefore octets_order all_digests (apart.digest c) (apart.digest n) → IsCover c n
    cover_from n i e h = record {
      on = i;
      is_cover = e;
      covered = last_covers octets_order all_digests (apart.digest c) digest_off (apart.digest n) (digest_in zone apart n i) h;
    }

    pub has_cover : (n : Name) × IsCover c n
    has_cover = by (greatest name_cmp earlier) refl
      where
        by : (p : Option Name) → greatest name_cmp earlier ≡ p → (n : Name) × IsCover c n
        by (Some o) e =
            let top = greatest_is name_order earlier o e in
            let n = name_of_owner zone apart o (In-from_filter (λ o. is_before name_cmp o (owner zone apart c)) o (owners m NSEC3) top.among).0 in
            (n.0, cover_from n.0 n.1 (ap (λ p. option_or p (greatest name_cmp (owners m NSEC3))) e ∙ ap Some n.2) (last_earlier n.0 n.1 (subst (IsTop name_order earlier) n.2 top)))
        by None e =
            let g = has_greatest name_order (owners m NSEC3) (owner zone apart origin) (named_owner origin (origin_in names origin zone.begins)) in
            let n = name_of_owner zone apart g.0 g.2.among in
            (n.0, cover_from n.0 n.1 (ap (λ p. option_or p (greatest name_cmp (owners m NSEC3))) e ∙ g.1 ∙ ap Some n.2) (last_owner n.0 n.1 e (subst (IsTop name_order (owners m NSEC3)) n.2 g.2)))
