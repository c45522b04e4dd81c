-- The names that get an NSEC3 set with their digests, where the hash tells them apart: each name is there once, and the next
-- one has the next digest
use Rattle.std.proofs.Common.{◌≡◌, ℕ, Bool, List, refl, sym, ap, ◌∙◌, subst, Ordering, Less, Equal, Greater}
use Rattle.std.specs.Prelude.{Option, Some, filter_map, option_map}
use Rattle.std.specs.List.Sorted.{IsStrictlySortedBy}
use Rattle.std.specs.Ordering.{ordering_then}
use Rattle.std.proofs.lemmas.Cmp.{then_total, on_total, tied_itself}
use Rattle.zone_proto.specs.Names.{Name, name_cmp, octets_cmp}
use Rattle.zone_proto.proofs.Members.{In, In-Contains, In-filter_map, In-from_filter_map}
use Rattle.zone_proto.proofs.Ordering.Orders.{IsOrder}
use Rattle.zone_proto.proofs.Names.Tree.{name_order}
use Rattle.zone_map.specs.Zones.{Sets}
use Rattle.zone_denial.specs.Covering.{next_around}
use Rattle.zone_denial.specs.Nsec3Circle.{digests, next_digest}
use Rattle.zone_denial.specs.Nsec3Names.{nsec3_names}
use Rattle.zone_denial.specs.Nsec3Sets.{HashedName, hashed_cmp, hashed_names}
use Rattle.zone_denial.specs.Nsec3Zones.{IsCircleName, HasDistinctDigests}
use Rattle.zone_denial.proofs.Hashed.CircleImages.{IsImage, next_image}
use Rattle.zone_denial.proofs.InOrder.{In-in_order, In-from_in_order, in_order_ascends}
use Rattle.zone_denial.proofs.Hashed.Nsec3Owners.{octets_order, digest_among, name_of_among}

pub hashed_order : IsOrder hashed_cmp
hashed_order = record {
  total = then_total (on_total (λ (h : HashedName). h.digest) octets_order.total) (on_total (λ (h : HashedName). h.name) name_order.total);
  exact = λ h k e. by h k (octets_cmp h.digest k.digest) refl e;
}
  where
    by : (h k : HashedName) (r : Ordering) → octets_cmp h.digest k.digest ≡ r → ordering_then r (name_cmp h.name k.name) ≡ Equal → h ≡ k
    by h k Less q e = absurd cc
    by h k Equal q e =
        let same = octets_order.exact h.digest k.digest q in
        let named = name_order.exact h.name k.name e in
        λ i. record { digest = same i; name = named i }
    by h k Greater q e = absurd cc

pub hashed_ascends : (origin : Name) (m : Sets) (hash : Name → Option (List ℕ)) (opt_out : Bool) → IsStrictlySortedBy hashed_cmp (hashed_names origin m hash opt_out)
hashed_ascends origin m hash opt_out = in_order_ascends hashed_order (filter_map (λ n. option_map (λ d. record { digest = d; name = n }) (hash n)) (nsec3_names origin m opt_out))

module _ (origin : Name) (m : Sets) (hash : Name → Option (List ℕ)) (opt_out : Bool) (apart : HasDistinctDigests (IsCircleName origin m opt_out) hash) where
  abbrev names : List Name
  names = nsec3_names origin m opt_out

  abbrev all : List HashedName
  all = hashed_names origin m hash opt_out

  abbrev with_digest : Name → Option HashedName
  with_digest n = option_map (λ d. record { digest = d; name = n }) (hash n)

  -- a name of the circle with its digest
  abbrev pub hashed : Name → HashedName
  hashed n = record { digest = apart.digest n; name = n }

  pub on_circle : (n : Name) → In n names → IsCircleName origin m opt_out n
  on_circle n i = In-Contains n names i

  answered : (n : Name) → In n names → with_digest n ≡ Some (hashed n)
  answered n i = ap (option_map (λ d. record { digest = d; name = n })) (apart.answers n (on_circle n i))

  -- ---- these are the names of the circle with their digests

  pub hashed_in : (n : Name) → In n names → In (hashed n) all
  hashed_in n i = In-in_order hashed_order (hashed n) (filter_map with_digest names) (In-filter_map with_digest n (hashed n) names i (answered n i))

  pub name_of_hashed : (h : HashedName) → In h all → (n : Name) × In n names × (h ≡ hashed n)
  name_of_hashed h i =
      let r = In-from_filter_map with_digest h names (In-from_in_order hashed_order h (filter_map with_digest names) i) in
      (r.0, r.1, same h (hashed r.0) (sym r.2 ∙ answered r.0 r.1))
    where
      same : (h k : HashedName) → Some h ≡ Some k → h ≡ k
      same h k e = cc

  -- ---- in the order of their digests, which differ

  by_digest : (n k : Name) → In n names → In k names → hashed_cmp (hashed n) (hashed k) ≡ octets_cmp (apart.digest n) (apart.digest k)
  by_digest n k i j = by (octets_cmp (apart.digest n) (apart.digest k)) refl
    where
      by : (r : Ordering) → octets_cmp (apart.digest n) (apart.digest k) ≡ r → ordering_then r (name_cmp n k) ≡ r
      by Less e = refl
      by Equal e =
          let same = apart.apart n k (on_circle n i) (on_circle k j) (octets_order.exact (apart.digest n) (apart.digest k) e) in
          ap (name_cmp n) (sym same) ∙ tied_itself name_order.total n
      by Greater e = refl

  -- so their digests are those of the circle, in the same order
  digest_image : IsImage hashed_cmp octets_cmp (λ h. h.digest) all (digests hash names)
  digest_image = record {
    into = λ h i. let r = name_of_hashed h i in subst (λ d. In d (digests hash names)) (ap (λ k. k.digest) (sym r.2)) (digest_among apart names on_circle r.0 r.1);
    from = λ d i. let r = name_of_among apart names on_circle d i in (hashed r.0, hashed_in r.0 r.1, sym r.2);
    agree = λ h k i j.
        let r = name_of_hashed h i in
        let s = name_of_hashed k j in
        (λ l. hashed_cmp (r.2 l) (s.2 l)) ∙ by_digest r.0 s.0 r.1 s.1 ∙ (λ l. octets_cmp (sym r.2 l).digest (sym s.2 l).digest);
  }

  pub next_has_next_digest : (n : Name) → In n names → (next_around hashed_cmp all (hashed n)).digest ≡ next_digest (digests hash names) (apart.digest n)
  next_has_next_digest n i = next_image hashed_order octets_order all (digests hash names) digest_image (hashed n) (hashed_in n i)
