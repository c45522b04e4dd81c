-- What the sets of a denial by NSEC3 show: the record of the name, or those of its closest encloser and of what covers the next closer name
use Rattle.std.proofs.Common.{◌≡◌, ℕ, List, [], ◌∷◌, ◌++◌, sym, ap, ◌∙◌, subst, inl, inr}
use Rattle.std.specs.Prelude.{Option, Some, flat_map, option_and_then, option_to_list}
use Rattle.zone_proto.specs.declared.rdata.denial.NSEC3PARAM.{NSEC3PARAM as Nsec3Parameters}
use Rattle.zone_proto.specs.HashedOwners.{owner_or_refusal}
use Rattle.zone_proto.specs.Names.{Name}
use Rattle.zone_proto.specs.Sets.{RRset}
use Rattle.zone_proto.specs.Types.{NSEC3}
use Rattle.zone_proto.proofs.Members.{In, In-Contains, In-append_left, In-append_right, In-filter_map, In-from_filter_map, In-flat_map}
use Rattle.zone_map.specs.Zones.{Sets, set_at}
use Rattle.zone_denial.specs.Chains.{IsNsec3Chain}
use Rattle.zone_denial.specs.Nsec3Denial.{cover_owner}
use Rattle.zone_denial.specs.Nsec3Zones.{IsHashedOn, HasDistinctDigests}
use Rattle.zone_denial.proofs.Chains.Nsec3Covers.{IsCover, has_cover}
use Rattle.zone_denial.proofs.Chains.Nsec3Names.{IsEnclosed}
use Rattle.zone_denial.proofs.Chains.Nsec3Owners.{owner, set_of_named, is_owner}
use Rattle.denial_validation.specs.Nsec3Records.{Nsec3Record, read_nsec3}
use Rattle.denial_laws.specs.Nsec3Scope.{read_nsec3_sets}
use Rattle.denial_laws.proofs.Chains.Nsec3Readings.{record_of, shown}
use Rattle.denial_laws.proofs.Chains.Nsec3Shown.{IsCovering, is_covering}
use Rattle.denial_laws.proofs.Nsec3Readings.{from_read}
use Rattle.zone_response.specs.HashedDenials.{next_closer, owner_given, hashed_by, covering, wildcard_sets, present_sets}
use Rattle.response_laws.proofs.HashedBridges.{left_out_is, present_is}

-- what is read in sets is read where they are among others
pub read_among : (sets more : List RRset) → ((s : RRset) → In s sets → In s more) → (r : Nsec3Record) → In r (read_nsec3_sets sets) → In r (read_nsec3_sets more)
read_among sets more among r i =
    let s = from_read sets r i in
    let v = In-from_filter_map read_nsec3 r s.0.records s.2 in
    In-filter_map read_nsec3 v.0 r (flat_map (λ (s : RRset). s.records) more) (In-flat_map (λ (s : RRset). s.records) s.0 v.0 more (among s.0 s.1) v.1) v.2

-- ---- what a denial shows

module _ {origin : Name} {beside m : Sets} {hash : Name → Option (List ℕ)} {parameters : Nsec3Parameters} {names : List Name} {x : Name} (zone : IsNsec3Chain origin beside m hash parameters names) (apart : HasDistinctDigests (IsHashedOn names x) hash) where
  abbrev hashed : Name → Name
  hashed = hashed_by (λ n. owner_or_refusal origin (hash n))

  -- the records of the encloser a, and of what covers the next closer name c
  pub record IsEncloserShown (a c : Name) (rs : List Nsec3Record) : Type 0 where
    pub encloser : In (record_of zone apart a) rs
    pub cover : Name
    pub is_cover : IsCovering zone apart c cover
    pub has_cover : In (record_of zone apart cover) rs

  same_set : (s r : RRset) → Some s ≡ Some r → s ≡ r
  same_set s r e = cc

  -- of one in the chain its own set
  pub own_matched : In x names → In (record_of zone apart x) (read_nsec3_sets (present_sets origin m (hashed_by (λ n. owner_or_refusal origin (hash n))) x))
  own_matched i = subst (λ sets. In (record_of zone apart x) (read_nsec3_sets sets)) (sym (present_is zone apart i)) (shown zone apart (s.0 ∷ []) x i (λ r q. In-Contains r (s.0 ∷ []) (inl (same_set s.0 r (sym s.1 ∙ q)))))
    where
      s : (s : RRset) × (set_at m (owner zone apart x) NSEC3 ≡ Some s)
      s = let k = set_of_named zone apart x i in (k.0, k.1)

  -- of a name that was made from a wildcard what covers the name next closer to the wildcard's encloser
  pub cover_shown : (e c : Name) → next_closer x e ≡ Some c → IsHashedOn names x c → (In c names → ⊥)
      → (k : Name) × IsCovering zone apart c k × In (record_of zone apart k) (read_nsec3_sets (wildcard_sets origin m (hashed_by (λ n. owner_or_refusal origin (hash n))) x e))
  cover_shown e c is h off = (k.0, is_covering zone apart c k.0 k.1, subst (λ sets. In (record_of zone apart k.0) (read_nsec3_sets sets)) (sym sets_are) (shown zone apart (s.0 ∷ []) k.0 k.1.on (λ r q. In-Contains r (s.0 ∷ []) (inl (same_set s.0 r (sym s.1 ∙ q))))))
    where
      k : (k : Name) × IsCover zone apart c k
      k = has_cover zone apart c h off

      s : (s : RRset) × (set_at m (owner zone apart k.0) NSEC3 ≡ Some s)
      s = let v = set_of_named zone apart k.0 k.1.on in (v.0, v.1)

      sets_are : wildcard_sets origin m hashed x e ≡ s.0 ∷ []
      sets_are =
          ap (λ o. option_to_list (option_and_then (covering origin m hashed) o)) is
          ∙ ap (λ r. option_to_list (option_and_then (λ o. set_at m o NSEC3) (cover_owner m (owner_given r)))) (is_owner zone apart c h)
          ∙ ap (λ o. option_to_list (option_and_then (λ o. set_at m o NSEC3) o)) k.1.is_cover ∙ ap option_to_list s.1

  -- of another the closest encloser proof
  pub encloser_matched : (In x names → ⊥) → (a c : Name) → IsEnclosed names x a c → IsEncloserShown a c (read_nsec3_sets (present_sets origin m (hashed_by (λ n. owner_or_refusal origin (hash n))) x))
  encloser_matched off a c e = subst (λ sets. IsEncloserShown a c (read_nsec3_sets sets)) (sym (left_out_is zone apart a c e off)) (record {
    encloser = shown zone apart (wildcard_sets origin m hashed x a ++ match.0 ∷ []) a e.on (λ r g. In-Contains r (wildcard_sets origin m hashed x a ++ match.0 ∷ []) (In-append_right r (wildcard_sets origin m hashed x a) (match.0 ∷ []) (inl (same_set match.0 r (sym match.1 ∙ g)))));
    cover = k.0;
    is_cover = k.1;
    has_cover = read_among (wildcard_sets origin m hashed x a) (wildcard_sets origin m hashed x a ++ match.0 ∷ []) (λ s i. In-append_left s (wildcard_sets origin m hashed x a) (match.0 ∷ []) i) (record_of zone apart k.0) k.2;
  })
    where
      match : (s : RRset) × (set_at m (owner zone apart a) NSEC3 ≡ Some s)
      match = let s = set_of_named zone apart a e.on in (s.0, s.1)

      k : (k : Name) × IsCovering zone apart c k × In (record_of zone apart k) (read_nsec3_sets (wildcard_sets origin m hashed x a))
      k = cover_shown a c e.is_closer (inr (a, e.is_encloser, inl (e.closer_at, e.closer_below))) e.off
