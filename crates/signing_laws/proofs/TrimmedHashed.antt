-- A zone that gets its NSEC3 sets with trimmed lists has a chain of them
use Rattle.std.proofs.Common.{◌≡◌, ℕ, Bool, List, refl, sym, ap, ◌∙◌, subst, inl}
use Rattle.std.specs.Prelude.{Option, Some}
use Rattle.std.specs.List.{Contains}
use Rattle.zone_proto.specs.declared.rdata.denial.NSEC3PARAM.{NSEC3PARAM as Nsec3Parameters}
use Rattle.zone_proto.specs.HashedOwners.{hashed_owner}
use Rattle.zone_proto.specs.Names.{Name}
use Rattle.zone_proto.specs.Sets.{RRset}
use Rattle.zone_proto.specs.Types.{SOA, NSEC3}
use Rattle.zone_proto.proofs.Members.{In-Contains, Contains-In}
use Rattle.zone_map.specs.Zones.{Sets, IsZone, set_at, owns}
use Rattle.zone_denial.specs.Chains.{IsInNsec3Chain}
use Rattle.zone_denial.specs.Nsec3Circle.{nsec3_types}
use Rattle.zone_denial.specs.Nsec3Names.{nsec3_names}
use Rattle.zone_denial.specs.Nsec3Zones.{IsCircleName, HasDistinctDigests}
use Rattle.zone_denial.proofs.Hashed.Nsec3Owners.{same_value}
use Rattle.zone_denial.proofs.Hashed.Nsec3SameNames.{same_names}
use Rattle.zone_trimming.proofs.TrimmedLists.{left}
use Rattle.signing_laws.specs.TrimmedHashedChains.{HasTrimmedNsec3Sets, TrimmedIsNsec3Chain}
use Rattle.signing_laws.proofs.HashedLists.{no_hashed, empty, right_list, nsec_listed, nsec_owned}
use Rattle.signing_laws.proofs.HashedNames.{begins, between, authoritative, complete}
use Rattle.signing_laws.proofs.HashedSets.{IsTrimmedSet, named, set_stands, name_of_owner}

module _ (origin : Name) (beside m after : Sets) (hash : Name → Option (List ℕ)) (parameters : Nsec3Parameters) (ttl serial : ℕ) (zone : IsZone after) (soa : owns m origin SOA ≡ Bool.true) (h : HasTrimmedNsec3Sets origin m hash parameters ttl serial after) (apart : HasDistinctDigests (IsCircleName origin m parameters.opt_out) hash) where
  abbrev names : List Name
  names = nsec3_names origin after parameters.opt_out

  same : names ≡ nsec3_names origin m parameters.opt_out
  same = same_names origin m after h.others parameters.opt_out

  has_soa : owns after origin SOA ≡ Bool.true
  has_soa = h.others origin SOA refl refl ∙ soa

  -- the set of a name of the chain is as the chain has it
  on_chain : (n : Name) (d : List ℕ) (s : RRset) → Contains names n → IsTrimmedSet origin m after hash parameters ttl serial h apart n d s → IsInNsec3Chain origin beside after hash parameters names n d s
  on_chain n d s c is =
      let inside = (authoritative origin after parameters.opt_out h.announced n c).0 in
      record {
        single = is.single;
        types = left (nsec3_types origin after n);
        says = is.says;
        right = right_list origin after h.announced has_soa n inside;
        nsec = λ e. (nsec_listed origin after h.announced has_soa n inside e, λ k. inl (nsec_owned origin after h.announced has_soa n inside k));
        no_hashed = no_hashed origin after h.announced has_soa n;
        empty = empty origin after h.announced has_soa n;
      }

  one_for_each : (n : Name) (d : List ℕ) → Contains names n → hash n ≡ Some d → (s : RRset) × (set_at after (hashed_owner origin d) NSEC3 ≡ Some s) × IsInNsec3Chain origin beside after hash parameters names n d s
  one_for_each n d c e =
      let i = Contains-In n (nsec3_names origin m parameters.opt_out) (subst (λ ns. Contains ns n) same c) in
      let r = set_stands origin m after hash parameters ttl serial h apart n i in
      let is_digest : apart.digest n ≡ d =
      same_value (apart.digest n) d (sym (apart.answers n (named origin m after hash parameters ttl serial h apart n i)) ∙ e) in
      subst (λ w. (s : RRset) × (set_at after (hashed_owner origin w) NSEC3 ≡ Some s) × IsInNsec3Chain origin beside after hash parameters names n w s) is_digest
      (r.0, r.1, on_chain n (apart.digest n) r.0 c r.2)

  no_other : (o : Name) → owns after o NSEC3 ≡ Bool.true → (n : Name) × (d : List ℕ) × Contains names n × (hash n ≡ Some d) × (o ≡ hashed_owner origin d)
  no_other o k =
      let r = name_of_owner origin m after hash parameters ttl serial h apart o k in (
        r.0,
        apart.digest r.0,
        subst (λ ns. Contains ns r.0) (sym same) (In-Contains r.0 (nsec3_names origin m parameters.opt_out) r.1),
        apart.answers r.0 (named origin m after hash parameters ttl serial h apart r.0 r.1),
        r.2,
      )

pub trimmed_is_nsec3_chain : TrimmedIsNsec3Chain
trimmed_is_nsec3_chain origin beside m after hash parameters ttl serial zone soa h apart = record {
  zone = zone;
  begins = begins origin after parameters.opt_out h.announced;
  between = between origin after parameters.opt_out h.announced;
  authoritative = authoritative origin after parameters.opt_out h.announced;
  complete = complete origin after parameters.opt_out h.announced;
  one_for_each = one_for_each origin beside m after hash parameters ttl serial zone soa h apart;
  no_other = no_other origin beside m after hash parameters ttl serial zone soa h apart;
  announced = h.announced;
}
