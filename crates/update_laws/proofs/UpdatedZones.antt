-- A zone that is served after an update denies as was asked for, and so each of its responses proves what it says
use Rattle.std.proofs.Common.{◌≡◌, ◌⊎◌, ℕ, Bool, true, false, List, refl, sym, ap, ◌∙◌, subst, inl, inr}
use Rattle.std.specs.Prelude.{Option, Some}
use Rattle.zone_proto.specs.declared.nx_proof_kind.NxProofKind.{NxProofKind}
use Rattle.zone_proto.specs.declared.nx_proof_kind.NxProofKind.TheVariants as kind
use Rattle.zone_proto.specs.declared.rdata.denial.NSEC3PARAM.{NSEC3PARAM as Nsec3Parameters}
use Rattle.zone_proto.specs.Names.{Name, IsName, lower, IsAbove}
use Rattle.zone_proto.specs.Types.{NS, SOA, DNAME}
use Rattle.zone_proto.proofs.Names.Tree.{above_cases}
use Rattle.zone_map.specs.Zones.{Sets, IsZone, owns}
use Rattle.zone_sha1.specs.Digests.{name_digest}
use Rattle.zone_denial.specs.Chains.{chain_sets, IsNsecChain, IsNsec3Chain}
use Rattle.zone_denial.specs.Nsec3Names.{nsec3_names}
use Rattle.zone_denial.specs.Nsec3Zones.{hash_with, HasDistinctDigests, IsCircleName}
use Rattle.zone_planning.specs.declared.plans.Plan.{Plan}
use Rattle.zone_response.specs.Queries.{Zone}
use Rattle.zone_response.specs.Responses.{IsResponse}
use Rattle.zone_update.specs.declared.entry.Entry.{Entry}
use Rattle.update_denials.specs.declared.preparing.Signing.{Signing}
use Rattle.response_laws.specs.HashedSayings.{zone_hash, DeniesByNsec3}
use Rattle.response_laws.specs.ProvedSayings.{IsUnreferred, DeniesByNsec}
use Rattle.response_laws.proofs.Responses.{response_proves_by_hashes, response_proves_what_it_says}
use Rattle.update_laws.specs.UpdatedZones.{IsUpdated, UpdatedDeniesByNsec, UpdatedDeniesByNsec3, UpdatedIsUnreferred, UpdatedProvesByHashes, UpdatedProvesWhatItSays}
use Rattle.update_laws.proofs.Faultless.{not_above}
use Rattle.update_laws.proofs.UpdatedSets as sets

module _ (old : Sets) (prerequisites changes : List Entry) (signing : Signing) (plan : Plan) (signatures : List (List ℕ)) (z : Zone) (u : IsUpdated old prerequisites changes signing plan signatures z) where
  abbrev after : Sets
  after = sets.after z.origin old prerequisites changes signing plan signatures u.is_prepared

  -- ---- nothing refers elsewhere

  as_after : (n : Name) (t : ℕ) → owns z.sets n t ≡ owns after n t
  as_after n t = ap (λ (m : Sets). owns m n t) u.sets

  pub unreferred : IsUnreferred z
  unreferred = record {
    unreferred = λ a at owned. of a owned (above_cases a z.origin at);
    no_dname = λ a above. none a above (owns z.sets a DNAME) refl;
  }
    where
      of : (a : Name) → owns z.sets a NS ≡ true → (a ≡ z.origin) ⊎ IsAbove a z.origin → owns z.sets a SOA ≡ true
      of a owned (inl e) = ap (λ w. owns z.sets w SOA) e ∙ as_after z.origin SOA ∙ sets.owns_soa z.origin old prerequisites changes signing plan signatures u.is_prepared
      of a owned (inr above) =
          absurd (not_above z.origin a (sets.servers_within z.origin old prerequisites changes signing plan signatures u.is_prepared a (sym (as_after a NS) ∙ owned)) above)

      none : (a : Name) → IsAbove a z.origin → (b : Bool) → owns z.sets a DNAME ≡ b → b ≡ false
      none a above false e = refl
      none a above true e =
          absurd (not_above z.origin a (sets.dnames_within z.origin old prerequisites changes signing plan signatures u.is_prepared a (sym (as_after a DNAME) ∙ e)) above)

  pub is_zone : IsZone z.sets
  is_zone = subst IsZone (sym u.sets) (sets.zone z.origin old prerequisites changes signing plan signatures u.is_prepared)

  -- where all sets are of the chain, what denies is all
  all_deny : (k : NxProofKind) → signing.request.nx_proof_kind ≡ k → chain_sets (Some k) after ≡ after → after ≡ z.denials
  all_deny k is stays =
      let same : chain_sets z.nx_proof_kind z.sets ≡ chain_sets (Some k) after = λ i. chain_sets ((u.kind ∙ ap Some is) i) (u.sets i) in
      sym (u.denials ∙ same ∙ stays)

  pub by_nsec : IsName z.origin → lower z.origin ≡ z.origin → signing.request.nx_proof_kind ≡ kind.Nsec → DeniesByNsec z
  by_nsec named low is = record {
    kind = u.kind ∙ ap Some is;
    zone = is_zone;
    denials = u.denials;
    chain = subst (IsNsecChain z.origin)
        (all_deny kind.Nsec is (sets.nsec_sets_stay z.origin old prerequisites changes signing plan signatures u.is_prepared is))
        (sets.nsec_chain z.origin old prerequisites changes signing plan signatures u.is_prepared is named low);
    top = unreferred;
  }

  module _ (parameters : Nsec3Parameters) (is : signing.request.nx_proof_kind ≡ kind.Nsec3 parameters.algorithm parameters.salt parameters.iterations parameters.opt_out) (hashes : z.digest_of ≡ name_digest)
      (apart : HasDistinctDigests (IsCircleName z.origin z.sets parameters.opt_out) (zone_hash z parameters))
    where
      apart_after : HasDistinctDigests (IsCircleName z.origin after parameters.opt_out) (hash_with name_digest parameters)
      apart_after =
          subst (λ (m : Sets). HasDistinctDigests (IsCircleName z.origin m parameters.opt_out) (hash_with name_digest parameters)) u.sets
          (subst (λ (d : ℕ → List ℕ → Name → ℕ → Option (List ℕ)). HasDistinctDigests (IsCircleName z.origin z.sets parameters.opt_out) (hash_with d parameters)) hashes apart)

      abbrev kind_is : NxProofKind
      kind_is = kind.Nsec3 parameters.algorithm parameters.salt parameters.iterations parameters.opt_out

      pub chained : IsNsec3Chain z.origin z.sets z.denials (zone_hash z parameters) parameters (nsec3_names z.origin z.sets parameters.opt_out)
      chained =
          let chain = sets.nsec3_chain z.origin old prerequisites changes signing plan signatures u.is_prepared parameters is apart_after z.sets in
          let stays = sets.nsec3_sets_stay z.origin old prerequisites changes signing plan signatures u.is_prepared parameters is apart_after in
          let denials = subst (λ (m : Sets). IsNsec3Chain z.origin z.sets m (hash_with name_digest parameters) parameters (nsec3_names z.origin after parameters.opt_out)) (all_deny kind_is is stays) chain in
          let names = subst (λ (m : Sets). IsNsec3Chain z.origin z.sets z.denials (hash_with name_digest parameters) parameters (nsec3_names z.origin m parameters.opt_out)) (sym u.sets) denials in
          subst (λ (d : ℕ → List ℕ → Name → ℕ → Option (List ℕ)). IsNsec3Chain z.origin z.sets z.denials (hash_with d parameters) parameters (nsec3_names z.origin z.sets parameters.opt_out)) (sym hashes) names

      -- its chain goes through the names of the zone
      abbrev pub by_hashes : DeniesByNsec3 z parameters
      by_hashes = record {
        flag = parameters.opt_out;
        kind = u.kind ∙ ap Some is;
        zone = is_zone;
        denials = u.denials;
        names = nsec3_names z.origin z.sets parameters.opt_out;
        chain = chained;
        top = unreferred;
      }

pub updated_is_unreferred : UpdatedIsUnreferred
updated_is_unreferred = unreferred

pub updated_denies_by_nsec : UpdatedDeniesByNsec
updated_denies_by_nsec old prerequisites changes signing plan signatures z named low is u = by_nsec old prerequisites changes signing plan signatures z u named low is

pub updated_proves_what_it_says : UpdatedProvesWhatItSays IsResponse
updated_proves_what_it_says old prerequisites changes signing plan signatures z q r named low is u signed response =
    response_proves_what_it_says z q r (by_nsec old prerequisites changes signing plan signatures z u named low is) signed response

pub updated_denies_by_nsec3 : UpdatedDeniesByNsec3
updated_denies_by_nsec3 old prerequisites changes signing plan signatures z parameters is u hashes apart = by_hashes old prerequisites changes signing plan signatures z u parameters is hashes apart

pub updated_proves_by_hashes : UpdatedProvesByHashes IsResponse
updated_proves_by_hashes old prerequisites changes signing plan signatures z parameters q r is u hashes apart signed response =
    response_proves_by_hashes z parameters q r (by_hashes old prerequisites changes signing plan signatures z u parameters is hashes apart) signed response
