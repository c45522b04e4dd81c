-- A zone with a circle denies by a chain
use Rattle.std.proofs.Common.{◌≡◌, Bool, sym, ap, ◌∙◌, subst}
use Rattle.std.specs.Prelude.{Some}
use Rattle.zone_proto.specs.declared.nx_proof_kind.NxProofKind.TheVariants as kind
use Rattle.zone_proto.specs.declared.rdata.denial.NSEC3PARAM.{NSEC3PARAM as Nsec3Parameters}
use Rattle.zone_proto.specs.Types.{NSEC}
use Rattle.zone_denial.specs.Chains.{chain_sets, IsNsecChain, IsNsec3Chain}
use Rattle.zone_denial.specs.Nsec3Names.{nsec3_names}
use Rattle.zone_denial.specs.Nsec3Zones.{IsNsec3Zone}
use Rattle.zone_denial.specs.WildcardLaws.{OwnsNone}
use Rattle.zone_denial.proofs.Chains.Circles.{nsec_circle_is_chain, nsec_circle_stays, nsec3_circle_is_chain, nsec3_circle_stays}
use Rattle.zone_response.specs.Queries.{Zone}
use Rattle.response_laws.specs.HashedSayings.{zone_hash, DeniesByNsec3}
use Rattle.response_laws.specs.ProvedSayings.{IsUnreferred}
use Rattle.response_laws.specs.SecuredZones.{NsecZonesDeny, Nsec3ZonesDeny}

pub nsec_zones_deny : NsecZonesDeny
nsec_zones_deny z nsec same circle none top = record {
  kind = nsec;
  zone = circle.zone;
  denials = same ∙ sym (ap (λ k. chain_sets k z.sets) nsec ∙ nsec_circle_stays z.origin z.sets circle none);
  chain = subst (IsNsecChain z.origin) (sym same) (nsec_circle_is_chain z.origin z.sets circle);
  top = top;
}

-- its chain goes through the names of the circle
module _ (z : Zone) (parameters : Nsec3Parameters) (flag : Bool) (hashes : z.nx_proof_kind ≡ Some (kind.Nsec3 parameters.algorithm parameters.salt parameters.iterations flag)) (same : z.denials ≡ z.sets)
    (circle : IsNsec3Zone z.origin z.sets (zone_hash z parameters) parameters) (none : OwnsNone z.sets NSEC) (top : IsUnreferred z)
  where
    abbrev pub denies_by_circle : DeniesByNsec3 z parameters
    denies_by_circle = record {
      flag = flag;
      kind = hashes;
      zone = circle.zone;
      denials = same ∙ sym (ap (λ k. chain_sets k z.sets) hashes ∙ nsec3_circle_stays z.origin z.sets (zone_hash z parameters) parameters circle none);
      names = nsec3_names z.origin z.sets parameters.opt_out;
      chain = subst (λ m. IsNsec3Chain z.origin z.sets m (zone_hash z parameters) parameters (nsec3_names z.origin z.sets parameters.opt_out)) (sym same)
          (nsec3_circle_is_chain z.origin z.sets z.sets (zone_hash z parameters) parameters circle);
      top = top;
    }

pub nsec3_zones_deny : Nsec3ZonesDeny
nsec3_zones_deny = denies_by_circle
