-- What a zone has of a name is the same among the sets that it lends for its denials, sets of denial aside
use Rattle.std.proofs.Common.{◌≡◌, ℕ, false, refl, sym, ap, ◌∙◌, subst, true≢false}
use Rattle.std.specs.Prelude.{Option, Some, None, find, is_some, option_map}
use Rattle.zone_proto.specs.Names.{Name, wildcard_under, proper_ancestors}
use Rattle.zone_proto.specs.Sets.{RRset}
use Rattle.zone_proto.specs.Types.{NS, SOA, DS}
use Rattle.zone_map.specs.Upserts.{is_denial_type}
use Rattle.zone_map.specs.Wildcards.{exists, closest_encloser}
use Rattle.zone_map.specs.Zones.{set_at, owns, IsZone}
use Rattle.zone_denial.specs.Authority.{is_below_cut}
use Rattle.zone_denial.specs.Chains.{chain_sets}
use Rattle.zone_denial.proofs.Chains.ChainSets.{sets_are, is_zone}
use Rattle.zone_denial.proofs.Chains.SameSets.{set_same, exists_same, below_cut_same}
use Rattle.denial_laws.specs.Scope.{Unreferred}
use Rattle.denial_laws.specs.Soundness.{IsUnsignedDelegation}
use Rattle.zone_response.specs.Queries.{Zone, HasOwnDenials}
use Rattle.zone_response.specs.Wildcards.{source_of_synthesis}
use Rattle.response_laws.specs.HashedSayings.{IsReached}
use Rattle.response_laws.specs.ProvedSayings.{IsUnreferred}

module _ (z : Zone) (same : z.denials ≡ chain_sets z.nx_proof_kind z.sets) where
  -- ---- sets

  pub set_kept : (n : Name) (t : ℕ) → is_denial_type t ≡ false → set_at z.denials n t ≡ set_at z.sets n t
  set_kept n t other = ap (λ m. set_at m n t) same ∙ set_same z.nx_proof_kind z.sets n t other

  pub owns_kept : (n : Name) (t : ℕ) → is_denial_type t ≡ false → owns z.denials n t ≡ owns z.sets n t
  owns_kept n t other = ap is_some (set_kept n t other)

  -- ---- names

  pub exists_kept : (n : Name) → exists z.denials n ≡ exists z.sets n
  exists_kept n = ap (λ m. exists m n) same ∙ exists_same z.nx_proof_kind z.sets n

  pub encloser_kept : (n : Name) → closest_encloser z.denials n ≡ closest_encloser z.sets n
  encloser_kept n = λ i. find (λ a. exists_kept a i) (proper_ancestors n)

  pub wildcard_kept : (n : Name) → source_of_synthesis z.denials n ≡ source_of_synthesis z.sets n
  wildcard_kept n = ap (option_map wildcard_under) (encloser_kept n)

  pub reached_kept : (n : Name) → IsReached z.origin z.sets n → IsReached z.origin z.denials n
  reached_kept n r = record {
    inside = r.inside;
    uncut = ap (λ m. is_below_cut z.origin m n) same ∙ below_cut_same z.nx_proof_kind z.origin z.sets n ∙ r.uncut;
    no_dname = λ a u. owns_kept a 39 refl ∙ r.no_dname a u;
  }

  pub unreferred_kept : IsUnreferred z → Unreferred z.origin z.denials
  unreferred_kept top a u ns = owns_kept a SOA refl ∙ top.unreferred a u (sym (owns_kept a NS refl) ∙ ns)

  pub delegation_kept : (n : Name) → IsUnsignedDelegation z.origin z.denials n → IsUnsignedDelegation z.origin z.sets n
  delegation_kept n d = record {
    below = d.below;
    delegated = sym (owns_kept n NS refl) ∙ d.delegated;
    unsigned = sym (owns_kept n DS refl) ∙ d.unsigned;
    no_apex = sym (owns_kept n SOA refl) ∙ d.no_apex;
  }

  -- ---- they are sets of the zone

  module _ (zone : IsZone z.sets) where
    pub lends : HasOwnDenials z
    lends = record {
      zone = subst IsZone (sym same) (is_zone z.nx_proof_kind z.sets zone);
      own = λ n t s e. ((sets_are z.nx_proof_kind z.sets zone n t s).0 (ap (λ m. set_at m n t) (sym same) ∙ e)).0;
    }

    pub unowned_kept : (n : Name) (t : ℕ) → owns z.sets n t ≡ false → owns z.denials n t ≡ false
    unowned_kept n t none = by (set_at z.denials n t) refl
      where
        by : (o : Option RRset) → set_at z.denials n t ≡ o → is_some o ≡ false
        by None e = refl
        by (Some s) e = absurd (true≢false (sym (ap is_some (lends.own n t s e)) ∙ none))
