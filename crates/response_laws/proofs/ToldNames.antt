-- The records shown tell of each name of which the response says something, and are the zone's
use Rattle.std.proofs.Common.{◌≡◌, true, false, List, refl, sym, ap, ◌∙◌, subst, inl}
use Rattle.std.specs.Prelude.{Some, option_map}
use Rattle.zone_proto.specs.Names.{Name, lower, IsAbove, wildcard_under}
use Rattle.zone_proto.specs.Sets.{RRset}
use Rattle.zone_proto.specs.Types.{NS, NSEC, NSEC3}
use Rattle.zone_proto.proofs.Members.{In}
use Rattle.zone_proto.proofs.Names.NameTree.{above_test}
use Rattle.zone_map.specs.Wildcards.{exists, closest_encloser}
use Rattle.zone_map.specs.Zones.{set_at, owns_at_or_below}
use Rattle.zone_denial.specs.Chains.{chain_sets}
use Rattle.zone_denial.specs.NsecDenial.{nsec_encloser}
use Rattle.zone_denial.specs.WildcardLaws.{OwnsNone}
use Rattle.zone_denial.proofs.Chain.NsecLists.{off_circle}
use Rattle.zone_denial.proofs.Chains.ChainSets.{one_kind}
use Rattle.zone_denial.proofs.Chains.NsecAskedWildcard.{exists_is, enclosers_agree}
use Rattle.denial_validation.specs.NsecRecords.{read_nsec}
use Rattle.denial_laws.specs.Chains.{IsInScopeOfChain}
use Rattle.denial_laws.specs.Scope.{read, AreOfZone}
use Rattle.denial_laws.proofs.Chains.Readings.{record_at, read_set}
use Rattle.denial_laws.proofs.Chains.Speaking.{below_origin}
use Rattle.denial_laws.proofs.Chains.Wildcards.{undnamed}
use Rattle.zone_response.specs.Queries.{Zone, Query, inquiry}
use Rattle.zone_response.specs.Responses.{negative_ttl, ds_at, end_sets}
use Rattle.zone_response.specs.Sections.{Sections}
use Rattle.zone_response.specs.Wildcards.{source_of_synthesis}
use Rattle.response_laws.specs.HashedSayings.{IsReached}
use Rattle.response_laws.specs.ProvedSayings.{DeniesByNsec, shown}
use Rattle.response_laws.proofs.LastNames.{IsReferred}
use Rattle.response_laws.proofs.LentSets.{exists_kept, encloser_kept, reached_kept, unreferred_kept}
use Rattle.response_laws.proofs.Parts.{path_of, told_names, IsMadeOf}
use Rattle.response_laws.proofs.ReadSets.{nsec_reader, read_of_zone, read_proof}
use Rattle.response_laws.proofs.SaidNames.{reached_unturned, reached_cut, authorities_are, authority_of}
use Rattle.response_laws.proofs.SentSets.{IsSentSet, authority_part}
use Rattle.response_laws.proofs.Stepped.{IsUndiverted}
use Rattle.response_laws.proofs.Told.{IsReported, has_closest}

-- ---- names that are judged

-- what denies has no sets of NSEC3
pub no_nsec3 : (z : Zone) → DeniesByNsec z → OwnsNone z.denials NSEC3
no_nsec3 z d = subst (λ m. OwnsNone m NSEC3) (sym (d.denials ∙ ap (λ k. chain_sets k z.sets) d.kind)) (one_kind z.sets d.zone).nsec

concluded : (z : Zone) → DeniesByNsec z → (y : Name) → IsReached z.origin z.sets y → IsInScopeOfChain z.origin z.denials y
concluded z d y r =
    let k = reached_kept z d.denials y r in
    record { zone = d.chain; one_kind = no_nsec3 z d; unreferred = unreferred_kept z d.denials d.top; inside = k.inside; uncut = k.uncut; no_dname = k.no_dname }

-- the search ends at a name that nothing turns
pub judged_unturned : (z : Zone) (q : Query) → DeniesByNsec z → (y : Name) → IsUndiverted (inquiry z q) y → IsInScopeOfChain z.origin z.denials y
judged_unturned z q d y u = concluded z d y (reached_unturned z q d.top.no_dname y u)

-- or at a cut
pub judged_cut : (z : Zone) (q : Query) → DeniesByNsec z → (y : Name) (c : RRset) → IsReferred (inquiry z q) y c → (set_at z.sets (lower c.owner) NS ≡ Some c) × IsInScopeOfChain z.origin z.denials (lower c.owner)
judged_cut z q d y c h = let k = reached_cut z q d.top.no_dname d.zone y c h in (k.stands, concluded z d (lower c.owner) k.reached)

-- ---- a name that isn't there

-- it owns nothing, nor does a name below it
pub unowned : (z : Zone) (d : DeniesByNsec z) (y : Name) → exists z.sets y ≡ false → owns_at_or_below z.denials y ≡ false
unowned z d y absent = sym (exists_is z.origin z.denials d.chain (no_nsec3 z d) y) ∙ exists_kept z d.denials y ∙ absent

-- its wildcard is the one under the encloser that the chain has
pub wildcard_name_is : (z : Zone) (d : DeniesByNsec z) (y : Name) → IsInScopeOfChain z.origin z.denials y → exists z.sets y ≡ false
    → (closest_encloser z.denials y ≡ Some (nsec_encloser z.origin z.denials y)) × (source_of_synthesis z.sets y ≡ Some (wildcard_under (nsec_encloser z.origin z.denials y)))
wildcard_name_is z d y j absent =
    let over : IsAbove z.origin y = below_origin z.origin z.denials y j (off_circle z.denials y (unowned z d y absent)) in
    let e = enclosers_agree z.origin z.denials d.chain (no_nsec3 z d) y ((above_test z.origin y).1 over) j.uncut (undnamed z.origin z.denials y j) in
    (e, ap (option_map wildcard_under) (sym (encloser_kept z d.denials y) ∙ e))

-- ---- what is shown

module _ (z : Zone) (q : Query) (r : Sections) (d : DeniesByNsec z) (signed : q.signed ≡ true) (h : IsMadeOf z q r) where
  abbrev front : List RRset
  front = end_sets (ds_at z.sets (path_of z q).end) true h.soa (path_of z q).end

  pub is_stated : (y : Name) (j : IsInScopeOfChain z.origin z.denials y) → In y (told_names z q (path_of z q).end) → IsReported z.origin z.denials j.zone (shown r) y
  is_stated y j i =
      let c = has_closest z.origin z.denials y j in
      record {
        owner = c.owner;
        among =
            subst (λ (sets : List RRset). In (record_at z.origin z.denials j.zone c.owner) (read sets)) (sym (authorities_are z q r d.zone signed h))
            (read_proof read_nsec NSEC nsec_reader (negative_ttl h.soa) h.proofs c.set (record_at z.origin z.denials j.zone c.owner) (h.is_stated d.kind signed y c.set i c.closest)
            (subst (In (record_at z.origin z.denials j.zone c.owner)) (sym (read_set z.origin z.denials j.zone c.owner c.set c.stands)) (inl refl)) front);
        where' = c.where';
      }

  -- each set is one of those that the zone lends
  pub authority_is : (s : RRset) → In s r.authorities → IsSentSet z.denials (authority_part s) s
  authority_is = authority_of z q r d.zone signed h d.denials NSEC refl (h.owners d.kind)

  pub shown_of_zone : AreOfZone z.denials (shown r)
  shown_of_zone = read_of_zone read_nsec NSEC nsec_reader z.denials d.chain.zone r.authorities authority_is
