-- The closest NSEC set of a name is that of its owner
use Rattle.std.proofs.Common.{◌≡◌, List, refl, sym, subst, inl, inr}
use Rattle.std.specs.Prelude.{Option, Some, None, option_to_list}
use Rattle.zone_proto.specs.Names.{Name, lower}
use Rattle.zone_proto.specs.Sets.{RRset}
use Rattle.zone_proto.specs.Types.{NSEC}
use Rattle.zone_proto.proofs.Members.{In}
use Rattle.zone_map.specs.Zones.{Sets, set_at, IsZone}
use Rattle.zone_denial.specs.NsecDenial.{closest_nsec}
use Rattle.zone_denial.proofs.Chain.DenialLists.{closest_is_owners}
use Rattle.response_laws.proofs.OwnerSets.{AreOwners}

-- each set is the NSEC set of its owner
abbrev pub AreOwnersNsec : Sets → List RRset → Type 0
AreOwnersNsec m sets = AreOwners NSEC m sets

module _ (m : Sets) (zone : IsZone m) where
  owners_set : (x : Name) (s : RRset) → closest_nsec m x ≡ Some s → set_at m (lower s.owner) NSEC ≡ Some s
  owners_set x s e = closest_is_owners m zone x (Some s) (sym e)

  abbrev pub closest_sets : Name → List RRset
  closest_sets x = option_to_list (closest_nsec m x)

  pub closest_owners : (x : Name) → AreOwnersNsec m (closest_sets x)
  closest_owners x = by (closest_nsec m x) refl
    where
      by : (o : Option RRset) → closest_nsec m x ≡ o → AreOwnersNsec m (option_to_list o)
      by (Some s) e r (inl q) = subst (λ v. set_at m (lower v.owner) NSEC ≡ Some v) q (owners_set x s e)
      by (Some s) e r (inr i) = absurd i
      by None e r i = absurd i

  pub is_closest : (x : Name) (s : RRset) → closest_nsec m x ≡ Some s → In s (closest_sets x)
  is_closest x s e = subst (λ (o : Option RRset). In s (option_to_list o)) (sym e) (inl refl)
