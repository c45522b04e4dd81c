-- The NSEC3 sets of a response: they are those of the zone's chain, and those of each denial are among them
use Rattle.std.proofs.Common.{◌≡◌, List, [], ◌∷◌, sym, ap, ◌∙◌, subst, inl, inr}
use Rattle.std.specs.Prelude.{Bool, Option, Some, None, fold}
use Rattle.std.specs.Option.{option_map_or}
use Rattle.zone_proto.specs.declared.nx_proof_kind.NxProofKind.TheVariants as kind
use Rattle.zone_proto.specs.declared.rdata.denial.NSEC3PARAM.{NSEC3PARAM as Nsec3Parameters}
use Rattle.zone_proto.specs.HashedOwners.{owner_or_refusal}
use Rattle.zone_proto.specs.Names.{Name, lower, wildcard_under}
use Rattle.zone_proto.specs.Sets.{RRset}
use Rattle.zone_proto.specs.Types.{NSEC3}
use Rattle.zone_proto.proofs.Members.{In}
use Rattle.zone_map.specs.Wildcards.{closest_encloser}
use Rattle.zone_map.specs.Zones.{Sets, set_at, IsZone}
use Rattle.zone_response.specs.Denials.{wildcard_proof, wildcard_proof_by, denial, denial_by, end_proof, with_wildcard_proof, proofs}
use Rattle.zone_response.specs.HashedDenials.{wildcard_sets, absent_sets, present_sets, hashed_by}
use Rattle.zone_response.specs.Queries.{Zone}
use Rattle.zone_response.specs.Steps.{End, referred, missing}
use Rattle.response_laws.specs.HashedSayings.{zone_hash}
use Rattle.response_laws.proofs.HashedSets.{of_wildcard_sets, of_absent, of_present}
use Rattle.response_laws.proofs.OwnerSets.{AreOwners, all_of, owners_of_all, kept_in_all, more_in_all}

-- the hashed owner of a name in a zone
abbrev pub zone_owner : Zone → Nsec3Parameters → Name → Name
zone_owner z parameters = hashed_by (λ n. owner_or_refusal z.origin (zone_hash z parameters n))

module _ (z : Zone) (zone : IsZone z.denials) (parameters : Nsec3Parameters) (flag : Bool) (hashes : z.nx_proof_kind ≡ Some (kind.Nsec3 parameters.algorithm parameters.salt parameters.iterations flag)) where
  abbrev m : Sets
  m = z.denials

  abbrev hashed : Name → Name
  hashed = zone_owner z parameters

  -- ---- of one name

  wildcard_proof_is : (x : Name) → wildcard_proof z x ≡ option_map_or (wildcard_sets z.origin m hashed x) (closest_encloser z.sets x) []
  wildcard_proof_is x = ap (λ k. wildcard_proof_by z k x) hashes

  absent_is : (x e : Name) → denial z x (Some (wildcard_under e)) ≡ absent_sets z.origin m hashed x e
  absent_is x e = ap (λ k. denial_by z k x (Some (wildcard_under e))) hashes

  present_is : (x : Name) → denial z x None ≡ present_sets z.origin m hashed x
  present_is x = ap (λ k. denial_by z k x None) hashes

  own_set : (o : Name) (s : RRset) → set_at m o NSEC3 ≡ Some s → set_at m (lower s.owner) NSEC3 ≡ Some s
  own_set o s e = ap (λ n. set_at m n NSEC3) (zone.stored o NSEC3 s e).owner ∙ e

  -- each is that of its owner
  abbrev IsOwn : RRset → Type 0
  IsOwn s = set_at m (lower s.owner) NSEC3 ≡ Some s

  wildcard_owners : (x : Name) → AreOwners NSEC3 m (wildcard_proof z x)
  wildcard_owners x = subst (AreOwners NSEC3 m) (sym (wildcard_proof_is x)) (by (closest_encloser z.sets x))
    where
      by : (o : Option Name) → AreOwners NSEC3 m (option_map_or (wildcard_sets z.origin m hashed x) o [])
      by (Some e) = of_wildcard_sets IsOwn m own_set z.origin hashed x e
      by None = λ s i. absurd i

  denial_owners : (x : Name) (wildcard_name : Option Name) → AreOwners NSEC3 m (denial z x wildcard_name)
  denial_owners x wildcard_name = subst (AreOwners NSEC3 m) (sym (ap (λ k. denial_by z k x wildcard_name) hashes)) (by wildcard_name)
    where
      by : (wildcard_name : Option Name) → AreOwners NSEC3 m (denial_by z (Some (kind.Nsec3 parameters.algorithm parameters.salt parameters.iterations flag)) x wildcard_name)
      by (Some (l ∷ e)) = of_absent IsOwn m own_set z.origin hashed x e
      by (Some []) = of_present IsOwn m own_set z.origin hashed x
      by None = of_present IsOwn m own_set z.origin hashed x

  -- ---- of those for which a wildcard answered

  pub record AreWildcardProofs (start : List RRset) (made : List Name) (sets : List RRset) : Type 0 where
    pub owners : AreOwners NSEC3 m sets
    pub kept : (s : RRset) → In s start → In s sets
    pub each : (x : Name) → In x made → (s : RRset) → In s (wildcard_proof z x) → In s sets

  wildcard_proofs : (made : List Name) (start : List RRset) → AreOwners NSEC3 m start → AreWildcardProofs start made (fold (with_wildcard_proof z) start made)
  wildcard_proofs [] start h = record { owners = h; kept = λ s i. i; each = λ x i. absurd i }
  wildcard_proofs (x ∷ made) start h = by (wildcard_proofs made (all_of start (wildcard_proof z x)) (owners_of_all NSEC3 m start (wildcard_proof z x) h (wildcard_owners x)))
    where
      by : AreWildcardProofs (all_of start (wildcard_proof z x)) made (fold (with_wildcard_proof z) (all_of start (wildcard_proof z x)) made) → AreWildcardProofs start (x ∷ made) (fold (with_wildcard_proof z) (all_of start (wildcard_proof z x)) made)
      by rest = record { owners = rest.owners; kept = λ s i. rest.kept s (kept_in_all NSEC3 m start (wildcard_proof z x) s i); each = each }
        where
          each : (y : Name) → In y (x ∷ made) → (s : RRset) → In s (wildcard_proof z y) → In s (fold (with_wildcard_proof z) (all_of start (wildcard_proof z x)) made)
          each y (inl q) s i = rest.kept s (more_in_all NSEC3 m start (wildcard_proof z x) s h (wildcard_owners x) (subst (λ n. In s (wildcard_proof z n)) (sym q) i))
          each y (inr j) s i = rest.each y j s i

  -- ---- of all

  pub record AreHashedProofs (ds : Option RRset) (made : List Name) (e : End) (sets : List RRset) : Type 0 where
    pub owners : AreOwners NSEC3 m sets
    pub wildcards : (x : Name) → In x made → (encloser : Name) → closest_encloser z.sets x ≡ Some encloser → (s : RRset) → In s (wildcard_sets z.origin z.denials (zone_owner z parameters) x encloser) → In s sets
    pub kept : (s : RRset) → In s (end_proof z ds e) → In s sets

  end_owners : (ds : Option RRset) (e : End) → AreOwners NSEC3 m (end_proof z ds e)
  end_owners ds (missing x wildcard_name there) = denial_owners x wildcard_name
  end_owners None (referred c) = denial_owners (lower c.owner) None
  end_owners (Some s) (referred c) = λ r i. absurd i
  end_owners ds _ = λ r i. absurd i

  pub hashed_proofs : (ds : Option RRset) (made : List Name) (e : End) (sets : List RRset) → proofs z ds made e ≡ sets → AreHashedProofs ds made e sets
  hashed_proofs ds made e sets k = subst (AreHashedProofs ds made e) k (record {
    owners = owners_of_all NSEC3 m (fold (with_wildcard_proof z) [] made) (end_proof z ds e) all.owners (end_owners ds e);
    wildcards = λ x i a f s j. kept_in_all NSEC3 m (fold (with_wildcard_proof z) [] made) (end_proof z ds e) s (all.each x i s (subst (In s) (sym (wildcard_proof_is x ∙ ap (λ o. option_map_or (wildcard_sets z.origin m hashed x) o []) f)) j));
    kept = λ s i. more_in_all NSEC3 m (fold (with_wildcard_proof z) [] made) (end_proof z ds e) s all.owners (end_owners ds e) i;
  })
    where
      all : AreWildcardProofs [] made (fold (with_wildcard_proof z) [] made)
      all = wildcard_proofs made [] (λ s i. absurd i)

  -- of a name that doesn't exist, whose wildcard was asked
  pub of_missing : (made : List Name) (x e : Name) (there : Bool) (sets : List RRset) → proofs z None made (missing x (Some (wildcard_under e)) there) ≡ sets
      → (s : RRset) → In s (absent_sets z.origin z.denials (zone_owner z parameters) x e) → In s sets
  of_missing made x e there sets k s i = (hashed_proofs None made (missing x (Some (wildcard_under e)) there) sets k).kept s (subst (In s) (sym (absent_is x e)) i)

  -- of one that exists without what is asked for
  pub of_present_name : (made : List Name) (x : Name) (there : Bool) (sets : List RRset) → proofs z None made (missing x None there) ≡ sets
      → (s : RRset) → In s (present_sets z.origin z.denials (zone_owner z parameters) x) → In s sets
  of_present_name made x there sets k s i = (hashed_proofs None made (missing x None there) sets k).kept s (subst (In s) (sym (present_is x)) i)

  -- and of a child without DS
  pub of_child : (made : List Name) (c : RRset) (sets : List RRset) → proofs z None made (referred c) ≡ sets
      → (s : RRset) → In s (present_sets z.origin z.denials (zone_owner z parameters) (lower c.owner)) → In s sets
  of_child made c sets k s i = (hashed_proofs None made (referred c) sets k).kept s (subst (In s) (sym (present_is (lower c.owner))) i)
