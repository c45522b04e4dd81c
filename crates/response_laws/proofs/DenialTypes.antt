-- What proves something in a response are sets of denial
use Rattle.std.proofs.Common.{◌≡◌, ℕ, Bool, true, false, cond, List, [], ◌∷◌, ◌++◌, refl, ap, ◌∙◌, subst, inl, inr}
use Rattle.std.specs.Prelude.{Option, Some, None, fold, option_and_then, option_to_list}
use Rattle.std.specs.List.{list_any}
use Rattle.std.specs.Option.{option_map_or}
use Rattle.zone_proto.specs.declared.nx_proof_kind.NxProofKind.{NxProofKind}
use Rattle.zone_proto.specs.declared.nx_proof_kind.NxProofKind.TheVariants as kind
use Rattle.zone_proto.specs.Names.{Name, lower}
use Rattle.zone_proto.specs.Sets.{RRset}
use Rattle.zone_proto.specs.Types.{NSEC, NSEC3}
use Rattle.zone_proto.proofs.Members.{In}
use Rattle.zone_map.specs.Upserts.{is_denial_type}
use Rattle.zone_map.specs.Wildcards.{closest_encloser}
use Rattle.zone_map.specs.Zones.{Sets, set_at, IsZone}
use Rattle.zone_denial.specs.NsecDenial.{closest_nsec}
use Rattle.zone_lookup.specs.Runs.{with_new}
use Rattle.zone_response.specs.Denials.{same_owner, hashed_owner_of, wildcard_proof, wildcard_proof_by, denial, denial_by, end_proof, with_wildcard_proof, proofs}
use Rattle.zone_response.specs.HashedDenials.{wildcard_sets, absent_sets, present_sets, hashed_by}
use Rattle.zone_response.specs.Queries.{Zone}
use Rattle.zone_response.specs.Steps.{End, referred, missing}
use Rattle.response_laws.proofs.HashedSets.{each_of_both, of_wildcard_sets, of_absent, of_present}
use Rattle.response_laws.proofs.NsecSets.{closest_sets, closest_owners}

-- a set of denial that is its owner's
pub record IsDenial (m : Sets) (s : RRset) : Type 0 where
  pub denial : is_denial_type s.record_type ≡ true
  pub stands : set_at m (lower s.owner) s.record_type ≡ Some s

abbrev pub AreDenials : Sets → List RRset → Type 0
AreDenials m sets = (s : RRset) → In s sets → IsDenial m s

module _ (z : Zone) (zone : IsZone z.denials) where
  abbrev m : Sets
  m = z.denials

  -- each set is one of denial
  abbrev AreAll : List RRset → Type 0
  AreAll = AreDenials z.denials

  denials_of_both : (sets more : List RRset) → AreAll sets → AreAll more → AreAll (sets ++ more)
  denials_of_both = each_of_both (IsDenial z.denials)

  is_denial : (o : Name) (t : ℕ) (s : RRset) → is_denial_type t ≡ true → set_at z.denials o t ≡ Some s → IsDenial z.denials s
  is_denial o t s d e = let k = zone.stored o t s e in record { denial = ap is_denial_type k.record_type ∙ d; stands = (λ i. set_at m (k.owner i) (k.record_type i)) ∙ e }

  nsec3_set : (o : Name) (s : RRset) → set_at z.denials o NSEC3 ≡ Some s → IsDenial z.denials s
  nsec3_set o s e = is_denial o NSEC3 s refl e

  of_closest : (x : Name) → AreAll (closest_sets m zone x)
  of_closest x s i = is_denial (lower s.owner) NSEC s refl (closest_owners m zone x s i)

  -- by hashed names
  module _ (hashed : Name → Name) where
    wildcard_hashed : (x : Name) (o : Option Name) → AreAll (option_map_or (wildcard_sets z.origin z.denials hashed x) o [])
    wildcard_hashed x (Some e) = of_wildcard_sets (IsDenial m) m nsec3_set z.origin hashed x e
    wildcard_hashed x None = λ s i. absurd i

    absent_hashed : (x e : Name) → AreAll (absent_sets z.origin z.denials hashed x e)
    absent_hashed x e = of_absent (IsDenial m) m nsec3_set z.origin hashed x e

    present_hashed : (x : Name) → AreAll (present_sets z.origin z.denials hashed x)
    present_hashed x = of_present (IsDenial m) m nsec3_set z.origin hashed x

  of_wildcard : (x : Name) → AreAll (wildcard_proof z x)
  of_wildcard x = by z.nx_proof_kind
    where
      by : (k : Option NxProofKind) → AreAll (wildcard_proof_by z k x)
      by None = of_closest x
      by (Some kind.Nsec) = of_closest x
      by (Some (kind.Nsec3 algorithm salt iterations opt_out)) = wildcard_hashed (hashed_by (hashed_owner_of z algorithm salt iterations)) x (closest_encloser z.sets x)

  denied : (x : Name) (wildcard_name : Option Name) → AreAll (denial z x wildcard_name)
  denied x wildcard_name = by z.nx_proof_kind wildcard_name
    where
      at_wildcard : (wildcard_name : Option Name) → AreAll (option_to_list (option_and_then (closest_nsec m) wildcard_name))
      at_wildcard (Some w) = of_closest w
      at_wildcard None = λ s i. absurd i

      by : (k : Option NxProofKind) (wildcard_name : Option Name) → AreAll (denial_by z k x wildcard_name)
      by None wildcard_name = denials_of_both (closest_sets m zone x) (option_to_list (option_and_then (closest_nsec m) wildcard_name)) (of_closest x) (at_wildcard wildcard_name)
      by (Some kind.Nsec) wildcard_name = denials_of_both (closest_sets m zone x) (option_to_list (option_and_then (closest_nsec m) wildcard_name)) (of_closest x) (at_wildcard wildcard_name)
      by (Some (kind.Nsec3 algorithm salt iterations opt_out)) (Some (l ∷ e)) = absent_hashed (hashed_by (hashed_owner_of z algorithm salt iterations)) x e
      by (Some (kind.Nsec3 algorithm salt iterations opt_out)) (Some []) = present_hashed (hashed_by (hashed_owner_of z algorithm salt iterations)) x
      by (Some (kind.Nsec3 algorithm salt iterations opt_out)) None = present_hashed (hashed_by (hashed_owner_of z algorithm salt iterations)) x

  of_end : (ds : Option RRset) (e : End) → AreAll (end_proof z ds e)
  of_end ds (missing x wildcard_name there) = denied x wildcard_name
  of_end None (referred c) = denied (lower c.owner) None
  of_end (Some s) (referred c) = λ r i. absurd i
  of_end ds _ = λ r i. absurd i

  with_one : (sets : List RRset) (s : RRset) → AreAll sets → IsDenial m s → AreAll (with_new same_owner sets s)
  with_one sets s h e = new (list_any (λ y. same_owner y s) sets)
    where
      new : (b : Bool) → AreAll (cond b sets (sets ++ s ∷ []))
      new true = h
      new false = denials_of_both sets (s ∷ []) h one
        where
          one : AreAll (s ∷ [])
          one r (inl q) = subst (IsDenial m) q e
          one r (inr i) = absurd i

  with_all : (sets more : List RRset) → AreAll sets → AreAll more → AreAll (fold (with_new same_owner) sets more)
  with_all sets [] h k = h
  with_all sets (s ∷ more) h k = with_all (with_new same_owner sets s) more (with_one sets s h (k s (inl refl))) (λ r i. k r (inr i))

  of_wildcards : (made : List Name) (sets : List RRset) → AreAll sets → AreAll (fold (with_wildcard_proof z) sets made)
  of_wildcards [] sets h = h
  of_wildcards (x ∷ made) sets h = of_wildcards made (with_wildcard_proof z sets x) (with_all sets (wildcard_proof z x) h (of_wildcard x))

  pub proofs_are_denials : (ds : Option RRset) (made : List Name) (e : End) → AreDenials z.denials (proofs z ds made e)
  proofs_are_denials ds made e = with_all (fold (with_wildcard_proof z) [] made) (end_proof z ds e) (of_wildcards made [] (λ s i. absurd i)) (of_end ds e)
