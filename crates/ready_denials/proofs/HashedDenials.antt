-- Names one label below the origin that don't exist, denied by NSEC3 sets of which two are kept
use Rattle.std.proofs.Common.{◌≡◌, ◌&&◌, suc, true, List, [], ◌∷◌, ◌++◌, length, refl, sym, ap, ◌∙◌}
use Rattle.std.specs.Prelude.{Option, Some, Result, Ok, Err, option_and_then, option_to_list}
use Rattle.std.specs.Option.{option_map_or, option_or}
use Rattle.zone_proto.specs.Names.{Name, is_at_or_above, suffixes, wildcard_under}
use Rattle.zone_proto.specs.Types.{NSEC3}
use Rattle.zone_proto.specs.declared.error.ProtoError.{ProtoError}
use Rattle.zone_proto.proofs.Names.NameTree.{is_at_or_above_complete}
use Rattle.zone_denial.specs.Nsec3Denial.{cover_owner}
use Rattle.zone_denial.specs.Nsec3Lent.{owner_cmp}
use Rattle.zone_denial.specs.TypeLists.{in_order}
use Rattle.zone_map.specs.Walks.{IsChild}
use Rattle.zone_map.specs.Zones.{Sets, set_at}
use Rattle.zone_response.proofs.LabelCounts.{as_long}
use Rattle.zone_response.proofs.ProvableWalk.{both_have, found_there, had_there}
use Rattle.zone_response.specs.HashedDenials.{absent_hashed, absent_sets, below_hashed, closer_set, covering, has_owner, hashed_by, have_owners, matching, next_closer, owner_given, provable, tried, wildcard_set}
use Rattle.ready_denials.specs.Denials.{hashed_sets, IsHashedProof}
use Rattle.ready_denials.specs.declared.kept_denials.HashedProof.{HashedProof}

one_hashed : (hash : Name → Result Name ProtoError) (x : Name) (names : List Name) → has_owner (hash x) ≡ true → have_owners hash (x ∷ names) ≡ have_owners hash names
one_hashed hash x names e = ap (λ b. b && have_owners hash names) e

owner_is : (r : Result Name ProtoError) → has_owner r ≡ true → r ≡ Ok (owner_given r)
owner_is (Ok o) e = refl
owner_is (Err e) h = cc

module _ (origin : Name) (m : Sets) (hash : Name → Result Name ProtoError) (p : HashedProof) (kept : IsHashedProof origin m hash p) where
  abbrev hashed : Name → Name
  hashed = hashed_by hash

  inside : is_at_or_above origin origin ≡ true
  inside = is_at_or_above_complete origin origin ([], refl)

  stands : Some p.encloser ≡ set_at m (owner_given (hash origin)) NSEC3
  stands = sym kept.encloser

  found : Some origin ≡ provable origin m hashed (suffixes origin)
  found = found_there origin m hash origin (owner_given (hash origin)) inside (owner_is (hash origin) kept.origin_hashed) p.encloser stands

  module _ (x : Name) (child : IsChild x origin) where
    next_is : next_closer x origin ≡ Some x
    next_is = sym (as_long (suc (length origin)) x (ap length child.1))

    pub absent_is : absent_sets origin m hashed x origin ≡ hashed_sets origin m hash x p
    absent_is =
        ap (λ (o : Option Name). option_map_or (λ e. in_order owner_cmp (option_to_list (matching origin m hashed e) ++ option_to_list (closer_set origin m hashed x e)
        ++ option_to_list (wildcard_set origin m hashed e))) o []) (sym found)
        ∙ (λ i. in_order owner_cmp (option_to_list (kept.encloser i) ++ option_to_list (option_and_then (covering origin m hashed) (next_is i)) ++ option_to_list (kept.wildcard i)))

    pub all_hashed : has_owner (hash x) ≡ true → have_owners hash (absent_hashed origin m hashed x origin) ≡ true
    all_hashed e =
        both_have hash (tried origin m hashed (suffixes origin)) (option_map_or (below_hashed x) (provable origin m hashed (suffixes origin)) [])
        (had_there origin m hash origin (owner_given (hash origin)) inside (owner_is (hash origin) kept.origin_hashed) p.encloser stands)
        (ap (λ (o : Option Name). have_owners hash (option_map_or (below_hashed x) o [])) (sym found)
        ∙ ap (λ (o : Option Name). have_owners hash (option_to_list o ++ wildcard_under origin ∷ [])) next_is
        ∙ one_hashed hash x (wildcard_under origin ∷ []) e
        ∙ one_hashed hash (wildcard_under origin) [] kept.wildcard_hashed)

-- ---- what is kept

module _ (origin : Name) (m : Sets) (hash : Name → Result Name ProtoError) (p : HashedProof) (o w : Name) (own : hash origin ≡ Ok o) (star : hash (wildcard_under origin) ≡ Ok w)
    (encloser : set_at m o NSEC3 ≡ Some p.encloser)
    (wildcard : p.wildcard ≡ option_or (set_at m w NSEC3) (option_and_then (λ c. set_at m c NSEC3) (cover_owner m w))) where
  pub is_hashed_proof : IsHashedProof origin m hash p
  is_hashed_proof = record {
    origin_hashed = ap has_owner own;
    wildcard_hashed = ap has_owner star;
    encloser = ap (λ (r : Result Name ProtoError). set_at m (owner_given r) NSEC3) own ∙ encloser;
    wildcard = ap (λ (r : Result Name ProtoError). option_or (set_at m (owner_given r) NSEC3) (option_and_then (λ c. set_at m c NSEC3) (cover_owner m (owner_given r)))) star ∙ sym wildcard;
  }
