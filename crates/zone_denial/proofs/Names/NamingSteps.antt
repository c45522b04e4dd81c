-- The names that get an NSEC3 set, listed run after run of the keys of one name
use Rattle.std.proofs.Common.{◌≡◌, ℕ, ◌+◌, ◌<◌, ◌==◌, ◌&&◌, not, Bool, true, false, List, [], ◌∷◌, ◌++◌, map, length, get_or, take, drop, refl, sym, ap, ◌∙◌, subst}
use Rattle.std.specs.Borrow.{Bor}
use Rattle.std.specs.List.{prefix_len, list_all}
use Rattle.std.specs.List.Sorted.{IsStrictlySortedBy}
use Rattle.std.specs.Map.{keys_of}
use Rattle.std.specs.Ordering.{nat_cmp, eq_by_cmp}
use Rattle.std.proofs.lemmas.List.Kept.{IsStrictlySortedBy-filter}
use Rattle.zone_proto.specs.declared.rr_key.RrKey.{RrKey}
use Rattle.zone_proto.specs.Keys.{key_cmp}
use Rattle.zone_proto.specs.Names.{Name, name_cmp, name_eq}
use Rattle.zone_proto.specs.Types.{NS, RRSIG, NSEC3, NSEC3PARAM}
use Rattle.zone_map.specs.Zones.{Sets}
use Rattle.zone_denial.specs.AuthoritativeKeys.{is_circle_key, authoritative_keys}
use Rattle.zone_denial.specs.Nsec3Names.{is_unsigned_delegation}
use Rattle.zone_denial.specs.Nsec3Nodes.{new_ancestors}
use Rattle.zone_denial.specs.TypeLists.{joined}
use Rattle.zone_denial.proofs.Ascending.{Ascends, Ascends-from_sorted}
use Rattle.zone_denial.proofs.Sets.KeyRuns.{lent_keys, types_lent, front_parts, front_named, front_apart, parts, named, apart, first_in}
use Rattle.zone_denial.proofs.Names.Naming.{Naming, Naming-start, Naming-skip, Naming-more, counted_test, n_own, n_authority}
use Rattle.zone_denial.proofs.Names.NewAncestors.{empty_nodes}
use Rattle.zone_denial.proofs.Hashed.Nsec3Runs.{unsigned_test}

-- all keys are of NS
abbrev pub are_of_ns : List (Bor RrKey) → Bool
are_of_ns bs = list_all (λ b. b.now.record_type.0 == NS) bs

-- the numbers of their types
abbrev pub lent_types : List (Bor RrKey) → List ℕ
lent_types bs = map (λ b. b.now.record_type.0) bs

module _ (origin : Name) (m : Sets) (opt_out : Bool) (keys : List (Bor RrKey)) (sorted : IsStrictlySortedBy key_cmp (keys_of m)) (are : lent_keys keys ≡ authoritative_keys origin m NSEC3) where
  abbrev ks : List RrKey
  ks = lent_keys keys

  ascends : Ascends key_cmp ks
  ascends = Ascends-from_sorted key_cmp ks (subst (IsStrictlySortedBy key_cmp) (sym are) (IsStrictlySortedBy-filter key_cmp (is_circle_key origin m NSEC3) (keys_of m) sorted))

  -- those of the origin come first
  pub origin_listed : (count : ℕ) → count ≡ prefix_len (λ (b : Bor RrKey). eq_by_cmp name_cmp b.now.name origin) keys
      → Naming origin m opt_out ks ((origin, joined nat_cmp NSEC3PARAM (joined nat_cmp RRSIG (lent_types (take count keys)))) ∷ []) origin (lent_keys (drop count keys))
  origin_listed count counted =
      subst (λ ts. Naming origin m opt_out ks ((origin, joined nat_cmp NSEC3PARAM (joined nat_cmp RRSIG ts)) ∷ []) origin (lent_keys (drop count keys))) (types_lent (take count keys))
      (Naming-start origin m opt_out ks sorted are (lent_keys (take count keys)) (lent_keys (drop count keys)) (front_parts origin keys count counted) ascends (front_named origin keys count counted) (front_apart origin keys count counted))

  module _ (start count : ℕ) (first : Bor RrKey) (lt : start < length keys) (is : first ≡ get_or keys start first)
      (counted : count ≡ prefix_len (λ (b : Bor RrKey). eq_by_cmp name_cmp b.now.name first.now.name) (drop start keys))
      (made : List (Name × List ℕ)) (last : Name) (so_far : Naming origin m opt_out ks made last (lent_keys (drop start keys))) where
    abbrev own : List (Bor RrKey)
    own = take count (drop start keys)

    abbrev others : List (Bor RrKey)
    others = drop (start + count) keys

    so_far_parts : Naming origin m opt_out ks made last (lent_keys own ++ lent_keys others)
    so_far_parts = subst (λ qs. Naming origin m opt_out ks made last qs) (parts keys start count first lt is counted) so_far

    test : (b : Bool) → b ≡ are_of_ns own → not (opt_out && (not (name_eq first.now.name origin) && is_unsigned_delegation m first.now.name)) ≡ not (opt_out && b)
    test b e =
        counted_test origin m opt_out ks sorted are made last first.now.name first.now (lent_keys own) (lent_keys others) so_far_parts (first_in keys start count first lt is counted)
        (named keys start count first lt is counted) (apart keys start count first lt is counted) b
        (e ∙ unsigned_test origin m sorted ks are first.now.name (lent_keys own)
        (n_own origin m opt_out ks sorted are made last first.now.name first.now (lent_keys own) (lent_keys others) so_far_parts (first_in keys start count first lt is counted)
        (named keys start count first lt is counted) (apart keys start count first lt is counted))
        (λ _. n_authority origin m opt_out ks sorted are made last first.now.name first.now (lent_keys own) (lent_keys others) so_far_parts (first_in keys start count first lt is counted)
        (named keys start count first lt is counted) (apart keys start count first lt is counted)) own refl)

    -- an unsigned delegation is passed over
    pub passed_over : (b : Bool) → b ≡ are_of_ns own → opt_out && b ≡ true → Naming origin m opt_out ks made last (lent_keys others)
    passed_over b e h =
        Naming-skip origin m opt_out ks sorted are made last first.now.name first.now (lent_keys own) (lent_keys others) so_far_parts (first_in keys start count first lt is counted)
        (named keys start count first lt is counted) (apart keys start count first lt is counted) (test b e ∙ ap not h)

    -- any other name is listed
    pub name_listed : (b : Bool) → b ≡ are_of_ns own → opt_out && b ≡ false
        → Naming origin m opt_out ks ((made ++ empty_nodes (new_ancestors last first.now.name)) ++ (first.now.name, joined nat_cmp RRSIG (lent_types own)) ∷ []) first.now.name (lent_keys others)
    name_listed b e h =
        subst (λ ts. Naming origin m opt_out ks ((made ++ empty_nodes (new_ancestors last first.now.name)) ++ (first.now.name, joined nat_cmp RRSIG ts) ∷ []) first.now.name (lent_keys others)) (types_lent own)
        (Naming-more origin m opt_out ks sorted are made last first.now.name first.now (lent_keys own) (lent_keys others) so_far_parts (first_in keys start count first lt is counted)
        (named keys start count first lt is counted) (apart keys start count first lt is counted) (test b e ∙ ap not h))
