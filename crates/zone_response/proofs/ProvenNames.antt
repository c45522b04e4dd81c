-- The sets that prove something of a name, as they are found, and the names that are hashed for them
use Rattle.std.proofs.Common.{◌≡◌, ℕ, true, false, [], ◌∷◌, ◌++◌, length, refl, sym, ap, ◌∙◌, subst, true≢false}
use Rattle.std.specs.Prelude.{Option, Some, None, Result, Ok, IsErr, IfSome, option_and_then, option_map, option_to_list}
use Rattle.std.specs.Option.{option_or}
use Rattle.zone_proto.specs.declared.error.ProtoError.{ProtoError}
use Rattle.zone_proto.specs.Names.{Name, base_name, is_root, wildcard_under, wildcard_of}
use Rattle.zone_proto.specs.Sets.{RRset}
use Rattle.zone_proto.specs.Types.{NSEC3}
use Rattle.zone_map.specs.Zones.{Sets, set_at}
use Rattle.zone_denial.specs.Nsec3Denial.{cover_owner}
use Rattle.zone_denial.specs.Nsec3Lent.{owner_cmp}
use Rattle.zone_denial.specs.TypeLists.{in_order}
use Rattle.zone_response.specs.declared.hashed_denials.HashedName.{HashedName}
use Rattle.zone_response.specs.HashedDenials.{owner_given, hashed_by, have_owners, matching, covering, closer_set, wildcard_set, of_labels, next_closer, wildcard_hashed, below_hashed, absent_below, left_out_sets}
use Rattle.zone_response.proofs.LabelCounts.{closer_is}
use Rattle.zone_response.proofs.ProvableWalk.{first_had, first_refused, both_have, front_lacks, rest_lacks}

-- the wildcard at the parent of a name
pub wildcard_name_is : (c : Name) → is_root c ≡ false → wildcard_of c ≡ wildcard_under (base_name c)
wildcard_name_is [] h = absurd (true≢false h)
wildcard_name_is (l ∷ a) h = refl

module _ (hash : Name → Result Name ProtoError) where
  abbrev IsHashed : HashedName → Type 0
  IsHashed h = hash h.name ≡ Ok h.owner

  -- one that is there has a hashed owner
  pub one_had : (closer : Option HashedName) (next : Option Name) → option_map (λ h. h.name) closer ≡ next → IfSome closer IsHashed → have_owners hash (option_to_list next) ≡ true
  one_had None next e h = ap (λ o. have_owners hash (option_to_list o)) (sym e)
  one_had (Some c) next e h = ap (λ o. have_owners hash (option_to_list o)) (sym e) ∙ first_had hash c.name c.owner [] h

  module _ (x c : Name) (count : ℕ) (below : is_root c ≡ false) (long : count ≡ length c) where
    pub closer_had : (closer : Option HashedName) → option_map (λ h. h.name) closer ≡ of_labels count x → IfSome closer IsHashed → have_owners hash (wildcard_hashed x (base_name c)) ≡ true
    closer_had closer e h = one_had closer (next_closer x (base_name c)) (e ∙ closer_is x c count below long) h

    pub closer_lacks : have_owners hash (option_to_list (of_labels count x)) ≡ false → have_owners hash (wildcard_hashed x (base_name c)) ≡ false
    closer_lacks h = sym (ap (λ o. have_owners hash (option_to_list o)) (closer_is x c count below long)) ∙ h

    pub below_had : (closer : Option HashedName) (w owner : Name) → option_map (λ h. h.name) closer ≡ of_labels count x → IfSome closer IsHashed → w ≡ wildcard_of c → hash w ≡ Ok owner → have_owners hash (below_hashed x (base_name c)) ≡ true
    below_had closer w owner e h is k =
        both_have hash (wildcard_hashed x (base_name c)) (wildcard_under (base_name c) ∷ []) (closer_had closer e h)
        (first_had hash (wildcard_under (base_name c)) owner [] (ap hash (sym (is ∙ wildcard_name_is c below)) ∙ k))

    pub below_lacks_closer : have_owners hash (option_to_list (of_labels count x)) ≡ false → have_owners hash (below_hashed x (base_name c)) ≡ false
    below_lacks_closer h = front_lacks hash (wildcard_hashed x (base_name c)) (wildcard_under (base_name c) ∷ []) (closer_lacks h)

    pub below_lacks_wildcard : (w : Name) → w ≡ wildcard_of c → IsErr (hash w) → have_owners hash (below_hashed x (base_name c)) ≡ false
    below_lacks_wildcard w is h =
        rest_lacks hash (wildcard_hashed x (base_name c)) (wildcard_under (base_name c) ∷ [])
        (first_refused hash (wildcard_under (base_name c)) [] (subst (λ n. IsErr (hash n)) (is ∙ wildcard_name_is c below) h))

  -- ---- the sets

  module _ (origin : Name) (m : Sets) where
    abbrev hashed : Name → Name
    hashed = hashed_by hash

    pub covering_is : (n o : Name) → hash n ≡ Ok o → option_and_then (λ o. set_at m o NSEC3) (cover_owner m o) ≡ covering origin m hashed n
    covering_is n o e = ap (λ r. option_and_then (λ o. set_at m o NSEC3) (cover_owner m (owner_given r))) (sym e)

    pub closer_covered : (closer : Option HashedName) (next : Option Name) → option_map (λ h. h.name) closer ≡ next → IfSome closer IsHashed
        → option_and_then (λ (h : HashedName). option_and_then (λ o. set_at m o NSEC3) (cover_owner m h.owner)) closer ≡ option_and_then (covering origin m hashed) next
    closer_covered None next e h = ap (option_and_then (covering origin m hashed)) e
    closer_covered (Some c) next e h = covering_is c.name c.owner h ∙ ap (option_and_then (covering origin m hashed)) e

    module _ (x c : Name) (count : ℕ) (below : is_root c ≡ false) (long : count ≡ length c) (closer : Option HashedName) (named : option_map (λ h. h.name) closer ≡ of_labels count x) (known : IfSome closer IsHashed) (cover : Option RRset)
        (covered : cover ≡ option_and_then (λ (h : HashedName). option_and_then (λ o. set_at m o NSEC3) (cover_owner m h.owner)) closer) where
      pub closer_set_is : cover ≡ closer_set origin m hashed x (base_name c)
      closer_set_is = covered ∙ closer_covered closer (next_closer x (base_name c)) (named ∙ closer_is x c count below long) known

      module _ (set : RRset) (matched : matching origin m hashed (base_name c) ≡ Some set) where
        pub left_out_is : option_to_list cover ++ set ∷ [] ≡ left_out_sets origin m hashed x (base_name c)
        left_out_is = λ i. option_to_list (closer_set_is i) ++ option_to_list (sym matched i)

        pub absent_is : (w owner : Name) (wildcard_name : Option RRset) → w ≡ wildcard_of c → hash w ≡ Ok owner → wildcard_name ≡ option_or (set_at m owner NSEC3) (option_and_then (λ o. set_at m o NSEC3) (cover_owner m owner))
            → in_order owner_cmp (option_to_list (Some set) ++ option_to_list cover ++ option_to_list wildcard_name) ≡ absent_below origin m hashed x (base_name c)
        absent_is w owner wildcard_name is e stands = λ i. in_order owner_cmp (option_to_list (sym matched i) ++ option_to_list (closer_set_is i) ++ option_to_list (wildcard_set_is i))
          where
            wildcard_set_is : wildcard_name ≡ wildcard_set origin m hashed (base_name c)
            wildcard_set_is = stands ∙ ap (λ r. option_or (set_at m (owner_given r) NSEC3) (option_and_then (λ o. set_at m o NSEC3) (cover_owner m (owner_given r)))) (sym e ∙ ap hash (is ∙ wildcard_name_is c below))
