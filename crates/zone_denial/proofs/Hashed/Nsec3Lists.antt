-- What the lists of a circle of NSEC3 sets have, and that no denial contradicts one
use Rattle.std.proofs.Common.{◌≡◌, ◌≢◌, ℕ, Bool, true, false, not, ◌&&◌, ◌||◌, List, [], ◌∷◌, map, refl, sym, ap, ◌∙◌, subst, true≢false, ◌⊎◌, inl, inr, eqb-true}
use Rattle.std.specs.Prelude.{Option, Some, None, option_map, ◌==◌}
use Rattle.std.specs.List.{Contains, list_all}
use Rattle.zone_proto.specs.declared.rdata.denial.NSEC3PARAM.{NSEC3PARAM as Nsec3Parameters}
use Rattle.zone_proto.specs.HashedOwners.{hashed_owner}
use Rattle.zone_proto.specs.Names.{Name, name_eq, is_at_or_above, IsAbove, IsAtOrAbove}
use Rattle.zone_proto.specs.Sets.{RRset}
use Rattle.zone_proto.specs.Types.{NS, NSEC3, NSEC3PARAM, RRSIG}
use Rattle.zone_proto.proofs.Members.{In, In-Contains, Contains-In, In-filter, In-from_filter, any_from_In}
use Rattle.zone_proto.proofs.Names.NameTree.{is_at_or_above_sound, is_at_or_above_complete}
use Rattle.zone_proto.proofs.Names.Tree.{above_cases}
use Rattle.zone_map.specs.AnyTypes.{searched_type}
use Rattle.zone_map.specs.Wildcards.{found}
use Rattle.zone_map.specs.Zones.{Sets, set_at, owns, types_at, names_of, owns_at_or_below}
use Rattle.zone_map.proofs.Owned.{name_in, type_in}
use Rattle.zone_denial.specs.Authority.{is_below_cut, is_authoritative, authoritative_names}
use Rattle.zone_denial.specs.Nsec3Circle.{nsec3_types, IsNsec3Type}
use Rattle.zone_denial.specs.Nsec3Laws.{types3_of, IsSetOf, IsNsec3Listed, IsNsec3Denied, Nsec3CircleListsAllOwned, Nsec3DenialsAgree}
use Rattle.zone_denial.specs.Nsec3Names.{is_unsigned_delegation, counted_names, IsNsec3Name}
use Rattle.zone_denial.specs.Nsec3Zones.{IsNsec3Zone, IsCircleName}
use Rattle.zone_denial.proofs.Names.AuthoritativeNames.{authoritative_from, authoritative_listed, besides_from}
use Rattle.zone_denial.proofs.Hashed.Nsec3NameLaws.{names_are_exact}
use Rattle.zone_denial.proofs.Hashed.Nsec3TypeLaws.{types_are_exact}
use Rattle.zone_denial.proofs.Chain.NsecLists.{not_found}
use Rattle.zone_denial.proofs.Chain.NsecSecured.{numbers_back}

same_set : (p : Option RRset) (s r : RRset) → p ≡ Some s → p ≡ Some r → s ≡ r
same_set p s r e f = cc

same_list : (types listed : List ℕ) → Some types ≡ Some listed → types ≡ listed
same_list types listed e = cc

-- ---- an unsigned delegation owns no type but NS and NSEC3

all_pass : (p : ℕ → Bool) (t : ℕ) (ts : List ℕ) → list_all p ts ≡ true → In t ts → p t ≡ true
all_pass p t [] a i = absurd i
all_pass p t (u ∷ us) a i = by (p u) refl a i (λ b j. all_pass p t us b j)
  where
    by : (b : Bool) → p u ≡ b → b && list_all p us ≡ true → In t (u ∷ us) → (list_all p us ≡ true → In t us → p t ≡ true) → p t ≡ true
    by false q a i ih = absurd (true≢false (sym a))
    by true q a (inl e) ih = ap p (sym e) ∙ q
    by true q a (inr j) ih = ih a j

pub delegation_type : (m : Sets) (x : Name) (t : ℕ) → t ≢ NSEC3 → owns m x t ≡ true → is_unsigned_delegation m x ≡ true → t ≡ NS
delegation_type m x t ne k a = by (t == NS) (t == NSEC3) refl refl (all_pass (λ u. (u == NS) || (u == NSEC3)) t (types_at m x) a (type_in m x t k))
  where
    by : (b c : Bool) → (t == NS) ≡ b → (t == NSEC3) ≡ c → b || c ≡ true → t ≡ NS
    by true c p q e = eqb-true t NS p
    by false true p q e = absurd (ne (eqb-true t NSEC3 q))
    by false false p q e = absurd (true≢false (sym e))

other_type : (t : ℕ) → t ≢ NSEC3 → not (t == NSEC3) ≡ true
other_type t ne = by (t == NSEC3) refl
  where
    by : (b : Bool) → (t == NSEC3) ≡ b → not b ≡ true
    by true e = absurd (ne (eqb-true t NSEC3 e))
    by false e = refl

-- ---- a name that counts is on the circle

module _ (origin : Name) (m : Sets) (opt_out : Bool) where
  counted_on_circle : (x : Name) → IsAtOrAbove origin x → Contains (counted_names origin m opt_out) x → IsCircleName origin m opt_out x
  counted_on_circle x inside c = (names_are_exact origin m opt_out x).1 (by (above_cases origin x inside))
    where
      by : (origin ≡ x) ⊎ IsAbove origin x → IsNsec3Name origin m opt_out x
      by (inl e) = inl (sym e)
      by (inr above) = inr (above, (x, c, ([], refl)))

  -- of the names that own a set besides NSEC3 and are below no zone cut, opt-out leaves out the unsigned delegations
  -- alone
  off_circle : (x : Name) (t : ℕ) → t ≢ NSEC3 → owns m x t ≡ true → (IsCircleName origin m opt_out x → ⊥) → is_at_or_above origin x ≡ true → is_below_cut origin m x ≡ false
      → (opt_out ≡ true) × (is_unsigned_delegation m x ≡ true)
  off_circle x t ne k off inside uncut = by opt_out (name_eq x origin) (is_unsigned_delegation m x) counted
    where
      authoritative : is_authoritative origin m NSEC3 x ≡ true
      authoritative = authoritative_from origin m NSEC3 x inside (besides_from m NSEC3 x t (other_type t ne) k) uncut

      counted : not (opt_out && (not (name_eq x origin) && is_unsigned_delegation m x)) ≡ true → ⊥
      counted e =
          off (counted_on_circle x (is_at_or_above_sound origin x inside)
          (In-Contains x (counted_names origin m opt_out)
          (In-filter (λ n. not (opt_out && (not (name_eq n origin) && is_unsigned_delegation m n))) x (authoritative_names origin m NSEC3) (authoritative_listed origin m NSEC3 x authoritative) e)))

      by : (o b u : Bool) → (not (o && (not b && u)) ≡ true → ⊥) → (o ≡ true) × (u ≡ true)
      by true false true h = (refl, refl)
      by true false false h = absurd (h refl)
      by true true u h = absurd (h refl)
      by false b u h = absurd (h refl)

  -- at or below a name that counts, or that has one below it, a set is owned
  owner_below : (x c : Name) → IsAtOrAbove x c → Contains (counted_names origin m opt_out) c → owns_at_or_below m x ≡ true
  owner_below x c at i =
      let authoritative : In c (authoritative_names origin m NSEC3) =
      (In-from_filter (λ n. not (opt_out && (not (name_eq n origin) && is_unsigned_delegation m n))) c (authoritative_names origin m NSEC3) (Contains-In c (counted_names origin m opt_out) i)).0 in
      any_from_In (is_at_or_above x) c (names_of m) (In-from_filter (is_authoritative origin m NSEC3) c (names_of m) authoritative).0 (is_at_or_above_complete x c at)

module _ (origin : Name) (m : Sets) (hash : Name → Option (List ℕ)) (parameters : Nsec3Parameters) (h : IsNsec3Zone origin m hash parameters) where
  -- the list in the set of a name of the circle
  list_is : (x : Name) (s : RRset) (types : List ℕ) → IsCircleName origin m parameters.opt_out x → IsSetOf origin m hash x s → types3_of s ≡ Some types → types ≡ nsec3_types origin m x
  list_is x s types on (d, hashed, stands) said =
      let own = h.circle.one_for_each x d on hashed in
      let same : s ≡ own.0 = same_set (set_at m (hashed_owner origin d) NSEC3) s own.0 stands own.1 in
      let listed = own.2.says in
      same_list types (nsec3_types origin m x) (sym said ∙ ap types3_of same ∙ ap (λ a. option_map (λ a. map (λ t. t.0) a.types) a) listed ∙ ap Some (numbers_back (nsec3_types origin m x)))

  -- ---- what x owns is listed, or x is below a zone cut, or left out

  is_listed : (x : Name) (t : ℕ) → t ≢ NSEC3 → owns m x t ≡ true → IsNsec3Listed origin m hash parameters.opt_out x t
  is_listed x t ne k = record {
    on = λ on s types of said. subst (λ ts. Contains ts t) (sym (list_is x s types on of said)) ((types_are_exact origin m x t).1 (inl (k, ne)));
    off = λ off inside. by off inside (is_below_cut origin m x) refl;
  }
    where
      by : (IsCircleName origin m parameters.opt_out x → ⊥) → is_at_or_above origin x ≡ true → (b : Bool) → is_below_cut origin m x ≡ b → (b ≡ true) ⊎ ((parameters.opt_out ≡ true) × (t ≡ NS))
      by off inside true e = inl refl
      by off inside false e = let left_out = off_circle origin m parameters.opt_out x t ne k off inside e in inr (left_out.0, delegation_type m x t ne k left_out.1)

  -- ---- what isn't found isn't listed

  exists : (x : Name) → IsCircleName origin m parameters.opt_out x → owns_at_or_below m x ≡ true
  exists x on = by ((names_are_exact origin m parameters.opt_out x).0 on)
    where
      by : IsNsec3Name origin m parameters.opt_out x → owns_at_or_below m x ≡ true
      by (inl e) = any_from_In (is_at_or_above x) origin (names_of m) (name_in m origin NSEC3PARAM h.circle.announced) (is_at_or_above_complete x origin ([], sym e))
      by (inr (above, (c, i, at))) = owner_below origin m parameters.opt_out x c at i

  is_denied : (signed : Bool) (x : Name) (t : ℕ) → found m signed x (searched_type m x t) ≡ None → IsNsec3Denied origin m hash parameters.opt_out x t
  is_denied signed x t e = record {
    name = exists x;
    type' = λ on s types of said c. by ((types_are_exact origin m x t).0 (subst (λ ts. Contains ts t) (list_is x s types on of said) c));
  }
    where
      by : IsNsec3Type origin m x t → t ≡ RRSIG
      by (inl (k, ne)) = absurd (not_found m signed x t e k)
      by (inr (inl (k, why))) = k
      by (inr (inr (k, same))) = absurd (not_found m signed x t e ((λ i. owns m (same i) (k i)) ∙ h.circle.announced))

pub lists_all_owned : Nsec3CircleListsAllOwned
lists_all_owned = is_listed

pub denials_agree : Nsec3DenialsAgree
denials_agree = is_denied
