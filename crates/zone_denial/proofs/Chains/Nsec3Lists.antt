-- What the lists of a chain of NSEC3 sets have, and that no denial contradicts one
use Rattle.std.proofs.Common.{◌≡◌, ◌≢◌, ◌↔◌, ℕ, Bool, true, false, cond, not, ◌&&◌, ◌||◌, List, [], map, refl, sym, ap, ◌∙◌, subst, true≢false, ◌⊎◌, inl, inr, eqb-true, eq-eqb}
use Rattle.std.specs.Prelude.{Option, Some, None, option_map, ◌==◌}
use Rattle.std.specs.List.{Contains}
use Rattle.zone_proto.specs.declared.rdata.denial.NSEC3PARAM.{NSEC3PARAM as Nsec3Parameters}
use Rattle.zone_proto.specs.HashedOwners.{hashed_owner}
use Rattle.zone_proto.specs.Names.{Name, is_at_or_above, IsAbove}
use Rattle.zone_proto.specs.Sets.{RRset}
use Rattle.zone_proto.specs.Types.{RRSIG, NSEC, NSEC3, ANY}
use Rattle.zone_proto.proofs.Members.{any_from_In, and_left, and_right}
use Rattle.zone_proto.proofs.Names.NameTree.{above_test, is_at_or_above_complete}
use Rattle.zone_map.specs.AnyTypes.{any_type, searched_type}
use Rattle.zone_map.specs.Direct.{direct}
use Rattle.zone_map.specs.Wildcards.{found, wildcard}
use Rattle.zone_map.specs.Zones.{Sets, set_at, owns, names_of, owns_at_or_below}
use Rattle.zone_map.proofs.Owned.{name_in}
use Rattle.zone_denial.specs.Authority.{is_below_cut, owns_besides}
use Rattle.zone_denial.specs.ChainLaws.{IsNsec3ListedInChain, IsNsec3DeniedInChain, Nsec3ChainListsAllOwned, Nsec3ChainDenialsAgree}
use Rattle.zone_denial.specs.Chains.{is_delegation, is_stated_at_delegation, is_stated, may_be_left_out, IsInNsec3Chain, IsNsec3Chain}
use Rattle.zone_denial.specs.Nsec3Laws.{types3_of, IsSetOf}
use Rattle.zone_denial.proofs.Chain.NsecLists.{not_found}
use Rattle.zone_denial.proofs.Chain.NsecSecured.{numbers_back}
use Rattle.zone_denial.proofs.Chains.NsecLists.{list_right, list_signed, delegation_below, delegation_owns, neither, only_ds}
use Rattle.zone_denial.proofs.Names.AuthoritativeNames.{authoritative_from, besides_from, from_besides}

same_set : (p : Option RRset) (s r : RRset) → p ≡ Some s → p ≡ Some r → s ≡ r
same_set p s r e f = cc

same_list : (types listed : List ℕ) → Some types ≡ Some listed → types ≡ listed
same_list types listed e = cc

other_type : (t : ℕ) → t ≢ NSEC3 → not (t == NSEC3) ≡ true
other_type t ne = by (t == NSEC3) refl
  where
    by : (b : Bool) → (t == NSEC3) ≡ b → not b ≡ true
    by true e = absurd (ne (eqb-true t NSEC3 e))
    by false e = refl

module _ (origin : Name) (beside m : Sets) (hash : Name → Option (List ℕ)) (parameters : Nsec3Parameters) (names : List Name) (h : IsNsec3Chain origin beside m hash parameters names) where
  -- the set of a name of the chain, and the list in it
  pub record IsListOf (x : Name) (types : List ℕ) : Type 0 where
    pub digest : List ℕ
    pub set : RRset
    pub in_chain : IsInNsec3Chain origin beside m hash parameters names x digest set
    pub same : in_chain.types ≡ types

  pub list_of : (x : Name) (s : RRset) (types : List ℕ) → Contains names x → IsSetOf origin m hash x s → types3_of s ≡ Some types → IsListOf x types
  list_of x s types on (d, hashed, stands) said =
      let own = h.one_for_each x d on hashed in
      let same : s ≡ own.0 = same_set (set_at m (hashed_owner origin d) NSEC3) s own.0 stands own.1 in
      record {
        digest = d;
        set = own.0;
        in_chain = own.2;
        same = sym (same_list types own.2.types (sym said ∙ ap types3_of same ∙ ap (λ a. option_map (λ a. map (λ t. t.0) a.types) a) own.2.says ∙ ap Some (numbers_back own.2.types)));
      }

  pub list_exact : (x : Name) (types : List ℕ) → IsListOf x types → (t : ℕ) → t ≢ RRSIG → t ≢ NSEC → t ≢ NSEC3 → is_stated origin m x t ≡ true → Contains types t ↔ (owns m x t ≡ true)
  list_exact x types l t a w b k = subst (λ ts. Contains ts t ↔ (owns m x t ≡ true)) l.same (list_right origin m x l.in_chain.types l.in_chain.right t a w b k)

  -- a delegation's list doesn't tell of NSEC
  told_nsec : (x : Name) → is_stated origin m x NSEC ≡ true → is_delegation origin m x ≡ false
  told_nsec x k = by (is_delegation origin m x) refl
    where
      by : (d : Bool) → is_delegation origin m x ≡ d → d ≡ false
      by false e = refl
      by true e = absurd (true≢false (sym k ∙ ap (λ d. not d || is_stated_at_delegation NSEC) e))

  -- of NSEC a list has what stays, and nothing that doesn't stand beside it either
  pub list_nsec : (x : Name) (types : List ℕ) → IsListOf x types → is_stated origin m x NSEC ≡ true → (owns m x NSEC ≡ true → Contains types NSEC) × (Contains types NSEC → (owns m x NSEC ≡ true) ⊎ (owns beside x NSEC ≡ true))
  list_nsec x types l k = subst (λ ts. (owns m x NSEC ≡ true → Contains ts NSEC) × (Contains ts NSEC → (owns m x NSEC ≡ true) ⊎ (owns beside x NSEC ≡ true))) l.same (l.in_chain.nsec (told_nsec x k))

  -- ---- what x owns is listed, or x is below a zone cut, or left out

  pub is_listed : (x : Name) (t : ℕ) → t ≢ NSEC3 → owns m x t ≡ true → IsNsec3ListedInChain origin m hash parameters.opt_out names x t
  is_listed x t ne k = record {
    on = λ on s types of said told. listed types (list_of x s types on of said) told (t == RRSIG) refl (t == NSEC) refl;
    off = λ off inside. by off inside (is_below_cut origin m x) refl;
  }
    where
      told_rrsig : (d : Bool) → is_delegation origin m x ≡ d → t ≡ RRSIG → not d || is_stated_at_delegation t ≡ true → d ≡ false
      told_rrsig false e q p = refl
      told_rrsig true e q p = absurd (true≢false (sym p ∙ ap is_stated_at_delegation q))

      listed : (types : List ℕ) → IsListOf x types → is_stated origin m x t ≡ true → (b : Bool) → (t == RRSIG) ≡ b → (c : Bool) → (t == NSEC) ≡ c → Contains types t
      listed types l told false e false f = (list_exact x types l t (λ q. true≢false (sym (eq-eqb t RRSIG q) ∙ e)) (λ q. true≢false (sym (eq-eqb t NSEC q) ∙ f)) ne told).1 k
      listed types l told false e true f =
          let q = eqb-true t NSEC f in
          subst (Contains types) (sym q) ((list_nsec x types l (ap (is_stated origin m x) (sym q) ∙ told)).0 (ap (owns m x) (sym q) ∙ k))
      listed types l told true e c f =
          let q = eqb-true t RRSIG e in
          subst (Contains types) (sym q)
          (subst (λ ts. Contains ts RRSIG) l.same (list_signed origin m x l.in_chain.types l.in_chain.right (ap (owns m x) (sym q) ∙ k) (told_rrsig (is_delegation origin m x) refl q told)))

      by : (Contains names x → ⊥) → is_at_or_above origin x ≡ true → (b : Bool) → is_below_cut origin m x ≡ b → (b ≡ true) ⊎ (may_be_left_out origin m parameters.opt_out x ≡ true)
      by off inside true e = inl refl
      by off inside false e = of (h.complete x (authoritative_from origin m NSEC3 x inside (besides_from m NSEC3 x t (other_type t ne) k) e))
        where
          of : Contains names x ⊎ (may_be_left_out origin m parameters.opt_out x ≡ true) → (false ≡ true) ⊎ (may_be_left_out origin m parameters.opt_out x ≡ true)
          of (inl on) = absurd (off on)
          of (inr left) = inr left

  -- ---- what isn't found isn't listed

  pub named_owns_below : (x : Name) → Contains names x → owns_at_or_below m x ≡ true
  named_owns_below x on =
      let r = (h.authoritative x on).1 in
      let t = from_besides m NSEC3 r.0 (and_left (owns_besides m NSEC3 r.0) (not (is_below_cut origin m r.0)) (and_right (is_at_or_above origin r.0) (owns_besides m NSEC3 r.0 && not (is_below_cut origin m r.0)) r.1)) in
      any_from_In (is_at_or_above x) r.0 (names_of m) (name_in m r.0 t.0 t.2) (is_at_or_above_complete x r.0 r.2)

  pub is_denied : (signed : Bool) (x : Name) (t : ℕ) → t ≢ ANY → found m signed x (searched_type m x t) ≡ None → IsNsec3DeniedInChain origin m hash beside names x t
  is_denied signed x t any e = record {
    name = named_owns_below x;
    type' = λ on s types of said c. by types (list_of x s types on of said) c (t == RRSIG) refl (t == NSEC3) refl (is_stated origin m x t) refl (t == NSEC) refl;
  }
    where
      itself : searched_type m x t ≡ t
      itself = of (t == ANY) refl
        where
          of : (b : Bool) → (t == ANY) ≡ b → searched_type m x t ≡ t
          of true q = absurd (any (eqb-true t ANY q))
          of false q = ap (λ b. cond b (any_type m x) t) q

      nothing : direct m x t ≡ None
      nothing = (neither (direct m x t) (wildcard m signed x t) (ap (found m signed x) (sym itself) ∙ e)).0

      untold : (d : Bool) → is_delegation origin m x ≡ d → not d || is_stated_at_delegation t ≡ false → ⊥
      untold false q p = true≢false p
      untold true q p =
          let o = delegation_owns origin m x q in
          true≢false (sym (ap is_stated_at_delegation (only_ds m x t (not_root ((above_test origin x).0 (delegation_below origin m x q))) o.0 o.1 nothing)) ∙ p)
        where
          not_root : IsAbove origin x → x ≡ [] → ⊥
          not_root (l, f, u) v = cc

      of : t ≡ NSEC → (owns m x NSEC ≡ true) ⊎ (owns beside x NSEC ≡ true) → (t ≡ RRSIG) ⊎ ((t ≡ NSEC) × (owns beside x NSEC ≡ true))
      of same (inl k) = absurd (not_found m signed x t e (ap (owns m x) same ∙ k))
      of same (inr k) = inr (same, k)

      by : (types : List ℕ) → IsListOf x types → Contains types t → (b : Bool) → (t == RRSIG) ≡ b → (n : Bool) → (t == NSEC3) ≡ n → (c : Bool) → is_stated origin m x t ≡ c → (w : Bool) → (t == NSEC) ≡ w
          → (t ≡ RRSIG) ⊎ ((t ≡ NSEC) × (owns beside x NSEC ≡ true))
      by types l i true q n p c told w v = inl (eqb-true t RRSIG q)
      by types l i false q true p c told w v = absurd (l.in_chain.no_hashed (subst (λ ts. Contains ts NSEC3) (sym l.same) (subst (Contains types) (eqb-true t NSEC3 p) i)))
      by types l i false q false p true told true v =
          let same = eqb-true t NSEC v in
          of same ((list_nsec x types l (ap (is_stated origin m x) (sym same) ∙ told)).1 (subst (Contains types) same i))
      by types l i false q false p true told false v =
          absurd (not_found m signed x t e ((list_exact x types l t (λ r. true≢false (sym (eq-eqb t RRSIG r) ∙ q)) (λ r. true≢false (sym (eq-eqb t NSEC r) ∙ v)) (λ r. true≢false (sym (eq-eqb t NSEC3 r) ∙ p)) told).0 i))
      by types l i false q false p false told w v = absurd (untold (is_delegation origin m x) refl told)

pub lists_all_owned : Nsec3ChainListsAllOwned
lists_all_owned = is_listed

pub denials_agree : Nsec3ChainDenialsAgree
denials_agree = is_denied
