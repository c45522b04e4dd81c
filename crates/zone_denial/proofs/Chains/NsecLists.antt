-- What the lists of a chain of NSEC sets have, and that no denial contradicts one
use Rattle.std.proofs.Common.{◌≡◌, ◌≢◌, ◌↔◌, ℕ, Bool, true, false, cond, not, ◌&&◌, ◌||◌, List, [], drop, refl, sym, ap, ◌∙◌, subst, true≢false, ◌⊎◌, inl, inr, eqb-true, eq-eqb}
use Rattle.std.specs.Prelude.{Option, Some, None, is_some, unwrap_or, option_and_then, length, ◌==◌}
use Rattle.std.specs.List.{Contains}
use Rattle.std.specs.Option.{option_or}
use Rattle.zone_proto.specs.declared.rr_key.RrKey.{RrKey}
use Rattle.zone_proto.specs.Keys.{key}
use Rattle.zone_proto.specs.Names.{Name, name_eq, is_above, is_at_or_above, IsAbove}
use Rattle.zone_proto.specs.Sets.{RRset}
use Rattle.zone_proto.specs.Types.{NS, SOA, DS, RRSIG, NSEC, NSEC3, ANY}
use Rattle.zone_proto.proofs.Members.{any_from_In, and_left, and_right, not_true}
use Rattle.zone_proto.proofs.Names.NameTree.{above_test}
use Rattle.zone_proto.proofs.Names.Tree.{name_eq_itself}
use Rattle.zone_map.specs.AnyTypes.{any_type, searched_type}
use Rattle.zone_map.specs.Direct.{referral, exact, direct}
use Rattle.zone_map.specs.Walks.{referral_above}
use Rattle.zone_map.specs.Wildcards.{found, wildcard}
use Rattle.zone_map.specs.Zones.{Sets, set_at, owns}
use Rattle.zone_map.proofs.Owned.{has_entry, set_of}
use Rattle.zone_map.proofs.Walks.{own_cut, referral_split}
use Rattle.zone_denial.specs.Authority.{is_below_cut}
use Rattle.zone_denial.specs.ChainLaws.{IsListedInChain, ChainListsAllOwned, ChainDenialsAgree}
use Rattle.zone_denial.specs.Chains.{is_delegation, is_below_dname, is_stated_at_delegation, is_stated, IsRightList, IsInNsecChain, IsNsecChain}
use Rattle.zone_denial.specs.NsecCircle.{types_of}
use Rattle.zone_denial.specs.NsecLaws.{IsDenied}
use Rattle.zone_denial.proofs.Names.AuthoritativeNames.{authoritative_from, besides_alone}
use Rattle.zone_denial.proofs.Chain.NsecLists.{off_circle, not_found}

-- ---- delegations

pub delegation_below : (origin : Name) (m : Sets) (n : Name) → is_delegation origin m n ≡ true → is_above origin n ≡ true
delegation_below origin m n d = and_left (is_above origin n) (owns m n NS && not (owns m n SOA)) d

pub delegation_owns : (origin : Name) (m : Sets) (n : Name) → is_delegation origin m n ≡ true → (owns m n NS ≡ true) × (owns m n SOA ≡ false)
delegation_owns origin m n d =
    let r = and_right (is_above origin n) (owns m n NS && not (owns m n SOA)) d in
    (and_left (owns m n NS) (not (owns m n SOA)) r, not_true (owns m n SOA) (and_right (owns m n NS) (not (owns m n SOA)) r))

pub not_delegation : (origin : Name) (m : Sets) (n : Name) → (is_delegation origin m n ≡ true → ⊥) → is_delegation origin m n ≡ false
not_delegation origin m n h = by (is_delegation origin m n) refl
  where
    by : (b : Bool) → is_delegation origin m n ≡ b → b ≡ false
    by true e = absurd (h e)
    by false e = refl

-- ---- a right list

module _ (origin : Name) (m : Sets) (n : Name) (types : List ℕ) (r : IsRightList origin m n types) where
  pub list_right : (t : ℕ) → t ≢ RRSIG → t ≢ NSEC → t ≢ NSEC3 → is_stated origin m n t ≡ true → Contains types t ↔ (owns m n t ≡ true)
  list_right t a w b k = by (is_delegation origin m n) refl k
    where
      by : (d : Bool) → is_delegation origin m n ≡ d → not d || is_stated_at_delegation t ≡ true → Contains types t ↔ (owns m n t ≡ true)
      by true e p = r.at_delegation e t p
      by false e p = r.exact e t a w b

  -- RRSIG, if it is owned
  pub list_signed : owns m n RRSIG ≡ true → is_delegation origin m n ≡ false → Contains types RRSIG
  list_signed k e =
      let s = has_entry m n RRSIG k in
      r.signed e (any_from_In (λ (d : RrKey × RRset). name_eq n d.0.name && (not (d.0.record_type.0 == NSEC3) && ((d.0.record_type.0 == RRSIG) || not (length d.1.signatures == 0)))) (key n RRSIG, s.0) m s.1 (λ i. name_eq_itself n i && true))

-- ---- the list of an owner

-- the types that the NSEC set of a name lists
abbrev pub listed_types : Sets → Name → List ℕ
listed_types m n = unwrap_or (option_and_then types_of (set_at m n NSEC)) []

module _ (origin : Name) (m : Sets) (h : IsNsecChain origin m) (n : Name) where
  list_is : (s : RRset) → set_at m n NSEC ≡ Some s → (types : List ℕ) → types_of s ≡ Some types → types ≡ listed_types m n
  list_is s e types said = sym (ap (λ p. unwrap_or p []) (ap (option_and_then types_of) e ∙ said))

  pub of_owner : (on : owns m n NSEC ≡ true) → IsRightList origin m n (listed_types m n) × (Contains (listed_types m n) NSEC3 ↔ (owns m n NSEC3 ≡ true)) × (is_delegation origin m n ≡ false → Contains (listed_types m n) NSEC)
  of_owner on =
      let s = set_of m n NSEC on in
      let c : IsInNsecChain origin m n s.0 = h.each n s.0 s.1 in
      let same : c.types ≡ listed_types m n = list_is s.0 s.1 c.types c.listed in (
        subst (IsRightList origin m n) same c.right,
        subst (λ ts. Contains ts NSEC3 ↔ (owns m n NSEC3 ≡ true)) same c.hashed,
        λ d. subst (λ ts. Contains ts NSEC) same (c.own d),
      )

  pub types_are : owns m n NSEC ≡ true → option_and_then types_of (set_at m n NSEC) ≡ Some (listed_types m n)
  types_are on =
      let s = set_of m n NSEC on in
      let c : IsInNsecChain origin m n s.0 = h.each n s.0 s.1 in
      ap (option_and_then types_of) s.1 ∙ c.listed ∙ ap Some (list_is s.0 s.1 c.types c.listed)

  -- whatever it tells of is listed exactly where it is owned
  pub list_exact : owns m n NSEC ≡ true → (t : ℕ) → t ≢ RRSIG → is_stated origin m n t ≡ true → Contains (listed_types m n) t ↔ (owns m n t ≡ true)
  list_exact on t a k = by (t == NSEC3) refl (t == NSEC) refl
    where
      told : t ≡ NSEC → (d : Bool) → is_delegation origin m n ≡ d → not d || is_stated_at_delegation t ≡ true → d ≡ false
      told q false e p = refl
      told q true e p = absurd (true≢false (sym p ∙ ap is_stated_at_delegation q))

      own : t ≡ NSEC → Contains (listed_types m n) NSEC ↔ (owns m n NSEC ≡ true)
      own q = (λ c. on, λ o. (of_owner on).2 (told q (is_delegation origin m n) refl k))

      by : (b : Bool) → (t == NSEC3) ≡ b → (c : Bool) → (t == NSEC) ≡ c → Contains (listed_types m n) t ↔ (owns m n t ≡ true)
      by true e c f = subst (λ u. Contains (listed_types m n) u ↔ (owns m n u ≡ true)) (sym (eqb-true t NSEC3 e)) (of_owner on).1
      by false e true f = let q = eqb-true t NSEC f in subst (λ u. Contains (listed_types m n) u ↔ (owns m n u ≡ true)) (sym q) (own q)
      by false e false f =
          list_right origin m n (listed_types m n) (of_owner on).0 t a (λ q. true≢false (sym (eq-eqb t NSEC q) ∙ f)) (λ q. true≢false (sym (eq-eqb t NSEC3 q) ∙ e)) k

-- ---- what is found at a delegation

pub neither : {X : Type 0} (o p : Option X) → option_or o p ≡ None → (o ≡ None) × (p ≡ None)
neither None p e = (refl, e)
neither (Some x) p e = absurd cc

-- whatever is asked there but DS finds the referral
pub only_ds : (m : Sets) (y : Name) (t : ℕ) → (y ≡ [] → ⊥) → owns m y NS ≡ true → owns m y SOA ≡ false → direct m y t ≡ None → t ≡ DS
only_ds m y t below k soa nothing = by (t == DS) refl
  where
    no_set : (s : RRset) → Some s ≡ None → ⊥
    no_set s e = cc

    by : (b : Bool) → (t == DS) ≡ b → t ≡ DS
    by true d = eqb-true t DS d
    by false d =
        let s = set_of m y NS k in
        let cut = own_cut m y t s.0 below s.1 soa ∙ ap (λ b. cond b None (Some (Some s.0))) d in
        absurd (no_set s.0 (sym (referral_split m y t ∙ ap (λ o. unwrap_or o (referral_above m (drop 1 y))) cut) ∙ (neither (referral m y t) (exact m y t) nothing).0))

module _ (origin : Name) (m : Sets) (h : IsNsecChain origin m) where
  -- ---- what x owns is listed, or x is below a zone cut or a DNAME

  pub is_listed : (x : Name) (t : ℕ) → owns m x t ≡ true → IsListedInChain origin m x t
  is_listed x t k = record {
    on = λ s types e said told. subst (λ ts. Contains ts t) (sym (list_is origin m h x s e types said)) (listed (ap is_some e) told (t == RRSIG) refl);
    off = λ off inside. of off inside (is_below_cut origin m x) refl;
  }
    where
      told_rrsig : (d : Bool) → is_delegation origin m x ≡ d → t ≡ RRSIG → not d || is_stated_at_delegation t ≡ true → d ≡ false
      told_rrsig false e q p = refl
      told_rrsig true e q p = absurd (true≢false (sym p ∙ ap is_stated_at_delegation q))

      listed : owns m x NSEC ≡ true → is_stated origin m x t ≡ true → (b : Bool) → (t == RRSIG) ≡ b → Contains (listed_types m x) t
      listed on told false e = (list_exact origin m h x on t (λ q. true≢false (sym (eq-eqb t RRSIG q) ∙ e)) told).1 k
      listed on told true e =
          let q = eqb-true t RRSIG e in
          subst (Contains (listed_types m x)) (sym q)
          (list_signed origin m x (listed_types m x) (of_owner origin m h x on).0 (ap (owns m x) (sym q) ∙ k) (told_rrsig (is_delegation origin m x) refl q told))

      of : owns m x NSEC ≡ false → is_at_or_above origin x ≡ true → (b : Bool) → is_below_cut origin m x ≡ b → (b ≡ true) ⊎ (is_below_dname m x ≡ true)
      of off inside true e = inl refl
      of off inside false e = there (h.complete x (authoritative_from origin m NSEC x inside (besides_alone m NSEC x t k off) e))
        where
          there : (owns m x NSEC ≡ true) ⊎ (is_below_dname m x ≡ true) → (false ≡ true) ⊎ (is_below_dname m x ≡ true)
          there (inl on) = absurd (true≢false (sym on ∙ off))
          there (inr d) = inr d

  -- ---- what isn't found isn't listed

  pub is_denied : (signed : Bool) (x : Name) (t : ℕ) → t ≢ ANY → found m signed x (searched_type m x t) ≡ None → IsDenied m x t
  is_denied signed x t any e = record {
    name = off_circle m x;
    type' = λ s types k said c. by (ap is_some k) (subst (λ ts. Contains ts t) (list_is origin m h x s k types said) c) (t == RRSIG) refl (is_stated origin m x t) refl;
  }
    where
      itself : searched_type m x t ≡ t
      itself = of (t == ANY) refl
        where
          of : (b : Bool) → (t == ANY) ≡ b → searched_type m x t ≡ t
          of true q = absurd (any (eqb-true t ANY q))
          of false q = ap (λ b. cond b (any_type m x) t) q

      nothing : direct m x t ≡ None
      nothing = (neither (direct m x t) (wildcard m signed x t) (ap (found m signed x) (sym itself) ∙ e)).0

      untold : (d : Bool) → is_delegation origin m x ≡ d → not d || is_stated_at_delegation t ≡ false → ⊥
      untold false q p = true≢false p
      untold true q p =
          let o = delegation_owns origin m x q in
          true≢false (sym (ap is_stated_at_delegation (only_ds m x t (not_root ((above_test origin x).0 (delegation_below origin m x q))) o.0 o.1 nothing)) ∙ p)
        where
          not_root : IsAbove origin x → x ≡ [] → ⊥
          not_root (l, f, u) v = cc

      by : owns m x NSEC ≡ true → Contains (listed_types m x) t → (b : Bool) → (t == RRSIG) ≡ b → (c : Bool) → is_stated origin m x t ≡ c → t ≡ RRSIG
      by on i true q c told = eqb-true t RRSIG q
      by on i false q true told = absurd (not_found m signed x t e ((list_exact origin m h x on t (λ r. true≢false (sym (eq-eqb t RRSIG r) ∙ q)) told).0 i))
      by on i false q false told = absurd (untold (is_delegation origin m x) refl told)

pub lists_all_owned : ChainListsAllOwned
lists_all_owned = is_listed

pub denials_agree : ChainDenialsAgree
denials_agree = is_denied
