-- Where nothing is found at a name for a type, the name's own record in a chain denies the type
use Rattle.std.proofs.Common.{◌≡◌, ◌≢◌, ℕ, Bool, true, false, cond, not, ◌&&◌, ◌||◌, [], ◌∷◌, ◌++◌, refl, sym, ap, ◌∙◌, true≢false, eqb-true}
use Rattle.std.specs.Prelude.{None, ◌==◌}
use Rattle.std.specs.Cmp.{both_ways}
use Rattle.zone_proto.specs.Names.{Name, name_eq, is_root, is_at_or_above, IsAtOrAbove}
use Rattle.zone_proto.specs.Types.{NS, CNAME, SOA, DS, RRSIG, NSEC, ANY}
use Rattle.zone_proto.proofs.Members.{and_left, and_right, not_true}
use Rattle.zone_proto.proofs.Names.NameTree.{is_at_or_above_sound}
use Rattle.zone_proto.proofs.Names.Tree.{name_eq_itself}
use Rattle.zone_map.specs.Direct.{direct}
use Rattle.zone_map.specs.Zones.{Sets, owns}
use Rattle.zone_denial.specs.Chains.{is_delegation, is_stated_at_delegation, is_stated, IsNsecChain}
use Rattle.zone_denial.proofs.Chains.NsecLists.{delegation_owns}
use Rattle.denial_validation.specs.NsecProofs.{lists, shows_type, is_ancestor_delegation, is_wrong_side, denies_type}
use Rattle.denial_validation.specs.NsecRecords.{NsecRecord}
use Rattle.denial_laws.specs.Scope.{Unreferred, is_parents_ds}
use Rattle.denial_laws.proofs.Chains.Readings.{record_at, unlisted, told_listed, told_owned, told_unlisted}
use Rattle.denial_laws.proofs.OwnTypes.{differs, own_type, own_alias, own_delegation}

-- ---- so its record denies the type

-- a name that owns neither the type nor an alias, and NS beside SOA alone, unless DS is asked for
module _ (origin : Name) (m : Sets) (h : IsNsecChain origin m) (y : Name) (inside : is_at_or_above origin y ≡ true) (t : ℕ) (unowned : owns m y t ≡ false) (no_alias : owns m y CNAME ≡ false)
    (beside_soa : (t == DS) ≡ false → owns m y NS ≡ true → owns m y SOA ≡ true) (on : owns m y NSEC ≡ true) (signed : t ≢ RRSIG) (any : t ≢ ANY) (child : t ≡ DS → is_parents_ds origin m y ≡ false)
  where
    abbrev r : NsecRecord
    r = record_at origin m h y

    -- a delegation, of which no list tells all, is asked for DS alone
    tells_it : is_stated origin m y t ≡ true
    tells_it = by (is_delegation origin m y) refl (t == DS) refl
      where
        by : (d : Bool) → is_delegation origin m y ≡ d → (b : Bool) → (t == DS) ≡ b → not d || is_stated_at_delegation t ≡ true
        by false e b q = refl
        by true e true q = ap is_stated_at_delegation (eqb-true t DS q)
        by true e false q = let o = delegation_owns origin m y e in absurd (true≢false (sym (beside_soa q o.0) ∙ o.1))

    not_nsec : t ≢ NSEC
    not_nsec e = true≢false (sym on ∙ ap (owns m y) (sym e) ∙ unowned)

    shows_not : shows_type r t ≡ false
    shows_not = λ i. differs t NSEC not_nsec i || differs t RRSIG signed i || differs t ANY any i || unlisted origin m h y t on signed tells_it unowned i

    alias_not : lists r CNAME ≡ false
    alias_not = told_unlisted origin m h y CNAME refl on no_alias

    apex_is : (lists r SOA || name_eq y origin) && not (is_root y) ≡ is_parents_ds origin m y
    apex_is = ap (λ b. (b || name_eq y origin) && not (is_root y)) (both_ways (lists r SOA) (owns m y SOA) (told_owned origin m h y SOA refl on) (told_listed origin m h y SOA refl on))

    wrong_not : is_wrong_side origin r t ≡ false
    wrong_not = by (t == DS) refl
      where
        delegation : (b : Bool) → (t == DS) ≡ false → is_ancestor_delegation r ≡ b → b ≡ false
        delegation false d e = refl
        delegation true d e =
            let k = beside_soa d (told_owned origin m h y NS refl on (and_left (lists r NS) (not (lists r SOA)) e)) in
            absurd (true≢false (sym (told_listed origin m h y SOA refl on k) ∙ not_true (lists r SOA) (and_right (lists r NS) (not (lists r SOA)) e)))

        by : (b : Bool) → (t == DS) ≡ b → cond b ((lists r SOA || name_eq y origin) && not (is_root y)) (is_ancestor_delegation r) ≡ false
        by true d = apex_is ∙ child (eqb-true t DS d)
        by false d = delegation (is_ancestor_delegation r) d refl

    pub unowned_denied : denies_type origin (record_at origin m h y) y t ≡ true
    unowned_denied = λ i. inside i && name_eq_itself y i && not (shows_not i) && not (alias_not i) && not (wrong_not i)

-- so does one for which nothing is found
module _ (origin : Name) (m : Sets) (h : IsNsecChain origin m) (unreferred : Unreferred origin m) (y : Name) (inside : is_at_or_above origin y ≡ true) (t : ℕ) (nothing : direct m y t ≡ None) where
  -- NS is there beside SOA alone, at the root too
  beside_soa : (t == DS) ≡ false → owns m y NS ≡ true → owns m y SOA ≡ true
  beside_soa d k = by (is_root y) refl
    where
      root_is : (n : Name) → is_root n ≡ true → n ≡ []
      root_is [] e = refl
      root_is (l ∷ ls) e = absurd (true≢false (sym e))

      above : IsAtOrAbove origin y → y ≡ [] → origin ≡ y
      above ([], q) e = sym q
      above (l ∷ f, q) e = let p : [] ≡ l ∷ (f ++ origin) = sym e ∙ q in cc

      by : (b : Bool) → is_root y ≡ b → owns m y SOA ≡ true
      by true e = unreferred y ([], above (is_at_or_above_sound origin y inside) (root_is y e)) k
      by false e = own_delegation m y t nothing (λ q. true≢false (ap is_root (sym q) ∙ e)) d k

  pub type_denied : owns m y NSEC ≡ true → t ≢ RRSIG → t ≢ ANY → (t ≡ DS → is_parents_ds origin m y ≡ false) → denies_type origin (record_at origin m h y) y t ≡ true
  type_denied = unowned_denied origin m h y inside t (own_type m y t nothing) (own_alias m y t nothing) beside_soa
