-- The NSEC3 record of a name denies what the name hasn't
use Rattle.std.proofs.Common.{◌≡◌, ◌≢◌, ℕ, Bool, true, false, cond, not, ◌&&◌, ◌||◌, List, refl, sym, ap, ◌∙◌, true≢false, eqb-true, eq-eqb}
use Rattle.std.specs.Prelude.{Option, Some, ◌==◌}
use Rattle.std.specs.Cmp.{both_ways}
use Rattle.std.specs.List.{list_any}
use Rattle.zone_proto.specs.declared.rdata.denial.NSEC3PARAM.{NSEC3PARAM as Nsec3Parameters}
use Rattle.zone_proto.specs.Names.{Name, name_eq, is_root}
use Rattle.zone_proto.specs.Sets.{RRset}
use Rattle.zone_proto.specs.Types.{NS, CNAME, SOA, DS, RRSIG, NSEC, NSEC3, ANY}
use Rattle.zone_proto.proofs.Members.{In, or_left, or_right}
use Rattle.zone_map.specs.Zones.{Sets, set_at, owns}
use Rattle.zone_denial.specs.Authority.{owns_besides}
use Rattle.zone_denial.specs.Chains.{is_delegation, is_stated_at_delegation, is_stated, IsInNsec3Chain, IsNsec3Chain}
use Rattle.zone_denial.specs.Nsec3Zones.{IsHashedOn, HasDistinctDigests}
use Rattle.zone_denial.proofs.Chains.NsecLists.{delegation_owns}
use Rattle.zone_denial.proofs.Chains.Nsec3Owners.{owner, set_of_named}
use Rattle.zone_denial.proofs.Names.AuthoritativeNames.{from_besides}
use Rattle.denial_validation.specs.Nsec3Proofs.{lists, lists_none, is_wrong_side, denies_type}
use Rattle.denial_validation.specs.Nsec3Records.{Nsec3Record}
use Rattle.denial_laws.specs.Scope.{is_parents_ds}
use Rattle.denial_laws.proofs.Chains.Nsec3Judging.{no_hashed, unlisted, told_listed, told_owned, told_unlisted}
use Rattle.denial_laws.proofs.Chains.Nsec3Readings.{record_of, types_are}
use Rattle.denial_laws.proofs.Tests.{refuted}

-- of a name without the type and without an alias, that owns NS beside SOA alone, unless DS is asked for; where ANY is, it owns nothing
module _ {origin : Name} {beside m : Sets} {hash : Name → Option (List ℕ)} {parameters : Nsec3Parameters} {names : List Name} {x : Name} (zone : IsNsec3Chain origin beside m hash parameters names) (apart : HasDistinctDigests (IsHashedOn names x) hash)
    (y : Name) (on : In y names) (t : ℕ) (nothing : (u : ℕ) → owns m y u ≡ true → t ≢ ANY) (unowned : t ≢ ANY → (t == NSEC3) ≡ false → owns m y t ≡ false) (none_beside : t ≢ ANY → t ≡ NSEC → owns beside y NSEC ≡ false) (no_alias : owns m y CNAME ≡ false) (signed : t ≢ RRSIG)
    (child : t ≡ DS → is_parents_ds origin m y ≡ false) (apex : (t == DS) ≡ false → owns m y NS ≡ true → owns m y SOA ≡ true)
  where
    abbrev r : Nsec3Record
    r = record_of zone apart y

    -- a question of any type has an answer where it owns one, and a list of nothing is empty
    none_listed : t ≡ ANY → lists_none r ≡ true
    none_listed e = ap not (ap (list_any (λ u. true)) (sym (types_are zone apart y on) ∙ s.2.empty (refuted (owns_besides m NSEC3 y) (λ k. let v = from_besides m NSEC3 y k in nothing v.0 v.2 e))))
      where
        s : (s : RRset) × (set_at m (owner zone apart y) NSEC3 ≡ Some s) × IsInNsec3Chain origin beside m hash parameters names y (apart.digest y) s
        s = set_of_named zone apart y on

    -- a delegation, of which no list tells all, is asked for DS alone
    tells_it : is_stated origin m y t ≡ true
    tells_it = by (is_delegation origin m y) refl (t == DS) refl
      where
        by : (d : Bool) → is_delegation origin m y ≡ d → (b : Bool) → (t == DS) ≡ b → not d || is_stated_at_delegation t ≡ true
        by false e b q = refl
        by true e true q = ap is_stated_at_delegation (eqb-true t DS q)
        by true e false q = let o = delegation_owns origin m y e in absurd (true≢false (sym (apex q o.0) ∙ o.1))

    type_not : t ≢ ANY → lists r t ≡ false
    type_not one = by (t == NSEC3) refl
      where
        by : (b : Bool) → (t == NSEC3) ≡ b → lists r t ≡ false
        by true e = ap (lists r) (eqb-true t NSEC3 e) ∙ no_hashed zone apart y on
        by false e = unlisted zone apart y on t signed (none_beside one) tells_it (unowned one e)

    alias_not : lists r CNAME ≡ false
    alias_not = told_unlisted zone apart y on CNAME refl no_alias

    soa_is : lists r SOA ≡ owns m y SOA
    soa_is = both_ways (lists r SOA) (owns m y SOA) (told_owned zone apart y on SOA refl) (told_listed zone apart y on SOA refl)

    wrong_not : is_wrong_side origin r y t ≡ false
    wrong_not = by (t == DS) refl
      where
        delegation : (t == DS) ≡ false → (b : Bool) → lists r NS ≡ b → b && not (lists r SOA) ≡ false
        delegation d false e = refl
        delegation d true e = ap not (soa_is ∙ apex d (told_owned zone apart y on NS refl e))

        by : (b : Bool) → (t == DS) ≡ b → cond b ((lists r SOA || name_eq y origin) && not (is_root y)) (lists r NS && not (lists r SOA)) ≡ false
        by true d = ap (λ b. (b || name_eq y origin) && not (is_root y)) soa_is ∙ child (eqb-true t DS d)
        by false d = delegation d (lists r NS) refl

    pub own_denies : denies_type origin (record_of zone apart y) y t ≡ true
    own_denies = λ i. not (wrong_not i) && by (t == ANY) refl i
      where
        several : Bool → Bool
        several b = lists_none r || (not b && not (lists r t) && not (lists r CNAME))

        by : (b : Bool) → (t == ANY) ≡ b → several (t == ANY) ≡ true
        by true e = or_left (lists_none r) (not (t == ANY) && not (lists r t) && not (lists r CNAME)) (none_listed (eqb-true t ANY e))
        by false e = or_right (lists_none r) (not (t == ANY) && not (lists r t) && not (lists r CNAME)) (λ i. not (e i) && not (type_not other i) && not (alias_not i))
          where
            other : t ≢ ANY
            other q = true≢false (sym (eq-eqb t ANY q) ∙ e)
