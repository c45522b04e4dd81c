-- Where a name's own NSEC3 record denies a type, the name owns no set of it
use Rattle.std.proofs.Common.{◌≡◌, ◌≢◌, ℕ, Bool, true, false, cond, not, ◌&&◌, ◌||◌, List, refl, sym, ap, ◌∙◌, true≢false, ◌⊎◌, inl, inr, arith, eqb-true, eq-eqb}
use Rattle.std.specs.Prelude.{Option, ◌==◌}
use Rattle.std.specs.List.{list_any}
use Rattle.zone_proto.specs.declared.rdata.denial.NSEC3PARAM.{NSEC3PARAM as Nsec3Parameters}
use Rattle.zone_proto.specs.Names.{Name, name_eq, is_root, is_at_or_above}
use Rattle.zone_proto.specs.Types.{NS, CNAME, SOA, DS, RRSIG, NSEC3, ANY}
use Rattle.zone_proto.proofs.Members.{In, In-from_any, any_from_In, and_left, and_right, not_true}
use Rattle.zone_proto.proofs.Names.NameTree.{is_at_or_above_sound}
use Rattle.zone_map.specs.Zones.{Sets, owns}
use Rattle.zone_denial.specs.Chains.{is_delegation, is_stated_at_delegation, is_stated, IsNsec3Chain}
use Rattle.zone_denial.specs.Nsec3Zones.{IsHashedOn, HasDistinctDigests}
use Rattle.zone_denial.proofs.Chains.NsecLists.{delegation_owns, not_delegation}
use Rattle.denial_validation.specs.Nsec3Proofs.{matches, lists, lists_none, is_wrong_side, denies_type, is_denied, proves_no_data}
use Rattle.denial_validation.specs.Nsec3Records.{Nsec3Record}
use Rattle.denial_laws.specs.Nsec3Scope.{AreNsec3OfZone}
use Rattle.denial_laws.proofs.Chains.Nsec3Judging.{owned_listed, signature_listed, call_concludes, told_listed, told_owned}
use Rattle.denial_laws.proofs.Chains.Nsec3Proved.{self_hashed, matching}
use Rattle.denial_laws.proofs.Chains.Nsec3Readings.{record_of, of_name}
use Rattle.denial_laws.proofs.Tests.{refuted}

-- a record that denies a type lists none, or neither the type nor CNAME
denied_by : (wrong none any own alias : Bool) → not wrong && (none || (not any && not own && not alias)) ≡ true → (none ≡ true) ⊎ ((own ≡ false) × (alias ≡ false))
denied_by true none any own alias e = absurd (true≢false (sym e))
denied_by false true any own alias e = inl refl
denied_by false false true own alias e = absurd (true≢false (sym e))
denied_by false false false true alias e = absurd (true≢false (sym e))
denied_by false false false false true e = absurd (true≢false (sym e))
denied_by false false false false false e = inr (refl, refl)

unlisted : (r : Nsec3Record) → lists_none r ≡ true → (t : ℕ) → lists r t ≡ false
unlisted r none t =
    refuted (lists r t)
    (λ e. let u = In-from_any (λ u. u == t) r.types e in
    true≢false (sym (any_from_In (λ u. true) u.0 r.types u.1 refl) ∙ not_true (list_any (λ u. true) r.types) none))

module _ (origin : Name) (beside m : Sets) (hash : Name → Option (List ℕ)) (parameters : Nsec3Parameters) (names : List Name) (rs : List Nsec3Record) (of_zone : AreNsec3OfZone m rs) (zone : IsNsec3Chain origin beside m hash parameters names) (x : Name)
    (apart : HasDistinctDigests (IsHashedOn names x) hash) (t : ℕ) (p : proves_no_data origin hash rs x t ≡ true)
  where
    abbrev r : Nsec3Record
    r = record_of zone apart x

    own : In x names × (denies_type origin (record_of zone apart x) x t ≡ true)
    own =
        let v = In-from_any (λ r. matches origin hash r x && denies_type origin r x t) rs (and_right (is_at_or_above origin x) (is_denied origin hash rs x t) p) in
        let inside = is_at_or_above_sound origin x (and_left (is_at_or_above origin x) (is_denied origin hash rs x t) p) in
        let k = matching zone apart rs (of_name zone apart rs of_zone) x (self_hashed names origin zone.begins x inside) v.0 v.1 (and_left (matches origin hash v.0 x) (denies_type origin v.0 x t) v.2) in
        (k.0, ap (λ r. denies_type origin r x t) (sym k.1) ∙ and_right (matches origin hash v.0 x) (denies_type origin v.0 x t) v.2)

    pub lacking_named : In x names
    lacking_named = own.0

    -- a type that is there is listed, if the list tells of it
    unlisted_absent : (u : ℕ) → u ≢ RRSIG → u ≢ NSEC3 → is_stated origin m x u ≡ true → lists r u ≡ false → owns m x u ≡ false
    unlisted_absent u a b k e = refuted (owns m x u) (λ o. true≢false (sym (owned_listed zone apart x own.0 u o a b k) ∙ e))

    -- the record is of the right side of a zone cut, so that the name is a delegation only where DS is asked for
    ns_beside_soa : (t == DS) ≡ false → owns m x NS ≡ true → owns m x SOA ≡ true
    ns_beside_soa e k = by (lists r SOA) refl
      where
        right_side : is_wrong_side origin r x t ≡ false
        right_side = not_true (is_wrong_side origin r x t) (and_left (not (is_wrong_side origin r x t)) (lists_none r || (not (t == ANY) && not (lists r t) && not (lists r CNAME))) own.1)

        delegation : lists r NS && not (lists r SOA) ≡ false
        delegation = sym (ap (λ b. cond b ((lists r SOA || name_eq x origin) && not (is_root x)) (lists r NS && not (lists r SOA))) e) ∙ right_side

        by : (b : Bool) → lists r SOA ≡ b → owns m x SOA ≡ true
        by true q = told_owned zone apart x own.0 SOA refl q
        by false q = absurd (true≢false (sym (λ i. told_listed zone apart x own.0 NS refl k i && not (q i)) ∙ delegation))

    tells_it : is_stated origin m x t ≡ true
    tells_it = by (is_delegation origin m x) refl (t == DS) refl
      where
        by : (d : Bool) → is_delegation origin m x ≡ d → (b : Bool) → (t == DS) ≡ b → not d || is_stated_at_delegation t ≡ true
        by false e b q = refl
        by true e true q = ap is_stated_at_delegation (eqb-true t DS q)
        by true e false q = let o = delegation_owns origin m x e in absurd (true≢false (sym (ns_beside_soa q o.0) ∙ o.1))

    absent : t ≢ NSEC3 → lists r t ≡ false → owns m x t ≡ false
    absent other e = by (t == RRSIG) refl
      where
        by : (b : Bool) → (t == RRSIG) ≡ b → owns m x t ≡ false
        by false q = unlisted_absent t (λ g. true≢false (sym (eq-eqb t RRSIG g) ∙ q)) other tells_it e
        by true q =
            ap (owns m x) signature
            ∙ refuted (owns m x RRSIG)
            (λ o. true≢false
            (sym
            (signature_listed zone apart x own.0 o
            (not_delegation origin m x (λ d. let k = delegation_owns origin m x d in true≢false (sym (ns_beside_soa (ap (λ u. u == DS) signature) k.0) ∙ k.1))))
            ∙ ap (lists r) (sym signature) ∙ e))
          where
            signature : t ≡ RRSIG
            signature = eqb-true t RRSIG q

    pub lacking : (t ≢ NSEC3 → owns m x t ≡ false) × (owns m x CNAME ≡ false)
    lacking = by (denied_by (is_wrong_side origin r x t) (lists_none r) (t == ANY) (lists r t) (lists r CNAME) own.1)
      where
        alias : lists r CNAME ≡ false → owns m x CNAME ≡ false
        alias e = unlisted_absent CNAME (λ g. omega (arith, g)) (λ g. omega (arith, g)) (call_concludes zone apart x own.0 CNAME refl) e

        by : (lists_none r ≡ true) ⊎ ((lists r t ≡ false) × (lists r CNAME ≡ false)) → (t ≢ NSEC3 → owns m x t ≡ false) × (owns m x CNAME ≡ false)
        by (inl none) = (λ other. absent other (unlisted r none t), alias (unlisted r none CNAME))
        by (inr (none, no_alias)) = (λ other. absent other none, alias no_alias)
