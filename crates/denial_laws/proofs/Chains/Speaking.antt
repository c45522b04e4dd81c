-- What the record of an owner says of a name in scope that stands between the owner and its next name
use Rattle.std.proofs.Common.{◌≡◌, ℕ, Bool, true, false, not, ◌&&◌, ◌||◌, List, [], ◌∷◌, refl, sym, ap, ◌∙◌, subst, arith, true≢false, ◌⊎◌, inl, inr, Less, is_lt}
use Rattle.std.specs.Prelude.{Some, is_some}
use Rattle.zone_proto.specs.Names.{Name, name_cmp, name_eq, lower, is_above, IsAtOrAbove, IsAbove}
use Rattle.zone_proto.specs.Order.{is_before}
use Rattle.zone_proto.specs.Types.{NS, SOA, NSEC, DNAME}
use Rattle.zone_proto.proofs.Members.{In, Contains-In, In-from_filter_map, none_passes, and_left, and_right, or_left, or_right, not_true}
use Rattle.zone_proto.proofs.Names.NameTree.{name_eq-Decides, above_test, is_at_or_above_sound, is_at_or_above_complete}
use Rattle.zone_proto.proofs.Ordering.Orders.{irrefl}
use Rattle.zone_proto.proofs.Names.Tree.{name_order, above_cases}
use Rattle.zone_map.specs.Zones.{Sets, set_at, owns, owners, types_at, owns_at_or_below}
use Rattle.zone_map.proofs.Owned.{owner_in, type_owned}
use Rattle.zone_denial.specs.Authority.{is_below_cut}
use Rattle.zone_denial.specs.Covering.{covers}
use Rattle.zone_denial.specs.Chains.{is_below_dname, IsNsecChain, next_owner}
use Rattle.zone_denial.specs.NsecDenial.{denying_owners, nsec_denial}
use Rattle.zone_denial.specs.NsecLaws.{HasCover}
use Rattle.zone_denial.proofs.Chain.NsecBelow.{above_at}
use Rattle.zone_denial.proofs.Chain.NsecLists.{owner_elsewhere}
use Rattle.zone_denial.proofs.Chains.NsecBelow.{next_below_empty}
use Rattle.zone_denial.proofs.Chains.NsecLinks.{owner_inside, next_owned}
use Rattle.zone_denial.proofs.Chains.NsecLists.{lists_all_owned, delegation_below, delegation_owns, not_delegation}
use Rattle.denial_validation.specs.NsecProofs.{lists, is_ancestor_delegation, may_apply_to, covers as tells_past, denies_name, shows_empty}
use Rattle.denial_validation.specs.NsecRecords.{NsecRecord}
use Rattle.denial_laws.specs.Scope.{denial_records}
use Rattle.denial_laws.specs.Chains.{IsInScopeOfChain}
use Rattle.denial_laws.proofs.Chains.Gaps.{IsBetween, between_from_covers, owner_below, off_chain}
use Rattle.denial_laws.proofs.Chains.Readings.{record_at, shown, tells_all, unlisted, told_listed, told_owned}
use Rattle.denial_laws.proofs.Chains.Wildcards.{undnamed}
use Rattle.denial_laws.proofs.Speaking.{cover_from_last, three}

-- a record of a denial whose owner and next name a name stands between
pub record IsSpanned (origin : Name) (m : Sets) (h : IsNsecChain origin m) (x y : Name) : Type 0 where
  pub owner : Name
  pub between : IsBetween origin m y owner
  pub among : In (record_at origin m h owner) (denial_records origin m x)

module _ (origin : Name) (m : Sets) (h : IsNsecChain origin m) where
  -- a set of a denial that covers a name is that of an owner that the name comes after
  pub spanned : (x y : Name) → IsAbove origin y → (c : HasCover (nsec_denial origin m x) y) → (s : IsSpanned origin m h x y) × (next_owner origin m s.owner ≡ c.next)
  spanned x y u c =
      let k = In-from_filter_map (λ o. set_at m o NSEC) c.set (denying_owners origin m x) (Contains-In c.set (nsec_denial origin m x) c.among) in
      let next : c.next ≡ next_owner origin m k.0 = same_value c.next (next_owner origin m k.0) (sym c.said ∙ (h.each k.0 c.set k.2).next) in
      let owner : lower c.set.owner ≡ k.0 = (h.zone.stored k.0 NSEC c.set k.2).owner in (
        record {
          owner = k.0;
          between = between_from_covers origin m h y k.0 u (ap is_some k.2) ((λ i. covers name_cmp (sym owner i) (sym next i) y) ∙ c.covers);
          among = shown origin m h x k.0 c.set c.among k.2;
        },
        sym next,
      )
    where
      same_value : (a b : Name) → Some a ≡ Some b → a ≡ b
      same_value a b e = cc

module _ (origin : Name) (m : Sets) (y : Name) (j : IsInScopeOfChain origin m y) where
  abbrev h : IsNsecChain origin m
  h = j.zone

  pub below_origin : owns m y NSEC ≡ false → IsAbove origin y
  below_origin off = by (above_cases origin y (is_at_or_above_sound origin y j.inside))
    where
      by : (origin ≡ y) ⊎ IsAbove origin y → IsAbove origin y
      by (inl e) = absurd (true≢false (sym h.begins ∙ ap (λ a. owns m a NSEC) e ∙ off))
      by (inr u) = u

  -- what it owns puts it in the chain
  pub owner_on_chain : (t : ℕ) → owns m y t ≡ true → owns m y NSEC ≡ true
  owner_on_chain t k = by (owns m y NSEC) refl
    where
      by : (b : Bool) → owns m y NSEC ≡ b → b ≡ true
      by true e = refl
      by false e = of ((lists_all_owned origin m h y t k).off e j.inside)
        where
          of : (is_below_cut origin m y ≡ true) ⊎ (is_below_dname m y ≡ true) → false ≡ true
          of (inl c) = absurd (true≢false (sym c ∙ j.uncut))
          of (inr d) = absurd (true≢false (sym d ∙ undnamed origin m y j))

  -- off the chain it owns nothing
  pub empty_off : owns m y NSEC ≡ false → types_at m y ≡ []
  empty_off off = by (types_at m y) refl
    where
      by : (ts : List ℕ) → types_at m y ≡ ts → ts ≡ []
      by [] e = refl
      by (t ∷ ts) e = absurd (true≢false (sym (owner_on_chain t (type_owned m y t (subst (In t) (sym e) (inl refl)))) ∙ off))

  -- with a set at or below it, an owner is below it
  pub some_below : owns m y NSEC ≡ false → owns_at_or_below m y ≡ true → (w : Name) × (owns m w NSEC ≡ true) × IsAbove y w
  some_below off some =
      let r = next_below_empty origin m h y j.inside (empty_off off) some j.uncut (undnamed origin m y j) in
      let c = cover_from_last (nsec_denial origin m y) y r.0 r.1 in
      let s = spanned origin m h y y (below_origin off) c.0 in
      (next_owner origin m s.0.owner, next_owned origin m h s.0.owner, (above_test y (next_owner origin m s.0.owner)).0 (ap (is_above y) (s.1 ∙ c.1) ∙ r.2))

  -- its record is of no ancestor delegation: an NS set above y is that of the origin, beside SOA
  no_cut_at : (o : Name) → is_above o y ≡ true → owns m o NS ≡ true → IsAbove origin o → ⊥
  no_cut_at o u ns w = none_passes (λ a. is_above origin a && is_above a y) o (owners m NS) j.uncut (owner_in m o NS ns) (λ i. (above_test origin o).1 w i && u i)

  pub no_delegation_above : (o : Name) → owns m o NSEC ≡ true → is_above o y ≡ true → is_ancestor_delegation (record_at origin m h o) ≡ true → ⊥
  no_delegation_above o k u e = by (above_cases origin o (is_at_or_above_sound origin o (owner_inside origin m h o k)))
    where
      r : NsecRecord
      r = record_at origin m h o

      ns : owns m o NS ≡ true
      ns = told_owned origin m h o NS refl k (and_left (lists r NS) (not (lists r SOA)) e)

      by : (origin ≡ o) ⊎ IsAbove origin o → ⊥
      by (inl q) = true≢false (sym (told_listed origin m h o SOA refl k (j.unreferred o ([], q) ns)) ∙ not_true (lists r SOA) (and_right (lists r NS) (not (lists r SOA)) e))
      by (inr w) = no_cut_at o u ns w

  -- what is between has a record that tells of it: it isn't that of a cut or of a DNAME above
  is_stated : (o : Name) → owns m o NSEC ≡ true → may_apply_to (record_at origin m h o) y ≡ true
  is_stated o k = by (is_above o y) refl
    where
      r : NsecRecord
      r = record_at origin m h o

      by : (b : Bool) → is_above o y ≡ b → not (b && (is_ancestor_delegation r || lists r DNAME)) ≡ true
      by false e = refl
      by true e = both (is_ancestor_delegation r) refl
        where
          both : (b : Bool) → is_ancestor_delegation r ≡ b → not (b || lists r DNAME) ≡ true
          both true q = absurd (no_delegation_above o k e q)
          both false q =
              ap not
              (unlisted origin m h o DNAME k (λ e. omega (arith, e))
              (tells_all origin m h o DNAME (not_delegation origin m o (λ d. no_cut_at o e (delegation_owns origin m o d).0 ((above_test origin o).0 (delegation_below origin m o d)))))
              (j.no_dname o ((above_test o y).0 e)))

  module _ (o : Name) (b : IsBetween origin m y o) where
    abbrev n : Name
    n = next_owner origin m o

    covers_it : tells_past origin (record_at origin m h o) y ≡ true
    covers_it = λ i. owner_inside origin m h o b.on_chain i && (above_test origin y).1 (below_origin (off_chain origin m h y o b)) i && ap is_lt b.after_owner i && by b.before_next i
      where
        by : (name_cmp y n ≡ Less) ⊎ (n ≡ origin) → is_before name_cmp y n || name_eq n origin ≡ true
        by (inl e) = or_left (is_before name_cmp y n) (name_eq n origin) (ap is_lt e)
        by (inr e) = or_right (is_before name_cmp y n) (name_eq n origin) ((name_eq-Decides n origin).1 e)

    -- where nothing is owned at or below it, it is denied
    pub denied : owns_at_or_below m y ≡ false → denies_name origin (record_at origin m h o) y ≡ true
    denied none = three (may_apply_to (record_at origin m h o) y) (tells_past origin (record_at origin m h o) y) (not (is_above y n)) (is_stated o b.on_chain) covers_it (ap not (by (is_above y n) refl))
      where
        by : (b : Bool) → is_above y n ≡ b → b ≡ false
        by true e = absurd (true≢false (sym (is_at_or_above_complete y n (above_at y n ((above_test y n).0 e))) ∙ owner_elsewhere m y n NSEC none (next_owned origin m h o)))
        by false e = refl

    -- and else it is an empty non-terminal
    pub empty : owns_at_or_below m y ≡ true → shows_empty origin (record_at origin m h o) y ≡ true
    empty some = three (may_apply_to (record_at origin m h o) y) (tells_past origin (record_at origin m h o) y) (is_above y n) (is_stated o b.on_chain) covers_it (by (above_cases y n r.1))
      where
        r : (name_cmp y n ≡ Less) × IsAtOrAbove y n
        r =
            let w = some_below (off_chain origin m h y o b) some in
            owner_below origin m h y o b w.0 w.1 (above_at y w.0 w.2)

        by : (y ≡ n) ⊎ IsAbove y n → is_above y n ≡ true
        by (inl e) = absurd (irrefl name_order y (ap (name_cmp y) e ∙ r.0))
        by (inr u) = (above_test y n).1 u
