-- What the closest NSEC set of a name in scope tells of it
use Rattle.std.proofs.Common.{◌≡◌, ◌≢◌, ℕ, Bool, true, false, not, ◌&&◌, ◌||◌, List, refl, sym, ap, ◌∙◌, true≢false, ◌⊎◌, inl, inr, Less, []}
use Rattle.std.specs.Prelude.{Some, filter, option_and_then, ◌==◌}
use Rattle.std.specs.Option.{option_map_or}
use Rattle.zone_proto.specs.Names.{Name, name_cmp, name_eq, is_above, IsAbove, wildcard_under}
use Rattle.zone_proto.specs.Order.{is_upto}
use Rattle.zone_proto.specs.Sets.{RRset}
use Rattle.zone_proto.specs.Types.{NS, CNAME, SOA, DS, RRSIG, NSEC, ANY}
use Rattle.zone_proto.proofs.Members.{In, In-filter, any_from_In, or_left, or_right}
use Rattle.zone_proto.proofs.Names.NameTree.{name_eq-Decides, above_test, is_at_or_above_sound}
use Rattle.zone_proto.proofs.Names.Tree.{name_order, name_eq_itself, above_cases}
use Rattle.zone_proto.proofs.Ordering.Orders.{greatest_is, Side, side, before, same, after, upto_cases, upto_before, upto_same}
use Rattle.zone_map.specs.Wildcards.{closest_encloser}
use Rattle.zone_map.specs.Zones.{Sets, set_at, owns, owners, owns_at_or_below}
use Rattle.zone_map.proofs.Owned.{owner_in, set_of}
use Rattle.zone_denial.specs.Chains.{IsNsecChain, next_owner}
use Rattle.zone_denial.specs.NsecDenial.{reaches, closest_owner, closest_nsec, nsec_encloser}
use Rattle.zone_denial.proofs.Chain.NsecLists.{off_circle}
use Rattle.zone_denial.proofs.Chains.NsecAskedWildcard.{enclosers_agree}
use Rattle.zone_denial.proofs.Chains.NsecClosest.{IsClosest, reaches_from, closest_is, closest_covers}
use Rattle.denial_validation.specs.NsecProofs.{denies_name, denies_type, shows_empty, shown_encloser, denied_and_wildcard, is_denied, is_bare, proves_name_error, proves_no_data, proves_empty_non_terminal, proves_wildcard_no_data, proves_wildcard_answer, shows_unsigned_delegation, proves_unsigned_delegation}
use Rattle.denial_validation.specs.NsecRecords.{NsecRecord}
use Rattle.denial_laws.specs.Chains.{IsInScopeOfChain}
use Rattle.denial_laws.specs.Scope.{is_parents_ds}
use Rattle.denial_laws.proofs.Chains.Gaps.{IsBetween, between_from_covers}
use Rattle.denial_laws.proofs.Chains.OwnTypes.{unowned_denied}
use Rattle.denial_laws.proofs.Chains.Readings.{record_at, told_listed, told_unlisted}
use Rattle.denial_laws.proofs.Chains.ShownEnclosers.{judged_wildcard, shown_is}
use Rattle.denial_laws.proofs.Chains.Speaking.{below_origin, owner_on_chain, denied, empty}
use Rattle.denial_laws.proofs.Chains.Wildcards.{undnamed}

module _ (origin : Name) (m : Sets) (h : IsNsecChain origin m) (y : Name) where
  -- an owner that is at a name or before it, and no other between
  pub data Stands (o : Name) : Type 0 where
    at : o ≡ y → owns m y NSEC ≡ true → Stands o
    before_it : owns m y NSEC ≡ false → IsBetween origin m y o → Stands o

  -- in the chain the closest owner of a name is the name itself
  itself : (o : Name) → closest_owner m y ≡ Some o → IsClosest origin m y o → owns m y NSEC ≡ true → o ≡ y
  itself o e c k = by (upto_cases name_order o y c.not_after)
    where
      past : Side name_cmp y (next_owner origin m y) → (name_cmp y (next_owner origin m y) ≡ Less) ⊎ (is_upto name_cmp (next_owner origin m y) y ≡ true)
      past (before l) = inl l
      past (same l) = inr (upto_same name_order (next_owner origin m y) y (sym l))
      past (after l) = inr (upto_before name_order (next_owner origin m y) y l)

      own : IsClosest origin m y y
      own = record { on_chain = k; not_after = upto_same name_order y y refl; past = past (side name_order y (next_owner origin m y)) }

      by : (o ≡ y) ⊎ (name_cmp o y ≡ Less) → o ≡ y
      by (inl q) = q
      by (inr l) = absurd ((greatest_is name_order (filter (reaches m y) (owners m NSEC)) o e).none_greater y (In-filter (reaches m y) y (owners m NSEC) (owner_in m y NSEC k) (reaches_from origin m h y y own)) l)

-- the closest set of a name in scope is that of such an owner
pub record HasClosest (origin : Name) (m : Sets) (h : IsNsecChain origin m) (y : Name) : Type 0 where
  pub owner : Name
  pub set : RRset
  pub stands : set_at m owner NSEC ≡ Some set
  pub closest : closest_nsec m y ≡ Some set
  pub where' : Stands origin m h y owner

pub has_closest : (origin : Name) (m : Sets) (y : Name) (j : IsInScopeOfChain origin m y) → HasClosest origin m j.zone y
has_closest origin m y j =
    let c = closest_is origin m j.zone y j.inside in
    let s = set_of m c.0 NSEC c.2.on_chain in
    record { owner = c.0; set = s.0; stands = s.1; closest = ap (option_and_then (λ o. set_at m o NSEC)) c.1 ∙ s.1; where' = by c.0 c.1 c.2 (owns m y NSEC) refl }
  where
    by : (o : Name) → closest_owner m y ≡ Some o → IsClosest origin m y o → (b : Bool) → owns m y NSEC ≡ b → Stands origin m j.zone y o
    by o e c true on = at (itself origin m j.zone y o e c on) on
    by o e c false off = before_it off (between_from_covers origin m j.zone y o (below_origin origin m y j off) c.on_chain (closest_covers origin m y o c off))

-- ---- where the record of this owner is among records

pub record IsReported (origin : Name) (m : Sets) (h : IsNsecChain origin m) (rs : List NsecRecord) (y : Name) : Type 0 where
  pub owner : Name
  pub among : In (record_at origin m h owner) rs
  pub where' : Stands origin m h y owner

module _ (origin : Name) (m : Sets) (y : Name) (j : IsInScopeOfChain origin m y) (rs : List NsecRecord) where
  -- the wildcard that would answer in place of a name
  abbrev wildcard_name : Name
  wildcard_name = wildcard_under (nsec_encloser origin m y)

  module _ (t : IsReported origin m j.zone rs y) where
    -- ---- of a name that isn't there

    module _ (none : owns_at_or_below m y ≡ false) where
      between : IsBetween origin m y t.owner
      between = by t.where'
        where
          by : Stands origin m j.zone y t.owner → IsBetween origin m y t.owner
          by (at e on) = absurd (true≢false (sym on ∙ off_circle m y none))
          by (before_it off b) = b

      pub over : IsAbove origin y
      over = below_origin origin m y j (off_circle m y none)

      -- with what its wildcard passes
      pub denied_with : (test : Name → Bool) → test wildcard_name ≡ true → denied_and_wildcard origin rs y test ≡ true
      denied_with test p =
          any_from_In (λ r. denies_name origin r y && option_map_or (λ a. test (wildcard_under a)) (shown_encloser r y) false) (record_at origin m j.zone t.owner) rs t.among
          (λ i. denied origin m y j t.owner between none i && (ap (λ q. option_map_or (λ a. test (wildcard_under a)) q false) (shown_is origin m y j over t.owner between) ∙ p) i)

      pub error_proved : (h : IsNsecChain origin m) → IsReported origin m h rs wildcard_name → owns_at_or_below m wildcard_name ≡ false → proves_name_error origin rs y ≡ true
      error_proved h w unsynthesized =
          denied_with (is_denied origin rs)
          (any_from_In (λ r. denies_name origin r wildcard_name) (record_at origin m j.zone w.owner) rs w.among (denied origin m wildcard_name (judged_wildcard origin m y j over) w.owner (of_wildcard w.where') unsynthesized))
        where
          of_wildcard : Stands origin m h wildcard_name w.owner → IsBetween origin m wildcard_name w.owner
          of_wildcard (at e on) = absurd (true≢false (sym on ∙ off_circle m wildcard_name unsynthesized))
          of_wildcard (before_it off b) = b

      -- the wildcard at its closest encloser may answer
      pub answer_proved : (e : Name) → closest_encloser m y ≡ Some e → proves_wildcard_answer origin rs y e ≡ true
      answer_proved e is = denied_with (name_eq (wildcard_under e)) ((name_eq-Decides (wildcard_under e) wildcard_name).1 (ap wildcard_under (same_value e (nsec_encloser origin m y) (sym is ∙ enclosers_agree origin m j.zone j.one_kind y ((above_test origin y).1 over) j.uncut (undnamed origin m y j)))))
        where
          same_value : (a b : Name) → Some a ≡ Some b → a ≡ b
          same_value a b e = cc

    -- ---- of a name that is there

    module _ (there : owns_at_or_below m y ≡ true) (u : ℕ) (signed : u ≢ RRSIG) (any : owns m y NSEC ≡ true → u ≢ ANY) (unowned : u ≢ ANY → owns m y u ≡ false) (no_alias : owns m y CNAME ≡ false)
        (beside : (u == DS) ≡ false → owns m y NS ≡ true → owns m y SOA ≡ true) (child : u ≡ DS → is_parents_ds origin m y ≡ false)
      where
        -- its own record denies the type
        own_denies : owns m y NSEC ≡ true → (o : Name) → o ≡ y → denies_type origin (record_at origin m j.zone o) y u ≡ true
        own_denies on o e = ap (λ o. denies_type origin (record_at origin m j.zone o) y u) e ∙ unowned_denied origin m j.zone y j.inside u (unowned (any on)) no_alias beside on signed (any on) child

        -- its own record shows that it has no data of a type, or the one before it that it is empty
        pub bare_by : (proves_no_data origin rs y u ≡ true) ⊎ (proves_empty_non_terminal origin rs y ≡ true)
        bare_by = by t.where'
          where
            by : Stands origin m j.zone y t.owner → (proves_no_data origin rs y u ≡ true) ⊎ (proves_empty_non_terminal origin rs y ≡ true)
            by (at e on) =
                inl
                (any_from_In (λ r. denies_type origin r y u) (record_at origin m j.zone t.owner) rs t.among
                (own_denies on t.owner e))
            by (before_it off b) = inr (any_from_In (λ r. shows_empty origin r y) (record_at origin m j.zone t.owner) rs t.among (empty origin m y j t.owner b there))

        pub bare : is_bare origin rs u y ≡ true
        bare = by t.where'
          where
            by : Stands origin m j.zone y t.owner → is_bare origin rs u y ≡ true
            by (at e on) =
                any_from_In (λ r. denies_type origin r y u || shows_empty origin r y) (record_at origin m j.zone t.owner) rs t.among
                (or_left (denies_type origin (record_at origin m j.zone t.owner) y u) (shows_empty origin (record_at origin m j.zone t.owner) y)
                (own_denies on t.owner e))
            by (before_it off b) =
                any_from_In (λ r. denies_type origin r y u || shows_empty origin r y) (record_at origin m j.zone t.owner) rs t.among
                (or_right (denies_type origin (record_at origin m j.zone t.owner) y u) (shows_empty origin (record_at origin m j.zone t.owner) y) (empty origin m y j t.owner b there))

    -- a name that isn't there has no data by its wildcard
    pub wildcard_bare_by : owns_at_or_below m y ≡ false → (u : ℕ) → is_bare origin rs u wildcard_name ≡ true → proves_wildcard_no_data origin rs y u ≡ true
    wildcard_bare_by none u p = denied_with none (is_bare origin rs u) p

    -- ---- of a delegation

    pub delegation_proved : owns m y NS ≡ true → owns m y DS ≡ false → owns m y SOA ≡ false → proves_unsigned_delegation origin rs y ≡ true
    delegation_proved ns ds soa = any_from_In (λ r. shows_unsigned_delegation origin r y) (record_at origin m j.zone t.owner) rs t.among (ap (λ o. shows_unsigned_delegation origin (record_at origin m j.zone o) y) (by t.where') ∙ unsigned)
      where
        on : owns m y NSEC ≡ true
        on = owner_on_chain origin m y j NS ns

        by : Stands origin m j.zone y t.owner → t.owner ≡ y
        by (at e on) = e
        by (before_it off b) = absurd (true≢false (sym on ∙ off))

        below : (origin ≡ y) ⊎ IsAbove origin y → is_above origin y ≡ true
        below (inl e) = absurd (true≢false (sym (j.unreferred y ([], e) ns) ∙ soa))
        below (inr u) = (above_test origin y).1 u

        unsigned : shows_unsigned_delegation origin (record_at origin m j.zone y) y ≡ true
        unsigned =
            λ i. below (above_cases origin y (is_at_or_above_sound origin y j.inside)) i && name_eq_itself y i && told_listed origin m j.zone y NS refl on ns i
            && not (told_unlisted origin m j.zone y DS refl on ds i) && not (told_unlisted origin m j.zone y SOA refl on soa i)
