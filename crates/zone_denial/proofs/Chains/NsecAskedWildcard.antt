-- What a chain of NSEC sets says of the wildcard that a search asks
use Rattle.std.proofs.Common.{◌≡◌, ℕ, Bool, true, false, not, ◌&&◌, ◌||◌, [], refl, sym, ap, ◌∙◌, true≢false, ◌⊎◌, inl, inr, eqb-true}
use Rattle.std.specs.Prelude.{Some, unwrap_or, option_map, ◌==◌}
use Rattle.std.specs.Cmp.{both_ways}
use Rattle.zone_proto.specs.Names.{Name, is_at_or_above, IsAbove, IsAtOrAbove, wildcard_under}
use Rattle.zone_proto.specs.Types.{NSEC, NSEC3}
use Rattle.zone_proto.proofs.Members.{In-from_any, any_from_In, and_left, and_right, not_true}
use Rattle.zone_proto.proofs.Names.NameTree.{above_test, above_is_less, is_at_or_above_sound, is_at_or_above_complete}
use Rattle.zone_proto.proofs.Ordering.Orders.{asym}
use Rattle.zone_proto.proofs.Names.Tree.{name_order, above_cases}
use Rattle.zone_map.specs.Wildcards.{exists}
use Rattle.zone_map.specs.Zones.{Sets, owns, owners, names_of, owns_at_or_below}
use Rattle.zone_map.proofs.Owned.{owner_in, owner_owned, name_owned}
use Rattle.zone_denial.specs.Authority.{is_below_cut, owns_besides}
use Rattle.zone_denial.specs.ChainLaws.{ChainEnclosersAgree, ChainProvedWildcardIsAsked, ChainAbsentWildcardIsDenied}
use Rattle.zone_denial.specs.Chains.{is_below_dname, IsNsecChain}
use Rattle.zone_denial.specs.NsecDenial.{owns_nsec_at_or_below, nsec_encloser}
use Rattle.zone_denial.specs.WildcardLaws.{OwnsNone}
use Rattle.zone_denial.proofs.Chain.NsecAskedWildcard.{other_type, absent_wildcard}
use Rattle.zone_denial.proofs.Chain.NsecLists.{off_circle}
use Rattle.zone_denial.proofs.Chains.NsecBelow.{open_above, owner_under}
use Rattle.zone_denial.proofs.Chains.NsecWildcard.{proves_wildcard}
use Rattle.zone_denial.proofs.Names.AuthoritativeNames.{from_besides}
use Rattle.zone_denial.proofs.Names.ExistingAncestors.{exists_from, unowned_absent, asked_is}
use Rattle.zone_denial.proofs.Names.LongestAncestors.{IsLongestAbove, longest_is, longest_above, others_above}

module _ (origin : Name) (m : Sets) (h : IsNsecChain origin m) (none : OwnsNone m NSEC3) where
  abbrev encloses : Name → Bool
  encloses a = is_at_or_above origin a && owns_nsec_at_or_below m a

  -- ---- without NSEC3 sets a name exists where it or a name below it owns a set

  -- what an owner of NSEC owns besides
  beside : (d : Name) → owns m d NSEC ≡ true → (t : ℕ) × (not (t == NSEC) ≡ true) × (owns m d t ≡ true)
  beside d k =
      from_besides m NSEC d
      (and_left (owns_besides m NSEC d) (not (is_below_cut origin m d)) (and_right (is_at_or_above origin d) (owns_besides m NSEC d && not (is_below_cut origin m d)) (h.authoritative d k)))

  there_by : (y d : Name) (t : ℕ) → owns m d t ≡ true → (t == NSEC) ≡ false → IsAtOrAbove y d → exists m y ≡ true
  there_by y d t k e u = exists_from m y d t k (λ i. e i || other_type m d t NSEC3 none k i) u

  pub there_from : (y d : Name) (t : ℕ) → owns m d t ≡ true → IsAtOrAbove y d → exists m y ≡ true
  there_from y d t k u = by (t == NSEC) refl
    where
      by : (b : Bool) → (t == NSEC) ≡ b → exists m y ≡ true
      by false e = there_by y d t k e u
      by true e = let r = beside d (ap (owns m d) (sym (eqb-true t NSEC e)) ∙ k) in there_by y d r.0 r.2 (not_true (r.0 == NSEC) r.1) u

  pub exists_is : (y : Name) → exists m y ≡ owns_at_or_below m y
  exists_is y = both_ways (exists m y) (owns_at_or_below m y) to from
    where
      to : exists m y ≡ true → owns_at_or_below m y ≡ true
      to e = by (owns_at_or_below m y) refl
        where
          by : (b : Bool) → owns_at_or_below m y ≡ b → b ≡ true
          by true q = refl
          by false q = absurd (true≢false (sym e ∙ unowned_absent m y q))

      from : owns_at_or_below m y ≡ true → exists m y ≡ true
      from e =
          let r = In-from_any (is_at_or_above y) (names_of m) e in
          let t = name_owned m r.0 r.1 in
          there_from y r.0 t.0 t.1 (is_at_or_above_sound y r.0 r.2)

  -- ---- enclosers

  pub origin_there : exists m origin ≡ true
  origin_there = there_from origin origin NSEC h.begins ([], refl)

  pub enclosed_from : (g w : Name) → IsAtOrAbove origin g → owns m w NSEC ≡ true → IsAtOrAbove g w → encloses g ≡ true
  enclosed_from g w a k u = λ i. is_at_or_above_complete origin g a i && any_from_In (is_at_or_above g) w (owners m NSEC) (owner_in m w NSEC k) (is_at_or_above_complete g w u) i

  pub origin_encloses : encloses origin ≡ true
  origin_encloses = enclosed_from origin origin ([], refl) h.begins ([], refl)

  -- what encloses exists
  encloser_there : (a : Name) → encloses a ≡ true → exists m a ≡ true
  encloser_there a e =
      let r = In-from_any (is_at_or_above a) (owners m NSEC) (and_right (is_at_or_above origin a) (owns_nsec_at_or_below m a) e) in
      there_from a r.0 NSEC (owner_owned m r.0 NSEC r.1) (is_at_or_above_sound a r.0 r.2)

  module _ (x : Name) (u : IsAbove origin x) (uncut : is_below_cut origin m x ≡ false) (plain : is_below_dname m x ≡ false) where
    -- and an ancestor of x that exists encloses
    there_encloses : (e : Name) → IsAbove e x → IsAtOrAbove origin e → exists m e ≡ true → encloses e ≡ true
    there_encloses e w a k =
        let z = owner_under origin m h e (is_at_or_above_complete origin e a) (open_above origin m x uncut plain e w) (sym (exists_is e) ∙ k) in
        enclosed_from e z.0 a z.1 z.2

    pub longest : IsLongestAbove encloses x (nsec_encloser origin m x)
    longest =
        let r = longest_above encloses x origin u origin_encloses in
        longest_is encloses x (nsec_encloser origin m x) (r.1.found ∙ ap Some (sym (ap (λ p. unwrap_or p origin) r.1.found)))

    pub there : (e : Name) × IsLongestAbove (exists m) x e
    there = longest_above (exists m) x origin u origin_there

    agree : nsec_encloser origin m x ≡ there.0
    agree = same (others_above (exists m) x there.0 a there.1 longest.above (encloser_there a longest.passes)) (others_above encloses x a there.0 longest there.1.above enclosing)
      where
        a : Name
        a = nsec_encloser origin m x

        inside : IsAtOrAbove origin there.0
        inside = others_above (exists m) x there.0 origin there.1 u origin_there

        enclosing : encloses there.0 ≡ true
        enclosing = there_encloses there.0 there.1.above inside there.1.passes

        same : IsAtOrAbove a there.0 → IsAtOrAbove there.0 a → a ≡ there.0
        same v w = by (above_cases a there.0 v) (above_cases there.0 a w)
          where
            by : (a ≡ there.0) ⊎ IsAbove a there.0 → (there.0 ≡ a) ⊎ IsAbove there.0 a → a ≡ there.0
            by (inl e) q = e
            by (inr p) (inl e) = sym e
            by (inr p) (inr q) = absurd (asym name_order a there.0 (above_is_less a there.0 p) (above_is_less there.0 a q))

pub enclosers_agree : ChainEnclosersAgree
enclosers_agree origin m h none x below uncut plain =
    let u = (above_test origin x).0 below in
    (there origin m h none x u uncut plain).1.found ∙ ap Some (sym (agree origin m h none x u uncut plain))

pub proved_wildcard_is_asked : ChainProvedWildcardIsAsked
proved_wildcard_is_asked origin m h none x below uncut plain wildcard_name absent =
    asked_is m origin x ((above_test origin x).0 below) wildcard_name absent ∙ ap (option_map wildcard_under) (enclosers_agree origin m h none x below uncut plain)

pub absent_wildcard_is_denied : ChainAbsentWildcardIsDenied
absent_wildcard_is_denied origin m h none x inside uncut plain not_wildcard unowned gone =
    record { off = off; covered = (proves_wildcard origin m h x inside (off_circle m x unowned)).off off }
  where
    below : IsAbove origin x
    below = by (above_cases origin x (is_at_or_above_sound origin x inside))
      where
        by : (origin ≡ x) ⊎ IsAbove origin x → IsAbove origin x
        by (inl e) = absurd (true≢false (sym h.begins ∙ ap (λ a. owns m a NSEC) e ∙ off_circle m x unowned))
        by (inr w) = w

    off : owns m (wildcard_under (nsec_encloser origin m x)) NSEC ≡ false
    off = by (owns m (wildcard_under (nsec_encloser origin m x)) NSEC) refl
      where
        by : (b : Bool) → owns m (wildcard_under (nsec_encloser origin m x)) NSEC ≡ b → b ≡ false
        by false e = refl
        by true e =
            let t = there origin m h none x below uncut plain in
            absurd
            (true≢false
            (sym (there_from origin m h none (wildcard_under (nsec_encloser origin m x)) (wildcard_under (nsec_encloser origin m x)) NSEC e ([], refl))
            ∙ ap (λ n. exists m (wildcard_under n)) (agree origin m h none x below uncut plain)
            ∙ absent_wildcard m origin x t.0 below not_wildcard unowned gone t.1.found))
