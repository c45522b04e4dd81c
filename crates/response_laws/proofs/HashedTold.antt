-- What NSEC3 records of a zone prove of a name, where those of its denial are among them
use Rattle.std.proofs.Common.{◌≡◌, ℕ, Bool, true, false, not, ◌&&◌, ◌||◌, List, [], ◌∷◌, refl, sym, ap, ◌∙◌, subst, true≢false, ◌⊎◌, inl, inr, arith}
use Rattle.std.specs.Prelude.{Option, Some, find}
use Rattle.std.specs.List.{list_any}
use Rattle.std.specs.Option.{option_map_or}
use Rattle.zone_proto.specs.declared.rdata.denial.NSEC3PARAM.{NSEC3PARAM as Nsec3Parameters}
use Rattle.zone_proto.specs.Names.{Name, is_above, is_at_or_above, IsAtOrAbove, IsAbove, wildcard_under, suffixes, proper_ancestors}
use Rattle.zone_proto.specs.Types.{NS, SOA, DS, NSEC, DNAME}
use Rattle.zone_proto.proofs.Members.{In, In-Contains, In-from_any, any_from_In, and_left, and_right, not_true}
use Rattle.zone_proto.proofs.Names.NameTree.{above_test, at_or_above_from_suffix, is_at_or_above_sound, is_at_or_above_complete}
use Rattle.zone_proto.proofs.Names.Tree.{above_cases}
use Rattle.zone_map.specs.Zones.{Sets, owns, owners}
use Rattle.zone_map.proofs.Owned.{owner_in}
use Rattle.zone_denial.specs.Chains.{is_stated_at_delegation, is_delegation, IsNsec3Chain}
use Rattle.zone_denial.specs.Nsec3Denial.{encloser_on}
use Rattle.zone_denial.specs.Nsec3Zones.{IsHashedOn, HasDistinctDigests}
use Rattle.zone_denial.specs.WildcardLaws.{OwnsNone}
use Rattle.zone_denial.proofs.Chain.NsecBelow.{above_at, above_through}
use Rattle.zone_denial.proofs.Chains.NsecLists.{delegation_below, delegation_owns, not_delegation}
use Rattle.zone_denial.proofs.Chains.Nsec3Names.{is_named, named_in, in_named, origin_in, IsEnclosed, enclosed_off}
use Rattle.zone_denial.proofs.Chains.Nsec3Encloses.{wildcard_hashed}
use Rattle.zone_denial.proofs.Names.LongestAncestors.{IsLongestAbove, longest_is, longest_above, others_above, above_shorter}
use Rattle.denial_validation.specs.Encloser.{next_closer}
use Rattle.denial_validation.specs.Nsec3Proofs.{matches, covers, lists, is_of_encloser, is_of_unsigned, denies_type, is_matched, is_encloser, is_handing_on, is_denied, is_covered, is_handed_on, shown_encloser, encloser_and, proves_name_error, proves_no_data, proves_opted_out, proves_wildcard_no_data, proves_wildcard_answer, shows_unsigned_delegation}
use Rattle.denial_validation.specs.Nsec3Records.{Nsec3Record}
use Rattle.denial_laws.specs.Scope.{Unreferred}
use Rattle.denial_laws.specs.Nsec3Scope.{AreNsec3OfZone}
use Rattle.denial_laws.proofs.Chains.Nsec3Judging.{unlisted, told_listed, told_owned, told_unlisted}
use Rattle.denial_laws.proofs.Chains.Nsec3Matches.{covers_is, unmatched, matches_itself, matched_by}
use Rattle.denial_laws.proofs.Chains.Nsec3Proved.{ancestor_named, self_hashed, uncovered, matching}
use Rattle.denial_laws.proofs.Chains.Nsec3Readings.{record_of, of_name}
use Rattle.denial_laws.proofs.Chains.Nsec3Shown.{IsCovering}
use Rattle.denial_laws.proofs.Chains.Nsec3Soundness.{not_opted_out}
use Rattle.denial_laws.proofs.Nsec3Proved.{sides}
use Rattle.denial_laws.proofs.Tests.{refuted, right_false}
use Rattle.response_laws.specs.HashedSayings.{IsReached}
use Rattle.response_laws.proofs.HashedShown.{IsEncloserShown}

-- a name of a zone that NSEC3 denies, which nothing refers elsewhere, and whose hash tells the names of a denial apart
pub record IsHashedName (origin : Name) (beside m : Sets) (hash : Name → Option (List ℕ)) (parameters : Nsec3Parameters) (names : List Name) (x : Name) : Type 0 where
  pub zone : IsNsec3Chain origin beside m hash parameters names
  pub one_kind : OwnsNone m NSEC
  pub unreferred : Unreferred origin m
  pub reached : IsReached origin m x
  pub apart : HasDistinctDigests (IsHashedOn names x) hash

module _ {origin : Name} {beside m : Sets} {hash : Name → Option (List ℕ)} {parameters : Nsec3Parameters} {names : List Name} {x : Name} (j : IsHashedName origin beside m hash parameters names x) where
  abbrev on_chain : Name → Bool
  on_chain = is_named names

  pub inside : IsAtOrAbove origin x
  inside = is_at_or_above_sound origin x j.reached.inside

  pub away : (n : Name) → is_named names n ≡ false → In n names → ⊥
  away n off i = true≢false (sym (in_named names n i) ∙ off)

  pub below : is_named names x ≡ false → IsAbove origin x
  below off = by (above_cases origin x inside)
    where
      by : (origin ≡ x) ⊎ IsAbove origin x → IsAbove origin x
      by (inl e) = absurd (away x off (subst (λ n. In n names) e (origin_in names origin j.zone.begins)))
      by (inr u) = u

  pub enclosed : is_named names x ≡ false → (a : Name) × (c : Name) × IsEnclosed names x a c
  enclosed off = enclosed_off names origin j.zone.begins x j.reached.inside (away x off)

  -- the record of an ancestor is of no name that hands on what is below it
  of_encloser : (a : Name) → In a names → IsAtOrAbove origin a → IsAbove a x → is_of_encloser (record_of j.zone j.apart a) ≡ true
  of_encloser a on u v =
      λ i. not (unlisted j.zone j.apart a on DNAME (λ e. omega (arith, e)) (λ e. absurd (omega (arith, e))) (ap (λ b. not b || is_stated_at_delegation DNAME) (not_delegation origin m a undelegated)) (j.reached.no_dname a v) i) && delegates (lists r NS) refl i
    where
      r : Nsec3Record
      r = record_of j.zone j.apart a

      no_cut : owns m a NS ≡ true → is_above origin a ≡ true → ⊥
      no_cut k w = true≢false (sym (any_from_In (λ c. is_above origin c && is_above c x) a (owners m NS) (owner_in m a NS k) (λ i. w i && (above_test a x).1 v i)) ∙ j.reached.uncut)

      undelegated : is_delegation origin m a ≡ true → ⊥
      undelegated d = no_cut (delegation_owns origin m a d).0 (delegation_below origin m a d)

      apex : owns m a NS ≡ true → (origin ≡ a) ⊎ IsAbove origin a → owns m a SOA ≡ true
      apex k (inl e) = j.unreferred a ([], e) k
      apex k (inr w) = absurd (no_cut k ((above_test origin a).1 w))

      delegates : (b : Bool) → lists r NS ≡ b → not b || lists r SOA ≡ true
      delegates false e = refl
      delegates true e = told_listed j.zone j.apart a on SOA refl (apex (told_owned j.zone j.apart a on NS refl e) (above_cases origin a u))

  -- ---- of records of the zone

  module _ (rs : List Nsec3Record) (of_zone : AreNsec3OfZone m rs) where
    of_names : (r : Nsec3Record) → In r rs → (n : Name) × In n names × (r ≡ record_of j.zone j.apart n)
    of_names = of_name j.zone j.apart rs of_zone

    -- an ancestor of x in the zone is hashed
    ancestor_hashed : (a : Name) → IsAtOrAbove origin a → IsAbove a x → IsHashedOn names x a
    ancestor_hashed a u v = by (on_chain x) refl
      where
        upper : (y : Name) → In y names → IsAtOrAbove a y → (origin ≡ a) ⊎ IsAbove origin a → IsHashedOn names x a
        upper y i w (inl e) = inl (In-Contains a names (subst (λ n. In n names) e (origin_in names origin j.zone.begins)))
        upper y i w (inr o) = inl (In-Contains a names (ancestor_named j.zone a y i w o))

        by : (b : Bool) → on_chain x ≡ b → IsHashedOn names x a
        by true on = upper x (named_in names x on) (above_at a x v) (above_cases origin a u)
        by false off = of (sides x a n.0 (above_at a x v) n.2.above)
          where
            n : (a : Name) × (c : Name) × IsEnclosed names x a c
            n = enclosed off

            of : IsAbove a n.0 ⊎ ((a ≡ n.0) ⊎ IsAbove n.0 a) → IsHashedOn names x a
            of (inl w) = upper n.0 n.2.on (above_at a n.0 w) (above_cases origin a u)
            of (inr (inl e)) = inl (In-Contains a names (subst (λ y. In y names) (sym e) n.2.on))
            of (inr (inr w)) = inr (n.0, n.2.is_encloser, inl (above_at a x v, above_at n.0 a w))

    -- nothing hands x on
    pub not_handed : is_handed_on origin hash rs x ≡ false
    not_handed = refuted (is_handed_on origin hash rs x) (λ e. of (In-from_any (λ a. is_at_or_above origin a && is_handing_on origin hash rs a) (proper_ancestors x) e))
      where
        ancestor : (y a : Name) → In a (proper_ancestors y) → IsAbove a y
        ancestor [] a i = absurd i
        ancestor (l ∷ ls) a i = let u = at_or_above_from_suffix ls a (In-Contains a (suffixes ls) i) in (l, u.0, ap (λ (n : Name). l ∷ n) u.1)

        of : (a : Name) × In a (proper_ancestors x) × (is_at_or_above origin a && is_handing_on origin hash rs a ≡ true) → ⊥
        of (a, i, p) =
            true≢false
            (sym (of_encloser a own.0 u v)
            ∙ ap is_of_encloser (sym own.1)
            ∙ not_true (is_of_encloser r.0) (and_right (matches origin hash r.0 a) (not (is_of_encloser r.0)) r.2))
          where
            u : IsAtOrAbove origin a
            u = is_at_or_above_sound origin a (and_left (is_at_or_above origin a) (is_handing_on origin hash rs a) p)

            v : IsAbove a x
            v = ancestor x a i

            r : (r : Nsec3Record) × In r rs × (matches origin hash r a && not (is_of_encloser r) ≡ true)
            r = In-from_any (λ r. matches origin hash r a && not (is_of_encloser r)) rs (and_right (is_at_or_above origin a) (is_handing_on origin hash rs a) p)

            own : In a names × (r.0 ≡ record_of j.zone j.apart a)
            own = matching j.zone j.apart rs of_names a (ancestor_hashed a u v) r.0 r.1 (and_left (matches origin hash r.0 a) (not (is_of_encloser r.0)) r.2)

    -- a name of the chain isn't covered
    pub not_covered : (n : Name) → In n names → is_covered origin hash rs n ≡ false
    not_covered n i = refuted (is_covered origin hash rs n) (λ e. uncovered j.zone j.apart rs of_names n e i)

    -- ---- of a name in the chain, where its own record is among them

    module _ (on : In x names) (own : In (record_of j.zone j.apart x) rs) where
      itself_matched : is_matched origin hash rs x ≡ true
      itself_matched = matched_by j.zone j.apart rs x on own

      -- no closest encloser proof stands
      pub no_encloser : (cover : Nsec3Record → Bool) (rest : Name → Bool) → encloser_and origin hash rs cover x rest ≡ false
      no_encloser cover rest = (λ i. is_above origin x && not (itself_matched i) && option_map_or proved (shown_encloser origin hash rs x) false) ∙ by (is_above origin x) (option_map_or proved (shown_encloser origin hash rs x) false)
        where
          proved : Name → Bool
          proved e = is_encloser origin hash rs e && option_map_or (λ c. list_any (λ r. covers origin hash r c && cover r) rs) (next_closer x e) false && rest e

          by : (a b : Bool) → a && not true && b ≡ false
          by true b = refl
          by false b = refl

      pub own_denied : (t : ℕ) → denies_type origin (record_of j.zone j.apart x) x t ≡ true → proves_no_data origin hash rs x t ≡ true
      own_denied t p = λ i. j.reached.inside i && any_from_In (λ r. matches origin hash r x && denies_type origin r x t) (record_of j.zone j.apart x) rs own (λ i. matches_itself j.zone j.apart x on i && p i) i

      pub own_delegates : IsAbove origin x → owns m x NS ≡ true → owns m x DS ≡ false → owns m x SOA ≡ false → shows_unsigned_delegation origin hash rs x ≡ true
      own_delegates over ns ds soa =
          λ i. (above_test origin x).1 over i
          && any_from_In (λ r. matches origin hash r x && is_of_unsigned r) (record_of j.zone j.apart x) rs own
          (λ i. matches_itself j.zone j.apart x on i
          && (told_listed j.zone j.apart x on NS refl ns i && not (told_unlisted j.zone j.apart x on DS refl ds i)
          && not (told_unlisted j.zone j.apart x on SOA refl soa i))) i

    -- ---- of a name off the chain

    module _ (off : is_named names x ≡ false) where
      itself_hashed : IsHashedOn names x x
      itself_hashed = self_hashed names origin j.zone.begins x inside

      itself_unmatched : is_matched origin hash rs x ≡ false
      itself_unmatched = unmatched j.zone j.apart rs of_names x itself_hashed (away x off)

      -- no record is its own
      none_own : (test : Nsec3Record → Bool) → list_any (λ r. matches origin hash r x && test r) rs ≡ false
      none_own test =
          refuted (list_any (λ r. matches origin hash r x && test r) rs)
          (λ e. let r = In-from_any (λ r. matches origin hash r x && test r) rs e in
          true≢false (sym (any_from_In (λ r. matches origin hash r x) r.0 rs r.1 (and_left (matches origin hash r.0 x) (test r.0) r.2)) ∙ itself_unmatched))

      pub no_own_data : (t : ℕ) → proves_no_data origin hash rs x t ≡ false
      no_own_data t = right_false (is_at_or_above origin x) (is_denied origin hash rs x t) (none_own (λ r. denies_type origin r x t))

      pub no_own_delegation : shows_unsigned_delegation origin hash rs x ≡ false
      no_own_delegation = right_false (is_above origin x) (list_any (λ r. matches origin hash r x && is_of_unsigned r) rs) (none_own is_of_unsigned)

    -- where its closest encloser proof is among them
    module _ (off : is_named names x ≡ false) (a c : Name) (e : IsEnclosed names x a c) (has : IsEncloserShown j.zone j.apart a c rs) where
      over : IsAbove origin x
      over = below off

      longest : IsLongestAbove on_chain x a
      longest = longest_is on_chain x a e.is_encloser

      encloser_inside : IsAtOrAbove origin a
      encloser_inside = others_above on_chain x a origin longest over (in_named names origin (origin_in names origin j.zone.begins))

      hashed_between : (n : Name) → IsAtOrAbove n x → IsAtOrAbove a n → IsHashedOn names x n
      hashed_between n u v = inr (a, e.is_encloser, inl (u, v))

      abbrev shows : Name → Bool
      shows n = is_at_or_above origin n && is_matched origin hash rs n

      shown_is : shown_encloser origin hash rs x ≡ Some a
      shown_is = found (above_cases a b.0 (others_above shows x b.0 a b.1 longest.above a_shown))
        where
          a_shown : shows a ≡ true
          a_shown = λ i. is_at_or_above_complete origin a encloser_inside i && matched_by j.zone j.apart rs a e.on has.encloser i

          b : (b : Name) × IsLongestAbove shows x b
          b = longest_above shows x a longest.above a_shown

          found : (a ≡ b.0) ⊎ IsAbove a b.0 → find shows (proper_ancestors x) ≡ Some a
          found (inl q) = b.1.found ∙ ap Some (sym q)
          found (inr u) =
              let gone = longest.longest b.0 b.1.above (above_shorter a b.0 u) in
              absurd
              (true≢false
              (sym (and_right (is_at_or_above origin b.0) (is_matched origin hash rs b.0) b.1.passes)
              ∙ unmatched j.zone j.apart rs of_names b.0 (hashed_between b.0 (above_at b.0 x b.1.above) (above_at a b.0 u)) (away b.0 gone)))

      module _ (cover : Nsec3Record → Bool) (rest : Name → Bool) where
        abbrev proved : Name → Bool
        proved e = is_encloser origin hash rs e && option_map_or (λ c. list_any (λ r. covers origin hash r c && cover r) rs) (next_closer x e) false && rest e

        proof_is : encloser_and origin hash rs cover x rest ≡ proved a
        proof_is =
            (λ i. (above_test origin x).1 over i && not (itself_unmatched off i) && option_map_or proved (shown_is i) false)

        -- it stands where the cover and the encloser pass
        pub encloser_proved : cover (record_of j.zone j.apart has.cover) ≡ true → rest a ≡ true → encloser_and origin hash rs cover x rest ≡ true
        encloser_proved k t = proof_is ∙ (λ i. matched i && (ap (λ o. option_map_or covered o false) e.is_closer ∙ one_covers) i && t i)
          where
            covered : Name → Bool
            covered c = list_any (λ r. covers origin hash r c && cover r) rs

            matched : is_encloser origin hash rs a ≡ true
            matched =
                any_from_In (λ r. matches origin hash r a && is_of_encloser r) (record_of j.zone j.apart a) rs has.encloser
                (λ i. matches_itself j.zone j.apart a e.on i && of_encloser a e.on encloser_inside longest.above i)

            one_covers : covered c ≡ true
            one_covers =
                any_from_In (λ r. covers origin hash r c && cover r) (record_of j.zone j.apart has.cover) rs has.has_cover
                (λ i. (covers_is j.zone j.apart has.cover c has.is_cover.on (hashed_between c e.closer_at e.closer_below) ∙ has.is_cover.covered) i && k i)

        -- and nothing is proved where the encloser doesn't
        pub encloser_refuted : rest a ≡ false → encloser_and origin hash rs cover x rest ≡ false
        encloser_refuted t =
            proof_is
            ∙ right_false (is_encloser origin hash rs a && option_map_or (λ c. list_any (λ r. covers origin hash r c && cover r) rs) (next_closer x a) false) (rest a) t

      -- opt-out may leave the name out, exactly in a zone with opt-out
      pub opted_out_is : proves_opted_out origin hash rs x ≡ parameters.opt_out
      opted_out_is = by parameters.opt_out refl
        where
          by : (b : Bool) → parameters.opt_out ≡ b → proves_opted_out origin hash rs x ≡ b
          by true o = encloser_proved (λ r. r.opt_out) (λ e. true) o refl
          by false o = not_opted_out j.zone o j.apart rs of_zone

      -- the wildcard of the encloser is covered, or matched
      pub error_proved : (k : Name) → IsCovering j.zone j.apart (wildcard_under a) k → In (record_of j.zone j.apart k) rs → proves_name_error origin hash rs x ≡ true
      error_proved k is i =
          encloser_proved (λ r. true) (λ b. is_covered origin hash rs (wildcard_under b)) refl
          (any_from_In (λ r. covers origin hash r (wildcard_under a)) (record_of j.zone j.apart k) rs i
          (covers_is j.zone j.apart k (wildcard_under a) is.on (wildcard_hashed j.zone j.apart a c e) ∙ is.covered))

      pub no_error : In (wildcard_under a) names → proves_name_error origin hash rs x ≡ false
      no_error i = encloser_refuted (λ r. true) (λ b. is_covered origin hash rs (wildcard_under b)) (not_covered (wildcard_under a) i)

      pub wildcard_denied : (t : ℕ) → In (wildcard_under a) names → In (record_of j.zone j.apart (wildcard_under a)) rs → denies_type origin (record_of j.zone j.apart (wildcard_under a)) (wildcard_under a) t ≡ true
          → proves_wildcard_no_data origin hash rs x t ≡ true
      wildcard_denied t on i p =
          encloser_proved (λ r. true) (λ b. is_denied origin hash rs (wildcard_under b) t) refl
          (any_from_In (λ r. matches origin hash r (wildcard_under a) && denies_type origin r (wildcard_under a) t) (record_of j.zone j.apart (wildcard_under a)) rs i
          (λ i. matches_itself j.zone j.apart (wildcard_under a) on i && p i))

    -- a wildcard may answer that stands under a name e between the encloser and x, where what covers the name next closer to e is among them
    pub answer_proved : is_named names x ≡ false → (a e c : Name) → encloser_on names x ≡ Some a → IsAtOrAbove a e → IsAbove e x → next_closer x e ≡ Some c → IsHashedOn names x c → (k : Name) → IsCovering j.zone j.apart c k → In (record_of j.zone j.apart k) rs
        → proves_wildcard_answer origin hash rs x e ≡ true
    answer_proved off a e c found over above closer between k is i =
        λ n. is_at_or_above_complete origin e (above_through origin a e encloser_in over) n && (above_test e x).1 above n && (ap (λ o. option_map_or (is_covered origin hash rs) o false) closer ∙ covered) n
      where
        longest : IsLongestAbove on_chain x a
        longest = longest_is on_chain x a found

        encloser_in : IsAtOrAbove origin a
        encloser_in = others_above on_chain x a origin longest (below off) (in_named names origin (origin_in names origin j.zone.begins))

        covered : is_covered origin hash rs c ≡ true
        covered =
            any_from_In (λ r. covers origin hash r c) (record_of j.zone j.apart k) rs i
            (covers_is j.zone j.apart k c is.on between ∙ is.covered)
