-- What NSEC3 records of a zone prove of a name is so
use Rattle.std.proofs.Common.{◌≡◌, ◌≢◌, ℕ, suc, Bool, true, false, cond, not, ◌&&◌, ◌||◌, List, [], ◌∷◌, length, refl, sym, ap, ◌∙◌, subst, true≢false, ◌⊎◌, inl, inr, arith, eqb-true, eq-eqb}
use Rattle.std.specs.Prelude.{Option, Some, None, option_map, option_and_then, ◌==◌}
use Rattle.std.specs.List.{list_any, Contains}
use Rattle.std.specs.Option.{option_map_or, option_or}
use Rattle.zone_proto.specs.declared.rdata.denial.NSEC3PARAM.{NSEC3PARAM as Nsec3Parameters}
use Rattle.zone_proto.specs.HashedOwners.{hashed_owner}
use Rattle.zone_proto.specs.Base32.{base32_count, base32_text}
use Rattle.zone_proto.specs.Names.{Name, asterisk_label, name_eq, is_root, is_above, is_at_or_above, IsAtOrAbove, IsAbove, wildcard_under, is_wildcard}
use Rattle.zone_proto.specs.Types.{NS, CNAME, SOA, DS, RRSIG, NSEC, NSEC3, ANY, ANAME}
use Rattle.zone_proto.proofs.Members.{In, In-Contains, Contains-In, In-from_any, any_from_In, and_left, and_right, not_true, or_left, or_right}
use Rattle.zone_proto.proofs.Names.NameTree.{above_test, is_at_or_above_sound, is_at_or_above_complete}
use Rattle.zone_proto.proofs.Names.Tree.{above_cases}
use Rattle.zone_map.specs.AnyTypes.{searched_type}
use Rattle.zone_map.specs.Direct.{direct}
use Rattle.zone_map.specs.Wildcards.{exists, renamed, wildcard, asked_wildcard, asked_wildcard_exists, closest_encloser as found_encloser}
use Rattle.zone_map.specs.Zones.{Sets, owns, types_at, owns_at_or_below}
use Rattle.zone_map.proofs.Delegations.{found_above}
use Rattle.zone_map.proofs.Owned.{type_owned}
use Rattle.zone_denial.specs.Authority.{is_below_cut, is_authoritative, owns_besides}
use Rattle.zone_denial.specs.Chains.{is_delegation, is_stated_at_delegation, is_stated, IsNsec3Chain}
use Rattle.zone_denial.specs.Nsec3Zones.{IsHashedOn, HasDistinctDigests}
use Rattle.zone_denial.proofs.Names.AuthoritativeNames.{from_besides}
use Rattle.zone_denial.proofs.Names.ExistingAncestors.{exists_from, unowned_absent}
use Rattle.zone_denial.proofs.Names.LongestAncestors.{above_below, above_shorter, IsLongestAbove, longest_above, others_above}
use Rattle.zone_denial.proofs.Chains.NsecLists.{delegation_owns, not_delegation}
use Rattle.zone_denial.proofs.Chains.Nsec3AskedWildcard.{proved_wildcard_is_asked}
use Rattle.zone_denial.proofs.Chains.Nsec3Names.{is_named, named_in, in_named, IsEnclosed}
use Rattle.zone_denial.proofs.Chains.Nsec3Encloses.{wildcard_hashed}
use Rattle.zone_denial.proofs.Chain.NsecAskedWildcard.{other_type}
use Rattle.zone_denial.proofs.Chain.NsecBelow.{above_at, above_through, comparable}
use Rattle.zone_lookup.specs.Replies.{nx_domain, negative_answer}
use Rattle.denial_validation.specs.Encloser.{next_closer}
use Rattle.denial_validation.specs.Nsec3Proofs.{lists, lists_none, is_of_unsigned, is_wrong_side, denies_type, matches, covers, is_covered, is_opted_out, is_denied, proves_name_error, proves_no_data, proves_wildcard_no_data, proves_wildcard_answer, proves_opted_out, shows_unsigned_delegation, proves_unsigned_delegation}
use Rattle.denial_validation.specs.Nsec3Records.{Nsec3Record}
use Rattle.denial_laws.specs.Scope.{Unreferred}
use Rattle.denial_laws.specs.Nsec3Scope.{AreNsec3OfZone}
use Rattle.denial_laws.specs.Nsec3Chains.{IsInNsec3ScopeOfChain, Nsec3ChainUnsignedDelegationSound, Nsec3ChainRecordsSound}
use Rattle.denial_laws.specs.Nsec3Soundness.{ShowsEmpty, IsWildcardUnflattenedOn, IsAbsentBelow}
use Rattle.denial_laws.specs.Soundness.{IsNoName, IsWithoutData, IsWithoutDataByWildcard, IsUnflattened, IsEmptyNonTerminal, IsUnsignedDelegation}
use Rattle.denial_laws.proofs.NameErrors.{error_means}
use Rattle.denial_laws.proofs.NothingFound.{direct_none}
use Rattle.denial_laws.proofs.Chains.Nsec3Judging.{owned_listed, signature_listed, told_listed, told_owned, undnamed, exists_is, there_is, plain_x, wildcard_in, wildcard_uncut, wildcard_plain, asked_only}
use Rattle.denial_laws.proofs.Chains.Nsec3NameErrors.{enclosed, over, proved_away, one, nsec3_error_denied}
use Rattle.denial_laws.proofs.Chains.Nsec3Proved.{self_hashed, none_below_covered, matching}
use Rattle.denial_laws.proofs.Nsec3Proved.{IsProved, parts, closer_inside}
use Rattle.denial_laws.proofs.Chains.Nsec3Readings.{record_of, of_name}
use Rattle.denial_laws.proofs.Nsec3Readings.{text_length}
use Rattle.denial_laws.proofs.Nsec3Soundness.{bare_direct, first_label, above_uncut}
use Rattle.denial_laws.proofs.Tests.{refuted}
use Rattle.denial_laws.proofs.Soundness.{there_from, present, searched_by, unasked}

-- ---- what a record says of its name

module _ {origin : Name} {beside m : Sets} {hash : Name → Option (List ℕ)} {parameters : Nsec3Parameters} {names : List Name} {x : Name} (zone : IsNsec3Chain origin beside m hash parameters names) (apart : HasDistinctDigests (IsHashedOn names x) hash)
    (y : Name) (on : In y names) where
  abbrev r : Nsec3Record
  r = record_of zone apart y

  told_absent : (u : ℕ) → is_stated_at_delegation u ≡ true → lists r u ≡ false → owns m y u ≡ false
  told_absent u k e = refuted (owns m y u) (λ o. true≢false (sym (told_listed zone apart y on u k o) ∙ e))

  -- where it owns no NSEC3 set itself
  module _ (unhashed : owns m y NSEC3 ≡ false) where
    not_owned_at : (u : ℕ) → u ≢ RRSIG → is_stated origin m y u ≡ true → lists r u ≡ false → owns m y u ≡ false
    not_owned_at u a k e = by (u == NSEC3) refl
      where
        by : (b : Bool) → (u == NSEC3) ≡ b → owns m y u ≡ false
        by true q = ap (owns m y) (eqb-true u NSEC3 q) ∙ unhashed
        by false q = refuted (owns m y u) (λ o. true≢false (sym (owned_listed zone apart y on u o a (λ g. true≢false (sym (eq-eqb u NSEC3 g) ∙ q)) k) ∙ e))

    -- one that lists none is no delegation's, and owns nothing
    module _ (none : lists_none r ≡ true) where
      unlisted_all : (u : ℕ) → lists r u ≡ false
      unlisted_all u =
          refuted (lists r u)
          (λ e. let v = In-from_any (λ v. v == u) r.types e in
          true≢false (sym (any_from_In (λ v. true) v.0 r.types v.1 refl) ∙ not_true (list_any (λ v. true) r.types) none))

      undelegated : is_delegation origin m y ≡ false
      undelegated = not_delegation origin m y (λ d. true≢false (sym (delegation_owns origin m y d).0 ∙ told_absent NS refl (unlisted_all NS)))

      tells_all : (u : ℕ) → is_stated origin m y u ≡ true
      tells_all u = ap (λ b. not b || is_stated_at_delegation u) undelegated

      pub owns_nothing : (u : ℕ) → owns m y u ≡ false
      owns_nothing u = by (u == RRSIG) refl
        where
          by : (b : Bool) → (u == RRSIG) ≡ b → owns m y u ≡ false
          by true q =
              ap (owns m y) (eqb-true u RRSIG q)
              ∙ refuted (owns m y RRSIG) (λ o. true≢false (sym (signature_listed zone apart y on o undelegated) ∙ unlisted_all RRSIG))
          by false q = not_owned_at u (λ g. true≢false (sym (eq-eqb u RRSIG g) ∙ q)) (tells_all u) (unlisted_all u)

      pub nothing_at : types_at m y ≡ []
      nothing_at = by (types_at m y) refl
        where
          by : (ts : List ℕ) → types_at m y ≡ ts → ts ≡ []
          by [] e = refl
          by (v ∷ ts) e = absurd (true≢false (sym (type_owned m y v (subst (In v) (sym e) (inl refl))) ∙ owns_nothing v))

    -- one that denies a type, in a place to which nothing refers
    module _ (unreferred : Unreferred origin m) (inside : is_at_or_above origin y ≡ true) (uncut : is_below_cut origin m y ≡ false) (t : ℕ) (d : denies_type origin (record_of zone apart y) y t ≡ true) (flat : IsUnflattened m y t) where
      right_side : is_wrong_side origin r y t ≡ false
      right_side = not_true (is_wrong_side origin r y t) (and_left (not (is_wrong_side origin r y t)) (lists_none r || (not (t == ANY) && not (lists r t) && not (lists r CNAME))) d)

      either : lists_none r || (not (t == ANY) && not (lists r t) && not (lists r CNAME)) ≡ true
      either = and_right (not (is_wrong_side origin r y t)) (lists_none r || (not (t == ANY) && not (lists r t) && not (lists r CNAME))) d

      ns_beside_soa : (t == DS) ≡ false → owns m y NS ≡ true → owns m y SOA ≡ true
      ns_beside_soa e k = by (lists r SOA) refl
        where
          delegation : lists r NS && not (lists r SOA) ≡ false
          delegation = sym (ap (λ b. cond b ((lists r SOA || name_eq y origin) && not (is_root y)) (lists r NS && not (lists r SOA))) e) ∙ right_side

          by : (b : Bool) → lists r SOA ≡ b → owns m y SOA ≡ true
          by true q = told_owned zone apart y on SOA refl q
          by false q = absurd (true≢false (sym (λ i. told_listed zone apart y on NS refl k i && not (q i)) ∙ delegation))

      -- so its list tells of the type
      tells_it : is_stated origin m y t ≡ true
      tells_it = by (is_delegation origin m y) refl (t == DS) refl
        where
          by : (d : Bool) → is_delegation origin m y ≡ d → (b : Bool) → (t == DS) ≡ b → not d || is_stated_at_delegation t ≡ true
          by false e b q = refl
          by true e true q = ap is_stated_at_delegation (eqb-true t DS q)
          by true e false q = let o = delegation_owns origin m y e in absurd (true≢false (sym (ns_beside_soa q o.0) ∙ o.1))

      -- and what isn't listed isn't owned
      type_absent : lists r t ≡ false → owns m y t ≡ false
      type_absent e = by (t == RRSIG) refl
        where
          by : (b : Bool) → (t == RRSIG) ≡ b → owns m y t ≡ false
          by false q = not_owned_at t (λ g. true≢false (sym (eq-eqb t RRSIG g) ∙ q)) tells_it e
          by true q =
              ap (owns m y) signature
              ∙ refuted (owns m y RRSIG)
              (λ o. true≢false
              (sym
              (signature_listed zone apart y on o
              (not_delegation origin m y (λ d. let k = delegation_owns origin m y d in true≢false (sym (ns_beside_soa (ap (λ u. u == DS) signature) k.0) ∙ k.1))))
              ∙ ap (lists r) (sym signature) ∙ e))
            where
              signature : t ≡ RRSIG
              signature = eqb-true t RRSIG q

      -- nothing is found there for what is searched for the type, here or in place of another name
      pub nothing_searched : (z : Name) → direct m y (searched_type m z t) ≡ None
      nothing_searched z = by (lists_none r) refl
        where
          by : (b : Bool) → lists_none r ≡ b → direct m y (searched_type m z t) ≡ None
          by true e =
              let none = owns_nothing e in
              direct_none origin m y unreferred inside uncut (searched_type m z t) (λ q k. absurd (true≢false (sym k ∙ none NS))) (none (searched_type m z t)) (none CNAME) (λ q. none ANAME)
          by false e =
              let three : not (t == ANY) && not (lists r t) && not (lists r CNAME) ≡ true = ap (λ b. b || (not (t == ANY) && not (lists r t) && not (lists r CNAME))) (sym e) ∙ either in
              let two = and_left (not (t == ANY) && not (lists r t)) (not (lists r CNAME)) three in
              ap (direct m y) (searched_by m z t (not_true (t == ANY) (and_left (not (t == ANY)) (not (lists r t)) two)))
              ∙ direct_none origin m y unreferred inside uncut t ns_beside_soa (type_absent (not_true (lists r t) (and_right (not (t == ANY)) (not (lists r t)) two)))
              (told_absent CNAME refl (not_true (lists r CNAME) (and_right (not (t == ANY) && not (lists r t)) (not (lists r CNAME)) three))) flat

-- ---- absent data

pub nsec3_no_data_sound : (origin : Name) (beside m : Sets) (hash : Name → Option (List ℕ)) (parameters : Nsec3Parameters) (names : List Name) (rs : List Nsec3Record) (x : Name) (t : ℕ) → IsInNsec3ScopeOfChain origin beside m hash parameters names x
    → AreNsec3OfZone m rs → IsUnflattened m x t → proves_no_data origin hash rs x t ≡ true → IsWithoutData origin m x t
nsec3_no_data_sound origin beside m hash parameters names rs x t j of_zone flat p =
    record {
      nothing = λ signed i.
          option_or (nothing_searched j.zone j.apart x own.0 j.no_hashed_owner j.unreferred j.inside j.uncut t denies flat x i)
          (ap (option_and_then (λ s. option_map (renamed signed s x) (direct m s (searched_type m x t)))) (unasked m x (exists_is j x (is_at_or_above_sound origin x j.inside) j.uncut (plain_x j) ∙ on)) i);
      there = present origin m x (or_left (owns_at_or_below m x) (asked_wildcard_exists m x) (there_is j ∙ on));
    }
  where
    one' : (r : Nsec3Record) × In r rs × (matches origin hash r x && denies_type origin r x t ≡ true)
    one' = In-from_any (λ r. matches origin hash r x && denies_type origin r x t) rs (and_right (is_at_or_above origin x) (is_denied origin hash rs x t) p)

    own : In x names × (one'.0 ≡ record_of j.zone j.apart x)
    own =
        matching j.zone j.apart rs (of_name j.zone j.apart rs of_zone) x (self_hashed names origin j.zone.begins x (is_at_or_above_sound origin x j.inside)) one'.0 one'.1
        (and_left (matches origin hash one'.0 x) (denies_type origin one'.0 x t) one'.2)

    denies : denies_type origin (record_of j.zone j.apart x) x t ≡ true
    denies = ap (λ r. denies_type origin r x t) (sym own.1) ∙ and_right (matches origin hash one'.0 x) (denies_type origin one'.0 x t) one'.2

    on : is_named names x ≡ true
    on = in_named names x own.0

pub nsec3_empty_sound : (origin : Name) (beside m : Sets) (hash : Name → Option (List ℕ)) (parameters : Nsec3Parameters) (names : List Name) (rs : List Nsec3Record) (x : Name) → IsInNsec3ScopeOfChain origin beside m hash parameters names x
    → AreNsec3OfZone m rs → ShowsEmpty origin hash rs x → IsEmptyNonTerminal m x
nsec3_empty_sound origin beside m hash parameters names rs x j of_zone (r, c, matched, none) = record { empty = nothing_at j.zone j.apart x own.0 j.no_hashed_owner bare; below = of (above_cases x k.0 k.2) }
  where
    own : In x names × (r ≡ record_of j.zone j.apart x)
    own = matching j.zone j.apart rs (of_name j.zone j.apart rs of_zone) x (self_hashed names origin j.zone.begins x (is_at_or_above_sound origin x j.inside)) r (Contains-In r rs c) matched

    bare : lists_none (record_of j.zone j.apart x) ≡ true
    bare = ap lists_none (sym own.1) ∙ none

    unowned : (u : ℕ) → owns m x u ≡ false
    unowned = owns_nothing j.zone j.apart x own.0 j.no_hashed_owner bare

    k : (k : Name) × (is_authoritative origin m NSEC3 k ≡ true) × IsAtOrAbove x k
    k = (j.zone.authoritative x (In-Contains x names own.0)).1

    t : (t : ℕ) × (not (t == NSEC3) ≡ true) × (owns m k.0 t ≡ true)
    t = from_besides m NSEC3 k.0 (and_left (owns_besides m NSEC3 k.0) (not (is_below_cut origin m k.0)) (and_right (is_at_or_above origin k.0) (owns_besides m NSEC3 k.0 && not (is_below_cut origin m k.0)) k.1))

    of : (x ≡ k.0) ⊎ IsAbove x k.0 → (n : Name) × (t : ℕ) × IsAbove x n × (owns m n t ≡ true)
    of (inl e) = absurd (true≢false (sym t.2 ∙ ap (λ n. owns m n t.0) (sym e) ∙ unowned t.0))
    of (inr w) = (k.0, t.0, w, t.2)

-- ---- by a wildcard

-- a wildcard owns no NSEC3 set: the text of a digest has more octets than its label, or none
wildcard_unhashed : (origin : Name) (beside m : Sets) (hash : Name → Option (List ℕ)) (parameters : Nsec3Parameters) (names : List Name) → IsNsec3Chain origin beside m hash parameters names → (a : Name) → owns m (wildcard_under a) NSEC3 ≡ false
wildcard_unhashed origin beside m hash parameters names zone a = by (owns m (wildcard_under a) NSEC3) refl
  where
    by : (b : Bool) → owns m (wildcard_under a) NSEC3 ≡ b → b ≡ false
    by false e = refl
    by true e = of (zone.no_other (wildcard_under a) e)
      where
        of : (n : Name) × (d : List ℕ) × Contains names n × (hash n ≡ Some d) × (wildcard_under a ≡ hashed_owner origin d) → true ≡ false
        of (n, d, i, h, q) =
            let size : base32_count (length d) ≡ 1 =
            sym (text_length d) ∙ ap length (sym (first_label asterisk_label (base32_text d) a origin q)) in
            absurd (omega (arith, size))

pub nsec3_wildcard_no_data_sound : (origin : Name) (beside m : Sets) (hash : Name → Option (List ℕ)) (parameters : Nsec3Parameters) (names : List Name) (rs : List Nsec3Record) (x : Name) (t : ℕ) → IsInNsec3ScopeOfChain origin beside m hash parameters names x
    → AreNsec3OfZone m rs → is_wildcard x ≡ false → IsWildcardUnflattenedOn m names x t → proves_wildcard_no_data origin hash rs x t ≡ true → IsWithoutDataByWildcard origin m x t
nsec3_wildcard_no_data_sound origin beside m hash parameters names rs x t j of_zone plain flat p =
    record {
      none = record {
        nothing = λ signed i. option_or (bare_x i) ((ap (option_and_then (λ s. option_map (renamed signed s x) (direct m s (searched_type m x t)))) asked ∙ ap (option_map (renamed signed wildcard_name x)) bare_wildcard) i);
        there = present origin m x (or_right (owns_at_or_below m x) (asked_wildcard_exists m x) wildcard_exists);
      };
      absent = none;
      wildcard_name = wildcard_exists;
    }
  where
    test : Name → Bool
    test e = is_denied origin hash rs (wildcard_under e) t

    q : IsProved origin hash rs (λ r. true) x test
    q = parts origin hash rs (λ r. true) x test p

    of_names : (r : Nsec3Record) → In r rs → (n : Name) × In n names × (r ≡ record_of j.zone j.apart n)
    of_names = of_name j.zone j.apart rs of_zone

    away : is_named names x ≡ false
    away = proved_away j rs of_names (λ r. true) test q

    n : (a : Name) × (k : Name) × IsEnclosed names x a k
    n = enclosed j away

    wildcard_name : Name
    wildcard_name = wildcard_under n.0

    inside : IsAtOrAbove origin wildcard_name
    inside = wildcard_in j n.0 n.2.is_encloser q.up

    uncut : is_below_cut origin m wildcard_name ≡ false
    uncut = wildcard_uncut j n.0 n.2.is_encloser q.up

    passed : is_denied origin hash rs wildcard_name t ≡ true
    passed = ap test (sym (one j rs of_names (λ r. true) test q n.0 n.1 n.2)) ∙ q.passes

    denying : (r : Nsec3Record) × In r rs × (matches origin hash r wildcard_name && denies_type origin r wildcard_name t ≡ true)
    denying = In-from_any (λ r. matches origin hash r wildcard_name && denies_type origin r wildcard_name t) rs passed

    own : In wildcard_name names × (denying.0 ≡ record_of j.zone j.apart wildcard_name)
    own =
        matching j.zone j.apart rs of_names wildcard_name (wildcard_hashed j.zone j.apart n.0 n.1 n.2) denying.0 denying.1 (and_left (matches origin hash denying.0 wildcard_name) (denies_type origin denying.0 wildcard_name t) denying.2)

    bare_wildcard : direct m wildcard_name (searched_type m x t) ≡ None
    bare_wildcard =
        nothing_searched j.zone j.apart wildcard_name own.0 (wildcard_unhashed origin beside m hash parameters names j.zone n.0) j.unreferred (is_at_or_above_complete origin wildcard_name inside) uncut t
        (ap (λ r. denies_type origin r wildcard_name t) (sym own.1) ∙ and_right (matches origin hash denying.0 wildcard_name) (denies_type origin denying.0 wildcard_name t) denying.2) (flat n.0 n.2.is_encloser) x

    none : owns_at_or_below m x ≡ false
    none = there_is j ∙ away

    unowned : (u : ℕ) → owns m x u ≡ false
    unowned u = by (owns m x u) refl
      where
        by : (b : Bool) → owns m x u ≡ b → b ≡ false
        by false e = refl
        by true e = absurd (true≢false (sym (there_from m x u e) ∙ none))

    bare_x : direct m x (searched_type m x t) ≡ None
    bare_x = bare_direct origin m x j.unreferred j.inside j.uncut unowned (searched_type m x t)

    asked : asked_wildcard m x ≡ Some wildcard_name
    asked = proved_wildcard_is_asked origin beside m hash parameters names j.zone j.all_in j.one_kind x ((above_test origin x).1 q.up) j.uncut (plain_x j) plain (unowned_absent m x none) n.0 n.2.is_encloser

    wildcard_exists : asked_wildcard_exists m x ≡ true
    wildcard_exists = ap (λ a. option_map_or (exists m) a false) asked ∙ exists_is j wildcard_name inside uncut (wildcard_plain j n.0 n.2.is_encloser q.up) ∙ in_named names wildcard_name own.0

-- ---- a name error

pub nsec3_name_error_sound : (origin : Name) (beside m : Sets) (hash : Name → Option (List ℕ)) (parameters : Nsec3Parameters) (names : List Name) (rs : List Nsec3Record) (x : Name) → IsInNsec3ScopeOfChain origin beside m hash parameters names x
    → AreNsec3OfZone m rs → proves_name_error origin hash rs x ≡ true → IsNoName origin m x
nsec3_name_error_sound origin beside m hash parameters names rs x j of_zone p =
    record { denied = denied; nothing = λ signed t i. option_or (bare_direct origin m x j.unreferred j.inside j.uncut unowned t i) (unsynthesized signed t i) }
  where
    denied : negative_answer origin m x ≡ nx_domain
    denied = nsec3_error_denied origin beside m hash parameters names rs x j of_zone p

    gone : (owns_at_or_below m x ≡ false) × (asked_wildcard_exists m x ≡ false)
    gone = error_means origin m x denied

    off : is_named names x ≡ false
    off = sym (there_is j) ∙ gone.0

    n : (a : Name) × (k : Name) × IsEnclosed names x a k
    n = enclosed j off

    up : IsAbove origin x
    up = over j off

    wildcard_name : Name
    wildcard_name = wildcard_under n.0

    unowned : (u : ℕ) → owns m x u ≡ false
    unowned u = refuted (owns m x u) (λ k. true≢false (sym (there_from m x u k) ∙ gone.0))

    -- a wildcard that doesn't exist owns nothing
    bare : exists m wildcard_name ≡ false → (u : ℕ) → owns m wildcard_name u ≡ false
    bare none u = by (u == NSEC3) refl
      where
        by : (b : Bool) → (u == NSEC3) ≡ b → owns m wildcard_name u ≡ false
        by true q = ap (owns m wildcard_name) (eqb-true u NSEC3 q) ∙ wildcard_unhashed origin beside m hash parameters names j.zone n.0
        by false q = refuted (owns m wildcard_name u) (λ k. true≢false (sym (exists_from m wildcard_name wildcard_name u k (λ i. other_type m wildcard_name u NSEC j.one_kind k i || q i) ([], refl)) ∙ none))

    -- so is the one that is asked, if one is
    unsynthesized : (signed : Bool) (t : ℕ) → wildcard m signed x t ≡ None
    unsynthesized signed t = by (asked_wildcard m x) refl
      where
        by : (o : Option Name) → asked_wildcard m x ≡ o → option_and_then (λ s. option_map (renamed signed s x) (direct m s t)) o ≡ None
        by None e = refl
        by (Some w) e =
            ap (option_map (renamed signed w x))
            (ap (λ s. direct m s t) same
            ∙ bare_direct origin m wildcard_name j.unreferred (is_at_or_above_complete origin wildcard_name (wildcard_in j n.0 n.2.is_encloser up)) (wildcard_uncut j n.0 n.2.is_encloser up)
            (bare (ap (exists m) (sym same) ∙ ap (λ o. option_map_or (exists m) o false) (sym e) ∙ gone.1)) t)
          where
            same : w ≡ wildcard_name
            same = (asked_only j n.0 n.2.is_encloser up w e).0

-- ---- an answer of a wildcard

module _ {origin : Name} {beside m : Sets} {hash : Name → Option (List ℕ)} {parameters : Nsec3Parameters} {names : List Name} {x : Name} (j : IsInNsec3ScopeOfChain origin beside m hash parameters names x) (rs : List Nsec3Record) (of_zone : AreNsec3OfZone m rs) (e : Name)
    (inside : IsAtOrAbove origin e) (above : IsAbove e x) (c : Name) (at : IsAtOrAbove c x) (longer : length c ≡ suc (length e)) (covered : is_covered origin hash rs c ≡ true) where
  below : IsAbove origin c
  below = closer_inside origin x e c inside (above_at e x above) at longer

  -- nothing at or below the next closer name is in the chain
  none_on : (n : Name) → IsAtOrAbove c n → is_named names n ≡ false
  none_on n u = by (is_named names n) refl
    where
      by : (b : Bool) → is_named names n ≡ b → b ≡ false
      by false q = refl
      by true q = absurd (none_below_covered j.zone j.apart rs (of_name j.zone j.apart rs of_zone) n c u below covered (named_in names n q))

  none_closer : (n : Name) → IsAbove e n → IsAtOrAbove n x → exists m n ≡ false
  none_closer n w u = exists_is j n (above_through origin c n (above_at origin c below) at_n) (above_uncut origin m n x u j.uncut) (undnamed j n (λ a v. above_below a n x v u)) ∙ none_on n at_n
    where
      at_n : IsAtOrAbove c n
      at_n = by (comparable at.0 u.0 c n (sym at.1 ∙ u.1))
        where
          side : (n ≡ c) ⊎ IsAbove n c → IsAtOrAbove c n
          side (inl q) = ([], q)
          side (inr v) = absurd (omega (arith, above_shorter e n w, longer, above_shorter n c v))

          by : IsAtOrAbove c n ⊎ IsAtOrAbove n c → IsAtOrAbove c n
          by (inl v) = v
          by (inr v) = side (above_cases n c v)

  encloser_found : exists m e ≡ true → found_encloser m x ≡ Some e
  encloser_found there = b.1.found ∙ ap Some (sym same)
    where
      b : (b : Name) × IsLongestAbove (exists m) x b
      b = longest_above (exists m) x e above there

      same : e ≡ b.0
      same = by (above_cases e b.0 (others_above (exists m) x b.0 e b.1 above there))
        where
          by : (e ≡ b.0) ⊎ IsAbove e b.0 → e ≡ b.0
          by (inl q) = q
          by (inr w) = absurd (true≢false (sym b.1.passes ∙ none_closer b.0 w (above_at b.0 x b.1.above)))

  absent_below : IsAbsentBelow origin m x e
  absent_below = record { inside = inside; absent = there_is j ∙ none_on x at; none_closer = none_closer; encloser = encloser_found }

pub nsec3_wildcard_answer_sound : (origin : Name) (beside m : Sets) (hash : Name → Option (List ℕ)) (parameters : Nsec3Parameters) (names : List Name) (rs : List Nsec3Record) (x e : Name) → IsInNsec3ScopeOfChain origin beside m hash parameters names x
    → AreNsec3OfZone m rs → proves_wildcard_answer origin hash rs x e ≡ true → IsAbsentBelow origin m x e
nsec3_wildcard_answer_sound origin beside m hash parameters names rs x e j of_zone p =
    by (next_closer x e) refl (and_right (is_at_or_above origin e && is_above e x) (option_map_or (is_covered origin hash rs) (next_closer x e) false) p)
  where
    first : is_at_or_above origin e && is_above e x ≡ true
    first = and_left (is_at_or_above origin e && is_above e x) (option_map_or (is_covered origin hash rs) (next_closer x e) false) p

    by : (o : Option Name) → next_closer x e ≡ o → option_map_or (is_covered origin hash rs) o false ≡ true → IsAbsentBelow origin m x e
    by None d k = absurd (true≢false (sym k))
    by (Some c) d k =
        let found = found_above (λ (s : Name). length s == suc (length e)) x c d in
        absent_below j rs of_zone e (is_at_or_above_sound origin e (and_left (is_at_or_above origin e) (is_above e x) first)) ((above_test e x).0 (and_right (is_at_or_above origin e) (is_above e x) first)) c
        found.0 (eqb-true (length c) (suc (length e)) found.1) k

-- ---- an unsigned delegation

pub nsec3_unsigned_delegation_sound : Nsec3ChainUnsignedDelegationSound
nsec3_unsigned_delegation_sound origin beside m hash parameters names rs x zone apart of_zone p =
    record {
      below = below;
      delegated = told_owned zone apart x own.0 NS refl (and_left (lists v NS) (not (lists v DS)) two);
      unsigned = told_absent zone apart x own.0 DS refl (not_true (lists v DS) (and_right (lists v NS) (not (lists v DS)) two));
      no_apex = told_absent zone apart x own.0 SOA refl (not_true (lists v SOA) (and_right (lists v NS && not (lists v DS)) (not (lists v SOA)) shown));
    }
  where
    below : IsAbove origin x
    below = (above_test origin x).0 (and_left (is_above origin x) (list_any (λ r. matches origin hash r x && is_of_unsigned r) rs) p)

    r : (r : Nsec3Record) × In r rs × (matches origin hash r x && is_of_unsigned r ≡ true)
    r = In-from_any (λ r. matches origin hash r x && is_of_unsigned r) rs (and_right (is_above origin x) (list_any (λ r. matches origin hash r x && is_of_unsigned r) rs) p)

    v : Nsec3Record
    v = record_of zone apart x

    own : In x names × (r.0 ≡ record_of zone apart x)
    own = matching zone apart rs (of_name zone apart rs of_zone) x (self_hashed names origin zone.begins x (above_at origin x below)) r.0 r.1 (and_left (matches origin hash r.0 x) (is_of_unsigned r.0) r.2)

    shown : lists v NS && not (lists v DS) && not (lists v SOA) ≡ true
    shown = ap is_of_unsigned (sym own.1) ∙ and_right (matches origin hash r.0 x) (is_of_unsigned r.0) r.2

    two : lists v NS && not (lists v DS) ≡ true
    two = and_left (lists v NS && not (lists v DS)) (not (lists v SOA)) shown

-- ---- without opt-out no record has the flag

module _ {origin : Name} {beside m : Sets} {hash : Name → Option (List ℕ)} {parameters : Nsec3Parameters} {names : List Name} {x : Name} (zone : IsNsec3Chain origin beside m hash parameters names) (all_in : parameters.opt_out ≡ false)
    (apart : HasDistinctDigests (IsHashedOn names x) hash) (rs : List Nsec3Record) (of_zone : AreNsec3OfZone m rs)
  where
    flag : (r : Nsec3Record) → In r rs → r.opt_out ≡ false
    flag r i = ap (λ (r : Nsec3Record). r.opt_out) (of_name zone apart rs of_zone r i).2 ∙ all_in

    pub no_flag : (c : Name) → is_opted_out origin hash rs c ≡ false
    no_flag c =
        refuted (is_opted_out origin hash rs c)
        (λ e. let r = In-from_any (λ r. covers origin hash r c && r.opt_out) rs e in
        true≢false (sym (and_right (covers origin hash r.0 c) r.0.opt_out r.2) ∙ flag r.0 r.1))

    pub not_opted_out : proves_opted_out origin hash rs x ≡ false
    not_opted_out =
        refuted (proves_opted_out origin hash rs x)
        (λ e. let c = (parts origin hash rs (λ r. r.opt_out) x (λ e. true) e).covering in
        true≢false (sym (and_right (covers origin hash c.0 (parts origin hash rs (λ r. r.opt_out) x (λ e. true) e).closer) c.0.opt_out c.2) ∙ flag c.0 c.1))

pub nsec3_all_in_sound : (origin : Name) (beside m : Sets) (hash : Name → Option (List ℕ)) (parameters : Nsec3Parameters) (names : List Name) (rs : List Nsec3Record) (x : Name) → IsNsec3Chain origin beside m hash parameters names
    → parameters.opt_out ≡ false → HasDistinctDigests (IsHashedOn names x) hash → AreNsec3OfZone m rs → proves_unsigned_delegation origin hash rs x ≡ true → IsUnsignedDelegation origin m x
nsec3_all_in_sound origin beside m hash parameters names rs x zone all_in apart of_zone p = by (shows_unsigned_delegation origin hash rs x) refl
  where
    by : (b : Bool) → shows_unsigned_delegation origin hash rs x ≡ b → IsUnsignedDelegation origin m x
    by true e = nsec3_unsigned_delegation_sound origin beside m hash parameters names rs x zone apart of_zone e
    by false e = absurd (true≢false (sym (ap (λ b. b || proves_opted_out origin hash rs x) (sym e) ∙ p) ∙ not_opted_out zone all_in apart rs of_zone))

-- ---- all of it

pub nsec3_records_sound : Nsec3ChainRecordsSound
nsec3_records_sound origin beside m hash parameters names rs x j of_zone = record {
  error = nsec3_name_error_sound origin beside m hash parameters names rs x j of_zone;
  data' = λ t. nsec3_no_data_sound origin beside m hash parameters names rs x t j of_zone;
  empty = nsec3_empty_sound origin beside m hash parameters names rs x j of_zone;
  wildcard_data = λ t. nsec3_wildcard_no_data_sound origin beside m hash parameters names rs x t j of_zone;
  answer = λ e. nsec3_wildcard_answer_sound origin beside m hash parameters names rs x e j of_zone;
  delegation = nsec3_all_in_sound origin beside m hash parameters names rs x j.zone j.all_in j.apart of_zone;
}
