-- What NSEC records of a zone prove of a name in scope is so
use Rattle.std.proofs.Common.{◌≡◌, ℕ, Bool, true, false, cond, not, ◌&&◌, ◌||◌, List, [], drop, refl, sym, ap, ◌∙◌, true≢false, arith, ◌≢◌, eqb-true, eq-eqb}
use Rattle.std.specs.Prelude.{Option, Some, None, option_map, option_and_then, ◌==◌, IsTrue, IsFalse}
use Rattle.std.specs.Option.{option_map_or, option_or}
use Rattle.zone_proto.specs.Names.{Name, name_eq, is_root, is_above, IsAbove, wildcard_under, is_wildcard}
use Rattle.zone_proto.specs.Types.{NS, CNAME, SOA, DS, RRSIG, NSEC, ANY, ANAME}
use Rattle.zone_proto.proofs.Members.{In, In-from_any, any_from_In, and_left, and_right, not_true, or_left, or_right}
use Rattle.zone_proto.proofs.Names.NameTree.{name_eq-Decides, above_test}
use Rattle.zone_map.specs.AnyTypes.{searched_type}
use Rattle.zone_map.specs.Direct.{direct}
use Rattle.zone_map.specs.Wildcards.{exists, renamed, wildcard, asked_wildcard, asked_wildcard_exists}
use Rattle.zone_map.specs.Zones.{Sets, owns, types_at, owns_at_or_below}
use Rattle.zone_denial.specs.NsecDenial.{nsec_encloser}
use Rattle.zone_denial.specs.Chains.{is_delegation, is_stated_at_delegation, is_stated, IsNsecChain, next_owner}
use Rattle.zone_denial.proofs.Chains.NsecAskedWildcard.{exists_is, enclosers_agree, proved_wildcard_is_asked}
use Rattle.zone_denial.proofs.Chains.NsecLinks.{next_owned}
use Rattle.zone_denial.proofs.Chains.NsecLists.{delegation_owns}
use Rattle.zone_denial.proofs.Names.ExistingAncestors.{unowned_absent}
use Rattle.zone_lookup.specs.Replies.{nx_domain, negative_answer}
use Rattle.denial_validation.specs.NsecProofs.{lists, shows_type, is_of_zone, is_ancestor_delegation, is_of_apex, is_wrong_side, may_apply_to, covers, denies_name, denies_type, shows_empty, shown_encloser, wildcard_is, denied_and_wildcard, is_bare, shows_unsigned_delegation, proves_no_data, proves_name_error, proves_empty_non_terminal, proves_wildcard_no_data, proves_wildcard_answer}
use Rattle.denial_validation.specs.NsecRecords.{NsecRecord}
use Rattle.denial_laws.specs.Scope.{AreOfZone}
use Rattle.denial_laws.specs.Chains.{IsInScopeOfChain, ChainUnsignedDelegationSound, ChainRecordsSound}
use Rattle.denial_laws.specs.Soundness.{IsWithoutData, IsUnflattened, IsEmptyNonTerminal, IsUnsignedDelegation, IsNoName, IsWithoutDataByWildcard, IsEnclosedBy}
use Rattle.denial_laws.proofs.Chains.Gaps.{IsBetween, off_chain}
use Rattle.denial_laws.proofs.Chains.NameErrors.{over, error_denied, covers_between, between_denied, nothing_there}
use Rattle.denial_laws.proofs.NameErrors.{error_means}
use Rattle.denial_laws.proofs.NothingFound.{direct_none}
use Rattle.denial_laws.proofs.Chains.Readings.{record_at, of_owner, owned_listed, call_concludes, told_listed, told_owned}
use Rattle.denial_laws.proofs.Chains.ShownEnclosers.{judged_wildcard, shown_is}
use Rattle.denial_laws.proofs.Chains.Speaking.{empty_off}
use Rattle.denial_laws.proofs.Chains.Wildcards.{undnamed, asked_only}
use Rattle.denial_laws.proofs.Soundness.{neither, there_from, present, searched_by, unasked, nothing_by, unowned, empty_there, unowned_types}
use Rattle.denial_laws.proofs.Tests.{refuted}

-- ---- what a record that denies a type says of its owner

module _ (origin : Name) (m : Sets) (h : IsNsecChain origin m) (y : Name) (on : owns m y NSEC ≡ true) (t : ℕ) (d : denies_type origin (record_at origin m h y) y t ≡ true) where
  abbrev r : NsecRecord
  r = record_at origin m h y

  right_side : is_wrong_side origin r t ≡ false
  right_side = not_true (is_wrong_side origin r t) (and_right (is_of_zone origin r && name_eq y y && not (shows_type r t) && not (lists r CNAME)) (not (is_wrong_side origin r t)) d)

  first_four : is_of_zone origin r && name_eq y y && not (shows_type r t) && not (lists r CNAME) ≡ true
  first_four = and_left (is_of_zone origin r && name_eq y y && not (shows_type r t) && not (lists r CNAME)) (not (is_wrong_side origin r t)) d

  unaliased : lists r CNAME ≡ false
  unaliased = not_true (lists r CNAME) (and_right (is_of_zone origin r && name_eq y y && not (shows_type r t)) (not (lists r CNAME)) first_four)

  unshown : shows_type r t ≡ false
  unshown =
      not_true (shows_type r t)
      (and_right (is_of_zone origin r && name_eq y y) (not (shows_type r t)) (and_left (is_of_zone origin r && name_eq y y && not (shows_type r t)) (not (lists r CNAME)) first_four))

  pub is_one_type : (t == ANY) ≡ false
  is_one_type = (neither (t == NSEC || t == RRSIG) (t == ANY) (neither (t == NSEC || t == RRSIG || t == ANY) (lists r t) unshown).0).1

  not_signature : t ≢ RRSIG
  not_signature e = true≢false (sym (eq-eqb t RRSIG e) ∙ (neither (t == NSEC) (t == RRSIG) (neither (t == NSEC || t == RRSIG) (t == ANY) (neither (t == NSEC || t == RRSIG || t == ANY) (lists r t) unshown).0).0).1)

  not_owned : (u : ℕ) → u ≢ RRSIG → is_stated origin m y u ≡ true → lists r u ≡ false → owns m y u ≡ false
  not_owned u a k e = refuted (owns m y u) (λ o. true≢false (sym (owned_listed origin m h y u on a k o) ∙ e))

  pub alias_absent : owns m y CNAME ≡ false
  alias_absent = not_owned CNAME (λ e. omega (arith, e)) (call_concludes origin m h y CNAME refl) unaliased

  -- NS is there beside SOA, but where DS is asked
  pub ns_beside_soa : (t == DS) ≡ false → owns m y NS ≡ true → owns m y SOA ≡ true
  ns_beside_soa e k = by (lists r SOA) refl
    where
      delegation : is_ancestor_delegation r ≡ false
      delegation = sym (ap (λ b. cond b (is_of_apex origin r && not (is_root y)) (is_ancestor_delegation r)) e) ∙ right_side

      by : (b : Bool) → lists r SOA ≡ b → owns m y SOA ≡ true
      by true q = told_owned origin m h y SOA refl on q
      by false q = absurd (true≢false (sym (λ i. told_listed origin m h y NS refl on k i && not (q i)) ∙ delegation))

  -- so its list tells of the type
  tells_it : is_stated origin m y t ≡ true
  tells_it = by (is_delegation origin m y) refl (t == DS) refl
    where
      by : (d : Bool) → is_delegation origin m y ≡ d → (b : Bool) → (t == DS) ≡ b → not d || is_stated_at_delegation t ≡ true
      by false e b q = refl
      by true e true q = ap is_stated_at_delegation (eqb-true t DS q)
      by true e false q = let o = delegation_owns origin m y e in absurd (true≢false (sym (ns_beside_soa q o.0) ∙ o.1))

  pub type_absent : owns m y t ≡ false
  type_absent = not_owned t not_signature tells_it (neither (t == NSEC || t == RRSIG || t == ANY) (lists r t) unshown).1

module _ (origin : Name) (m : Sets) (x : Name) (j : IsInScopeOfChain origin m x) where
  abbrev h : IsNsecChain origin m
  h = j.zone

  -- where a name is there, no wildcard is asked for it
  wildcard_none : (signed : Bool) (t : ℕ) → owns_at_or_below m x ≡ true → wildcard m signed x t ≡ None
  wildcard_none signed t e = ap (option_and_then (λ s. option_map (renamed signed s x) (direct m s t))) (unasked m x (exists_is origin m h j.one_kind x ∙ e))

  -- the owner of a record that denies a type is the name
  pub own_denied : (rs : List NsecRecord) (t : ℕ) → AreOfZone m rs → proves_no_data origin rs x t ≡ true → (owns m x NSEC ≡ true) × (denies_type origin (record_at origin m h x) x t ≡ true)
  own_denied rs t zone p =
      let r = In-from_any (λ r. denies_type origin r x t) rs p in
      let o = of_owner origin m h rs zone r.0 r.1 in
      let d : denies_type origin (record_at origin m h o.0) x t ≡ true = ap (λ v. denies_type origin v x t) (sym o.2) ∙ r.2 in
      let same : o.0 ≡ x = (name_eq-Decides o.0 x).0 (named (record_at origin m h o.0) d) in
      (ap (λ n. owns m n NSEC) (sym same) ∙ o.1, (λ i. denies_type origin (record_at origin m h (sym same i)) x t) ∙ d)
    where
      named : (r : NsecRecord) → denies_type origin r x t ≡ true → name_eq r.owner x ≡ true
      named r d =
          and_right (is_of_zone origin r) (name_eq r.owner x)
          (and_left (is_of_zone origin r && name_eq r.owner x) (not (shows_type r t))
          (and_left (is_of_zone origin r && name_eq r.owner x && not (shows_type r t)) (not (lists r CNAME))
          (and_left (is_of_zone origin r && name_eq r.owner x && not (shows_type r t) && not (lists r CNAME)) (not (is_wrong_side origin r t)) d)))

  denied_direct : owns m x NSEC ≡ true → (t : ℕ) → denies_type origin (record_at origin m h x) x t ≡ true → IsUnflattened m x t → direct m x t ≡ None
  denied_direct on t d flat =
      direct_none origin m x j.unreferred j.inside j.uncut t (ns_beside_soa origin m h x on t d) (type_absent origin m h x on t d) (alias_absent origin m h x on t d) flat

pub no_data_sound : (origin : Name) (m : Sets) (rs : List NsecRecord) (x : Name) (t : ℕ) → IsInScopeOfChain origin m x → AreOfZone m rs → IsUnflattened m x t
    → IsTrue (proves_no_data origin rs x t) → IsWithoutData origin m x t
no_data_sound origin m rs x t j zone flat p =
    let d = own_denied origin m x j rs t zone p in
    let some = there_from m x NSEC d.0 in
    record {
      nothing = λ signed. nothing_by m signed x t (is_one_type origin m j.zone x d.0 t d.1) (denied_direct origin m x j d.0 t d.1 flat) (wildcard_none origin m x j signed t some);
      there = present origin m x (or_left (owns_at_or_below m x) (asked_wildcard_exists m x) some);
    }

-- ---- empty non-terminals

module _ (origin : Name) (m : Sets) (y : Name) (j : IsInScopeOfChain origin m y) (o : Name) (k : owns m o NSEC ≡ true) (s : shows_empty origin (record_at origin m j.zone o) y ≡ true) where
  abbrev v : NsecRecord
  v = record_at origin m j.zone o

  between : IsBetween origin m y o
  between = covers_between origin m j.zone y o k (and_right (may_apply_to v y) (covers origin v y) (and_left (may_apply_to v y && covers origin v y) (is_above y (next_owner origin m o)) s))

  pub is_empty : IsEmptyNonTerminal m y
  is_empty = record {
    empty = empty_off origin m y j (off_chain origin m j.zone y o between);
    below = (next_owner origin m o, NSEC, (above_test y (next_owner origin m o)).0 (and_right (may_apply_to v y && covers origin v y) (is_above y (next_owner origin m o)) s), next_owned origin m j.zone o);
  }

pub empty_sound : (origin : Name) (m : Sets) (rs : List NsecRecord) (x : Name) → IsInScopeOfChain origin m x → AreOfZone m rs → IsTrue (proves_empty_non_terminal origin rs x) → IsEmptyNonTerminal m x
empty_sound origin m rs x j zone p =
    let r = In-from_any (λ r. shows_empty origin r x) rs p in
    let o = of_owner origin m j.zone rs zone r.0 r.1 in
    is_empty origin m x j o.0 o.1 (ap (λ v. shows_empty origin v x) (sym o.2) ∙ r.2)

empty_direct : (origin : Name) (m : Sets) (y : Name) → IsInScopeOfChain origin m y → (t : ℕ) → types_at m y ≡ [] → direct m y t ≡ None
empty_direct origin m y j t e =
    direct_none origin m y j.unreferred j.inside j.uncut t (λ d k. absurd (true≢false (sym k ∙ unowned m y NS e))) (unowned m y t e) (unowned m y CNAME e) (λ a. unowned m y ANAME e)

pub empty_without_data : (origin : Name) (m : Sets) (x : Name) → IsInScopeOfChain origin m x → IsEmptyNonTerminal m x → (t : ℕ) → IsWithoutData origin m x t
empty_without_data origin m x j e t = record {
  nothing = λ signed i. option_or (empty_direct origin m x j (searched_type m x t) e.empty i) (wildcard_none origin m x j signed (searched_type m x t) (empty_there m x e) i);
  there = present origin m x (or_left (owns_at_or_below m x) (asked_wildcard_exists m x) (empty_there m x e));
}

-- ---- a name error

pub name_error_sound : (origin : Name) (m : Sets) (rs : List NsecRecord) (x : Name) → IsInScopeOfChain origin m x → AreOfZone m rs → IsTrue (proves_name_error origin rs x) → IsNoName origin m x
name_error_sound origin m rs x j zone p = record { denied = denied; nothing = λ signed t i. option_or (empty_direct origin m x j t (unowned_types m x gone.0) i) (unsynthesized signed t i) }
  where
    denied : negative_answer origin m x ≡ nx_domain
    denied = error_denied origin m rs x j zone p

    gone : (owns_at_or_below m x ≡ false) × (asked_wildcard_exists m x ≡ false)
    gone = error_means origin m x denied

    above : IsAbove origin x
    above = over origin m x j gone.0

    wildcard_name : Name
    wildcard_name = wildcard_under (nsec_encloser origin m x)

    -- the wildcard at the closest encloser, if one is, owns nothing
    unsynthesized : (signed : Bool) (t : ℕ) → wildcard m signed x t ≡ None
    unsynthesized signed t = by (asked_wildcard m x) refl
      where
        by : (o : Option Name) → asked_wildcard m x ≡ o → option_and_then (λ s. option_map (renamed signed s x) (direct m s t)) o ≡ None
        by None e = refl
        by (Some w) e = ap (option_map (renamed signed w x)) (ap (λ s. direct m s t) same ∙ empty_direct origin m wildcard_name (judged_wildcard origin m x j above) t (unowned_types m wildcard_name none))
          where
            same : w ≡ wildcard_name
            same = (asked_only origin m x j above w e).0

            none : owns_at_or_below m wildcard_name ≡ false
            none = sym (exists_is origin m j.zone j.one_kind wildcard_name) ∙ ap (exists m) (sym same) ∙ ap (λ o. option_map_or (exists m) o false) (sym e) ∙ gone.1

-- ---- by a wildcard

module _ (origin : Name) (m : Sets) (rs : List NsecRecord) (x : Name) (j : IsInScopeOfChain origin m x) (zone : AreOfZone m rs) (test : Name → Bool) (p : denied_and_wildcard origin rs x test ≡ true) where
  -- the record that denies the name, and its owner
  denying : (r : NsecRecord) × In r rs × (denies_name origin r x && wildcard_is test r x ≡ true)
  denying = In-from_any (λ r. denies_name origin r x && wildcard_is test r x) rs p

  owner : (o : Name) × (owns m o NSEC ≡ true) × (denying.0 ≡ record_at origin m j.zone o)
  owner = of_owner origin m j.zone rs zone denying.0 denying.1

  denies : denies_name origin (record_at origin m j.zone owner.0) x ≡ true
  denies = ap (λ v. denies_name origin v x) (sym owner.2) ∙ and_left (denies_name origin denying.0 x) (wildcard_is test denying.0 x) denying.2

  -- nothing is there, and the wildcard at its closest encloser passes
  pub nothing_at : owns_at_or_below m x ≡ false
  nothing_at = nothing_there origin m x j owner.0 owner.1 denies

  pub up : IsAbove origin x
  up = over origin m x j nothing_at

  pub passed : test (wildcard_under (nsec_encloser origin m x)) ≡ true
  passed =
      sym
      (ap (λ v. option_map_or (λ e. test (wildcard_under e)) v false)
      (ap (λ v. shown_encloser v x) owner.2 ∙ shown_is origin m x j up owner.0 (between_denied origin m x j owner.0 owner.1 denies)))
      ∙ and_right (denies_name origin denying.0 x) (wildcard_is test denying.0 x) denying.2

pub wildcard_answer_sound : (origin : Name) (m : Sets) (rs : List NsecRecord) (x e : Name) → IsInScopeOfChain origin m x → AreOfZone m rs → IsTrue (proves_wildcard_answer origin rs x e) → IsEnclosedBy m x e
wildcard_answer_sound origin m rs x e j zone p =
    let u = up origin m rs x j zone (name_eq (wildcard_under e)) p in
    let same : wildcard_under e ≡ wildcard_under (nsec_encloser origin m x) = (name_eq-Decides (wildcard_under e) (wildcard_under (nsec_encloser origin m x))).0 (passed origin m rs x j zone (name_eq (wildcard_under e)) p) in
    record {
      absent = nothing_at origin m rs x j zone (name_eq (wildcard_under e)) p;
      encloser = enclosers_agree origin m j.zone j.one_kind x ((above_test origin x).1 u) j.uncut (undnamed origin m x j) ∙ ap Some (ap (drop 1) (sym same));
    }

pub wildcard_no_data_sound : (origin : Name) (m : Sets) (rs : List NsecRecord) (x : Name) (t : ℕ) → IsInScopeOfChain origin m x → AreOfZone m rs → IsFalse (is_wildcard x)
    → IsUnflattened m (wildcard_under (nsec_encloser origin m x)) t → IsTrue (proves_wildcard_no_data origin rs x t) → IsWithoutDataByWildcard origin m x t
wildcard_no_data_sound origin m rs x t j zone plain flat p =
    record {
      none = record {
        nothing = λ signed i.
            option_or (empty_direct origin m x j (searched_type m x t) (unowned_types m x none) i)
            ((ap (option_and_then (λ s. option_map (renamed signed s x) (direct m s (searched_type m x t)))) asked ∙ ap (option_map (renamed signed wildcard_name x)) bare.0) i);
        there = present origin m x (or_right (owns_at_or_below m x) (asked_wildcard_exists m x) wildcard_exists);
      };
      absent = none;
      wildcard_name = wildcard_exists;
    }
  where
    none : owns_at_or_below m x ≡ false
    none = nothing_at origin m rs x j zone (is_bare origin rs t) p

    u : IsAbove origin x
    u = up origin m rs x j zone (is_bare origin rs t) p

    wildcard_name : Name
    wildcard_name = wildcard_under (nsec_encloser origin m x)

    k : IsInScopeOfChain origin m wildcard_name
    k = judged_wildcard origin m x j u

    asked : asked_wildcard m x ≡ Some wildcard_name
    asked = proved_wildcard_is_asked origin m j.zone j.one_kind x ((above_test origin x).1 u) j.uncut (undnamed origin m x j) plain (unowned_absent m x none)

    -- the wildcard's record denies the type, or another shows that the wildcard is empty
    bare : (direct m wildcard_name (searched_type m x t) ≡ None) × (owns_at_or_below m wildcard_name ≡ true)
    bare = by (In-from_any (λ r. denies_type origin r wildcard_name t || shows_empty origin r wildcard_name) rs (passed origin m rs x j zone (is_bare origin rs t) p))
      where
        by : (r : NsecRecord) × In r rs × (denies_type origin r wildcard_name t || shows_empty origin r wildcard_name ≡ true) → (direct m wildcard_name (searched_type m x t) ≡ None) × (owns_at_or_below m wildcard_name ≡ true)
        by (r, i, e) = of (denies_type origin r wildcard_name t) refl
          where
            of : (b : Bool) → denies_type origin r wildcard_name t ≡ b → (direct m wildcard_name (searched_type m x t) ≡ None) × (owns_at_or_below m wildcard_name ≡ true)
            of true q =
                let own = own_denied origin m wildcard_name k rs t zone (any_from_In (λ r. denies_type origin r wildcard_name t) r rs i q) in
                (ap (direct m wildcard_name) (searched_by m x t (is_one_type origin m j.zone wildcard_name own.0 t own.1)) ∙ denied_direct origin m wildcard_name k own.0 t own.1 flat, there_from m wildcard_name NSEC own.0)
            of false q =
                let o = of_owner origin m j.zone rs zone r i in
                let shown : shows_empty origin r wildcard_name ≡ true = ap (λ a. a || shows_empty origin r wildcard_name) (sym q) ∙ e in
                let empty = is_empty origin m wildcard_name k o.0 o.1 (ap (λ v. shows_empty origin v wildcard_name) (sym o.2) ∙ shown) in
                (empty_direct origin m wildcard_name k (searched_type m x t) empty.empty, empty_there m wildcard_name empty)

    wildcard_exists : asked_wildcard_exists m x ≡ true
    wildcard_exists = ap (λ a. option_map_or (exists m) a false) asked ∙ exists_is origin m j.zone j.one_kind wildcard_name ∙ bare.1

-- ---- an unsigned delegation

pub unsigned_delegation_sound : ChainUnsignedDelegationSound
unsigned_delegation_sound origin m rs x h zone p = by (In-from_any (λ r. shows_unsigned_delegation origin r x) rs p)
  where
    by : (r : NsecRecord) × In r rs × (shows_unsigned_delegation origin r x ≡ true) → IsUnsignedDelegation origin m x
    by (r, i, e) = of (of_owner origin m h rs zone r i)
      where
        of : (o : Name) × (owns m o NSEC ≡ true) × (r ≡ record_at origin m h o) → IsUnsignedDelegation origin m x
        of (o, k, q) = named (ap (λ v. shows_unsigned_delegation origin v x) (sym q) ∙ e)
          where
            v : NsecRecord
            v = record_at origin m h o

            not_owned : (u : ℕ) → is_stated_at_delegation u ≡ true → lists v u ≡ false → owns m o u ≡ false
            not_owned u t g = refuted (owns m o u) (λ w. true≢false (sym (told_listed origin m h o u t k w) ∙ g))

            named : shows_unsigned_delegation origin v x ≡ true → IsUnsignedDelegation origin m x
            named d =
                let four = and_left (is_above origin o && name_eq o x && lists v NS && not (lists v DS)) (not (lists v SOA)) d in
                let three = and_left (is_above origin o && name_eq o x && lists v NS) (not (lists v DS)) four in
                let two = and_left (is_above origin o && name_eq o x) (lists v NS) three in
                let same : o ≡ x = (name_eq-Decides o x).0 (and_right (is_above origin o) (name_eq o x) two) in
                record {
                  below = (above_test origin x).0 (ap (is_above origin) (sym same) ∙ and_left (is_above origin o) (name_eq o x) two);
                  delegated = ap (λ n. owns m n NS) (sym same) ∙ told_owned origin m h o NS refl k (and_right (is_above origin o && name_eq o x) (lists v NS) three);
                  unsigned = ap (λ n. owns m n DS) (sym same) ∙ not_owned DS refl (not_true (lists v DS) (and_right (is_above origin o && name_eq o x && lists v NS) (not (lists v DS)) four));
                  no_apex = ap (λ n. owns m n SOA) (sym same) ∙ not_owned SOA refl (not_true (lists v SOA) (and_right (is_above origin o && name_eq o x && lists v NS && not (lists v DS)) (not (lists v SOA)) d));
                }

-- ---- all of it

pub records_sound : ChainRecordsSound
records_sound origin m rs x j zone = record {
  error = name_error_sound origin m rs x j zone;
  data' = λ t. no_data_sound origin m rs x t j zone;
  empty = empty_sound origin m rs x j zone;
  wildcard_data = λ t. wildcard_no_data_sound origin m rs x t j zone;
  answer = λ e. wildcard_answer_sound origin m rs x e j zone;
  delegation = unsigned_delegation_sound origin m rs x j.zone zone;
}
