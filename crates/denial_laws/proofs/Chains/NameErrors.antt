-- A name error is answered exactly where a validator accepts one
use Rattle.std.specs.Prelude.{IsTrue, IsFalse, Some}
use Rattle.std.proofs.Common.{◌≡◌, Bool, true, false, cond, not, ◌&&◌, ◌||◌, List, refl, sym, ap, ◌∙◌, true≢false, ◌⊎◌, inl, inr, Less}
use Rattle.std.specs.List.{list_any}
use Rattle.std.specs.Option.{option_map_or}
use Rattle.zone_proto.specs.Names.{Name, name_cmp, name_eq, is_above, is_at_or_above, IsAbove, wildcard_under, is_wildcard}
use Rattle.zone_proto.specs.Order.{is_before}
use Rattle.zone_proto.specs.Types.{NSEC}
use Rattle.zone_proto.proofs.Members.{In, In-from_any, any_from_In, and_left, and_right, not_true}
use Rattle.zone_proto.proofs.Names.NameTree.{name_eq-Decides}
use Rattle.zone_proto.proofs.Ordering.Orders.{less_test}
use Rattle.zone_map.specs.Wildcards.{asked_wildcard_exists, asked_wildcard}
use Rattle.zone_map.specs.SearchLaws.{WildcardIsOfClosestEncloser}
use Rattle.zone_map.specs.Zones.{Sets, owns, owns_at_or_below}
use Rattle.zone_map.proofs.Wildcards.{wildcard_is_of_closest_encloser}
use Rattle.zone_denial.specs.NsecDenial.{nsec_encloser, nsec_denial}
use Rattle.zone_denial.specs.Chains.{IsNsecChain, next_owner}
use Rattle.zone_denial.proofs.Chain.NsecLists.{off_circle}
use Rattle.zone_denial.proofs.Chains.NsecAskedWildcard.{exists_is}
use Rattle.zone_denial.proofs.Chains.NsecBelow.{no_next_below}
use Rattle.zone_denial.proofs.Chains.NsecWildcard.{proves_wildcard}
use Rattle.zone_lookup.specs.Replies.{name_exists, nx_domain, refused, negative_answer}
use Rattle.denial_validation.specs.NsecProofs.{may_apply_to, covers, denies_name, shown_encloser, denied_and_wildcard, proves_name_error, proves_wildcard_answer}
use Rattle.denial_validation.specs.NsecRecords.{NsecRecord}
use Rattle.denial_laws.specs.Chains.{ChainWildcardErrorAccepted, IsInScopeOfChain}
use Rattle.denial_laws.specs.Scope.{denial_records, AreOfZone}
use Rattle.denial_laws.proofs.Chains.Gaps.{IsBetween}
use Rattle.denial_laws.proofs.Chains.Readings.{record_at, of_owner}
use Rattle.denial_laws.proofs.Chains.ShownEnclosers.{judged_wildcard, shown_is}
use Rattle.denial_laws.proofs.Chains.Speaking.{IsSpanned, spanned, below_origin, denied, empty}
use Rattle.denial_laws.proofs.Chains.Wildcards.{asked_only, no_wildcard_name, wildcard_gone}
use Rattle.denial_laws.proofs.NameErrors.{error_means}
use Rattle.denial_laws.proofs.Speaking.{cover_from_last}

-- ---- what is denied is proved

module _ (origin : Name) (m : Sets) (x : Name) (j : IsInScopeOfChain origin m x) (none : owns_at_or_below m x ≡ false) where
  abbrev h : IsNsecChain origin m
  h = j.zone

  pub over : IsAbove origin x
  over = below_origin origin m x j (off_circle m x none)

  -- the record that denies the name
  s : IsSpanned origin m j.zone x x
  s =
      let r = no_next_below origin m h x j.inside none in
      (spanned origin m h x x over (cover_from_last (nsec_denial origin m x) x r.0 r.1).0).0

  -- with what its wildcard passes
  pub denied_with : (test : Name → Bool) → test (wildcard_under (nsec_encloser origin m x)) ≡ true → denied_and_wildcard origin (denial_records origin m x) x test ≡ true
  denied_with test t =
      any_from_In (λ r. denies_name origin r x && option_map_or (λ a. test (wildcard_under a)) (shown_encloser r x) false) (record_at origin m h s.owner) (denial_records origin m x) s.among
      (λ i. denied origin m x j s.owner s.between none i && (ap (λ p. option_map_or (λ a. test (wildcard_under a)) p false) (shown_is origin m x j over s.owner s.between) ∙ t) i)

  -- a record of the denial behind whose owner the wildcard stands, where the wildcard isn't in the chain
  pub wildcard_spanned : owns m (wildcard_under (nsec_encloser origin m x)) NSEC ≡ false → IsSpanned origin m j.zone x (wildcard_under (nsec_encloser origin m x))
  wildcard_spanned off =
      (spanned origin m h x (wildcard_under (nsec_encloser origin m x)) (below_origin origin m (wildcard_under (nsec_encloser origin m x)) (judged_wildcard origin m x j over) off)
      ((proves_wildcard origin m h x j.inside (off_circle m x none)).off off)).0

  pub error_proved : owns_at_or_below m (wildcard_under (nsec_encloser origin m x)) ≡ false → proves_name_error origin (denial_records origin m x) x ≡ true
  error_proved unsynthesized =
      denied_with (λ w. list_any (λ r. denies_name origin r w) (denial_records origin m x))
      (any_from_In (λ r. denies_name origin r wildcard_name) (record_at origin m h t.owner) (denial_records origin m x) t.among (denied origin m wildcard_name (judged_wildcard origin m x j over) t.owner t.between unsynthesized))
    where
      wildcard_name : Name
      wildcard_name = wildcard_under (nsec_encloser origin m x)

      t : IsSpanned origin m j.zone x (wildcard_under (nsec_encloser origin m x))
      t = wildcard_spanned (off_circle m wildcard_name unsynthesized)

pub wildcard_error_accepted : ChainWildcardErrorAccepted
wildcard_error_accepted origin m x j unsynthesized e = error_proved origin m x j (error_means origin m x e).0 unsynthesized

pub name_error_accepted : (origin : Name) (m : Sets) (x : Name) → IsInScopeOfChain origin m x → IsFalse (is_wildcard x) → negative_answer origin m x ≡ nx_domain
    → IsTrue (proves_name_error origin (denial_records origin m x) x)
name_error_accepted origin m x j plain e =
    let r = error_means origin m x e in
    error_proved origin m x j r.0 (wildcard_gone origin m x j (over origin m x j r.0) plain r.0 r.1)

-- ---- what is proved is denied

-- what the record of an owner covers stands between it and its next name
pub covers_between : (origin : Name) (m : Sets) (h : IsNsecChain origin m) (y o : Name) → owns m o NSEC ≡ true → covers origin (record_at origin m h o) y ≡ true → IsBetween origin m y o
covers_between origin m h y o k c = record {
  on_chain = k;
  after_owner =
      less_test (name_cmp o y)
      (and_right (is_at_or_above origin o && is_above origin y) (is_before name_cmp o y)
      (and_left (is_at_or_above origin o && is_above origin y && is_before name_cmp o y) (is_before name_cmp y n || name_eq n origin) c));
  before_next = by (is_before name_cmp y n) refl (and_right (is_at_or_above origin o && is_above origin y && is_before name_cmp o y) (is_before name_cmp y n || name_eq n origin) c);
}
  where
    n : Name
    n = next_owner origin m o

    by : (b : Bool) → is_before name_cmp y n ≡ b → b || name_eq n origin ≡ true → (name_cmp y n ≡ Less) ⊎ (n ≡ origin)
    by true e q = inl (less_test (name_cmp y n) e)
    by false e q = inr ((name_eq-Decides n origin).0 q)

module _ (origin : Name) (m : Sets) (y : Name) (j : IsInScopeOfChain origin m y) (o : Name) (k : owns m o NSEC ≡ true) (d : denies_name origin (record_at origin m j.zone o) y ≡ true) where
  abbrev n : Name
  n = next_owner origin m o

  abbrev r : NsecRecord
  r = record_at origin m j.zone o

  covered : covers origin r y ≡ true
  covered = and_right (may_apply_to r y) (covers origin r y) (and_left (may_apply_to r y && covers origin r y) (not (is_above y n)) d)

  pub between_denied : IsBetween origin m y o
  between_denied = covers_between origin m j.zone y o k covered

  -- nothing is there
  pub nothing_there : owns_at_or_below m y ≡ false
  nothing_there = by (owns_at_or_below m y) refl
    where
      by : (b : Bool) → owns_at_or_below m y ≡ b → b ≡ false
      by false e = refl
      by true e =
          absurd
          (true≢false
          (sym (and_right (may_apply_to r y && covers origin r y) (is_above y n) (empty origin m y j o between_denied e))
          ∙ not_true (is_above y n) (and_right (may_apply_to r y && covers origin r y) (not (is_above y n)) d)))

pub error_denied : (origin : Name) (m : Sets) (rs : List NsecRecord) (x : Name) → IsInScopeOfChain origin m x → AreOfZone m rs → proves_name_error origin rs x ≡ true → negative_answer origin m x ≡ nx_domain
error_denied origin m rs x j zone p = by (In-from_any (λ r. denies_name origin r x && option_map_or source (shown_encloser r x) false) rs p)
  where
    h : IsNsecChain origin m
    h = j.zone

    wildcard_name : Name
    wildcard_name = wildcard_under (nsec_encloser origin m x)

    source : Name → Bool
    source e = list_any (λ r. denies_name origin r (wildcard_under e)) rs

    answered : owns_at_or_below m x ≡ false → asked_wildcard_exists m x ≡ false → negative_answer origin m x ≡ nx_domain
    answered a b = λ i. cond (a i || b i) name_exists (cond (j.inside i) nx_domain refused)

    by : (r : NsecRecord) × In r rs × (denies_name origin r x && option_map_or source (shown_encloser r x) false ≡ true) → negative_answer origin m x ≡ nx_domain
    by (r, i, e) = of (of_owner origin m h rs zone r i)
      where
        of : (o : Name) × (owns m o NSEC ≡ true) × (r ≡ record_at origin m h o) → negative_answer origin m x ≡ nx_domain
        of (o, k, q) = answered none (no_wildcard_name origin m x j up unsynthesized)
          where
            d : denies_name origin (record_at origin m h o) x ≡ true
            d = ap (λ v. denies_name origin v x) (sym q) ∙ and_left (denies_name origin r x) (option_map_or source (shown_encloser r x) false) e

            none : owns_at_or_below m x ≡ false
            none = nothing_there origin m x j o k d

            up : IsAbove origin x
            up = over origin m x j none

            sourced : source (nsec_encloser origin m x) ≡ true
            sourced =
                sym (ap (λ v. option_map_or source v false) (ap (λ v. shown_encloser v x) q ∙ shown_is origin m x j up o (between_denied origin m x j o k d)))
                ∙ and_right (denies_name origin r x) (option_map_or source (shown_encloser r x) false) e

            unsynthesized : owns_at_or_below m wildcard_name ≡ false
            unsynthesized =
                let t = In-from_any (λ v. denies_name origin v wildcard_name) rs sourced in
                let u = of_owner origin m h rs zone t.0 t.1 in
                nothing_there origin m wildcard_name (judged_wildcard origin m x j up) u.0 u.1 (ap (λ v. denies_name origin v wildcard_name) (sym u.2) ∙ t.2)

-- ---- an answer from a wildcard

pub wildcard_answer_accepted : (origin : Name) (m : Sets) (x e : Name) → IsInScopeOfChain origin m x → asked_wildcard m x ≡ Some (wildcard_under e)
    → IsTrue (proves_wildcard_answer origin (denial_records origin m x) x e)
wildcard_answer_accepted origin m x e j a = by (owns_at_or_below m x) refl
  where
    law : WildcardIsOfClosestEncloser
    law = wildcard_is_of_closest_encloser

    by : (b : Bool) → owns_at_or_below m x ≡ b → denied_and_wildcard origin (denial_records origin m x) x (name_eq (wildcard_under e)) ≡ true
    by false none = denied_with origin m x j none (name_eq (wildcard_under e)) ((name_eq-Decides (wildcard_under e) (wildcard_under (nsec_encloser origin m x))).1 (asked_only origin m x j (over origin m x j none) (wildcard_under e) a).0)
    by true some = absurd (true≢false (sym (exists_is origin m j.zone j.one_kind x ∙ some) ∙ law.absent m x (wildcard_under e) a))
