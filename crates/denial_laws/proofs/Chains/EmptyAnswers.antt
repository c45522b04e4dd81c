-- What proves an answer without data that is no error
use Rattle.std.proofs.Common.{◌≡◌, Bool, true, false, not, ◌&&◌, ◌||◌, [], ◌∷◌, refl, sym, ap, ◌∙◌, subst, true≢false, ◌⊎◌, inl, inr, ℕ}
use Rattle.std.specs.Prelude.{Option, Some, None, option_map, option_and_then, IsTrue, IsFalse}
use Rattle.std.specs.List.{Contains, list_any}
use Rattle.zone_proto.specs.Names.{Name, is_above, IsAbove, wildcard_under}
use Rattle.zone_proto.specs.Sets.{RRset}
use Rattle.zone_proto.specs.Types.{NS, SOA, DS, NSEC}
use Rattle.zone_proto.proofs.Members.{In, In-Contains, any_from_In, or_left, or_right}
use Rattle.zone_proto.proofs.Names.NameTree.{above_test, is_at_or_above_sound}
use Rattle.zone_proto.proofs.Names.Tree.{name_eq_itself, above_cases}
use Rattle.zone_map.specs.AnyTypes.{searched_type}
use Rattle.zone_map.specs.Direct.{direct}
use Rattle.zone_map.specs.Wildcards.{found, renamed, wildcard, asked_wildcard}
use Rattle.zone_map.specs.Zones.{Sets, owns, owns_at_or_below}
use Rattle.zone_map.proofs.Owned.{set_of}
use Rattle.zone_denial.specs.NsecDenial.{nsec_encloser, nsec_denial}
use Rattle.zone_denial.specs.Chains.{IsNsecChain}
use Rattle.zone_denial.proofs.Chain.DenialLists.{own_denial}
use Rattle.zone_denial.proofs.Chain.NsecLists.{off_circle}
use Rattle.zone_denial.proofs.Chains.NsecBelow.{next_below_empty}
use Rattle.zone_denial.proofs.Chains.NsecWildcard.{proves_wildcard}
use Rattle.denial_validation.specs.NsecProofs.{denies_type, shows_empty, shows_unsigned_delegation, proves_no_data, proves_wildcard_no_data, proves_unsigned_delegation}
use Rattle.zone_lookup.specs.Replies.{name_exists, negative_answer}
use Rattle.denial_validation.specs.NsecRecords.{NsecRecord}
use Rattle.denial_laws.specs.Chains.{ChainEmptyAccepted, IsInScopeOfChain}
use Rattle.denial_laws.specs.Scope.{denial_records, IsTypeInScope}
use Rattle.denial_laws.proofs.Chains.NameErrors.{over, denied_with, wildcard_spanned}
use Rattle.denial_laws.proofs.Chains.OwnTypes.{type_denied}
use Rattle.denial_laws.proofs.Chains.Readings.{record_at, shown, told_listed, told_unlisted}
use Rattle.denial_laws.proofs.Chains.ShownEnclosers.{judged_wildcard}
use Rattle.denial_laws.proofs.Chains.Speaking.{IsSpanned, spanned, below_origin, owner_on_chain, empty_off, empty}
use Rattle.denial_laws.proofs.Chains.Wildcards.{undnamed, wildcard_there}
use Rattle.denial_laws.proofs.EmptyAnswers.{searched_itself, exists_means}
use Rattle.denial_laws.proofs.OwnTypes.{neither}
use Rattle.denial_laws.proofs.Speaking.{cover_from_last}

-- ---- by the name's own record

module _ (origin : Name) (m : Sets) (h : IsNsecChain origin m) (x : Name) (on : owns m x NSEC ≡ true) where
  pub own_shown : In (record_at origin m h x) (denial_records origin m x)
  own_shown =
      let s = set_of m x NSEC on in
      shown origin m h x x s.0 (subst (λ sets. Contains sets s.0) (own_denial m h.zone origin x s.0 s.1) (In-Contains s.0 (s.0 ∷ []) (inl refl))) s.1

pub no_data_accepted : (origin : Name) (m : Sets) (signed : Bool) (x : Name) (t : ℕ) → IsInScopeOfChain origin m x → IsTypeInScope origin m x t → IsTrue (owns m x NSEC)
    → found m signed x (searched_type m x t) ≡ None → IsTrue (proves_no_data origin (denial_records origin m x) x t)
no_data_accepted origin m signed x t j deniable on nothing =
    any_from_In (λ r. denies_type origin r x t) (record_at origin m j.zone x) (denial_records origin m x) (own_shown origin m j.zone x on)
    (type_denied origin m j.zone j.unreferred x j.inside t (ap (direct m x) (sym (searched_itself m x t deniable.one_type)) ∙ (neither (direct m x (searched_type m x t)) (wildcard m signed x (searched_type m x t)) nothing).0) on
    deniable.no_signature deniable.one_type (λ d. (deniable.no_apex d).0))

pub unsigned_delegation_accepted : (origin : Name) (m : Sets) (x : Name) → IsInScopeOfChain origin m x → IsTrue (owns m x NS) → IsFalse (owns m x DS) → IsFalse (owns m x SOA)
    → IsTrue (proves_unsigned_delegation origin (denial_records origin m x) x)
unsigned_delegation_accepted origin m x j ns ds soa =
    any_from_In (λ r. shows_unsigned_delegation origin r x) r (denial_records origin m x) (own_shown origin m j.zone x on)
    (λ i. below (above_cases origin x (is_at_or_above_sound origin x j.inside)) i && name_eq_itself x i && told_listed origin m j.zone x NS refl on ns i && not (told_unlisted origin m j.zone x DS refl on ds i) && not (told_unlisted origin m j.zone x SOA refl on soa i))
  where
    r : NsecRecord
    r = record_at origin m j.zone x

    on : owns m x NSEC ≡ true
    on = owner_on_chain origin m x j NS ns

    below : (origin ≡ x) ⊎ IsAbove origin x → is_above origin x ≡ true
    below (inl e) = absurd (true≢false (sym (j.unreferred x ([], e) ns) ∙ soa))
    below (inr u) = (above_test origin x).1 u

-- ---- by the record before an empty non-terminal

pub empty_accepted : ChainEmptyAccepted
empty_accepted origin m x j off some =
    any_from_In (λ r. shows_empty origin r x) (record_at origin m j.zone s.owner) (denial_records origin m x) s.among (empty origin m x j s.owner s.between some)
  where
    s : IsSpanned origin m j.zone x x
    s =
        let r = next_below_empty origin m j.zone x j.inside (empty_off origin m x j off) some j.uncut (undnamed origin m x j) in
        (spanned origin m j.zone x x (below_origin origin m x j off) (cover_from_last (nsec_denial origin m x) x r.0 r.1).0).0

-- ---- by that of the wildcard

pub wildcard_no_data_accepted : (origin : Name) (m : Sets) (signed : Bool) (x : Name) (t : ℕ) → IsInScopeOfChain origin m x → IsTypeInScope origin m x t → IsFalse (owns_at_or_below m x)
    → found m signed x (searched_type m x t) ≡ None → negative_answer origin m x ≡ name_exists → IsTrue (proves_wildcard_no_data origin (denial_records origin m x) x t)
wildcard_no_data_accepted origin m signed x t j deniable none nothing e =
    denied_with origin m x j none (λ w. list_any (λ r. denies_type origin r w t || shows_empty origin r w) (denial_records origin m x)) (by (owns m wildcard_name NSEC) refl)
  where
    h : IsNsecChain origin m
    h = j.zone

    wildcard_name : Name
    wildcard_name = wildcard_under (nsec_encloser origin m x)

    up : IsAbove origin x
    up = over origin m x j none

    there : (asked_wildcard m x ≡ Some wildcard_name) × (owns_at_or_below m wildcard_name ≡ true)
    there = wildcard_there origin m x j up (exists_means origin m x none e)

    lost : (o : Option RRset) → option_map (renamed signed wildcard_name x) o ≡ None → o ≡ None
    lost None e = refl
    lost (Some s) e = absurd cc

    at_wildcard : direct m wildcard_name t ≡ None
    at_wildcard =
        lost (direct m wildcard_name t)
        (sym (ap (option_and_then (λ s. option_map (renamed signed s x) (direct m s t))) there.0)
        ∙ (neither (direct m x t) (wildcard m signed x t) (ap (found m signed x) (sym (searched_itself m x t deniable.one_type)) ∙ nothing)).1)

    passes : (r : NsecRecord) → In r (denial_records origin m x) → denies_type origin r wildcard_name t || shows_empty origin r wildcard_name ≡ true
        → list_any (λ r. denies_type origin r wildcard_name t || shows_empty origin r wildcard_name) (denial_records origin m x) ≡ true
    passes r i p = any_from_In (λ r. denies_type origin r wildcard_name t || shows_empty origin r wildcard_name) r (denial_records origin m x) i p

    by : (b : Bool) → owns m wildcard_name NSEC ≡ b → list_any (λ r. denies_type origin r wildcard_name t || shows_empty origin r wildcard_name) (denial_records origin m x) ≡ true
    by true on =
        let s = set_of m wildcard_name NSEC on in
        passes (record_at origin m h wildcard_name) (shown origin m h x wildcard_name s.0 ((proves_wildcard origin m h x j.inside (off_circle m x none)).on s.0 s.1) s.1)
        (or_left (denies_type origin (record_at origin m h wildcard_name) wildcard_name t) (shows_empty origin (record_at origin m h wildcard_name) wildcard_name) (type_denied origin m h j.unreferred wildcard_name (judged_wildcard origin m x j up).inside t at_wildcard on deniable.no_signature deniable.one_type (λ d. (deniable.no_apex d).1)))
    by false off =
        let s = wildcard_spanned origin m x j none off in
        passes (record_at origin m h s.owner) s.among
        (or_right (denies_type origin (record_at origin m h s.owner) wildcard_name t) (shows_empty origin (record_at origin m h s.owner) wildcard_name)
        (empty origin m wildcard_name (judged_wildcard origin m x j up) s.owner s.between there.1))
