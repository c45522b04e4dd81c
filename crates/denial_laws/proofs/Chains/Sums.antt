-- What a validator sums up of a name's own denial by NSEC is the case that the zone has
use Rattle.std.proofs.Common.{◌≡◌, ℕ, Bool, true, false, not, ◌&&◌, List, drop, sym, ap, ◌∙◌, subst, true≢false}
use Rattle.std.specs.Prelude.{Some, None, find, option_and_then}
use Rattle.zone_proto.specs.Names.{Name, name_eq, is_at_or_above, IsAbove, wildcard_under}
use Rattle.zone_proto.specs.Types.{NS, NSEC}
use Rattle.zone_proto.proofs.Members.{In, In-from_any, any_from_In, and_left, or_left}
use Rattle.zone_proto.proofs.Names.NameTree.{is_at_or_above_complete}
use Rattle.zone_map.specs.AnyTypes.{searched_type}
use Rattle.zone_map.specs.SearchLaws.{WildcardIsOfClosestEncloser}
use Rattle.zone_map.specs.Wildcards.{found, asked_wildcard, asked_wildcard_exists}
use Rattle.zone_map.specs.Zones.{Sets, owns, names_of, owns_at_or_below}
use Rattle.zone_map.proofs.Owned.{name_in}
use Rattle.zone_map.proofs.Wildcards.{wildcard_is_of_closest_encloser}
use Rattle.zone_denial.specs.NsecDenial.{nsec_encloser}
use Rattle.zone_denial.proofs.Chain.NsecBelow.{above_at}
use Rattle.zone_denial.proofs.Chains.NsecAskedWildcard.{exists_is}
use Rattle.zone_lookup.specs.Replies.{name_exists, nx_domain, negative_answer}
use Rattle.denial_validation.specs.NsecProofs.{denies_name, wildcard_is, shown_encloser, proves_name_error, proves_no_data, proves_empty_non_terminal, proves_wildcard_no_data, proves_unsigned_delegation, denied_encloser}
use Rattle.denial_validation.specs.NsecRecords.{NsecRecord}
use Rattle.denial_laws.specs.Scope.{denial_records, AreOfZone}
use Rattle.denial_laws.specs.Chains.{IsInScopeOfChain}
use Rattle.denial_laws.specs.Soundness.{IsUnflattened}
use Rattle.denial_laws.specs.Sums.{is_unsigned, IsSummedUp}
use Rattle.denial_laws.proofs.Chains.EmptyAnswers.{no_data_accepted, empty_accepted, wildcard_no_data_accepted, unsigned_delegation_accepted}
use Rattle.denial_laws.proofs.Chains.NameErrors.{over, between_denied, name_error_accepted, wildcard_error_accepted, wildcard_answer_accepted}
use Rattle.denial_laws.proofs.Chains.Readings.{of_owner, record_at}
use Rattle.denial_laws.proofs.Chains.ShownEnclosers.{shown_is}
use Rattle.denial_laws.proofs.Chains.Soundness.{name_error_sound, own_denied, empty_sound, wildcard_no_data_sound, unsigned_delegation_sound}
use Rattle.denial_laws.proofs.Chains.Wildcards.{asked_only}
use Rattle.denial_laws.proofs.Readings.{denial_of_zone}
use Rattle.denial_laws.proofs.Soundness.{there_from, present, unowned}
use Rattle.denial_laws.proofs.Sums.{cut_of, not_cut, steps}
use Rattle.denial_laws.proofs.Tests.{refuted, any_found}

module _ (origin : Name) (m : Sets) (x : Name) (j : IsInScopeOfChain origin m x) where
  abbrev rs : List NsecRecord
  rs = denial_records origin m x

  of_zone : AreOfZone m (denial_records origin m x)
  of_zone = denial_of_zone origin m x

  -- ---- what isn't proved

  no_error : negative_answer origin m x ≡ name_exists → proves_name_error origin rs x ≡ false
  no_error e = refuted (proves_name_error origin rs x) (λ p. differ (sym e ∙ (name_error_sound origin m rs x j of_zone p).denied))
    where
      differ : name_exists ≡ nx_domain → ⊥
      differ q = cc

  no_delegation : is_unsigned m x ≡ false → proves_unsigned_delegation origin rs x ≡ false
  no_delegation e =
      refuted (proves_unsigned_delegation origin rs x)
      (λ p. let d = unsigned_delegation_sound origin m rs x j.zone of_zone p in
      true≢false (sym (λ i. d.delegated i && not (d.unsigned i) && not (d.no_apex i)) ∙ e))

  not_empty : (t : ℕ) → owns m x t ≡ true → proves_empty_non_terminal origin rs x ≡ false
  not_empty t k = refuted (proves_empty_non_terminal origin rs x) (λ p. true≢false (sym k ∙ unowned m x t (empty_sound origin m rs x j of_zone p).empty))

  no_data : (t : ℕ) → owns m x NSEC ≡ false → proves_no_data origin rs x t ≡ false
  no_data t off = refuted (proves_no_data origin rs x t) (λ p. true≢false (sym (own_denied origin m x j rs t of_zone p).0 ∙ off))

  is_present : owns_at_or_below m x ≡ true → negative_answer origin m x ≡ name_exists
  is_present e = present origin m x (or_left (owns_at_or_below m x) (asked_wildcard_exists m x) e)

  -- ---- of a name that isn't there

  module _ (none : owns_at_or_below m x ≡ false) where
    nothing_owned : (t : ℕ) → owns m x t ≡ false
    nothing_owned t = refuted (owns m x t) (λ k. true≢false (sym (there_from m x t k) ∙ none))

    nothing_below : proves_empty_non_terminal origin rs x ≡ false
    nothing_below = refuted (proves_empty_non_terminal origin rs x) (λ p. by (empty_sound origin m rs x j of_zone p).below)
      where
        by : (n : Name) × (t : ℕ) × IsAbove x n × (owns m n t ≡ true) → ⊥
        by (n, t, w, k) = true≢false (sym (any_from_In (is_at_or_above x) n (names_of m) (name_in m n t k) (is_at_or_above_complete x n (above_at x n w))) ∙ none)

  -- ---- where a wildcard is asked

  module _ (e : Name) (asked : asked_wildcard m x ≡ Some (wildcard_under e)) where
    law : WildcardIsOfClosestEncloser
    law = wildcard_is_of_closest_encloser

    away : owns_at_or_below m x ≡ false
    away = sym (exists_is origin m j.zone j.one_kind x) ∙ law.absent m x (wildcard_under e) asked

    up : IsAbove origin x
    up = over origin m x j away

    wildcard_name_is : wildcard_under e ≡ wildcard_under (nsec_encloser origin m x)
    wildcard_name_is = (asked_only origin m x j up (wildcard_under e) asked).0

    denied : (r : NsecRecord) × In r rs × (denies_name origin r x && wildcard_is (name_eq (wildcard_under e)) r x ≡ true)
    denied = In-from_any (λ r. denies_name origin r x && wildcard_is (name_eq (wildcard_under e)) r x) rs (wildcard_answer_accepted origin m x e j asked)

    encloser_is : denied_encloser origin rs x ≡ Some e
    encloser_is =
        ap (option_and_then (λ r. shown_encloser r x)) first.1
        ∙ ap (λ r. shown_encloser r x) owner.2
        ∙ shown_is origin m x j up owner.0 (between_denied origin m x j owner.0 owner.1 (ap (λ r. denies_name origin r x) (sym owner.2) ∙ first.3))
        ∙ ap Some (ap (drop 1) (sym wildcard_name_is))
      where
        first : (r : NsecRecord) × (find (λ r. denies_name origin r x) rs ≡ Some r) × In r rs × (denies_name origin r x ≡ true)
        first =
            any_found (λ r. denies_name origin r x) rs
            (any_from_In (λ r. denies_name origin r x) denied.0 rs denied.1 (and_left (denies_name origin denied.0 x) (wildcard_is (name_eq (wildcard_under e)) denied.0 x) denied.2))

        owner : (o : Name) × (owns m o NSEC ≡ true) × (first.0 ≡ record_at origin m j.zone o)
        owner = of_owner origin m j.zone rs of_zone first.0 first.2

    not_bare : (signed : Bool) (t : ℕ) → IsUnflattened m (wildcard_under e) t → (found m signed x (searched_type m x t) ≡ None → ⊥) → proves_wildcard_no_data origin rs x t ≡ false
    not_bare signed t flat some =
        refuted (proves_wildcard_no_data origin rs x t)
        (λ p. some ((wildcard_no_data_sound origin m rs x t j of_zone (law.plain m x (wildcard_under e) asked) (subst (λ n. IsUnflattened m n t) wildcard_name_is flat) p).none.nothing signed))

pub denial_summed_up : (origin : Name) (m : Sets) (x : Name) → IsInScopeOfChain origin m x → IsSummedUp origin m x (denial_records origin m x)
denial_summed_up origin m x j = record {
  error = λ t plain e i.
      steps (name_error_accepted origin m x j plain e i) (proves_unsigned_delegation origin rs x) (proves_empty_non_terminal origin rs x) (proves_no_data origin rs x t) (proves_wildcard_no_data origin rs x t)
      (denied_encloser origin rs x);
  wildcard_error = λ t unsynthesized e i.
      steps (wildcard_error_accepted origin m x j unsynthesized e i) (proves_unsigned_delegation origin rs x) (proves_empty_non_terminal origin rs x) (proves_no_data origin rs x t) (proves_wildcard_no_data origin rs x t)
      (denied_encloser origin rs x);
  delegation = λ t e i.
      steps (no_error origin m x j (is_present origin m x j (there_from m x NS (cut_of m x e).0)) i) (unsigned_delegation_accepted origin m x j (cut_of m x e).0 (cut_of m x e).1 (cut_of m x e).2 i) (proves_empty_non_terminal origin rs x)
      (proves_no_data origin rs x t) (proves_wildcard_no_data origin rs x t) (denied_encloser origin rs x);
  empty = λ t off some i.
      steps (no_error origin m x j (is_present origin m x j some) i)
      (no_delegation origin m x j (not_cut m x (unowned m x NS (empty_sound origin m rs x j (of_zone origin m x j) (empty_accepted origin m x j off some)).empty)) i) (empty_accepted origin m x j off some i)
      (proves_no_data origin rs x t) (proves_wildcard_no_data origin rs x t) (denied_encloser origin rs x);
  data' = λ signed t type' on cut nothing i.
      steps (no_error origin m x j (is_present origin m x j (there_from m x NSEC on)) i) (no_delegation origin m x j cut i) (not_empty origin m x j NSEC on i)
      (no_data_accepted origin m signed x t j type' on nothing i) (proves_wildcard_no_data origin rs x t) (denied_encloser origin rs x);
  wildcard_data = λ signed t type' none e nothing i.
      steps (no_error origin m x j e i) (no_delegation origin m x j (not_cut m x (nothing_owned origin m x j none NS)) i) (nothing_below origin m x j none i)
      (no_data origin m x j t (nothing_owned origin m x j none NSEC) i) (wildcard_no_data_accepted origin m signed x t j type' none nothing e i) (denied_encloser origin rs x);
  answer = λ signed t e asked there flat some i.
      steps (no_error origin m x j there i) (no_delegation origin m x j (not_cut m x (nothing_owned origin m x j (away origin m x j e asked) NS)) i) (nothing_below origin m x j (away origin m x j e asked) i)
      (no_data origin m x j t (nothing_owned origin m x j (away origin m x j e asked) NSEC) i) (not_bare origin m x j e asked signed t flat some i) (encloser_is origin m x j e asked i);
}
  where
    rs : List NsecRecord
    rs = denial_records origin m x
