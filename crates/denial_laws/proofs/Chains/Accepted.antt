-- All that a validator makes of the denial of a name in scope by NSEC
use Rattle.std.proofs.Common.{◌≡◌, ℕ, Bool, true, false, ◌||◌, List, refl}
use Rattle.std.specs.Prelude.{None}
use Rattle.zone_proto.specs.Types.{NSEC}
use Rattle.zone_proto.proofs.Members.{or_left, or_right}
use Rattle.zone_map.specs.AnyTypes.{searched_type}
use Rattle.zone_map.specs.Wildcards.{found}
use Rattle.zone_map.specs.Zones.{owns, owns_at_or_below}
use Rattle.zone_lookup.specs.Replies.{name_exists, negative_answer}
use Rattle.denial_validation.specs.NsecProofs.{proves_no_data, proves_empty_non_terminal, proves_wildcard_no_data, proves_empty_answer}
use Rattle.denial_validation.specs.NsecRecords.{NsecRecord}
use Rattle.denial_laws.specs.Chains.{ChainDenialAccepted}
use Rattle.denial_laws.specs.Scope.{denial_records, IsTypeInScope}
use Rattle.denial_laws.proofs.Chains.EmptyAnswers.{no_data_accepted, empty_accepted, wildcard_no_data_accepted, unsigned_delegation_accepted}
use Rattle.denial_laws.proofs.Chains.NameErrors.{name_error_accepted, wildcard_answer_accepted}
use Rattle.denial_laws.proofs.Readings.{denial_of_zone}
use Rattle.denial_laws.proofs.Chains.Soundness.{name_error_sound, records_sound}
use Rattle.denial_laws.proofs.Chains.Sums.{denial_summed_up}

pub denial_accepted : ChainDenialAccepted
denial_accepted origin m x j = record {
  error = λ plain. (name_error_accepted origin m x j plain, λ p. (name_error_sound origin m (denial_records origin m x) x j (denial_of_zone origin m x) p).denied);
  empty = λ signed t deniable nothing e. empty_answer signed t deniable nothing e (owns m x NSEC) refl (owns_at_or_below m x) refl;
  wildcard = λ e. wildcard_answer_accepted origin m x e j;
  delegation = unsigned_delegation_accepted origin m x j;
  sound = records_sound origin m (denial_records origin m x) x j (denial_of_zone origin m x);
  sum = denial_summed_up origin m x j;
}
  where
    rs : List NsecRecord
    rs = denial_records origin m x

    empty_answer : (signed : Bool) (t : ℕ) → IsTypeInScope origin m x t → found m signed x (searched_type m x t) ≡ None → negative_answer origin m x ≡ name_exists
        → (a : Bool) → owns m x NSEC ≡ a → (b : Bool) → owns_at_or_below m x ≡ b → proves_empty_answer origin rs x t ≡ true
    empty_answer signed t deniable nothing e true on b u =
        or_left (proves_no_data origin rs x t || proves_empty_non_terminal origin rs x) (proves_wildcard_no_data origin rs x t)
        (or_left (proves_no_data origin rs x t) (proves_empty_non_terminal origin rs x) (no_data_accepted origin m signed x t j deniable on nothing))
    empty_answer signed t deniable nothing e false off true u =
        or_left (proves_no_data origin rs x t || proves_empty_non_terminal origin rs x) (proves_wildcard_no_data origin rs x t)
        (or_right (proves_no_data origin rs x t) (proves_empty_non_terminal origin rs x) (empty_accepted origin m x j off u))
    empty_answer signed t deniable nothing e false off false u =
        or_right (proves_no_data origin rs x t || proves_empty_non_terminal origin rs x) (proves_wildcard_no_data origin rs x t) (wildcard_no_data_accepted origin m signed x t j deniable u nothing e)
