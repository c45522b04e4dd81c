-- What records sum up to, by what they prove
use Rattle.std.proofs.Common.{◌≡◌, ℕ, Bool, true, false, ◌||◌, List, refl, sym, true≢false}
use Rattle.std.specs.Prelude.{Option, Some, length, option_map, if◌then◌else◌}
use Rattle.zone_proto.specs.Names.{Name}
use Rattle.zone_proto.specs.Types.{DS}
use Rattle.denial_validation.specs.declared.proof.Proof.{Proof}
use Rattle.denial_validation.specs.declared.proof.Proof.TheVariants.{NameError, UnsignedDelegation, EmptyNonTerminal, NoData, WildcardNoData, WildcardAnswer}
use Rattle.denial_validation.specs.Judgement.{nsec_proof}
use Rattle.denial_validation.specs.NsecProofs.{proves_name_error, proves_unsigned_delegation, proves_no_data, proves_empty_non_terminal, proves_wildcard_no_data, proves_empty_answer, denied_encloser}
use Rattle.denial_validation.specs.NsecRecords.{NsecRecord}
use Rattle.response_laws.specs.ProvedSayings.{IsEmptyProof}

-- the judgement by its tests
abbrev steps : Bool → Bool → Bool → Bool → Bool → Option Name → Option Proof
steps error delegation empty none bare answer =
    if error then Some (NameError false)
    else (if delegation then Some UnsignedDelegation
    else (if empty then Some EmptyNonTerminal
    else (if none then Some NoData
    else (if bare then Some (WildcardNoData false)
    else option_map (λ e. WildcardAnswer (length e) false) answer))))

module _ (origin : Name) (rs : List NsecRecord) (x : Name) (t : ℕ) where
  abbrev after : Bool → Bool → Option Proof
  after error delegation = steps error delegation (proves_empty_non_terminal origin rs x) (proves_no_data origin rs x t) (proves_wildcard_no_data origin rs x t) (denied_encloser origin rs x)

  pub sum_of_error : proves_name_error origin rs x ≡ true → nsec_proof origin rs x t ≡ Some (NameError false)
  sum_of_error p = λ i. after (p i) (proves_unsigned_delegation origin rs x)

  pub sum_of_delegation : proves_name_error origin rs x ≡ false → proves_unsigned_delegation origin rs x ≡ true → nsec_proof origin rs x t ≡ Some UnsignedDelegation
  sum_of_delegation e p = λ i. after (e i) (p i)

  pub sum_of_empty : proves_name_error origin rs x ≡ false → (proves_unsigned_delegation origin rs x ≡ true → t ≡ DS) → proves_empty_answer origin rs x t ≡ true → IsEmptyProof t (nsec_proof origin rs x t)
  sum_of_empty e d p =
      by (proves_name_error origin rs x) (proves_unsigned_delegation origin rs x) (proves_empty_non_terminal origin rs x) (proves_no_data origin rs x t) (proves_wildcard_no_data origin rs x t) e d p
    where
      by : (error delegation empty none bare : Bool) → error ≡ false → (delegation ≡ true → t ≡ DS) → none || empty || bare ≡ true → IsEmptyProof t (steps error delegation empty none bare (denied_encloser origin rs x))
      by true delegation empty none bare e d p = absurd (true≢false e)
      by false true empty none bare e d p = d refl
      by false false true none bare e d p = tt
      by false false false true bare e d p = tt
      by false false false false true e d p = refl
      by false false false false false e d p = absurd (true≢false (sym p))
