-- What NSEC3 records sum up to, by what they prove
use Rattle.std.proofs.Common.{◌≡◌, ℕ, Bool, true, false, cond, ◌&&◌, List, refl, sym, ◌∙◌, subst}
use Rattle.std.specs.Prelude.{Option, Some, None, if◌then◌else◌, ◌==◌}
use Rattle.zone_proto.specs.Names.{Name}
use Rattle.zone_proto.specs.Types.{DS}
use Rattle.denial_validation.specs.declared.proof.Proof.{Proof}
use Rattle.denial_validation.specs.declared.proof.Proof.TheVariants.{NameError, UnsignedDelegation, NoData, WildcardNoData}
use Rattle.denial_validation.specs.Judgement.{nsec3_proof}
use Rattle.denial_validation.specs.Nsec3Proofs.{is_handed_on, proves_opted_out, proves_name_error, shows_unsigned_delegation, proves_no_data, proves_wildcard_no_data, wildcard_answer}
use Rattle.denial_validation.specs.Nsec3Records.{Nsec3Record}
use Rattle.response_laws.specs.HashedSayings.{error_proof, IsInsecure}
use Rattle.response_laws.specs.ProvedSayings.{IsEmptyProof}

-- the judgement by its tests
abbrev steps : Bool → Bool → Bool → Bool → Bool → Bool → Bool → Option Proof → Option Proof
steps handed digest error out delegation none bare answer =
    if handed then None
    else (if digest && out then Some UnsignedDelegation
    else (if error then Some (NameError out)
    else (if delegation then Some UnsignedDelegation
    else (if none then Some NoData
    else (if bare then Some (WildcardNoData out)
    else (if out then Some UnsignedDelegation
    else answer))))))

module _ (origin : Name) (hash : Name → Option (List ℕ)) (rs : List Nsec3Record) (x : Name) (t : ℕ) (handed : is_handed_on origin hash rs x ≡ false) where
  abbrev error : Bool
  error = proves_name_error origin hash rs x

  abbrev out : Bool
  out = proves_opted_out origin hash rs x

  abbrev delegation : Bool
  delegation = shows_unsigned_delegation origin hash rs x

  abbrev none : Bool
  none = proves_no_data origin hash rs x t

  abbrev bare : Bool
  bare = proves_wildcard_no_data origin hash rs x t

  abbrev answer : Option Proof
  answer = wildcard_answer origin hash rs x

  pub sum_of_error : (opt_out : Bool) → proves_opted_out origin hash rs x ≡ opt_out → proves_name_error origin hash rs x ≡ true → nsec3_proof origin hash rs x t ≡ Some (error_proof opt_out t)
  sum_of_error opt_out o e = (λ i. steps (handed i) (t == DS) (e i) (o i) delegation none bare answer) ∙ by (t == DS && opt_out)
    where
      by : (b : Bool) → (if b then Some UnsignedDelegation else Some (NameError opt_out)) ≡ Some (cond b UnsignedDelegation (NameError opt_out))
      by true = refl
      by false = refl

  -- no data by its own record, or of DS that there is a delegation without it
  pub sum_of_own : proves_opted_out origin hash rs x ≡ false → proves_name_error origin hash rs x ≡ false → (shows_unsigned_delegation origin hash rs x ≡ true → t ≡ DS) → proves_no_data origin hash rs x t ≡ true
      → IsEmptyProof t (nsec3_proof origin hash rs x t)
  sum_of_own o e d p = subst (IsEmptyProof t) (λ i. steps (sym handed i) (t == DS) (sym e i) (sym o i) delegation (sym p i) bare answer) (by (t == DS) delegation d)
    where
      by : (digest delegation : Bool) → (delegation ≡ true → t ≡ DS) → IsEmptyProof t (steps false digest false false delegation true bare answer)
      by true true d = d refl
      by true false d = tt
      by false true d = d refl
      by false false d = tt

  -- no data by a wildcard
  pub sum_of_wildcard : proves_opted_out origin hash rs x ≡ false → proves_name_error origin hash rs x ≡ false → shows_unsigned_delegation origin hash rs x ≡ false → proves_no_data origin hash rs x t ≡ false
      → proves_wildcard_no_data origin hash rs x t ≡ true → nsec3_proof origin hash rs x t ≡ Some (WildcardNoData false)
  sum_of_wildcard o e d p w = (λ i. steps (handed i) (t == DS) (e i) (o i) (d i) (p i) (w i) answer) ∙ by (t == DS)
    where
      by : (b : Bool) → steps false b false false false false true answer ≡ Some (WildcardNoData false)
      by true = refl
      by false = refl

  -- a delegation by its own record
  pub sum_of_delegation : proves_opted_out origin hash rs x ≡ false → proves_name_error origin hash rs x ≡ false → shows_unsigned_delegation origin hash rs x ≡ true → nsec3_proof origin hash rs x t ≡ Some UnsignedDelegation
  sum_of_delegation o e d = (λ i. steps (handed i) (t == DS) (e i) (o i) (d i) none bare answer) ∙ by (t == DS)
    where
      by : (b : Bool) → steps false b false false true none bare answer ≡ Some UnsignedDelegation
      by true = refl
      by false = refl

  -- what opt-out leaves out is insecure, whatever else is proved of it
  pub sum_of_left_out : proves_opted_out origin hash rs x ≡ true → proves_no_data origin hash rs x t ≡ false → IsInsecure (nsec3_proof origin hash rs x t)
  sum_of_left_out o p = subst IsInsecure (λ i. steps (sym handed i) (t == DS) error (sym o i) delegation (sym p i) bare answer) (by (t == DS) error delegation bare)
    where
      by : (digest e d w : Bool) → IsInsecure (steps false digest e true d false w answer)
      by true e d w = tt
      by false true d w = refl
      by false false true w = tt
      by false false false true = refl
      by false false false false = tt

-- of DS it is told that it may be a delegation
pub sum_of_digest : (origin : Name) (hash : Name → Option (List ℕ)) (rs : List Nsec3Record) (x : Name) → is_handed_on origin hash rs x ≡ false → proves_opted_out origin hash rs x ≡ true → nsec3_proof origin hash rs x DS ≡ Some UnsignedDelegation
sum_of_digest origin hash rs x handed o =
    λ i. steps (handed i) true (proves_name_error origin hash rs x) (o i) (shows_unsigned_delegation origin hash rs x) (proves_no_data origin hash rs x DS) (proves_wildcard_no_data origin hash rs x DS) (wildcard_answer origin hash rs x)
