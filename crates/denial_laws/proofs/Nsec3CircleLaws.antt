-- What is proved of a chain of NSEC3 sets holds of a circle, which is one through the names of the circle
use Rattle.std.proofs.Common.{◌≡◌, ◌≢◌, ℕ, Bool, true, false, not, ◌&&◌, ◌||◌, List, [], refl, sym, ap, ◌∙◌, ◌⊎◌, inl, inr, eqb-true}
use Rattle.std.specs.Prelude.{Option, Ok, ◌==◌}
use Rattle.std.specs.List.{Contains}
use Rattle.zone_proto.specs.declared.rdata.denial.NSEC3PARAM.{NSEC3PARAM as Nsec3Parameters}
use Rattle.zone_proto.specs.HashedOwners.{owner_or_refusal}
use Rattle.zone_proto.specs.Names.{Name, name_eq, is_at_or_above, IsAtOrAbove, IsAbove, wildcard_under}
use Rattle.zone_proto.specs.Sets.{RRset}
use Rattle.zone_proto.specs.Types.{NS, NSEC3}
use Rattle.zone_proto.proofs.Members.{In-Contains, In-filter}
use Rattle.zone_proto.proofs.Names.NameTree.{is_at_or_above_complete}
use Rattle.zone_map.specs.Zones.{Sets, owns}
use Rattle.zone_denial.specs.Authority.{is_below_cut, authoritative_names}
use Rattle.zone_denial.specs.Chains.{IsNsec3Chain}
use Rattle.zone_denial.specs.Nsec3Names.{is_unsigned_delegation, counted_names, nsec3_names}
use Rattle.zone_denial.specs.Nsec3Denial.{nsec3_denial}
use Rattle.zone_denial.specs.Nsec3Laws.{CoversCloser, Denies}
use Rattle.zone_denial.specs.Nsec3Zones.{IsNsec3Zone, IsHashed, HasDistinctDigests, hash_with}
use Rattle.zone_denial.proofs.Chain.NsecBelow.{above_at, above_through}
use Rattle.zone_denial.proofs.Chains.Circles.{nsec3_circle_is_chain}
use Rattle.zone_denial.proofs.Chains.Nsec3Denies.{denies, covers_closer}
use Rattle.zone_denial.proofs.Hashed.Nsec3NameLaws.{names_are_exact}
use Rattle.zone_denial.proofs.Names.AuthoritativeNames.{authoritative_from, authoritative_listed, besides_from}
use Rattle.zone_denial.proofs.Names.LongestAncestors.{above_above}
use Rattle.denial_validation.specs.Nsec3Proofs.{is_covered, is_denied, proves_name_error, proves_opted_out, proves_wildcard_no_data}
use Rattle.denial_validation.specs.Nsec3Records.{Nsec3Record}
use Rattle.denial_laws.specs.Nsec3Acceptance.{Nsec3DenialAccepted, Nsec3WildcardAnswerAccepted, Nsec3WildcardErrorAccepted}
use Rattle.denial_laws.specs.Nsec3Calls.{Nsec3ParametersFound}
use Rattle.denial_laws.specs.Nsec3Chains.{IsInNsec3ScopeOfChain, IsLeftOutOn}
use Rattle.denial_laws.specs.Nsec3Scope.{read_nsec3_sets, AreNsec3OfZone, IsInNsec3Scope}
use Rattle.denial_laws.specs.Nsec3Soundness.{Nsec3NameErrorSound, Nsec3NoDataSound, Nsec3EmptySound, Nsec3WildcardNoDataSound, Nsec3WildcardAnswerSound, Nsec3UnsignedDelegationSound, Nsec3AllInSound, Nsec3NothingBelowCut, Nsec3OwnNothingBelowCut, Nsec3AnswersBelowCut, proves_absence, Nsec3AbsenceSound, Nsec3OptOutSound}
use Rattle.denial_laws.specs.Soundness.{IsTopmostCut}
use Rattle.denial_laws.specs.Sums.{Nsec3DenialSummedUp, Nsec3WildcardSummedUp}
use Rattle.denial_laws.proofs.Chains.Nsec3Accepted as accepted
use Rattle.denial_laws.proofs.Chains.Nsec3Calls as calls
use Rattle.denial_laws.proofs.Chains.Nsec3EmptyAnswers as empty
use Rattle.denial_laws.proofs.Chains.Nsec3LeftOut as left
use Rattle.denial_laws.proofs.Chains.Nsec3Silence as silence
use Rattle.denial_laws.proofs.Chains.Nsec3Soundness as sound
use Rattle.denial_laws.proofs.Chains.Nsec3Sums as sums
use Rattle.denial_laws.proofs.Nsec3Proved.{parts}
use Rattle.denial_laws.proofs.Nsec3Shown.{nsec3_denial_of_zone}

module _ (origin : Name) (m : Sets) (hash : Name → Option (List ℕ)) (parameters : Nsec3Parameters) where
  abbrev names : List Name
  names = nsec3_names origin m parameters.opt_out

  pub chain : IsNsec3Zone origin m hash parameters → IsNsec3Chain origin [] m hash parameters (nsec3_names origin m parameters.opt_out)
  chain h = nsec3_circle_is_chain origin [] m hash parameters h

  pub in_chain : (x : Name) → IsInNsec3Scope origin m hash parameters x → IsInNsec3ScopeOfChain origin [] m hash parameters (nsec3_names origin m parameters.opt_out) x
  in_chain x j = record {
    zone = chain j.zone;
    all_in = j.all_in;
    one_kind = j.one_kind;
    apart = j.apart;
    inside = j.inside;
    uncut = j.uncut;
    no_dname = j.no_dname;
    unreferred = j.unreferred;
    no_hashed_owner = j.no_hashed_owner;
  }

  -- ---- its denials

  pub of_zone : (wildcard : Bool) (x : Name) (answer : List RRset) → nsec3_denial m (λ n. owner_or_refusal origin (hash n)) wildcard x ≡ Ok answer → AreNsec3OfZone m (read_nsec3_sets answer)
  of_zone wildcard x = nsec3_denial_of_zone m (λ n. owner_or_refusal origin (hash n)) wildcard x

  pub denied : (x : Name) → IsNsec3Zone origin m hash parameters → is_at_or_above origin x ≡ true → HasDistinctDigests (IsHashed origin m parameters.opt_out x) hash
      → (answer : List RRset) → nsec3_denial m (λ n. owner_or_refusal origin (hash n)) false x ≡ Ok answer → Denies origin m hash (nsec3_names origin m parameters.opt_out) x answer
  denied x h inside apart = denies origin [] m hash parameters (nsec3_names origin m parameters.opt_out) (chain h) h.below_root x inside apart

  pub closer_covered : (x : Name) → IsInNsec3Scope origin m hash parameters x → (answer : List RRset) → nsec3_denial m (λ n. owner_or_refusal origin (hash n)) true x ≡ Ok answer
      → (Contains (nsec3_names origin m parameters.opt_out) x → ⊥) → CoversCloser origin m hash (nsec3_names origin m parameters.opt_out) x answer
  closer_covered x j answer given off = covers_closer origin [] m hash parameters (nsec3_names origin m parameters.opt_out) (chain j.zone) j.zone.below_root x j.inside j.apart off answer given

  -- ---- what is on the circle

  -- strictly below the origin a name is on it that is at or above one that counts
  counted_below : (x n : Name) (t : ℕ) → IsAbove origin x → IsAtOrAbove x n → owns m n t ≡ true → not (t == NSEC3) ≡ true → is_below_cut origin m n ≡ false → parameters.opt_out && is_unsigned_delegation m n ≡ false
      → Contains (nsec3_names origin m parameters.opt_out) x
  counted_below x n t below at k besides uncut kept = (names_are_exact origin m parameters.opt_out x).1 (inr (below, (n, counted, at)))
    where
      counts_too : (p q r : Bool) → p && r ≡ false → not (p && (q && r)) ≡ true
      counts_too false q r e = refl
      counts_too true true r e = ap not e
      counts_too true false r e = refl

      counted : Contains (counted_names origin m parameters.opt_out) n
      counted =
          In-Contains n (counted_names origin m parameters.opt_out)
          (In-filter (λ n. not (parameters.opt_out && (not (name_eq n origin) && is_unsigned_delegation m n))) n (authoritative_names origin m NSEC3)
          (authoritative_listed origin m NSEC3 n
          (authoritative_from origin m NSEC3 n (is_at_or_above_complete origin n (above_through origin x n (above_at origin x below) at)) (besides_from m NSEC3 n t besides k) uncut))
          (counts_too parameters.opt_out (not (name_eq n origin)) (is_unsigned_delegation m n) kept))

  cut_named : (x c : Name) → IsTopmostCut origin m x c → parameters.opt_out && is_unsigned_delegation m c ≡ false → Contains (nsec3_names origin m parameters.opt_out) c
  cut_named x c cut kept = counted_below c c NS cut.below ([], refl) cut.delegated refl cut.topmost kept

-- ---- what is so is proved

pub nsec3_denial_accepted : Nsec3DenialAccepted
nsec3_denial_accepted origin m hash parameters x j answer given =
    accepted.nsec3_denial_accepted origin [] m hash parameters (nsec3_names origin m parameters.opt_out) x (in_chain origin m hash parameters x j) answer (of_zone origin m hash parameters false x answer given)
    (denied origin m hash parameters x j.zone j.inside j.apart answer given)

pub nsec3_wildcard_answer_accepted : Nsec3WildcardAnswerAccepted
nsec3_wildcard_answer_accepted origin m hash parameters x j answer given =
    accepted.nsec3_wildcard_answer_accepted origin [] m hash parameters (nsec3_names origin m parameters.opt_out) x (in_chain origin m hash parameters x j) answer (of_zone origin m hash parameters true x answer given)
    (closer_covered origin m hash parameters x j answer given)

pub nsec3_wildcard_error_accepted : Nsec3WildcardErrorAccepted
nsec3_wildcard_error_accepted origin m hash parameters x e j is none wildcard_name answer given =
    empty.nsec3_wildcard_error_accepted origin [] m hash parameters (nsec3_names origin m parameters.opt_out) x e (in_chain origin m hash parameters x j) is none wildcard_name answer
    (of_zone origin m hash parameters false x answer given) (denied origin m hash parameters x j.zone j.inside j.apart answer given)

pub nsec3_denial_summed_up : Nsec3DenialSummedUp
nsec3_denial_summed_up origin m hash parameters x j answer given =
    sums.nsec3_denial_summed_up origin [] m hash parameters (nsec3_names origin m parameters.opt_out) x (in_chain origin m hash parameters x j) answer (of_zone origin m hash parameters false x answer given)
    (denied origin m hash parameters x j.zone j.inside j.apart answer given)

pub nsec3_wildcard_summed_up : Nsec3WildcardSummedUp
nsec3_wildcard_summed_up origin m hash parameters x j answer given =
    sums.nsec3_wildcard_summed_up origin [] m hash parameters (nsec3_names origin m parameters.opt_out) x (in_chain origin m hash parameters x j) answer (of_zone origin m hash parameters true x answer given)
    (closer_covered origin m hash parameters x j answer given)

-- ---- what is proved is so

pub nsec3_name_error_sound : Nsec3NameErrorSound
nsec3_name_error_sound origin m hash parameters rs x j = sound.nsec3_name_error_sound origin [] m hash parameters (nsec3_names origin m parameters.opt_out) rs x (in_chain origin m hash parameters x j)

pub nsec3_no_data_sound : Nsec3NoDataSound
nsec3_no_data_sound origin m hash parameters rs x t j = sound.nsec3_no_data_sound origin [] m hash parameters (nsec3_names origin m parameters.opt_out) rs x t (in_chain origin m hash parameters x j)

pub nsec3_empty_sound : Nsec3EmptySound
nsec3_empty_sound origin m hash parameters rs x j = sound.nsec3_empty_sound origin [] m hash parameters (nsec3_names origin m parameters.opt_out) rs x (in_chain origin m hash parameters x j)

pub nsec3_wildcard_no_data_sound : Nsec3WildcardNoDataSound
nsec3_wildcard_no_data_sound origin m hash parameters rs x t j = sound.nsec3_wildcard_no_data_sound origin [] m hash parameters (nsec3_names origin m parameters.opt_out) rs x t (in_chain origin m hash parameters x j)

pub nsec3_wildcard_answer_sound : Nsec3WildcardAnswerSound
nsec3_wildcard_answer_sound origin m hash parameters rs x e j = sound.nsec3_wildcard_answer_sound origin [] m hash parameters (nsec3_names origin m parameters.opt_out) rs x e (in_chain origin m hash parameters x j)

pub nsec3_unsigned_delegation_sound : Nsec3UnsignedDelegationSound
nsec3_unsigned_delegation_sound origin m hash parameters rs x h = sound.nsec3_unsigned_delegation_sound origin [] m hash parameters (nsec3_names origin m parameters.opt_out) rs x (chain origin m hash parameters h)

pub nsec3_all_in_sound : Nsec3AllInSound
nsec3_all_in_sound origin m hash parameters rs x h = sound.nsec3_all_in_sound origin [] m hash parameters (nsec3_names origin m parameters.opt_out) rs x (chain origin m hash parameters h)

pub nsec3_parameters_found : Nsec3ParametersFound
nsec3_parameters_found origin m digest_of parameters rs x t h = calls.nsec3_parameters_found origin [] m digest_of parameters (nsec3_names origin m parameters.opt_out) rs x t (chain origin m (hash_with digest_of parameters) parameters h)

-- ---- where nothing is proved

pub nsec3_nothing_below_cut : Nsec3NothingBelowCut
nsec3_nothing_below_cut origin m hash parameters rs x c h apart of_zone cut kept =
    silence.nsec3_nothing_below_cut origin [] m hash parameters (nsec3_names origin m parameters.opt_out) rs x c (chain origin m hash parameters h) apart of_zone cut (cut_named origin m hash parameters x c cut kept)

pub nsec3_own_nothing_below_cut : Nsec3OwnNothingBelowCut
nsec3_own_nothing_below_cut origin m hash parameters x c h apart cut kept answer given =
    silence.nsec3_own_nothing_below_cut origin [] m hash parameters (nsec3_names origin m parameters.opt_out) x c (chain origin m hash parameters h) apart cut (cut_named origin m hash parameters x c cut kept) answer
    (of_zone origin m hash parameters false x answer given) (denied origin m hash parameters x h (is_at_or_above_complete origin x (above_at origin x (above_above origin c x (above_at origin c cut.below) cut.above))) apart answer given)

pub nsec3_answers_below_cut : Nsec3AnswersBelowCut
nsec3_answers_below_cut origin m hash parameters rs x c h apart of_zone cut kept =
    silence.nsec3_answers_below_cut origin [] m hash parameters (nsec3_names origin m parameters.opt_out) rs x c (chain origin m hash parameters h) apart of_zone cut (cut_named origin m hash parameters x c cut kept)

-- ---- what opt-out leaves out

-- what isn't there is below the origin
absent_below : (origin : Name) (hash : Name → Option (List ℕ)) (rs : List Nsec3Record) (x : Name) (t : ℕ) → proves_absence origin hash rs x t ≡ true → IsAbove origin x
absent_below origin hash rs x t p = by (proves_name_error origin hash rs x) refl (proves_opted_out origin hash rs x) refl
  where
    by : (a : Bool) → proves_name_error origin hash rs x ≡ a → (b : Bool) → proves_opted_out origin hash rs x ≡ b → IsAbove origin x
    by true e b f = (parts origin hash rs (λ r. true) x (λ e. is_covered origin hash rs (wildcard_under e)) e).up
    by false e true f = (parts origin hash rs (λ r. r.opt_out) x (λ e. true) f).up
    by false e false f = (parts origin hash rs (λ r. true) x (λ e. is_denied origin hash rs (wildcard_under e) t) ((λ i. sym e i || sym f i || proves_wildcard_no_data origin hash rs x t) ∙ p)).up

pub nsec3_absence_sound : Nsec3AbsenceSound
nsec3_absence_sound origin m hash parameters rs x t h apart of_zone p = record { off = out.off; left_out = left_out }
  where
    out : IsLeftOutOn origin m parameters.opt_out (nsec3_names origin m parameters.opt_out) x
    out = left.nsec3_absence_sound origin [] m hash parameters (nsec3_names origin m parameters.opt_out) rs x t (chain origin m hash parameters h) apart of_zone p

    left_out : (n : Name) (t : ℕ) → IsAtOrAbove x n → owns m n t ≡ true → t ≢ NSEC3 → (is_below_cut origin m n ≡ true) ⊎ (parameters.opt_out && is_unsigned_delegation m n ≡ true)
    left_out n u at k other = by (is_below_cut origin m n) refl (parameters.opt_out && is_unsigned_delegation m n) refl
      where
        besides : not (u == NSEC3) ≡ true
        besides = of (u == NSEC3) refl
          where
            of : (b : Bool) → (u == NSEC3) ≡ b → not b ≡ true
            of true e = absurd (other (eqb-true u NSEC3 e))
            of false e = refl

        by : (a : Bool) → is_below_cut origin m n ≡ a → (b : Bool) → parameters.opt_out && is_unsigned_delegation m n ≡ b → (is_below_cut origin m n ≡ true) ⊎ (parameters.opt_out && is_unsigned_delegation m n ≡ true)
        by true e b f = inl e
        by false e true f = inr f
        by false e false f = absurd (out.off (counted_below origin m hash parameters x n u (absent_below origin hash rs x t p) at k besides e f))

pub nsec3_opt_out_sound : Nsec3OptOutSound
nsec3_opt_out_sound origin m hash parameters rs x h apart of_zone = record {
  absence = λ t. nsec3_absence_sound origin m hash parameters rs x t h apart of_zone;
  delegation = nsec3_unsigned_delegation_sound origin m hash parameters rs x h apart of_zone;
}
