-- Each response says how its search ends, has what it should have, and proves what it says
use Rattle.std.proofs.Common.{◌≡◌, ℕ, true, false, not, ◌&&◌, [], refl, sym, ap, ◌∙◌, subst, true≢false, inl, inr}
use Rattle.std.specs.Prelude.{None}
use Rattle.zone_proto.specs.declared.rdata.denial.NSEC3PARAM.{NSEC3PARAM as Nsec3Parameters}
use Rattle.zone_proto.specs.declared.response_code.ResponseCode.{ResponseCode}
use Rattle.zone_proto.specs.declared.response_code.ResponseCode.TheVariants as code
use Rattle.zone_proto.specs.Names.{Name, is_at_or_above}
use Rattle.zone_proto.proofs.Members.{Contains-In, and_right}
use Rattle.denial_validation.specs.Nsec3Proofs.{proves_no_data}
use Rattle.denial_laws.proofs.Chains.Nsec3Calls.{nsec3_parameters_found}
use Rattle.denial_laws.proofs.Chains.Nsec3LeftOut.{nsec3_opt_out_sound}
use Rattle.denial_laws.proofs.Chains.Nsec3Soundness.{nsec3_records_sound}
use Rattle.denial_laws.proofs.Chains.Soundness.{records_sound}
use Rattle.zone_response.specs.Queries.{Zone, Query}
use Rattle.zone_response.specs.Responses.{bare, IsResponse}
use Rattle.zone_response.specs.Sections.{Sections}
use Rattle.response_laws.specs.Contents.{is_delegated, is_refusal, IsNegative, HasContents, ResponseHasContents}
use Rattle.response_laws.specs.Failures.{WhyAlone}
use Rattle.response_laws.specs.HashedSayings.{zone_hash, DeniesByNsec3, ProvesByHashes, ResponseProvesByHashes}
use Rattle.response_laws.specs.ProvedSayings.{DeniesByNsec, ProvesWhatItSays, ResponseProvesWhatItSays}
use Rattle.response_laws.specs.Sayings.{saying, SaysHowItEnds, ResponseSaysHowItEnds}
use Rattle.response_laws.proofs.Filled as filled
use Rattle.response_laws.proofs.HashedDenied as denied
use Rattle.response_laws.proofs.HashedEmpty as empty
use Rattle.response_laws.proofs.HashedProved as hashed
use Rattle.response_laws.proofs.HashedReferrals as referred
use Rattle.response_laws.proofs.Parts.{HowAnswered, by_code_alone, by_parts, how_answered}
use Rattle.response_laws.proofs.Proved.{authorities_proved, answers_proved, records_proved, sound_proved, judged_proved, error_said, empty_said, referral_said}
use Rattle.response_laws.proofs.Said.{says_end}
use Rattle.response_laws.proofs.Signatures.{signed_in_authority}

-- a code alone says nothing
bare_is_silent : (z : Zone) (q : Query) (c : ResponseCode) → WhyAlone z q c → saying q (bare c) ≡ None
bare_is_silent z q code.Refused why = refl
bare_is_silent z q code.NotImp why = refl
bare_is_silent z q code.ServFail why = refl
bare_is_silent z q _ why = absurd why

refuses : (z : Zone) (q : Query) (c : ResponseCode) → WhyAlone z q c → is_refusal c ≡ true
refuses z q code.Refused why = refl
refuses z q code.NotImp why = refl
refuses z q code.ServFail why = refl
refuses z q _ why = absurd why

pub response_says_how_it_ends : ResponseSaysHowItEnds IsResponse
response_says_how_it_ends z q r zone denials is = by (how_answered z q r denials.zone is)
  where
    by : HowAnswered z q r → SaysHowItEnds z q r
    by (by_code_alone c why e) =
        let same = ap (λ (s : Sections). s.code) e in
        inl (e ∙ ap bare (sym same), subst (WhyAlone z q) (sym same) why)
    by (by_parts h) = inr (says_end z zone q r h)

-- ---- what is in its sections

bare_has_contents : (z : Zone) (q : Query) (c : ResponseCode) → WhyAlone z q c → HasContents z q (bare c)
bare_has_contents z q c why = record {
  authoritative = ap (λ b. not b && not (is_delegated z q)) (sym (refuses z q c why));
  answers = λ s i. absurd (Contains-In s [] i);
  authorities = λ s i. absurd (Contains-In s [] i);
  start = λ n. absurd (subst IsNegative (bare_is_silent z q c why) n);
  glue = record {
    all = λ n e. let p = sym (bare_is_silent z q c why) ∙ e in absurd cc;
    only = λ s i. absurd (Contains-In s [] i);
  };
  additionals = λ s i. absurd (Contains-In s [] i);
}

pub response_has_contents : ResponseHasContents IsResponse
response_has_contents z q r zone denials is = by (how_answered z q r denials.zone is)
  where
    by : HowAnswered z q r → HasContents z q r
    by (by_code_alone c why e) = subst (HasContents z q) (sym e) (bare_has_contents z q c why)
    by (by_parts h) = filled.has_contents z zone denials q r h

-- ---- where NSEC denies

-- a code alone shows nothing and says nothing
code_alone : (z : Zone) (q : Query) → DeniesByNsec z → (c : ResponseCode) → saying q (bare c) ≡ None → ProvesWhatItSays z q (bare c)
code_alone z q d c silent = record {
  says = record {
    answers = λ s i. absurd (Contains-In s [] i);
    signatures = λ t other all s i. absurd (Contains-In s [] i);
    call_concludes = λ w e. let p = sym silent ∙ e in absurd cc;
    error = λ x e. let p = sym silent ∙ e in absurd cc;
    empty = λ x e. let p = sym silent ∙ e in absurd cc;
    delegation = λ x e. let p = sym silent ∙ e in absurd cc;
  };
  records = λ r i. absurd (Contains-In r [] i);
  sound = λ x j. records_sound z.origin z.denials [] x j (λ r i. absurd (Contains-In r [] i));
}

pub response_proves_what_it_says : ResponseProvesWhatItSays IsResponse
response_proves_what_it_says z q r d signed is = by (how_answered z q r d.chain.zone is)
  where
    by : HowAnswered z q r → ProvesWhatItSays z q r
    by (by_code_alone c why e) = subst (ProvesWhatItSays z q) (sym e) (code_alone z q d c (bare_is_silent z q c why))
    by (by_parts h) = record {
      says = record {
        answers = answers_proved z q r d signed h;
        signatures = λ t other all s i. signed_in_authority z d.chain.zone t other all s (authorities_proved z q r d signed h s i);
        call_concludes = judged_proved z q r d signed h;
        error = error_said z q r d signed h;
        empty = empty_said z q r d signed h;
        delegation = referral_said z q r d signed h;
      };
      records = records_proved z q r d signed h;
      sound = sound_proved z q r d signed h;
    }

-- ---- where NSEC3 denies

hashed_code_alone : (z : Zone) (parameters : Nsec3Parameters) (q : Query) → (d : DeniesByNsec3 z parameters) → (c : ResponseCode) → saying q (bare c) ≡ None → ProvesByHashes z parameters d.names q (bare c)
hashed_code_alone z parameters q d c silent = record {
  says = record {
    answers = λ s i. absurd (Contains-In s [] i);
    signatures = λ t other all s i. absurd (Contains-In s [] i);
    call_concludes = λ w e. let p = sym silent ∙ e in absurd cc;
    error = λ x e. let p = sym silent ∙ e in absurd cc;
    empty = λ x e. let p = sym silent ∙ e in absurd cc;
    delegation = λ x e. let p = sym silent ∙ e in absurd cc;
  };
  records = λ r i. absurd (Contains-In r [] i);
  sound = λ x j. nsec3_records_sound z.origin z.sets z.denials (zone_hash z parameters) parameters d.names [] x j (λ r i. absurd (Contains-In r [] i));
  parameters_found = λ x t apart. nsec3_parameters_found z.origin z.sets z.denials z.digest_of parameters d.names [] x t d.chain apart (λ v c. absurd (Contains-In v [] c));
  data_sound = λ x t apart p. absurd (no_data x t p);
  opt_out_sound = λ x apart. nsec3_opt_out_sound z.origin z.sets z.denials (zone_hash z parameters) parameters d.names [] x d.chain apart (λ r i. absurd (Contains-In r [] i));
}
  where
    -- no record denies nothing
    no_data : (x : Name) (t : ℕ) → proves_no_data z.origin (zone_hash z parameters) [] x t ≡ true → ⊥
    no_data x t p = true≢false (sym (and_right (is_at_or_above z.origin x) false p))

pub response_proves_by_hashes : ResponseProvesByHashes IsResponse
response_proves_by_hashes z parameters q r d signed is = by (how_answered z q r d.chain.zone is)
  where
    by : HowAnswered z q r → ProvesByHashes z parameters d.names q r
    by (by_code_alone c why e) = subst (ProvesByHashes z parameters d.names q) (sym e) (hashed_code_alone z parameters q d c (bare_is_silent z q c why))
    by (by_parts h) = record {
      says = record {
        answers = hashed.answers_proved z parameters q r d signed h;
        signatures = λ t other all s i. signed_in_authority z d.chain.zone t other all s (hashed.authorities_proved z parameters q r d signed h s i);
        call_concludes = hashed.reached_proved z parameters q r d signed h;
        error = denied.error_said z parameters q r d signed h;
        empty = empty.empty_said z parameters q r d signed h;
        delegation = referred.referral_said z parameters q r d signed h;
      };
      records = hashed.records_proved z parameters q r d signed h;
      sound = hashed.sound_proved z parameters q r d signed h;
      parameters_found = hashed.parameters_found_proved z parameters q r d signed h;
      data_sound = hashed.data_sound_proved z parameters q r d signed h;
      opt_out_sound = hashed.opt_out_sound_proved z parameters q r d signed h;
    }
