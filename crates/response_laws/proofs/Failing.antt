-- A response is a failure exactly where there is a reason for it
use Rattle.std.proofs.Common.{◌≡◌, Bool, true, false, cond, sym, ap, ◌∙◌, subst, true≢false}
use Rattle.std.specs.Prelude.{Option, Some, None, is_some}
use Rattle.std.specs.Option.{option_map_or}
use Rattle.zone_proto.specs.declared.response_code.ResponseCode.TheVariants as code
use Rattle.zone_proto.specs.Sets.{RRset}
use Rattle.zone_proto.specs.Types.{SOA}
use Rattle.zone_map.specs.Zones.{set_at}
use Rattle.zone_response.specs.Paths.{Path, path}
use Rattle.zone_response.specs.Queries.{Zone, Query, Inquiry, inquiry}
use Rattle.zone_response.specs.Responses.{bare, code_at, authority_sets, query_hashed, fails, refusal, refused, without_soa as no_soa, failing, unprovable as unproven, answered, outcome_proven, outcome_along, outcome_of, IsResponse, IsResponseTo}
use Rattle.zone_response.specs.Sections.{Sections}
use Rattle.zone_response.specs.Steps.{End, complete, referred, missing, outside, unfollowed, too_long, failed}
use Rattle.response_laws.specs.Failures.{Failure, without_soa, at_fault, unprovable, WhyAlone, FailureHasReason, AnswerableIsAnswered, FailureIsReported}
use Rattle.response_laws.proofs.AgreementProofs.{all_hashed}
use Rattle.response_laws.proofs.Hashings.{unproved}
use Rattle.response_laws.proofs.Parts.{HowAnswered, by_code_alone, by_parts, how_answered}

no_failure : (e : End) → code_at e ≡ code.ServFail → ⊥
no_failure (missing x wildcard_name true) h = absurd cc
no_failure (missing x wildcard_name false) h = absurd cc
no_failure (referred c) h = absurd cc
no_failure complete h = absurd cc
no_failure (outside x) h = absurd cc
no_failure unfollowed h = absurd cc
no_failure too_long h = absurd cc
no_failure failed h = absurd cc

pub failure_has_reason : FailureHasReason IsResponse
failure_has_reason z q r zone denials is failure = by (how_answered z q r denials.zone is)
  where
    by : HowAnswered z q r → Failure z q
    by (by_code_alone c why e) = subst (WhyAlone z q) (sym (ap (λ (s : Sections). s.code) e) ∙ failure) why
    by (by_parts h) = absurd (no_failure (path (inquiry z q) q.name).end (sym h.code ∙ failure))

pub answerable_is_answered : AnswerableIsAnswered IsResponse
answerable_is_answered z q r zone denials a is failure = by (failure_has_reason z q r zone denials is failure)
  where
    by : Failure z q → ⊥
    by (without_soa e) = true≢false (sym a.soa ∙ ap is_some e)
    by (at_fault e f) = a.faultless f
    by (unprovable why signed u) = all_hashed z z.nx_proof_kind (a.hashed signed) (query_hashed z q) why u

module _ (z : Zone) (q : Query) (r : Sections) (asked : refusal z.origin q ≡ None) (is : IsResponse z q r) where
  abbrev i : Inquiry
  i = inquiry z q

  abbrev p : Path
  p = path i q.name

  abbrev Fails : Type 0
  Fails = r ≡ bare code.ServFail

  -- what is said of a zone with an SOA set, or without one
  abbrev Found : Option RRset → Type 0
  Found o = IsResponseTo i (option_map_or (λ soa. outcome_along z q.signed soa p) o no_soa) r

  found : Found (set_at z.sets z.origin SOA)
  found = subst (λ o. IsResponseTo i (option_map_or refused o (outcome_of z i q.name)) r) asked is

  -- it fails there, if it does with an SOA set
  with_soa : (o : Option RRset) → ((soa : RRset) → IsResponseTo i (outcome_along z q.signed soa p) r → Fails) → Found o → Fails
  with_soa None so h = h
  with_soa (Some soa) so h = so soa h

  pub call_concludes : Failure z q → r ≡ bare code.ServFail
  call_concludes (without_soa e) = subst Found e found
  call_concludes (at_fault e f) = with_soa (set_at z.sets z.origin SOA) (λ soa h. subst (λ b. IsResponseTo i (cond b failing (outcome_proven z q.signed soa p)) r) (ap fails e) h) found
  call_concludes (unprovable why signed u) = with_soa (set_at z.sets z.origin SOA) (λ soa h. by soa (fails p.end) h) found
    where
      by : (soa : RRset) (b : Bool) → IsResponseTo i (cond b failing (outcome_proven z q.signed soa p)) r → Fails
      by soa true h = h
      by soa false h = subst (λ b. IsResponseTo i (cond b unproven (answered p (authority_sets z q.signed soa p.made p.end))) r) (unproved z q why signed u) h

pub failure_is_told : FailureIsReported IsResponse
failure_is_told z q r asked failure is = call_concludes z q r asked is failure
