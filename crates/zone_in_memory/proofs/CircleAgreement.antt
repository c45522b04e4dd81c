-- How lookups and denials agree with a circle of NSEC sets
use Rattle.std.proofs.Common.{◌≡◌, ◌⊎◌, inl, inr, ℕ, Bool, ◌||◌, true, false, List, refl, sym, ◌∙◌, subst, IsTrue, true≢false}
use Rattle.std.specs.Prelude.{None, Ok, Err, Result, IsFalse}
use Rattle.std.specs.Prelude.{cond}
use Rattle.zone_proto.specs.declared.record.Record.{Record}
use Rattle.zone_proto.specs.Names.{Name, is_at_or_above, is_wildcard, wildcard_under}
use Rattle.zone_proto.specs.Sets.{RRset}
use Rattle.zone_proto.specs.Types.{NSEC, NSEC3}
use Rattle.zone_handler.specs.declared.auth_lookup.AuthLookup.{AuthLookup}
use Rattle.zone_handler.specs.declared.auth_lookup.AuthLookup.TheVariants as answer
use Rattle.zone_handler.specs.declared.control_flow.LookupControlFlow.{LookupControlFlow}
use Rattle.zone_handler.specs.declared.control_flow.LookupControlFlow.TheVariants.{Continue, Break}
use Rattle.lookup_types.specs.declared.lookup_error.LookupError.{LookupError}
use Rattle.lookup_types.specs.declared.lookup_error.LookupError.TheVariants as error
use Rattle.lookup_types.specs.declared.lookup_options.LookupOptions.{LookupOptions}
use Rattle.zone_handler.specs.declared.lookup_records.LookupRecords.{LookupRecords}
use Rattle.zone_map.specs.AnyTypes.{searched_type}
use Rattle.zone_map.specs.Wildcards.{asked_wildcard_exists, found}
use Rattle.zone_map.specs.Zones.{Sets, owns, owns_at_or_below}
use Rattle.zone_denial.specs.NsecDenial.{nsec_encloser, nsec_denial}
use Rattle.zone_denial.specs.NsecLaws.{IsNsecZone, HasOwnOrCover}
use Rattle.zone_denial.specs.WildcardLaws.{OwnsNone, DeniesWildcard}
use Rattle.zone_denial.proofs.Chain.NsecAskedWildcard.{absent_wildcard_is_denied}
use Rattle.zone_denial.proofs.Chain.NsecClosest.{finds_or_covers}
use Rattle.zone_denial.proofs.Chain.NsecLists.{lists_all_owned, denials_agree}
use Rattle.zone_denial.proofs.Chain.NsecBelow.{no_next_below, next_below_empty}
use Rattle.zone_denial.proofs.Chain.NsecWildcard.{proves_wildcard}
use Rattle.zone_lookup.specs.Replies.{NegativeAnswer, name_exists, nx_domain, refused, negative_answer, answered, negative, IsReplyFor}
use Rattle.zone_lookup.proofs.NegativeReplies.{reply_is_negative}
use Rattle.denial_laws.specs.Acceptance.{IsAccepted}
use Rattle.denial_laws.specs.Scope.{read, IsInScope}
use Rattle.denial_laws.proofs.CircleLaws.{denial_accepted}
use Rattle.zone_in_memory.specs.Lookup.{error_of, SaysOrMemory, IsNameError}
use Rattle.zone_in_memory.specs.NsecAnswers.{IsDenialSection, IsNsecProof, HasNsecProof, HasWildcardProof, HasAcceptedRecords, AgreesWithCircle}

-- the step that denies
abbrev denies : NegativeAnswer → LookupControlFlow AuthLookup LookupError
denies d = Continue (Err (error_of d))

same_denial : (d e : NegativeAnswer) → denies d ≡ denies e → d ≡ e
same_denial name_exists name_exists h = refl
same_denial nx_domain nx_domain h = refl
same_denial refused refused h = refl
same_denial name_exists nx_domain h = cc
same_denial name_exists refused h = cc
same_denial nx_domain name_exists h = cc
same_denial nx_domain refused h = cc
same_denial refused name_exists h = cc
same_denial refused nx_domain h = cc

memory_apart : (d : NegativeAnswer) → denies d ≡ Continue (Err error.Memory) → ⊥
memory_apart name_exists h = cc
memory_apart nx_domain h = cc
memory_apart refused h = cc

module _ (sign : RRset → List Record) (origin : Name) (m : Sets) (options : LookupOptions) (n : Name) (t : ℕ) where
  -- a step that denies is that of a reply that does, which says what was found, nothing, and which denial it is
  pub of_step : (d : NegativeAnswer) (step : LookupControlFlow AuthLookup LookupError) → SaysOrMemory options (IsReplyFor sign origin m options.dnssec_ok n (searched_type m n t)) step → step ≡ denies d
      → (found m options.dnssec_ok n (searched_type m n t) ≡ None) × (negative_answer origin m n ≡ d)
  of_step d step (inr e) is = absurd (memory_apart d (sym is ∙ e))
  of_step d step (inl (negative e, reply, says)) is = reply_is_negative sign origin m options.dnssec_ok n (searched_type m n t) d (subst (λ x. IsReplyFor sign origin m options.dnssec_ok n (searched_type m n t) (negative x)) (same_denial e d (sym says ∙ is)) reply)
  of_step d step (inl (answered answers more, reply, (a, says, has))) is = absurd (let e = sym says ∙ is in cc)

-- a name error says that neither the name nor a name below it owns a set, that no wildcard at the closest encloser for
-- it exists, and that it is the zone's
pub record IsNameAbsent (origin : Name) (m : Sets) (n : Name) : Type 0 where
  pub unowned : owns_at_or_below m n ≡ false
  pub no_wildcard_name : asked_wildcard_exists m n ≡ false
  pub inside : IsTrue (is_at_or_above origin n)

pub name_absent : (origin : Name) (m : Sets) (n : Name) → negative_answer origin m n ≡ nx_domain → IsNameAbsent origin m n
name_absent origin m n e =
    let r = by (owns_at_or_below m n) (asked_wildcard_exists m n) (is_at_or_above origin n) e in
    record { unowned = r.0; no_wildcard_name = r.1; inside = r.2 }
  where
    by : (a s b : Bool) → cond (a || s) name_exists (cond b nx_domain refused) ≡ nx_domain → (a ≡ false) × (s ≡ false) × (b ≡ true)
    by true s b e = absurd cc
    by false true b e = absurd cc
    by false false true e = (refl, refl, refl)
    by false false false e = absurd cc

-- so it is where a lookup answers by one
pub of_name_error : (sign : RRset → List Record) (origin : Name) (m : Sets) (options : LookupOptions) (n : Name) (t : ℕ) (step : LookupControlFlow AuthLookup LookupError)
    → SaysOrMemory options (IsReplyFor sign origin m options.dnssec_ok n (searched_type m n t)) step → IsNameError step → IsNameAbsent origin m n
of_name_error sign origin m options n t step says e = name_absent origin m n (of_step sign origin m options n t nx_domain step says e).1

pub wildcard_never_denied : (sign : RRset → List Record) (origin : Name) (m : Sets) (options : LookupOptions) (n : Name) (t : ℕ) (step : LookupControlFlow AuthLookup LookupError)
    → asked_wildcard_exists m n ≡ true → SaysOrMemory options (IsReplyFor sign origin m options.dnssec_ok n (searched_type m n t)) step → IsNameError step → ⊥
wildcard_never_denied sign origin m options n t step h says e = true≢false (sym h ∙ (of_name_error sign origin m options n t step says e).no_wildcard_name)

module _ (origin : Name) (m : Sets) (circle : IsNsecZone origin m) where
  pub lookup_agrees : (sign : RRset → List Record) (options : LookupOptions) (n : Name) (t : ℕ) (step : LookupControlFlow AuthLookup LookupError)
      → SaysOrMemory options (IsReplyFor sign origin m options.dnssec_ok n (searched_type m n t)) step → AgreesWithCircle origin m n t step
  lookup_agrees sign options n t step says =
      record {
        name = λ e.
            let of = of_step sign origin m options n t nx_domain step says e in
            let absent = name_absent origin m n of.1 in
            ((denials_agree origin m circle options.dnssec_ok n t of.0).name absent.unowned, no_next_below origin m circle n absent.inside absent.unowned);
        type' = λ e. (denials_agree origin m circle options.dnssec_ok n t (of_step sign origin m options n t name_exists step says e).0).type';
        owned = λ h. lists_all_owned origin m circle n t h;
      }

  -- where it answers by a name error, the denial says that there is no wildcard
  pub absent_wildcard_agrees : (sign : RRset → List Record) (options : LookupOptions) (n : Name) (t : ℕ) (step : LookupControlFlow AuthLookup LookupError) → OwnsNone m NSEC3 → IsFalse (is_wildcard n)
      → SaysOrMemory options (IsReplyFor sign origin m options.dnssec_ok n (searched_type m n t)) step → IsNameError step → DeniesWildcard origin m n
  absent_wildcard_agrees sign options n t step none plain says e =
      let absent = of_name_error sign origin m options n t step says e in
      absent_wildcard_is_denied origin m circle none n absent.inside plain absent.unowned absent.no_wildcard_name

  -- nor does the step that breaks a query for a transfer off deny anything
  pub transfer_agrees : (n : Name) (t : ℕ) (result : Result AuthLookup LookupError) → AgreesWithCircle origin m n t (Break result)
  transfer_agrees n t result = record { name = λ e. absurd cc; type' = λ e. absurd cc; owned = λ h. lists_all_owned origin m circle n t h }

  denial_proves : (n : Name) → IsTrue (is_at_or_above origin n) → IsNsecProof origin m n (nsec_denial origin m n)
  denial_proves n inside =
      record {
        covered = finds_or_covers origin m circle n inside;
        absent = λ none. no_next_below origin m circle n inside none;
        empty = λ none below uncut. next_below_empty origin m circle n inside none below uncut;
      }

  -- and so do the sets of the answer
  pub answer_proves : (options : LookupOptions) (n : Name) (step : LookupControlFlow AuthLookup LookupError) → IsTrue (is_at_or_above origin n)
      → ((s : LookupRecords) × (step ≡ Continue (Ok (answer.Records s None))) × IsDenialSection origin m options n s) ⊎ (step ≡ Continue (Err error.Memory)) → HasNsecProof origin m n step
  answer_proves options n step inside (inl (s, is, section)) = inl (s, is, subst (IsNsecProof origin m n) (sym section.sets) (denial_proves n inside))
  answer_proves options n step inside (inr is) = inr is

  -- of a name off the circle they prove the wildcard at the closest encloser
  pub wildcard_proves : (options : LookupOptions) (n : Name) (step : LookupControlFlow AuthLookup LookupError) → IsTrue (is_at_or_above origin n) → IsFalse (owns m n NSEC)
      → ((s : LookupRecords) × (step ≡ Continue (Ok (answer.Records s None))) × IsDenialSection origin m options n s) ⊎ (step ≡ Continue (Err error.Memory)) → HasWildcardProof origin m n step
  wildcard_proves options n step inside off (inl (s, is, section)) =
      inl (s, is, subst (HasOwnOrCover m (wildcard_under (nsec_encloser origin m n))) (sym section.sets) (proves_wildcard origin m circle n inside off))
  wildcard_proves options n step inside off (inr is) = inr is

-- a validator accepts the records of the answer
pub answer_accepted : (origin : Name) (m : Sets) (options : LookupOptions) (n : Name) (step : LookupControlFlow AuthLookup LookupError) → IsInScope origin m n
    → ((s : LookupRecords) × (step ≡ Continue (Ok (answer.Records s None))) × IsDenialSection origin m options n s) ⊎ (step ≡ Continue (Err error.Memory)) → HasAcceptedRecords origin m n step
answer_accepted origin m options n step judged (inl (s, is, section)) =
    inl (s, is, subst (λ sets. IsAccepted origin m n (read sets)) (sym section.sets) (denial_accepted origin m n judged))
answer_accepted origin m options n step judged (inr is) = inr is
