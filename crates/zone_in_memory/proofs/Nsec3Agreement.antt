-- How lookups agree with a circle of NSEC3 sets
use Rattle.std.proofs.Common.{◌≡◌, inl, inr, ℕ, Bool, List, true, false, IsTrue, sym, ap, subst, ◌∙◌, true≢false}
use Rattle.std.specs.Prelude.{Option, Result, Ok, Err, IsFalse}
use Rattle.zone_proto.specs.declared.rdata.denial.NSEC3PARAM.{NSEC3PARAM as Nsec3Parameters}
use Rattle.zone_proto.specs.declared.error.ProtoError.{ProtoError}
use Rattle.zone_proto.specs.declared.record.Record.{Record}
use Rattle.zone_proto.specs.Names.{Name, is_at_or_above, is_wildcard}
use Rattle.zone_proto.specs.Sets.{RRset}
use Rattle.zone_proto.specs.Types.{NSEC}
use Rattle.zone_handler.specs.declared.auth_lookup.AuthLookup.{AuthLookup}
use Rattle.zone_handler.specs.declared.control_flow.LookupControlFlow.{LookupControlFlow}
use Rattle.zone_handler.specs.declared.control_flow.LookupControlFlow.TheVariants.{Break}
use Rattle.lookup_types.specs.declared.lookup_error.LookupError.{LookupError}
use Rattle.lookup_types.specs.declared.lookup_options.LookupOptions.{LookupOptions}
use Rattle.lookup_types.specs.declared.nsec3_query_info.Nsec3QueryInfo.{Nsec3QueryInfo}
use Rattle.zone_handler.specs.Answers.{sets_in}
use Rattle.lookup_types.specs.Hashing.{digest_for}
use Rattle.zone_map.specs.AnyTypes.{searched_type}
use Rattle.zone_map.specs.Zones.{Sets}
use Rattle.zone_denial.specs.Nsec3Denial.{nsec3_denial}
use Rattle.zone_denial.specs.Nsec3Laws.{FindsOrEncloses, ProvesWildcard}
use Rattle.zone_denial.specs.Nsec3Lent.{hashed_for, query_denial}
use Rattle.zone_denial.specs.Nsec3Zones.{IsCircleName, IsHashed, IsNsec3Zone, HasDistinctDigests}
use Rattle.zone_denial.specs.WildcardLaws.{OwnsNone, Nsec3DeniesWildcard}
use Rattle.zone_denial.proofs.Hashed.Nsec3AskedWildcard.{absent_wildcard_is_denied}
use Rattle.zone_denial.proofs.Hashed.Nsec3Encloses.{finds_or_encloses}
use Rattle.zone_denial.proofs.Hashed.Nsec3Wildcard.{proves_wildcard}
use Rattle.zone_denial.proofs.Hashed.Nsec3Lists.{lists_all_owned, denials_agree}
use Rattle.zone_lookup.specs.Replies.{name_exists, nx_domain, IsReplyFor}
use Rattle.denial_laws.specs.Nsec3Acceptance.{IsNsec3Accepted, IsAskedWildcardAccepted}
use Rattle.denial_laws.specs.Nsec3Scope.{read_nsec3_sets}
use Rattle.denial_laws.proofs.Nsec3CircleLaws.{nsec3_denial_accepted, nsec3_wildcard_answer_accepted}
use Rattle.zone_in_memory.specs.Lookup.{SaysOrMemory, IsNameError}
use Rattle.zone_in_memory.specs.AnsweredSets.{AnswersSetsOrMemory}
use Rattle.zone_in_memory.specs.Handlers.{Zone}
use Rattle.zone_in_memory.specs.Nsec3Answers.{HasNsec3Proof, HasNsec3WildcardProof, HasAcceptedNsec3Records, HasAskedWildcardProof, AgreesWithNsec3Circle}
use Rattle.zone_in_memory.specs.Nsec3Steps.{IsNsec3Answer}
use Rattle.zone_in_memory.proofs.CircleAgreement.{of_step, of_name_error, name_absent}

module _ (origin : Name) (m : Sets) (hash : Name → Option (List ℕ)) (parameters : Nsec3Parameters) (circle : IsNsec3Zone origin m hash parameters) where
  pub nsec3_lookup_agrees : (sign : RRset → List Record) (options : LookupOptions) (n : Name) (t : ℕ) (step : LookupControlFlow AuthLookup LookupError)
      → SaysOrMemory options (IsReplyFor sign origin m options.dnssec_ok n (searched_type m n t)) step → AgreesWithNsec3Circle origin m hash parameters.opt_out n t step
  nsec3_lookup_agrees sign options n t step says =
      record {
        name = λ e on.
            let of = of_step sign origin m options n t nx_domain step says e in
            true≢false (sym ((denials_agree origin m hash parameters circle options.dnssec_ok n t of.0).name on) ∙ (name_absent origin m n of.1).unowned);
        type' = λ e. (denials_agree origin m hash parameters circle options.dnssec_ok n t (of_step sign origin m options n t name_exists step says e).0).type';
        owned = λ ne h. lists_all_owned origin m hash parameters circle n t ne h;
      }

  -- where it answers by a name error, the denial says that there is no wildcard, without opt-out
  pub nsec3_absent_wildcard_agrees : (sign : RRset → List Record) (options : LookupOptions) (n : Name) (t : ℕ) (step : LookupControlFlow AuthLookup LookupError) → IsFalse parameters.opt_out → OwnsNone m NSEC
      → HasDistinctDigests (IsHashed origin m parameters.opt_out n) hash → IsFalse (is_wildcard n) → SaysOrMemory options (IsReplyFor sign origin m options.dnssec_ok n (searched_type m n t)) step → IsNameError step
      → Nsec3DeniesWildcard origin m hash parameters.opt_out n
  nsec3_absent_wildcard_agrees sign options n t step all_in none apart plain says e =
      let absent = of_name_error sign origin m options n t step says e in
      absent_wildcard_is_denied origin m hash parameters circle all_in none n absent.inside apart plain absent.unowned absent.no_wildcard_name

  -- nor does the step that breaks a query for a transfer off deny anything
  pub nsec3_transfer_agrees : (n : Name) (t : ℕ) (result : Result AuthLookup LookupError) → AgreesWithNsec3Circle origin m hash parameters.opt_out n t (Break result)
  nsec3_transfer_agrees n t result = record { name = λ e. absurd cc; type' = λ e. absurd cc; owned = λ ne h. lists_all_owned origin m hash parameters circle n t ne h }

-- the sets of an answer are those that deny, so they prove what these do
module _ {S H : Type 0} (digest_of : H → ℕ → List ℕ → Name → ℕ → Option (List ℕ)) (zone : Zone S H) (query : Nsec3QueryInfo) (options : LookupOptions) where
  abbrev hash : Name → Option (List ℕ)
  hash = digest_for (digest_of zone.hash) query

  abbrev x : Name
  x = query.qname.now

  -- a denial of the query is its answer's sets, so that none of its names is refused
  module _ (P : List RRset → Type 0) (wildcard : Bool) (is : query.has_wildcard_match ≡ wildcard)
      (law : (answer : List RRset) × (nsec3_denial zone.inner.records (hashed_for zone.origin (digest_of zone.hash) query) wildcard x ≡ Ok answer) × P answer)
    where
      given : query_denial (digest_of zone.hash) zone.origin zone.inner.records query ≡ Ok law.0
      given = ap (λ w. nsec3_denial zone.inner.records (hashed_for zone.origin (digest_of zone.hash) query) w x) is ∙ law.1

      same : (a b : List RRset) → ◌≡◌ {A = Result (List RRset) ProtoError} (Ok a) (Ok b) → a ≡ b
      same a b e = cc

      refused : (refusal : ProtoError) (sets : List RRset) → ◌≡◌ {A = Result (List RRset) ProtoError} (Err refusal) (Ok sets) → ⊥
      refused refusal sets e = cc

      pub answers : (step : LookupControlFlow AuthLookup LookupError) → IsNsec3Answer digest_of zone query options step → AnswersSetsOrMemory P step
      answers step (inl (sets, denial, (s, is, has, kept))) = inl (s, is, subst P (same law.0 sets (sym given ∙ denial) ∙ sym has) law.2)
      answers step (inr (inl (refusal, denial, is))) = absurd (refused refusal law.0 (sym denial ∙ given))
      answers step (inr (inr is)) = inr is

  pub nsec3_answer_proves : (step : LookupControlFlow AuthLookup LookupError) → IsNsec3Answer digest_of zone query options step
      → (parameters : Nsec3Parameters) → IsNsec3Zone zone.origin zone.inner.records hash parameters → query.has_wildcard_match ≡ false → IsTrue (is_at_or_above zone.origin x)
      → HasDistinctDigests (IsHashed zone.origin zone.inner.records parameters.opt_out x) hash → HasNsec3Proof zone.origin zone.inner.records hash parameters.opt_out x step
  nsec3_answer_proves step is parameters circle plain inside apart =
      answers (FindsOrEncloses zone.origin zone.inner.records hash parameters.opt_out x) false plain (finds_or_encloses zone.origin zone.inner.records hash parameters circle x inside apart) step is

  pub nsec3_wildcard_proves : (step : LookupControlFlow AuthLookup LookupError) → IsNsec3Answer digest_of zone query options step
      → (parameters : Nsec3Parameters) → IsNsec3Zone zone.origin zone.inner.records hash parameters → query.has_wildcard_match ≡ false → IsTrue (is_at_or_above zone.origin x)
      → HasDistinctDigests (IsHashed zone.origin zone.inner.records parameters.opt_out x) hash → (IsCircleName zone.origin zone.inner.records parameters.opt_out x → ⊥)
      → HasNsec3WildcardProof zone.origin zone.inner.records hash parameters.opt_out x step
  nsec3_wildcard_proves step is parameters circle plain inside apart off =
      answers (ProvesWildcard zone.origin zone.inner.records hash parameters.opt_out x) false plain (proves_wildcard zone.origin zone.inner.records hash parameters circle x inside apart off) step is

  -- a validator accepts their records
  pub nsec3_answer_accepted : (step : LookupControlFlow AuthLookup LookupError) → IsNsec3Answer digest_of zone query options step → query.has_wildcard_match ≡ false
      → HasAcceptedNsec3Records digest_of zone query step
  nsec3_answer_accepted step is plain parameters judged =
      let law = finds_or_encloses zone.origin zone.inner.records hash parameters judged.zone x judged.inside judged.apart in
      answers (λ sets. IsNsec3Accepted zone.origin zone.inner.records hash parameters.opt_out x (read_nsec3_sets sets)) false plain
      (law.0, law.1, nsec3_denial_accepted zone.origin zone.inner.records hash parameters x judged law.0 law.1) step is

  -- the denial of the query is one of the sets that are given
  denied_sets : (sets : List RRset) (wildcard : Bool) → query.has_wildcard_match ≡ wildcard → query_denial (digest_of zone.hash) zone.origin zone.inner.records query ≡ Ok sets
      → nsec3_denial zone.inner.records (hashed_for zone.origin (digest_of zone.hash) query) wildcard x ≡ Ok sets
  denied_sets sets wildcard is denial = ap (λ w. nsec3_denial zone.inner.records (hashed_for zone.origin (digest_of zone.hash) query) w x) (sym is) ∙ denial

  pub nsec3_asked_wildcard_proves : (step : LookupControlFlow AuthLookup LookupError) → IsNsec3Answer digest_of zone query options step → query.has_wildcard_match ≡ true
      → HasAskedWildcardProof digest_of zone query step
  nsec3_asked_wildcard_proves step (inl (sets, denial, (s, is, has, kept))) wildcard parameters judged t e =
      let law = nsec3_wildcard_answer_accepted zone.origin zone.inner.records hash parameters x judged sets (denied_sets sets true wildcard denial) in
      let section : s ≡ t = cc in
      subst (λ sets. IsAskedWildcardAccepted zone.origin zone.inner.records hash parameters.opt_out x (read_nsec3_sets sets)) (sym has ∙ ap sets_in section) law
  nsec3_asked_wildcard_proves step (inr (inl (refusal, denial, is))) wildcard parameters judged t e = absurd cc
  nsec3_asked_wildcard_proves step (inr (inr is)) wildcard parameters judged t e = absurd cc
