-- Where the records of an answer prove nothing, by which parameters they are judged, and how lookups agree with what any records of the zone prove
use Rattle.std.proofs.Common.{◌≡◌, inl, inr, ℕ, false, List, sym, ap, ◌∙◌, subst}
use Rattle.std.specs.Prelude.{Option, None, Ok, MatchOption, flat_map}
use Rattle.zone_proto.specs.declared.rdata.denial.NSEC3PARAM.{NSEC3PARAM as Nsec3Parameters}
use Rattle.zone_proto.specs.declared.record.Record.{Record}
use Rattle.zone_proto.specs.Names.{Name, is_at_or_above}
use Rattle.zone_proto.specs.Sets.{RRset}
use Rattle.zone_proto.proofs.Names.NameTree.{is_at_or_above_complete}
use Rattle.zone_handler.specs.declared.auth_lookup.AuthLookup.{AuthLookup}
use Rattle.zone_handler.specs.declared.control_flow.LookupControlFlow.{LookupControlFlow}
use Rattle.lookup_types.specs.declared.lookup_error.LookupError.{LookupError}
use Rattle.lookup_types.specs.declared.lookup_options.LookupOptions.{LookupOptions}
use Rattle.lookup_types.specs.declared.nsec3_query_info.Nsec3QueryInfo.{Nsec3QueryInfo}
use Rattle.zone_handler.specs.Answers.{sets_in}
use Rattle.lookup_types.specs.Hashing.{digest_for}
use Rattle.zone_map.specs.AnyTypes.{searched_type}
use Rattle.zone_map.specs.Wildcards.{found}
use Rattle.zone_map.specs.Zones.{Sets}
use Rattle.zone_denial.specs.Nsec3Lent.{hashed_for, query_denial}
use Rattle.zone_denial.specs.Nsec3Zones.{IsNsec3Zone, IsHashed, HasDistinctDigests, hash_with}
use Rattle.zone_denial.specs.NsecLaws.{IsNsecZone}
use Rattle.zone_denial.proofs.Names.LongestAncestors.{above_below}
use Rattle.zone_denial.proofs.Hashed.Nsec3Encloses.{finds_or_encloses}
use Rattle.zone_denial.proofs.Chain.NsecBelow.{above_at}
use Rattle.zone_lookup.specs.Replies.{NegativeAnswer, name_exists, nx_domain, negative_answer, negative, IsAnswer, IsReplyFor}
use Rattle.denial_validation.specs.Judgement.{nsec3_proof}
use Rattle.denial_laws.specs.Scope.{read, denial_records, IsInScope}
use Rattle.denial_laws.specs.Nsec3Calls.{call_concludes}
use Rattle.denial_laws.specs.Nsec3Scope.{read_nsec3_sets, IsInNsec3Scope}
use Rattle.denial_laws.specs.Nsec3Soundness.{IsOptOutSound, Nsec3NothingProved}
use Rattle.denial_laws.specs.Soundness.{IsWithoutData, IsTopmostCut, NothingProved}
use Rattle.denial_laws.proofs.CircleLaws.{nothing_below_cut, name_error_sound, no_data_sound, empty_sound, empty_without_data, wildcard_no_data_sound}
use Rattle.denial_laws.proofs.Nsec3CircleLaws.{nsec3_parameters_found, nsec3_opt_out_sound, nsec3_own_nothing_below_cut, nsec3_name_error_sound, nsec3_no_data_sound, nsec3_wildcard_no_data_sound}
use Rattle.denial_laws.proofs.Nsec3Calls.{denial_stands}
use Rattle.denial_laws.proofs.Nsec3Shown.{nsec3_denial_of_zone}
use Rattle.denial_laws.proofs.Readings.{denial_of_zone}
use Rattle.denial_laws.proofs.Silence.{nothing_outside}
use Rattle.zone_in_memory.specs.Handlers.{Zone}
use Rattle.zone_in_memory.specs.Lookup.{Says, SaysOrMemory}
use Rattle.zone_in_memory.specs.NsecAnswers.{IsNsecAnswer}
use Rattle.zone_in_memory.specs.Nsec3Steps.{IsNsec3Answer}
use Rattle.zone_in_memory.specs.ValidatorAnswers.{HasNoProof, HasNoProofBelowCut, HashesBy, HasFoundParameters, HasOptOutProof, DeniesOrMemory, AgreesWithProofs, AgreesWithNsec3Proofs}
use Rattle.zone_in_memory.proofs.Nsec3Agreement.{answers}

-- ---- where the records of an NSEC answer prove nothing

module _ {S H : Type 0} (zone : Zone S H) (n : Name) (options : LookupOptions) where
  pub none_below_cut : (step : LookupControlFlow AuthLookup LookupError) → IsNsecAnswer zone n options step → (cut : Name) → IsNsecZone zone.origin zone.inner.records → IsTopmostCut zone.origin zone.inner.records n cut
      → HasNoProof zone.origin n step
  none_below_cut step (inl (s, is, section)) cut circle below =
      inl (
        s,
        is,
        subst (λ sets. NothingProved zone.origin (read sets) n) (sym section.sets)
            (nothing_below_cut zone.origin zone.inner.records (denial_records zone.origin zone.inner.records n) n cut circle (denial_of_zone zone.origin zone.inner.records n) below),
      )
  none_below_cut step (inr is) cut circle below = inr is

  pub none_outside : (step : LookupControlFlow AuthLookup LookupError) → IsNsecAnswer zone n options step → is_at_or_above zone.origin n ≡ false → HasNoProof zone.origin n step
  none_outside step (inl (s, is, section)) outside = inl (s, is, nothing_outside zone.origin (read (sets_in s)) n outside)
  none_outside step (inr is) outside = inr is

-- ---- and those of an NSEC3 answer

module _ {S H : Type 0} (digest_of : H → ℕ → List ℕ → Name → ℕ → Option (List ℕ)) (zone : Zone S H) (query : Nsec3QueryInfo) (options : LookupOptions) where
  abbrev hash : Name → Option (List ℕ)
  hash = digest_for (digest_of zone.hash) query

  abbrev x : Name
  x = query.qname.now

  pub nsec3_none_below_cut : (step : LookupControlFlow AuthLookup LookupError) → IsNsec3Answer digest_of zone query options step → query.has_wildcard_match ≡ false → HasNoProofBelowCut digest_of zone query step
  nsec3_none_below_cut step is plain parameters cut circle apart below counts =
      let inside = is_at_or_above_complete zone.origin x (above_at zone.origin x (above_below zone.origin cut x below.below (above_at cut x below.above))) in
      let law = finds_or_encloses zone.origin zone.inner.records hash parameters circle x inside apart in
      answers digest_of zone query options (λ sets. Nsec3NothingProved zone.origin hash (read_nsec3_sets sets) x) false plain
      (law.0, law.1, nsec3_own_nothing_below_cut zone.origin zone.inner.records hash parameters x cut circle apart below counts law.0 law.1) step is

  -- the parameters of the zone are found in its records
  module _ (parameters : Nsec3Parameters) (by : HashesBy query parameters) where
    same_hash : digest_for (digest_of zone.hash) query ≡ hash_with (digest_of zone.hash) parameters
    same_hash = λ i n. digest_of zone.hash (by.algorithm i) (by.salt i) n (by.iterations i)

    found_in : IsNsec3Zone zone.origin zone.inner.records hash parameters → HasDistinctDigests (IsHashed zone.origin zone.inner.records parameters.opt_out x) hash → (sets : List RRset)
        → query_denial (digest_of zone.hash) zone.origin zone.inner.records query ≡ Ok sets → (t : ℕ)
        → call_concludes (digest_of zone.hash) zone.origin (flat_map (λ (set : RRset). set.records) sets) x t ≡ nsec3_proof zone.origin hash (read_nsec3_sets sets) x t
    found_in circle apart sets denial t =
        nsec3_parameters_found zone.origin zone.inner.records (digest_of zone.hash) parameters (flat_map (λ (set : RRset). set.records) sets) x t
        (subst (λ k. IsNsec3Zone zone.origin zone.inner.records k parameters) same_hash circle) (subst (HasDistinctDigests (IsHashed zone.origin zone.inner.records parameters.opt_out x)) same_hash apart)
        (denial_stands zone.inner.records (hashed_for zone.origin (digest_of zone.hash) query) query.has_wildcard_match x sets denial)
        ∙ ap (λ k. nsec3_proof zone.origin k (read_nsec3_sets sets) x t) (sym same_hash)

  pub nsec3_finds_parameters : (step : LookupControlFlow AuthLookup LookupError) → IsNsec3Answer digest_of zone query options step → HasFoundParameters digest_of zone query step
  nsec3_finds_parameters step (inl (sets, denial, (s, is, has, kept))) parameters by circle apart k e t =
      let section : s ≡ k = cc in
      subst (λ sets. call_concludes (digest_of zone.hash) zone.origin (flat_map (λ (set : RRset). set.records) sets) x t ≡ nsec3_proof zone.origin hash (read_nsec3_sets sets) x t) (sym has ∙ ap sets_in section)
      (found_in parameters by circle apart sets denial t)
  nsec3_finds_parameters step (inr (inl (refusal, denial, is))) parameters by circle apart k e t = absurd cc
  nsec3_finds_parameters step (inr (inr is)) parameters by circle apart k e t = absurd cc

  -- what they prove with opt-out is so
  pub nsec3_opt_out_proves : (step : LookupControlFlow AuthLookup LookupError) → IsNsec3Answer digest_of zone query options step → HasOptOutProof digest_of zone query step
  nsec3_opt_out_proves step (inl (sets, denial, (s, is, has, kept))) parameters circle apart k e =
      let section : s ≡ k = cc in
      subst (λ sets. IsOptOutSound zone.origin zone.inner.records hash parameters.opt_out x (read_nsec3_sets sets)) (sym has ∙ ap sets_in section)
      (nsec3_opt_out_sound zone.origin zone.inner.records hash parameters (read_nsec3_sets sets) x circle apart
      (nsec3_denial_of_zone zone.inner.records (hashed_for zone.origin (digest_of zone.hash) query) query.has_wildcard_match x sets denial))
  nsec3_opt_out_proves step (inr (inl (refusal, denial, is))) parameters circle apart k e = absurd cc
  nsec3_opt_out_proves step (inr (inr is)) parameters circle apart k e = absurd cc

-- ---- lookups

module _ (sign : RRset → List Record) (origin : Name) (m : Sets) (options : LookupOptions) (n : Name) (t : ℕ) (step : LookupControlFlow AuthLookup LookupError)
    (says : SaysOrMemory options (IsReplyFor sign origin m options.dnssec_ok n (searched_type m n t)) step)
  where
    -- where nothing is found, the negative answer of the name is said
    denied : (d : NegativeAnswer) → found m options.dnssec_ok n (searched_type m n t) ≡ None → negative_answer origin m n ≡ d → DeniesOrMemory d step
    denied d none is = by says
      where
        by : SaysOrMemory options (IsReplyFor sign origin m options.dnssec_ok n (searched_type m n t)) step → DeniesOrMemory d step
        by (inr e) = inr e
        by (inl (r, reply, said)) =
            let same : r ≡ negative (negative_answer origin m n) =
            subst (λ o. MatchOption o (r ≡ negative (negative_answer origin m n)) (λ s. IsAnswer sign m options.dnssec_ok n (searched_type m n t) s r)) none reply in
            inl (subst (λ q. Says options q step) (same ∙ ap negative is) said)

    exists_without : IsWithoutData origin m n t → DeniesOrMemory name_exists step
    exists_without w = denied name_exists (w.nothing options.dnssec_ok) w.there

    pub proofs_agree : IsInScope origin m n → AgreesWithProofs origin m n t step
    proofs_agree j = record {
      error = λ rs of_zone p. let e = name_error_sound origin m rs n j of_zone p in denied nx_domain (e.nothing options.dnssec_ok (searched_type m n t)) e.denied;
      empty = λ rs of_zone p. exists_without (empty_without_data origin m n j (empty_sound origin m rs n j of_zone p) t);
      data' = λ rs of_zone flat p. exists_without (no_data_sound origin m rs n t j of_zone flat p);
      wildcard_data = λ rs of_zone plain flat p. exists_without (wildcard_no_data_sound origin m rs n t j of_zone plain flat p).none;
    }

    pub nsec3_proofs_agree : (hash : Name → Option (List ℕ)) (parameters : Nsec3Parameters) → IsInNsec3Scope origin m hash parameters n → AgreesWithNsec3Proofs origin m hash parameters.opt_out n t step
    nsec3_proofs_agree hash parameters j = record {
      error = λ rs of_zone p. let e = nsec3_name_error_sound origin m hash parameters rs n j of_zone p in denied nx_domain (e.nothing options.dnssec_ok (searched_type m n t)) e.denied;
      data' = λ rs of_zone flat p. exists_without (nsec3_no_data_sound origin m hash parameters rs n t j of_zone flat p);
      wildcard_data = λ rs of_zone plain flat p. exists_without (nsec3_wildcard_no_data_sound origin m hash parameters rs n t j of_zone plain flat p).none;
    }
