-- The sets of a zone after an update that was prepared and committed: they have the chain that was asked for, and nothing outside of the zone
use Rattle.std.proofs.Common.{◌≡◌, ℕ, true, false, List, refl, sym, ap, ◌∙◌, subst}
use Rattle.std.specs.Prelude.{Option, Some, is_some, ◌==◌, ◌&&◌}
use Rattle.std.specs.List.{Contains}
use Rattle.zone_proto.specs.declared.nx_proof_kind.NxProofKind.{NxProofKind}
use Rattle.zone_proto.specs.declared.nx_proof_kind.NxProofKind.TheVariants as kind
use Rattle.zone_proto.specs.declared.rdata.denial.NSEC3PARAM.{NSEC3PARAM as Nsec3Parameters}
use Rattle.zone_proto.specs.declared.rdata.signing.DNSKEY.{DNSKEY}
use Rattle.zone_proto.specs.Names.{Name, IsName, lower, name_eq, IsAtOrAbove}
use Rattle.zone_proto.specs.Types.{NS, SOA, DNAME, NSEC, NSEC3, NSEC3PARAM, DNSKEY as dnskey_type}
use Rattle.zone_map.specs.Renewals.{with_signatures}
use Rattle.zone_map.specs.Zones.{Sets, IsZone, owns, set_at}
use Rattle.zone_map.proofs.Renewing.{IsZone-with_signatures}
use Rattle.zone_sha1.specs.Digests.{name_digest}
use Rattle.zone_denial.specs.Chains.{chain_sets, IsNsecChain, IsNsec3Chain}
use Rattle.zone_denial.specs.Nsec3Names.{nsec3_names}
use Rattle.zone_denial.specs.Nsec3Zones.{hash_with, HasDistinctDigests, IsCircleName}
use Rattle.zone_denial.proofs.Chains.ChainSets.{all_by_nsec, all_by_nsec3}
use Rattle.zone_denial.proofs.Hashed.Nsec3SameNames.{same_names}
use Rattle.zone_lookup.specs.StartOfAuthority.{serial}
use Rattle.zone_signing.specs.Secured.{IsSecured}
use Rattle.zone_trimming.specs.TrimmedChains.{HasTrimmedNsecSets}
use Rattle.zone_trimming.proofs.TrimmedChain.{trimmed_is_nsec_chain}
use Rattle.zone_keeping.specs.Keeping.{kept_lists}
use Rattle.zone_keeping.specs.Usable.{usable_keys}
use Rattle.zone_planner.specs.Keys.{keyed}
use Rattle.zone_planner.specs.Plans.{denial_ttl, denied_by}
use Rattle.zone_planner.proofs.KeyedSets.{is_key_data, keyed_owns, keyed_zone}
use Rattle.zone_planning.specs.declared.plans.Plan.{Plan}
use Rattle.zone_planning.specs.declared.signer.PlanSigner.{PlanSigner}
use Rattle.zone_planning.specs.Answering.{plans}
use Rattle.zone_planning.specs.Filling.{filled}
use Rattle.signing_laws.specs.TrimmedHashedChains.{HasTrimmedNsec3Sets}
use Rattle.signing_laws.proofs.SignedHashed.{chain_has_parameters}
use Rattle.signing_laws.proofs.TrimmedHashed.{trimmed_is_nsec3_chain}
use Rattle.zone_update.specs.declared.entry.Entry.{Entry}
use Rattle.update_denials.specs.declared.preparing.Signing.{Signing}
use Rattle.update_denials.specs.Prepared.{keys_of, IsPrepared}
use Rattle.update_denials.proofs.HashedChain as hashed
use Rattle.update_denials.proofs.NsecChain.{has_trimmed}
use Rattle.update_laws.proofs.Faultless.{has_soa, inside}
use Rattle.update_laws.proofs.Records.{owned_as, records_of, records_stay}

module _ (origin : Name) (old : Sets) (prerequisites changes : List Entry) (signing : Signing) (plan : Plan) (signatures : List (List ℕ)) (p : IsPrepared origin old prerequisites changes signing plan) where
  abbrev blank : Sets
  blank = p.made.planned.blank

  -- the zone with its keys, before it gets denials
  abbrev before : Sets
  before = keyed origin signing.keys.items signing.request p.made.bare

  abbrev pub after : Sets
  after = with_signatures plan.records (filled plan.records signatures)

  abbrev signers : List PlanSigner
  signers = p.made.planned.is_planned.signers

  abbrev now : ℕ
  now = signing.request.inception

  abbrev usable : List (Option DNSKEY)
  usable = usable_keys (keys_of signing) (set_at old origin dnskey_type)

  pub zone : IsZone after
  zone =
      IsZone-with_signatures plan.records (filled plan.records signatures)
      (subst IsZone (sym p.made.planned.kept) (IsZone-with_signatures blank (kept_lists signing.span usable old blank) p.made.planned.zone))

  -- signatures aside the sets are those of the plan without any
  same_records : (n : Name) (t : ℕ) → records_of (set_at after n t) ≡ records_of (set_at blank n t)
  same_records n t =
      records_stay plan.records (filled plan.records signatures) n t
      ∙ ap (λ (m : Sets). records_of (set_at m n t)) p.made.planned.kept
      ∙ records_stay blank (kept_lists signing.span usable old blank) n t

  same_owned : (n : Name) (t : ℕ) → owns after n t ≡ owns blank n t
  same_owned n t = owned_as after blank n t (same_records n t)

  -- ---- the sets before the denials

  soa_before : owns before origin SOA ≡ true
  soa_before = keyed_owns origin signing.keys.items signing.request p.made.bare origin SOA refl ∙ has_soa origin p.made.bare signing.keys.items signing.request p.made.planned.faultless

  none_before : (t : ℕ) → is_key_data t ≡ false → ((n : Name) → owns p.made.bare n t ≡ false) → (n : Name) → owns before n t ≡ false
  none_before t e none n = keyed_owns origin signing.keys.items signing.request p.made.bare n t e ∙ none n

  no_nsec : (n : Name) → owns before n NSEC ≡ false
  no_nsec = none_before NSEC refl (λ n. ap is_some (p.made.unsecured.each n NSEC))

  no_nsec3 : (n : Name) → owns before n NSEC3 ≡ false
  no_nsec3 = none_before NSEC3 refl (λ n. ap is_some (p.made.unsecured.each n NSEC3))

  -- ---- with NSEC

  module _ (is_nsec : signing.request.nx_proof_kind ≡ kind.Nsec) where
    by_nsec : HasTrimmedNsecSets origin before (denial_ttl before origin) (serial before origin) after
    by_nsec =
        let h = has_trimmed plans now origin signers before blank (subst (λ (k : NxProofKind). IsSecured plans now origin signers (denied_by k origin before) blank) is_nsec p.made.planned.is_planned.secured) in
        record { others = λ n t e. same_owned n t ∙ h.others n t e; denials = λ n. same_records n NSEC ∙ h.denials n }

    pub nsec_chain : IsName origin → lower origin ≡ origin → IsNsecChain origin after
    nsec_chain named low =
        trimmed_is_nsec_chain origin before after (denial_ttl before origin) (serial before origin)
        (keyed_zone origin signing.keys.items signing.request p.made.bare (subst IsName (sym low) named) p.made.unsecured.zone) zone low soa_before by_nsec

    pub nsec_sets_stay : chain_sets (Some kind.Nsec) after ≡ after
    nsec_sets_stay = all_by_nsec after (λ n. by_nsec.others n NSEC3 refl ∙ no_nsec3 n)

  -- ---- with NSEC3

  module _ (parameters : Nsec3Parameters) (is_nsec3 : signing.request.nx_proof_kind ≡ kind.Nsec3 parameters.algorithm parameters.salt parameters.iterations parameters.opt_out) where
    by_nsec3 : HasTrimmedNsec3Sets origin before (hash_with name_digest parameters) parameters (denial_ttl before origin) (serial before origin) after
    by_nsec3 =
        let h = hashed.has_trimmed plans now origin signers before blank parameters (subst (λ (k : NxProofKind). IsSecured plans now origin signers (denied_by k origin before) blank) is_nsec3 p.made.planned.is_planned.secured) in
        record { others = λ n t e f. same_owned n t ∙ h.others n t e f; denials = λ n. same_records n NSEC3 ∙ h.denials n; announced = same_owned origin NSEC3PARAM ∙ h.announced }

    names_before : nsec3_names origin after parameters.opt_out ≡ nsec3_names origin before parameters.opt_out
    names_before = same_names origin before after by_nsec3.others parameters.opt_out

    module _ (apart : HasDistinctDigests (IsCircleName origin after parameters.opt_out) (hash_with name_digest parameters)) where
      apart_before : HasDistinctDigests (IsCircleName origin before parameters.opt_out) (hash_with name_digest parameters)
      apart_before = subst (λ (names : List Name). HasDistinctDigests (λ (n : Name). Contains names n) (hash_with name_digest parameters)) names_before apart

      pub nsec3_chain : (beside : Sets) → IsNsec3Chain origin beside after (hash_with name_digest parameters) parameters (nsec3_names origin after parameters.opt_out)
      nsec3_chain beside =
          trimmed_is_nsec3_chain origin beside before after (hash_with name_digest parameters) parameters (denial_ttl before origin) (serial before origin) zone soa_before by_nsec3 apart_before

      pub nsec3_sets_stay : chain_sets (Some (kind.Nsec3 parameters.algorithm parameters.salt parameters.iterations parameters.opt_out)) after ≡ after
      nsec3_sets_stay =
          all_by_nsec3 after zone parameters.algorithm parameters.salt parameters.iterations parameters.opt_out
          (λ n. by_nsec3.others n NSEC refl refl ∙ no_nsec n)
          (chain_has_parameters origin after after (hash_with name_digest parameters) parameters (nsec3_names origin after parameters.opt_out) (nsec3_chain after))

  -- ---- with either kind

  -- the type is none of denials, their parameters and keys
  abbrev IsOther : ℕ → Type 0
  IsOther t = ((t == NSEC) ≡ false) × ((t == NSEC3) ≡ false) × ((t == NSEC3PARAM) ≡ false) × (is_key_data t ≡ false)

  -- sets of such a type are those of the zone without denials
  as_bare : (k : NxProofKind) → signing.request.nx_proof_kind ≡ k → (n : Name) (t : ℕ) → IsOther t → owns after n t ≡ owns p.made.bare n t
  as_bare kind.Nsec e n t (a, b, c, d) = (by_nsec e).others n t a ∙ keyed_owns origin signing.keys.items signing.request p.made.bare n t d
  as_bare (kind.Nsec3 algorithm salt iterations opt_out) e n t (a, b, c, d) =
      (by_nsec3 (record { algorithm = algorithm; opt_out = opt_out; iterations = iterations; salt = salt }) e).others n t b (ap (λ x. x && name_eq n origin) c)
      ∙ keyed_owns origin signing.keys.items signing.request p.made.bare n t d

  -- and stand at the origin or below it
  within : (t : ℕ) → IsOther t → (n : Name) → owns after n t ≡ true → IsAtOrAbove origin n
  within t other n owned =
      inside origin p.made.bare signing.keys.items signing.request p.made.planned.faultless n t (sym (as_bare signing.request.nx_proof_kind refl n t other) ∙ owned)

  pub servers_within : (n : Name) → owns after n NS ≡ true → IsAtOrAbove origin n
  servers_within = within NS (refl, refl, refl, refl)

  pub dnames_within : (n : Name) → owns after n DNAME ≡ true → IsAtOrAbove origin n
  dnames_within = within DNAME (refl, refl, refl, refl)

  pub owns_soa : owns after origin SOA ≡ true
  owns_soa =
      as_bare signing.request.nx_proof_kind refl origin SOA (refl, refl, refl, refl)
      ∙ has_soa origin p.made.bare signing.keys.items signing.request p.made.planned.faultless
