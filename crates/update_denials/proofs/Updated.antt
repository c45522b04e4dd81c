-- What a signed zone has after an update, by its plan
use Rattle.std.proofs.Common.{◌≡◌, ℕ, Bool, true, false, not, cond, List, refl, sym, ap, ◌∙◌, subst}
use Rattle.std.specs.Prelude.{Option, Some, None, is_some}
use Rattle.std.specs.Cmp.{eq_by_cmp_equiv}
use Rattle.std.specs.Map.{keys_of as map_keys}
use Rattle.std.specs.Option.{option_or}
use Rattle.std.proofs.lemmas.Map.Entries.{lookup_from_place}
use Rattle.std.proofs.lemmas.Map.Keys.{IsDistinct-from_sorted}
use Rattle.std.proofs.lemmas.Option.{slice_get-get_or}
use Rattle.zone_proto.specs.declared.nx_proof_kind.NxProofKind.{NxProofKind}
use Rattle.zone_proto.specs.declared.rdata.signing.DNSKEY.{DNSKEY}
use Rattle.zone_proto.specs.declared.rdata.signing.RRSIG.{RRSIG}
use Rattle.zone_proto.specs.Keys.{key_cmp, key_eq}
use Rattle.zone_proto.specs.Names.{Name, IsName, lower}
use Rattle.zone_proto.specs.Signing.{SignedPart}
use Rattle.zone_proto.specs.Types.{SOA, NSEC, DNSKEY as dnskey_type}
use Rattle.zone_proto.proofs.Ordering.KeyLaws.{key_cmp_total}
use Rattle.zone_map.specs.Renewals.{with_signatures}
use Rattle.zone_map.specs.Zones.{Sets, IsZone, owns, set_at}
use Rattle.zone_map.proofs.Entries.{AreStored-zone}
use Rattle.zone_denial.specs.WildcardLaws.{OwnsNone}
use Rattle.zone_signing.specs.Secured.{IsSecured}
use Rattle.zone_keeping.specs.Keeping.{answers_left, keeping, kept}
use Rattle.zone_keeping.specs.Usable.{usable_keys}
use Rattle.zone_keeping.proofs.KeptSecured.{kept_secured}
use Rattle.zone_planner.specs.Faults.{denial_fault, plan_fault}
use Rattle.zone_planner.specs.Keys.{keyed}
use Rattle.zone_planner.specs.Plans.{denied_by}
use Rattle.zone_planner.specs.Requests.{keys_fault, moments_fault}
use Rattle.zone_planner.specs.Zones.{apex_fault, sets_fault, zone_fault}
use Rattle.zone_planner.proofs.KeyedSets.{keyed_owns, keyed_zone}
use Rattle.zone_planning.specs.declared.fault.PlanFault.{PlanFault}
use Rattle.zone_planning.specs.declared.fault.PlanFault.TheVariants as fault
use Rattle.zone_planning.specs.declared.plans.Plan.{Plan}
use Rattle.zone_planning.specs.declared.signer.PlanSigner.{PlanSigner}
use Rattle.zone_planning.specs.Answering.{AreFound}
use Rattle.zone_planning.specs.Filling.{filled}
use Rattle.zone_update.specs.declared.entry.Entry.{Entry}
use Rattle.update_denials.specs.declared.preparing.Signing.{Signing}
use Rattle.update_denials.specs.Laws.{answered, UpdatedIsNsecChain, UpdatedIsNsec3Chain, UpdatedNsec3SetsStay}
use Rattle.update_denials.specs.Prepared.{keys_of, IsPrepared}
use Rattle.update_denials.proofs.HashedChain.{secured_is_nsec3_chain, secured_sets_stay}
use Rattle.update_denials.proofs.NsecChain.{secured_is_nsec_chain}

-- each set of a zone is found under its key
found_each : (m : Sets) → IsZone m → AreFound m
found_each m zone k d within =
    lookup_from_place (eq_by_cmp_equiv key_cmp_total) m k _ _ (IsDistinct-from_sorted key_cmp (map_keys m) zone.ordered) (slice_get-get_or m k d within)

-- ---- a zone with which nothing is wrong has an SOA

neither : (a b : Option PlanFault) → option_or a b ≡ None → (a ≡ None) × (b ≡ None)
neither None b e = (refl, e)
neither (Some x) b e = absurd cc

has_soa : (b : Bool) (o : Option PlanFault) → cond (not b) (Some fault.NoSoa) o ≡ None → b ≡ true
has_soa true o e = refl
has_soa false o e = absurd cc

module _ (octets_of : PlanSigner → SignedPart → List ℕ) (origin : Name) (old : Sets) (prerequisites changes : List Entry) (signing : Signing) (plan : Plan) (p : IsPrepared origin old prerequisites changes signing plan) where
  abbrev usable : List (Option DNSKEY)
  usable = usable_keys (keys_of signing) (set_at old origin dnskey_type)

  abbrev signers : List PlanSigner
  signers = p.made.planned.is_planned.signers

  abbrev made_by : PlanSigner → SignedPart → ℕ → ℕ → Option RRSIG
  made_by = keeping octets_of signing.span usable old

  -- the zone with its keys, before it gets denials
  abbrev before : Sets
  before = keyed origin signing.keys.items signing.request p.made.bare

  abbrev after : Sets
  after = answered octets_of origin old prerequisites changes signing plan p

  abbrev answers : List (List ℕ)
  answers = answers_left octets_of signing.span usable old signing.request.inception signers p.made.planned.blank

  -- it is secured by whoever answers, or by what stands
  secured : IsSecured made_by signing.request.inception origin signers (denied_by signing.request.nx_proof_kind origin before) after
  secured =
      let found = found_each p.made.planned.blank p.made.planned.zone in
      subst
      (λ (x : Sets). IsSecured made_by signing.request.inception origin signers (denied_by signing.request.nx_proof_kind origin before) (with_signatures x (filled x answers)))
      (sym p.made.planned.kept)
      (kept_secured octets_of signing.span usable old signing.request.inception origin signers (denied_by signing.request.nx_proof_kind origin before) p.made.planned.blank
      p.made.planned.is_planned.secured found (AreStored-zone p.made.planned.blank p.made.planned.zone)).secured

  soa : owns before origin SOA ≡ true
  soa =
      let of_moments = neither (keys_fault signing.keys.items) (option_or (moments_fault signing.request) (option_or (zone_fault origin p.made.bare) (denial_fault signing.request.nx_proof_kind origin before))) p.made.planned.faultless in
      let of_zone = neither (moments_fault signing.request) (option_or (zone_fault origin p.made.bare) (denial_fault signing.request.nx_proof_kind origin before)) of_moments.1 in
      let of_sets = neither (zone_fault origin p.made.bare) (denial_fault signing.request.nx_proof_kind origin before) of_zone.1 in
      let of_apex = neither (apex_fault origin p.made.bare) (sets_fault origin p.made.bare) of_sets.0 in
      keyed_owns origin signing.keys.items signing.request p.made.bare origin SOA refl ∙ has_soa (owns p.made.bare origin SOA) _ of_apex.0

  no_nsec : OwnsNone before NSEC
  no_nsec n = keyed_owns origin signing.keys.items signing.request p.made.bare n NSEC refl ∙ ap is_some (p.made.unsecured.each n NSEC)

pub updated_is_nsec_chain : UpdatedIsNsecChain
updated_is_nsec_chain octets_of origin old prerequisites changes signing plan named low is_nsec p stands =
    let m = before octets_of origin old prerequisites changes signing plan p in
    let n = after octets_of origin old prerequisites changes signing plan p in
    let by = made_by octets_of origin old prerequisites changes signing plan p in
    let all = signers octets_of origin old prerequisites changes signing plan p in
    secured_is_nsec_chain by signing.request.inception origin all m n
    (keyed_zone origin signing.keys.items signing.request p.made.bare (subst IsName (sym low) named) p.made.unsecured.zone) stands low
    (soa octets_of origin old prerequisites changes signing plan p)
    (subst (λ (k : NxProofKind). IsSecured by signing.request.inception origin all (denied_by k origin m) n) is_nsec (secured octets_of origin old prerequisites changes signing plan p))

pub updated_is_nsec3_chain : UpdatedIsNsec3Chain
updated_is_nsec3_chain octets_of origin old prerequisites changes signing plan beside parameters is_nsec3 p stands apart =
    let m = before octets_of origin old prerequisites changes signing plan p in
    let n = after octets_of origin old prerequisites changes signing plan p in
    let by = made_by octets_of origin old prerequisites changes signing plan p in
    let all = signers octets_of origin old prerequisites changes signing plan p in
    secured_is_nsec3_chain by signing.request.inception origin all beside m n parameters stands
    (soa octets_of origin old prerequisites changes signing plan p) apart
    (subst (λ (k : NxProofKind). IsSecured by signing.request.inception origin all (denied_by k origin m) n) is_nsec3 (secured octets_of origin old prerequisites changes signing plan p))

pub updated_nsec3_sets_stay : UpdatedNsec3SetsStay
updated_nsec3_sets_stay octets_of origin old prerequisites changes signing plan parameters is_nsec3 p stands apart =
    let m = before octets_of origin old prerequisites changes signing plan p in
    let n = after octets_of origin old prerequisites changes signing plan p in
    let by = made_by octets_of origin old prerequisites changes signing plan p in
    let all = signers octets_of origin old prerequisites changes signing plan p in
    secured_sets_stay by signing.request.inception origin all m n parameters stands
    (soa octets_of origin old prerequisites changes signing plan p)
    (no_nsec octets_of origin old prerequisites changes signing plan p) apart
    (subst (λ (k : NxProofKind). IsSecured by signing.request.inception origin all (denied_by k origin m) n) is_nsec3 (secured octets_of origin old prerequisites changes signing plan p))
