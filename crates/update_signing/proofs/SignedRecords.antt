-- Once a zone is signed after an update that was permitted, each set has its records that the owner of the key may not change
use Rattle.std.proofs.Common.{◌≡◌, ◌⊎◌, ℕ, ◌==◌, ◌&&◌, ◌||◌, not, Bool, true, false, cond, List, [], ◌∷◌, inl, inr, refl, sym, ap, ◌∙◌, true≢false}
use Rattle.std.specs.Prelude.{Option, Some, None, option_map, if◌then◌else◌, IsTrue}
use Rattle.std.specs.Map.{lookup}
use Rattle.std.specs.Option.{option_or}
use Rattle.zone_proto.specs.declared.nx_proof_kind.NxProofKind.{NxProofKind}
use Rattle.zone_proto.specs.declared.nx_proof_kind.NxProofKind.TheVariants as kind
use Rattle.zone_proto.specs.declared.rdata.signing.DNSKEY.{DNSKEY as KeyData}
use Rattle.zone_proto.specs.declared.record.Record.{Record}
use Rattle.zone_proto.specs.declared.rr_key.RrKey.{RrKey}
use Rattle.zone_proto.specs.Keys.{key, key_eq}
use Rattle.zone_proto.specs.Names.{Name}
use Rattle.zone_proto.specs.Sets.{RRset}
use Rattle.zone_proto.specs.Stepping.{stepped}
use Rattle.zone_proto.specs.Types.{DNSKEY, NSEC, NSEC3, NSEC3PARAM, RRSIG, SOA, is_derived}
use Rattle.zone_proto.proofs.Ordering.KeyOrder.{key_same}
use Rattle.zone_map.specs.Renewals.{with_signatures}
use Rattle.zone_map.specs.Zones.{Sets, set_at}
use Rattle.zone_trimming.specs.Trimming.{trimmed_set}
use Rattle.zone_signing.specs.Secured.{secured_set}
use Rattle.zone_keeping.specs.Keeping.{kept_lists}
use Rattle.zone_keeping.specs.Usable.{usable_keys}
use Rattle.zone_planner.specs.Keys.{keyed}
use Rattle.zone_planner.specs.Plans.{denied_by}
use Rattle.zone_planner.proofs.KeyedSets.{keyed_apart}
use Rattle.zone_planning.specs.declared.plans.Plan.{Plan}
use Rattle.zone_planning.specs.declared.signer.PlanSigner.{PlanSigner}
use Rattle.zone_planning.specs.Answering.{plans}
use Rattle.zone_planning.specs.Filling.{filled}
use Rattle.update_policy.specs.Policies.{permits}
use Rattle.update_denials.specs.declared.preparing.Signing.{Signing}
use Rattle.update_denials.specs.Prepared.{keys_of, IsPreparedOf}
use Rattle.update_signing.specs.Laws.{is_of_signing, records_of, HasNextSerial, PermittedRecordsAloneChange}
use Rattle.update_signing.proofs.Courses.{permitted_sets_alone_are_changed}

-- ---- other signatures

stay : (q : RrKey) (m : Sets) (made : List (List Record)) → records_of (lookup (key_eq q) (with_signatures m made)) ≡ records_of (lookup (key_eq q) m)
stay q [] made = refl
stay q (e ∷ m) [] = refl
stay q (e ∷ m) (signatures ∷ made) = by (key_eq q e.0) (stay q m made)
  where
    by : (b : Bool) → records_of (lookup (key_eq q) (with_signatures m made)) ≡ records_of (lookup (key_eq q) m)
        → records_of (cond b (Some (record e.1 { signatures = signatures })) (lookup (key_eq q) (with_signatures m made))) ≡ records_of (cond b (Some e.1) (lookup (key_eq q) m))
    by true h = refl
    by false h = h

-- sets that get other signatures keep their records
records_stay : (m : Sets) (made : List (List Record)) (n : Name) (t : ℕ) → records_of (set_at (with_signatures m made) n t) ≡ records_of (set_at m n t)
records_stay m made n t = stay (key n t) m made

-- ---- types that signing doesn't make

either : (a b : Bool) → a || b ≡ false → (a ≡ false) × (b ≡ false)
either false b e = (refl, e)
either true b e = absurd (true≢false e)

beside_nsec : (x of_zone : Bool) (s : RRset) (o : Option RRset) → x ≡ false → option_or (option_map trimmed_set (cond (x && of_zone) (Some s) None)) (if not x then o else None) ≡ o
beside_nsec false of_zone s o e = refl
beside_nsec true of_zone s o e = absurd (true≢false e)

beside_nsec3 : (x y at_origin : Bool) (d : Option RRset) (s : RRset) (o : Option RRset) → x ≡ false → y ≡ false
    → option_or (option_map trimmed_set (cond x d (cond (y && at_origin) (Some s) None))) (if not x then o else None) ≡ o
beside_nsec3 false false at_origin d s o e f = refl
beside_nsec3 false true at_origin d s o e f = absurd (true≢false f)
beside_nsec3 true y at_origin d s o e f = absurd (true≢false e)

-- what is no denial stands beside the denials as it did
denied_beside : (k : NxProofKind) (origin : Name) (m : Sets) (n : Name) (t : ℕ) → (t == NSEC) ≡ false → (t == NSEC3) ≡ false → (t == NSEC3PARAM) ≡ false → denied_by k origin m n t ≡ set_at m n t
denied_beside kind.Nsec origin m n t a b c = beside_nsec (t == NSEC) _ _ (set_at m n t) a
denied_beside (kind.Nsec3 algorithm salt iterations opt_out) origin m n t a b c = beside_nsec3 (t == NSEC3) (t == NSEC3PARAM) _ _ _ (set_at m n t) b c

module _ (origin : Name) (m after : Sets) (signing : Signing) (plan : Plan) (made : IsPreparedOf origin m after signing plan) (signatures : List (List ℕ)) where
  abbrev blank : Sets
  blank = made.planned.blank

  abbrev before : Sets
  before = keyed origin signing.keys.items signing.request made.bare

  abbrev signed : Sets
  signed = with_signatures plan.records (filled plan.records signatures)

  abbrev signers : List PlanSigner
  signers = made.planned.is_planned.signers

  abbrev usable : List (Option KeyData)
  usable = usable_keys (keys_of signing) (set_at m origin DNSKEY)

  -- signatures aside the sets are those of the plan without any
  as_planned : (n : Name) (t : ℕ) → records_of (set_at signed n t) ≡ records_of (set_at blank n t)
  as_planned n t =
      records_stay plan.records (filled plan.records signatures) n t
      ∙ ap (λ (x : Sets). records_of (set_at x n t)) made.planned.kept
      ∙ records_stay blank (kept_lists signing.span usable m blank) n t

  module _ (n : Name) (t : ℕ) (other : is_of_signing t ≡ false) where
    abbrev is_soa : Bool
    is_soa = key_eq (key origin SOA) (key n t)

    -- what is to be signed of such a type is what the update left
    unsigned : denied_by signing.request.nx_proof_kind origin before n t ≡ set_at after n t
    unsigned =
        let parts = either (is_derived t) (t == DNSKEY || (t == 59 || t == 60)) other in
        let signature = either (t == RRSIG) (t == NSEC || (t == NSEC3 || t == NSEC3PARAM)) parts.0 in
        let denial = either (t == NSEC) (t == NSEC3 || t == NSEC3PARAM) signature.1 in
        let hashed = either (t == NSEC3) (t == NSEC3PARAM) denial.1 in
        denied_beside signing.request.nx_proof_kind origin before n t denial.0 hashed.0 hashed.1
        ∙ keyed_apart origin signing.keys.items signing.request made.bare n t parts.1
        ∙ made.unsecured.each n t
        ∙ ap (λ (b : Bool). cond b None (set_at after n t)) parts.0

    -- it has its records, or those with the next serial
    secured : (o : Option RRset) → records_of (option_map (secured_set plans signing.request.inception (key origin SOA) signers (key n t)) o)
        ≡ option_map (λ (s : RRset). (if is_soa then stepped s else s).records) o
    secured None = refl
    secured (Some s) = refl

    records_are : records_of (set_at signed n t) ≡ option_map (λ (s : RRset). (if is_soa then stepped s else s).records) (set_at after n t)
    records_are =
        as_planned n t
        ∙ ap records_of (made.planned.is_planned.secured.each n t)
        ∙ secured (denied_by signing.request.nx_proof_kind origin before n t)
        ∙ ap (option_map (λ (s : RRset). (if is_soa then stepped s else s).records)) unsigned

    -- so it changes only where the update changed it
    goes_on : (may : Type 0) → (set_at after n t ≡ set_at m n t) ⊎ may → (records_of (set_at signed n t) ≡ records_of (set_at m n t)) ⊎ (may ⊎ HasNextSerial origin m signed n t)
    goes_on may (inr h) = inr (inl h)
    goes_on may (inl same) = by is_soa refl
      where
        with_step : (b : Bool) → is_soa ≡ b → records_of (set_at signed n t) ≡ option_map (λ (s : RRset). (if b then stepped s else s).records) (set_at m n t)
        with_step b e =
            records_are
            ∙ ap (λ (x : Bool). option_map (λ (s : RRset). (if x then stepped s else s).records) (set_at after n t)) e
            ∙ ap (option_map (λ (s : RRset). (if b then stepped s else s).records)) same

        by : (b : Bool) → is_soa ≡ b → (records_of (set_at signed n t) ≡ records_of (set_at m n t)) ⊎ (may ⊎ HasNextSerial origin m signed n t)
        by true e = inr (inr (sym (key_same (key origin SOA) (key n t) e), with_step true e))
        by false e = inl (with_step false e)

pub permitted_records_alone_change : PermittedRecordsAloneChange
permitted_records_alone_change rules requestor origin m prerequisites changes signing p signatures (after, changed, made, stood) n t other =
    goes_on origin m after signing p.plan made signatures n t other (IsTrue (permits rules requestor n t))
    (permitted_sets_alone_are_changed rules requestor origin m after prerequisites changes changed n t)
