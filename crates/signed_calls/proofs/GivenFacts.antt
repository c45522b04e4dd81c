-- What is told of a signed zone that is given, by what isn't so
use Rattle.std.proofs.Common.{◌≡◌, ◌⊎◌, ◌∙◌, ℕ, List, inl, inr, sym, ap, subst, Ok}
use Rattle.std.specs.Prelude.{None, Some, IsErr}
use Rattle.zone_proto.specs.declared.nx_proof_kind.NxProofKind.{NxProofKind}
use Rattle.zone_proto.specs.declared.rdata.signing.DNSKEY.{DNSKEY}
use Rattle.zone_proto.specs.Names.{Name, lower}
use Rattle.zone_planner.specs.declared.request.Request.{Request}
use Rattle.zone_database.specs.Calls.{origin_of}
use Rattle.held_plans.specs.Keys.{AreKeys, AreNoKeys}
use Rattle.plan_calls.specs.declared.outcome.PlanOutcome.{PlanOutcome}
use Rattle.plan_calls.specs.declared.outcome.PlanOutcome.TheVariants.{BadName, NoMemory, BadKeys, BadDenial}
use Rattle.plan_calls.specs.declared.signing.Signing.{Signing as How}
use Rattle.plan_calls.specs.Beginning.{planned_keys}
use Rattle.plan_calls.specs.Signings.{kind_of, request_of}
use Rattle.update_denials.specs.declared.preparing.Signing.{Signing}
use Rattle.signed_calls.specs.declared.signed_zone.SignedZone.{SignedZone}
use Rattle.signed_calls.specs.Given.{span_of, IsGiven, IsNotGiven}

module _ (z : SignedZone) (how : How) where
  told : (o end : PlanOutcome) (wrong : Type 0) → (wrong → IsNotGiven z how end) → (o ≡ NoMemory) ⊎ ((o ≡ end) × wrong) → IsNotGiven z how o
  told o end wrong so (inl e) = subst (IsNotGiven z how) (sym e) tt
  told o end wrong so (inr w) = subst (IsNotGiven z how) (sym w.0) (so w.1)

  pub unnamed : (o : PlanOutcome) → (o ≡ NoMemory) ⊎ ((o ≡ BadName) × IsErr (origin_of z.origin.now)) → IsNotGiven z how o
  unnamed o = told o BadName (IsErr (origin_of z.origin.now)) (λ w. w)

  pub unkeyed : (o : PlanOutcome) → (o ≡ NoMemory) ⊎ ((o ≡ BadKeys) × AreNoKeys z.keys.now) → IsNotGiven z how o
  unkeyed o = told o BadKeys (AreNoKeys z.keys.now) (λ w. w)

  pub undenied : (o : PlanOutcome) → (o ≡ NoMemory) ⊎ ((o ≡ BadDenial) × (kind_of how z.salt.now ≡ None)) → IsNotGiven z how o
  undenied o = told o BadDenial (kind_of how z.salt.now ≡ None) (λ w. w)

  pub all_given : (origin name : Name) (s : Signing) (ks : List DNSKEY) (kind : NxProofKind) → origin_of z.origin.now ≡ Ok name → AreKeys z.keys.now ks → kind_of how z.salt.now ≡ Some kind
      → origin ≡ lower name → s.keys.items ≡ planned_keys how ks → s.request ≡ request_of how kind → s.span ≡ span_of z → IsGiven z how origin s
  all_given origin name s ks kind named keyed denied its planned asked spans =
      let same : kind ≡ s.request.nx_proof_kind = sym (ap (λ (r : Request). r.nx_proof_kind) asked) in
      record {
        named = (name, named, its);
        keys = (ks, keyed, planned);
        denial = denied ∙ ap Some same;
        request = asked ∙ ap (request_of how) same;
        span = spans;
      }
