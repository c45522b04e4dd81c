-- What is told of a plan that isn't begun, by what is wrong with what is given
use Rattle.std.proofs.Common.{◌≡◌, ◌⊎◌, ℕ, List, inl, inr, sym, subst, Ok}
use Rattle.std.specs.Prelude.{None, Some, IsErr}
use Rattle.std.specs.List.{find}
use Rattle.zone_proto.specs.declared.nx_proof_kind.NxProofKind.{NxProofKind}
use Rattle.zone_proto.specs.declared.rdata.signing.DNSKEY.{DNSKEY}
use Rattle.zone_proto.specs.Names.{Name, lower}
use Rattle.zone_database.specs.declared.zone.Zone.{Zone}
use Rattle.zone_database.specs.Calls.{origin_of}
use Rattle.zone_database.specs.Databases.{begins_at}
use Rattle.held_plans.specs.Keys.{AreKeys, AreNoKeys}
use Rattle.held_plans.specs.PlanStates.{PlanState}
use Rattle.plan_calls.specs.declared.outcome.PlanOutcome.{PlanOutcome}
use Rattle.plan_calls.specs.declared.outcome.PlanOutcome.TheVariants as outcome
use Rattle.plan_calls.specs.declared.signing.Signing.{Signing}
use Rattle.plan_calls.specs.Beginning.{AreGiven, IsBegun, IsPlanOf, IsRefused, IsUnplanned}
use Rattle.plan_calls.specs.Finishing.{IsChanged, IsUnfinished, IsUnfinishedBy}
use Rattle.plan_calls.specs.Signings.{kind_of}

module _ (zs : List Zone) (origin keys : List ℕ) (how : Signing) (salt : List ℕ) where
  abbrev refused : PlanOutcome → Type 0
  refused = IsRefused zs origin keys how salt

  told : (o : PlanOutcome) (end : PlanOutcome) (wrong : Type 0) → (wrong → refused end) → (o ≡ outcome.NoMemory) ⊎ ((o ≡ end) × wrong) → refused o
  told o end wrong so (inl e) = subst refused (sym e) tt
  told o end wrong so (inr w) = subst refused (sym w.0) (so w.1)

  pub unnamed : (o : PlanOutcome) → (o ≡ outcome.NoMemory) ⊎ ((o ≡ outcome.BadName) × IsErr (origin_of origin)) → refused o
  unnamed o = told o outcome.BadName (IsErr (origin_of origin)) (λ w. w)

  pub unkeyed : (o : PlanOutcome) → (o ≡ outcome.NoMemory) ⊎ ((o ≡ outcome.BadKeys) × AreNoKeys keys) → refused o
  unkeyed o = told o outcome.BadKeys (AreNoKeys keys) (λ w. w)

  pub undenied : (o : PlanOutcome) → (o ≡ outcome.NoMemory) ⊎ ((o ≡ outcome.BadDenial) × (kind_of how salt ≡ None)) → refused o
  undenied o = told o outcome.BadDenial (kind_of how salt ≡ None) (λ w. w)

  pub no_zone : (name : Name) → origin_of origin ≡ Ok name → find (begins_at (lower name)) zs ≡ None → refused outcome.NoZone
  no_zone name is none = (name, is, none)

  given : (name : Name) (z : Zone) (ks : List DNSKEY) (kind : NxProofKind) → origin_of origin ≡ Ok name → find (begins_at (lower name)) zs ≡ Some z → AreKeys keys ks → kind_of how salt ≡ Some kind
      → AreGiven zs origin keys how salt z ks kind
  given name z ks kind is found are of = record { has_zone = (name, is, found); has_keys = are; has_denial = of }

  pub begun : (name : Name) (z : Zone) (ks : List DNSKEY) (kind : NxProofKind) (p : PlanState) → origin_of origin ≡ Ok name → find (begins_at (lower name)) zs ≡ Some z → AreKeys keys ks
      → kind_of how salt ≡ Some kind → IsPlanOf z ks how kind p → IsBegun zs origin keys how salt p
  begun name z ks kind p is found are of plan = (z, ks, kind, given name z ks kind is found are of, plan)

  pub unplanned : (name : Name) (z : Zone) (ks : List DNSKEY) (kind : NxProofKind) (o : PlanOutcome) → origin_of origin ≡ Ok name → find (begins_at (lower name)) zs ≡ Some z → AreKeys keys ks
      → kind_of how salt ≡ Some kind → IsUnplanned z ks how kind o → refused o
  unplanned name z ks kind o is found are of un = wrong o (given name z ks kind is found are of) un
    where
      wrong : (o : PlanOutcome) → AreGiven zs origin keys how salt z ks kind → IsUnplanned z ks how kind o → refused o
      wrong outcome.Done all is = absurd is
      wrong outcome.Closed all is = absurd is
      wrong outcome.BadName all is = absurd is
      wrong outcome.NoMemory all is = tt
      wrong outcome.NoRoom all is = absurd is
      wrong outcome.NoZone all is = absurd is
      wrong outcome.NoPlan all is = absurd is
      wrong outcome.BadKeys all is = absurd is
      wrong outcome.BadDenial all is = absurd is
      wrong (outcome.Unplanned f) all is = (z, ks, kind, all, is)
      wrong outcome.NoMore all is = absurd is
      wrong outcome.ZoneChanged all is = absurd is
      wrong (outcome.Unfinished f) all is = absurd is

module _ (p : PlanState) (zs : List Zone) where
  pub changed : (o : PlanOutcome) → IsChanged p zs o → IsUnfinished p zs o
  changed outcome.Done is = absurd is
  changed outcome.Closed is = absurd is
  changed outcome.BadName is = absurd is
  changed outcome.NoMemory is = tt
  changed outcome.NoRoom is = absurd is
  changed outcome.NoZone is = is
  changed outcome.NoPlan is = absurd is
  changed outcome.BadKeys is = absurd is
  changed outcome.BadDenial is = absurd is
  changed (outcome.Unplanned f) is = absurd is
  changed outcome.NoMore is = absurd is
  changed outcome.ZoneChanged is = is
  changed (outcome.Unfinished f) is = absurd is

  pub unfinished : (o : PlanOutcome) → IsUnfinishedBy p o → IsUnfinished p zs o
  unfinished outcome.Done is = absurd is
  unfinished outcome.Closed is = absurd is
  unfinished outcome.BadName is = absurd is
  unfinished outcome.NoMemory is = tt
  unfinished outcome.NoRoom is = absurd is
  unfinished outcome.NoZone is = absurd is
  unfinished outcome.NoPlan is = absurd is
  unfinished outcome.BadKeys is = absurd is
  unfinished outcome.BadDenial is = absurd is
  unfinished (outcome.Unplanned f) is = absurd is
  unfinished outcome.NoMore is = absurd is
  unfinished outcome.ZoneChanged is = absurd is
  unfinished (outcome.Unfinished f) is = is
