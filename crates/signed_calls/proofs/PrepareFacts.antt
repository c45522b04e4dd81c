-- What the call does by which an update of a signed zone is prepared, from what is done in the zones that are held
use Rattle.std.proofs.Common.{◌≡◌, ◌⊎◌, ℕ, true, List, [], inl, inr, refl, sym, subst}
use Rattle.std.specs.Prelude.{Option, Some, None}
use Rattle.arrival_calls.specs.declared.client.ClientMessage.{ClientMessage}
use Rattle.zone_proto.specs.Names.{Name}
use Rattle.zone_planning.specs.Faults.{IsUnwritableUnless}
use Rattle.zone_planning.specs.declared.fault.PlanFault.{PlanFault}
use Rattle.zone_planning.specs.declared.fault.PlanFault.TheVariants as fault
use Rattle.zone_database.specs.declared.database.ZoneDatabase.{ZoneDatabase}
use Rattle.zone_database.specs.declared.outcome.Outcome.TheVariants.{NoMemory}
use Rattle.zone_database.specs.declared.zone.Zone.{Zone}
use Rattle.zone_database.specs.Databases.{zones_in}
use Rattle.held_plans.specs.Asking.{AreSignable}
use Rattle.held_plans.specs.PlanStates.{PlanState}
use Rattle.held_updates.specs.declared.access.UpdateAccess.{UpdateAccess}
use Rattle.held_updates.specs.declared.planned.PlannedUpdate.{PlannedUpdate}
use Rattle.held_updates.specs.declared.planned.UpdatedZone.{UpdatedZone}
use Rattle.held_updates.specs.Journaling.{IsPlanJournaled}
use Rattle.journal_calls.specs.declared.outcome.JournalOutcome.{JournalOutcome}
use Rattle.journal_calls.specs.declared.outcome.JournalOutcome.TheVariants.{Usual}
use Rattle.journal_calls.specs.Plans.{GivesPlan, TellsPlan}
use Rattle.plan_calls.specs.declared.outcome.PlanOutcome.{PlanOutcome}
use Rattle.plan_calls.specs.declared.outcome.PlanOutcome.TheVariants.{Unplanned}
use Rattle.plan_calls.specs.declared.signing.Signing.{Signing as How}
use Rattle.plan_calls.specs.declared.signing_plan.PlannedZone.TheVariants.{Version}
use Rattle.plan_calls.specs.declared.signing_plan.SigningPlan.{SigningPlan}
use Rattle.plan_calls.specs.SigningPlans.{whole}
use Rattle.update_denials.specs.declared.preparing.Prepared.{Prepared}
use Rattle.update_denials.specs.declared.preparing.Signing.{Signing}
use Rattle.update_signing.specs.declared.answering.SignedReply.{SignedReply}
use Rattle.update_signing.specs.declared.answering.SignedReply.TheVariants as reply
use Rattle.zone_update.specs.declared.refusal.Refusal.{Refusal}
use Rattle.signed_updates.specs.declared.beginning.SignedPlan.{SignedPlan}
use Rattle.signed_updates.specs.declared.beginning.SignedPlan.TheVariants as begun
use Rattle.signed_updates.specs.Beginning.{Begins, IfPlanned}
use Rattle.signed_versions.specs.Asking.{IsAskedFor}
use Rattle.signed_versions.specs.Versions.{VersionState}
use Rattle.held_plans.specs.Holding.{made_plan}
use Rattle.signed_calls.specs.declared.outcome.PrepareOutcome.{PrepareOutcome}
use Rattle.signed_calls.specs.declared.outcome.PrepareOutcome.TheVariants.{Update, Plan}
use Rattle.signed_calls.specs.declared.signed_zone.SignedZone.{SignedZone}
use Rattle.signed_calls.specs.Given.{IsGiven, IsNotGiven}
use Rattle.signed_calls.specs.Versions.{version_plan}
use Rattle.signed_calls.specs.Preparing.{ends_by, GivesSigning, IsSilent, PreparesByAccess, PreparesGiven, PreparesHeld, PreparesWhole, PreparesZones, TellsReply, TellsSigned, Told}

module _ (told : Told) (update : Option UpdatedZone) (plan : Option SigningPlan) where
  -- ---- what handles hold

  module _ (m : ClientMessage) (z : SignedZone) (how : How) (outcome : PrepareOutcome) where
    pub by_zones : (access : Option UpdateAccess) (zones : Option ZoneDatabase) (c : ZoneDatabase) → zones ≡ Some c → PreparesByAccess access m z how (zones_in c) outcome told update plan
        → PreparesHeld access m z how zones outcome told update plan
    by_zones access zones c is d = subst (λ (x : Option ZoneDatabase). PreparesHeld access m z how x outcome told update plan) (sym is) d

    pub by_access : (kept : Option UpdateAccess) (access : UpdateAccess) (zs : List Zone) → kept ≡ Some access → PreparesGiven access m z how zs outcome told update plan
        → PreparesByAccess kept m z how zs outcome told update plan
    by_access kept access zs is d = subst (λ (k : Option UpdateAccess). PreparesByAccess k m z how zs outcome told update plan) (sym is) d

    -- ---- what is given

    pub by_given : (access : UpdateAccess) (zs : List Zone) (origin : Name) (signing : Signing) → IsGiven z how origin signing
        → PreparesZones access origin signing m zs outcome told update plan → PreparesGiven access m z how zs outcome told update plan
    by_given access zs origin signing given d = inr (origin, signing, given, d)

  pub not_given : (access : UpdateAccess) (m : ClientMessage) (z : SignedZone) (how : How) (zs : List Zone) (e : PlanOutcome) → IsNotGiven z how e → IsSilent told → update ≡ None → plan ≡ None
      → PreparesGiven access m z how zs (Plan e) told update plan
  not_given access m z how zs e wrong silent none empty = inl (e, wrong, (refl, silent, none, empty))

  -- ---- a message

  module _ (access : UpdateAccess) (origin : Name) (signing : Signing) (m : ClientMessage) (zs : List Zone) where
    pub was_begun : (outcome : PrepareOutcome) (x : SignedPlan) (octets : List ℕ) → Begins access origin signing m.moment m.octets.now zs x octets → IfPlanned (IsPlanJournaled true zs) x
        → TellsSigned origin x octets outcome told update plan → PreparesWhole access origin signing m zs outcome told update plan
    was_begun outcome x octets begins journaled tells = inr (x, octets, begins, journaled, tells)

    pub unbegun : IsSilent told → update ≡ None → plan ≡ None → PreparesWhole access origin signing m zs (Update (Usual NoMemory)) told update plan
    unbegun silent none empty = inl (refl, silent, none, empty)

    pub was_asked : (outcome : PrepareOutcome) (v : VersionState) (octets : List ℕ) → IsAskedFor access origin signing.keys.items signing.request m.moment m.octets.now zs v octets
        → GivesSigning octets (version_plan v) outcome told update plan → PreparesZones access origin signing m zs outcome told update plan
    was_asked outcome v octets asked gives = inl (v, octets, asked, gives)

    -- asking for a version left the zones as they were
    pub unasked : (outcome : PrepareOutcome) (now : List Zone) → now ≡ zs → PreparesWhole access origin signing m now outcome told update plan
        → PreparesZones access origin signing m zs outcome told update plan
    unasked outcome now same d = inr (subst (λ (x : List Zone). PreparesWhole access origin signing m x outcome told update plan) same d)

    pub unmade : IsSilent told → update ≡ None → plan ≡ None → PreparesZones access origin signing m zs (Update (Usual NoMemory)) told update plan
    unmade silent none empty = inr (unbegun silent none empty)

  -- ---- what is told of it

  module _ (origin : Name) (octets : List ℕ) where
    pub planned_told : (x : SignedPlan) (p : PlannedUpdate) (o : JournalOutcome) → x ≡ begun.Planned p → TellsPlan p octets (ends_by o told) update → plan ≡ None
        → TellsSigned origin x octets (Update o) told update plan
    planned_told x p o is tells none = subst (λ (y : SignedPlan). TellsSigned origin y octets (Update o) told update plan) (sym is) (tells, none)

    pub signed_told : (x : SignedPlan) (r : SignedReply) (outcome : PrepareOutcome) → x ≡ begun.Signed r → TellsReply origin r octets outcome told update plan
        → TellsSigned origin x octets outcome told update plan
    signed_told x r outcome is tells = subst (λ (y : SignedPlan). TellsSigned origin y octets outcome told update plan) (sym is) tells

    by_reply : (r q : SignedReply) (outcome : PrepareOutcome) → r ≡ q → TellsReply origin q octets outcome told update plan → TellsReply origin r octets outcome told update plan
    by_reply r q outcome is tells = subst (λ (y : SignedReply). TellsReply origin y octets outcome told update plan) (sym is) tells

    pub prepared_told : (r : SignedReply) (p : Prepared) (outcome : PrepareOutcome) → r ≡ reply.Prepared p
        → GivesSigning octets (whole (made_plan origin p.serial p.plan.records p.plan.keys.items)) outcome told update plan → TellsReply origin r octets outcome told update plan
    prepared_told r p outcome is gives = by_reply r (reply.Prepared p) outcome is gives

    -- a response alone, where nothing is held
    alone : (o : JournalOutcome) → update ≡ None → GivesPlan octets [] None o (ends_by o told) None → GivesPlan octets [] None o (ends_by o told) update
    alone o none gives = subst (λ (h : Option UpdatedZone). GivesPlan octets [] None o (ends_by o told) h) (sym none) gives

    pub refused_told : (r : SignedReply) (e : Refusal) (o : JournalOutcome) → r ≡ reply.Refused e → update ≡ None → plan ≡ None → GivesPlan octets [] None o (ends_by o told) None
        → TellsReply origin r octets (Update o) told update plan
    refused_told r e o is none empty gives = by_reply r (reply.Refused e) (Update o) is (alone o none gives, empty)

    pub unsigned_told : (r : SignedReply) (e : PlanFault) (o : JournalOutcome) → r ≡ reply.Unsigned e → update ≡ None → plan ≡ None → GivesPlan octets [] None o (ends_by o told) None
        → TellsReply origin r octets (Update o) told update plan
    unsigned_told r e o is none empty gives = by_reply r (reply.Unsigned e) (Update o) is (alone o none gives, empty)

    pub same_told : (r : SignedReply) (o : JournalOutcome) → r ≡ reply.Unchanged → update ≡ None → plan ≡ None → GivesPlan octets [] None o (ends_by o told) None
        → TellsReply origin r octets (Update o) told update plan
    same_told r o is none empty gives = by_reply r reply.Unchanged (Update o) is (alone o none gives, empty)

  -- ---- the plan of what is to be signed

  module _ (octets : List ℕ) where
    pub of_made : (p made : PlanState) (outcome : PrepareOutcome) → p ≡ made → GivesSigning octets (whole p) outcome told update plan → GivesSigning octets (whole made) outcome told update plan
    of_made p made outcome is gives = subst (λ (q : PlanState). GivesSigning octets (whole q) outcome told update plan) is gives

    pub of_version : (p : PlanState) (v : VersionState) (outcome : PrepareOutcome) → p ≡ (version_plan v).plan → GivesSigning octets (record { plan = p; zone = Version v }) outcome told update plan
        → GivesSigning octets (version_plan v) outcome told update plan
    of_version p v outcome is gives = subst (λ (q : PlanState). GivesSigning octets (record { plan = q; zone = Version v }) outcome told update plan) is gives

    pub unwritable : (made : SigningPlan) (f : PlanFault) → IsUnwritableUnless f (AreSignable made.plan.records) → (f ≡ fault.Memory → ⊥) → IsSilent told → update ≡ None → plan ≡ None
        → GivesSigning octets made (Plan (Unplanned f)) told update plan
    unwritable made f (inl memory) other silent none empty = absurd (other memory)
    unwritable made f (inr (is, wrong)) other silent none empty = (is, wrong, silent, none, empty)
