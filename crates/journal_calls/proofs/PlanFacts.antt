-- What the calls of a program plan and commit, from what is done in the zones that are held
use Rattle.std.proofs.Common.{◌≡◌, ℕ, true, List, [], inl, inr, sym, subst}
use Rattle.std.specs.Prelude.{Option, Some, None}
use Rattle.arrival_calls.specs.declared.client.ClientMessage.{ClientMessage}
use Rattle.zone_database.specs.declared.database.ZoneDatabase.{ZoneDatabase}
use Rattle.zone_database.specs.declared.outcome.Outcome.TheVariants.{NoMemory}
use Rattle.zone_database.specs.declared.zone.Zone.{Zone}
use Rattle.zone_database.specs.Databases.{zones_in}
use Rattle.held_updates.specs.declared.access.UpdateAccess.{UpdateAccess}
use Rattle.held_updates.specs.declared.planned.PlannedUpdate.{PlannedUpdate}
use Rattle.held_updates.specs.declared.planned.PlannedUpdate.TheVariants as planned
use Rattle.held_updates.specs.declared.planned.UpdatedZone.{UpdatedZone}
use Rattle.held_updates.specs.Journaling.{IsPlanJournaled}
use Rattle.held_updates.specs.Planning.{PlansUpdate}
use Rattle.journal_calls.specs.declared.outcome.JournalOutcome.{JournalOutcome}
use Rattle.journal_calls.specs.declared.outcome.JournalOutcome.TheVariants.{Usual, NoUpdate}
use Rattle.journal_calls.specs.Plans.{CommitsHeld, CommitsZones, Ends, GivesPlan, PlansByAccess, PlansHeld, PlansZones, PlanTold, TellsPlan}

-- ---- an update is planned

module _ (p : PlannedUpdate) (octets : List ℕ) (t : PlanTold) (held : Option UpdatedZone) where
  -- what is told of a plan, by what it is
  by_plan : (q : PlannedUpdate) → p ≡ q → TellsPlan q octets t held → TellsPlan p octets t held
  by_plan q is told = subst (λ (x : PlannedUpdate). TellsPlan x octets t held) (sym is) told

  pub other_told : p ≡ planned.Other → Ends NoUpdate t held → TellsPlan p octets t held
  other_told is ended = by_plan planned.Other is ended

  -- a response alone, where nothing was held
  alone : held ≡ None → GivesPlan octets [] None t.outcome t None → GivesPlan octets [] None t.outcome t held
  alone none gives = subst (λ (h : Option UpdatedZone). GivesPlan octets [] None t.outcome t h) (sym none) gives

  pub refused_told : p ≡ planned.Refused → held ≡ None → GivesPlan octets [] None t.outcome t None → TellsPlan p octets t held
  refused_told is none gives = by_plan planned.Refused is (alone none gives)

  pub same_told : p ≡ planned.Unchanged → held ≡ None → GivesPlan octets [] None t.outcome t None → TellsPlan p octets t held
  same_told is none gives = by_plan planned.Unchanged is (alone none gives)

  pub updated_told : (u : UpdatedZone) → p ≡ planned.Updated u → GivesPlan octets u.frame.items (Some u) t.outcome t held → TellsPlan p octets t held
  updated_told u is gives = by_plan (planned.Updated u) is gives

module _ (m : ClientMessage) (t : PlanTold) (held : Option UpdatedZone) where
  pub was_planned : (access : UpdateAccess) (zs : List Zone) (p : PlannedUpdate) (octets : List ℕ) → PlansUpdate access m.moment m.octets.now zs p octets → IsPlanJournaled true zs p
      → TellsPlan p octets t held → PlansZones access m zs t held
  was_planned access zs p octets plans journaled told = inr (p, octets, plans, journaled, told)

  pub unplanned : (access : UpdateAccess) (zs : List Zone) → Ends (Usual NoMemory) t held → PlansZones access m zs t held
  unplanned access zs none = inl none

  pub by_access : (kept : Option UpdateAccess) (access : UpdateAccess) (zs : List Zone) → kept ≡ Some access → PlansZones access m zs t held → PlansByAccess kept m zs t held
  by_access kept access zs is d = subst (λ (k : Option UpdateAccess). PlansByAccess k m zs t held) (sym is) d

  pub by_zones : (access : Option UpdateAccess) (zones : Option ZoneDatabase) (c : ZoneDatabase) → zones ≡ Some c → PlansByAccess access m (zones_in c) t held → PlansHeld access m zones t held
  by_zones access zones c is d = subst (λ (z : Option ZoneDatabase). PlansHeld access m z t held) (sym is) d

-- ---- an update is committed

pub committed_zones : (u : UpdatedZone) (zones new : Option ZoneDatabase) (c after : ZoneDatabase) (o : JournalOutcome) → zones ≡ Some c → CommitsZones u (zones_in c) o (zones_in after) → new ≡ Some after
    → CommitsHeld (Some u) zones o new
committed_zones u zones new c after o is d set = subst (λ (z : Option ZoneDatabase). CommitsHeld (Some u) z o new) (sym is) (after, d, set)

pub committed_held : (held : Option UpdatedZone) (u : UpdatedZone) (zones new : Option ZoneDatabase) (o : JournalOutcome) → held ≡ Some u → CommitsHeld (Some u) zones o new → CommitsHeld held zones o new
committed_held held u zones new o is d = subst (λ (h : Option UpdatedZone). CommitsHeld h zones o new) (sym is) d
