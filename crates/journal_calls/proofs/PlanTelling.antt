-- A program is told whether there is an update to commit, and then has what its journal gets.
use Rattle.std.proofs.Common.{◌≡◌, ◌⊎◌, ◌<◌, ℕ, true, List, [], length, inl, inr, refl, sym, subst, arith}
use Rattle.std.specs.Prelude.{Option, Some, None}
use Rattle.std.specs.List.{find}
use Rattle.arrival_calls.specs.declared.client.ClientMessage.{ClientMessage}
use Rattle.zone_database.specs.declared.outcome.Outcome.TheVariants.{Done, NoMemory, NoRoom}
use Rattle.zone_database.specs.declared.zone.Zone.{Zone}
use Rattle.zone_database.specs.Databases.{begins_at}
use Rattle.held_updates.proofs.Permitted.{plans_are_permitted}
use Rattle.held_updates.specs.declared.access.UpdateAccess.{UpdateAccess}
use Rattle.held_updates.specs.declared.planned.PlannedUpdate.TheVariants as planned
use Rattle.held_updates.specs.declared.planned.UpdatedZone.{UpdatedZone}
use Rattle.held_updates.specs.Journaling.{IsFrameFrom, IsJournaled}
use Rattle.held_updates.specs.Planning.{PlansUpdate}
use Rattle.journal_calls.specs.declared.outcome.JournalOutcome.{JournalOutcome}
use Rattle.journal_calls.specs.declared.outcome.JournalOutcome.TheVariants.{Usual}
use Rattle.journal_calls.specs.Laws.{PlansAreTold, TellsNoPlan, TellsPlanned}
use Rattle.journal_calls.specs.Plans.{GivesPlan, PlansZones, PlanTold}

-- a frame has octets
is_some : (before : Option Zone) (after : Zone) (octets : List ℕ) → IsFrameFrom before after octets → 0 < length octets
is_some None after octets f = absurd f
is_some (Some z) after octets f = subst (λ (o : List ℕ). 0 < length o) (sym f.put.put) (omega arith)

module _ (access : UpdateAccess) (m : ClientMessage) (zs : List Zone) (t : PlanTold) (held : Option UpdatedZone) (octets : List ℕ) where
  no_plan : (o : JournalOutcome) → t.outcome ≡ o → GivesPlan octets [] None o t held → TellsNoPlan t held
  no_plan (Usual Done) is ((response, frame), none) = (none, inl frame.0)
  no_plan (Usual NoRoom) is (long, none) = (none, inr is)
  no_plan (Usual NoMemory) is (untouched, none) = (none, inl untouched.1.0)
  no_plan (Usual o) is gives = absurd gives
  no_plan o is gives = absurd gives

  updated : (u : UpdatedZone) → PlansUpdate access m.moment m.octets.now zs (planned.Updated u) octets → IsJournaled true (find (begins_at u.zone.origin) zs) u → (o : JournalOutcome)
      → t.outcome ≡ o → GivesPlan octets u.frame.items (Some u) o t held → ((u : UpdatedZone) × (held ≡ Some u) × TellsPlanned (Some access) m zs t u) ⊎ TellsNoPlan t held
  updated u plans journaled (Usual Done) is ((response, frame), kept) =
      inl (
        u,
        kept,
        record {
          done = is;
          kept = access;
          held = refl;
          permitted = plans_are_permitted access m.moment m.octets.now zs u octets plans;
          journaled = journaled;
          frame = frame;
          longer = subst (λ (k : ℕ). 0 < k) (sym frame.0) (is_some (find (begins_at u.zone.origin) zs) u.zone u.frame.items journaled.1);
        },
      )
  updated u plans journaled (Usual NoRoom) is (long, none) = inr (none, inr is)
  updated u plans journaled (Usual NoMemory) is (untouched, none) = inr (none, inl untouched.1.0)
  updated u plans journaled (Usual o) is gives = absurd gives
  updated u plans journaled o is gives = absurd gives

told : (access : UpdateAccess) (m : ClientMessage) (zs : List Zone) (t : PlanTold) (held : Option UpdatedZone) → PlansZones access m zs t held
    → ((u : UpdatedZone) × (held ≡ Some u) × TellsPlanned (Some access) m zs t u) ⊎ TellsNoPlan t held
told access m zs t held (inl (outcome, untouched, none)) = inr (none, inl untouched.1.0)
told access m zs t held (inr (planned.Other, octets, plans, journaled, (outcome, untouched, none))) = inr (none, inl untouched.1.0)
told access m zs t held (inr (planned.Refused, octets, plans, journaled, gives)) = inr (no_plan access m zs t held octets t.outcome refl gives)
told access m zs t held (inr (planned.Unchanged, octets, plans, journaled, gives)) = inr (no_plan access m zs t held octets t.outcome refl gives)
told access m zs t held (inr (planned.Updated u, octets, plans, journaled, gives)) = updated access m zs t held octets u plans journaled t.outcome refl gives

pub plans_are_told : PlansAreTold
plans_are_told None m zs t held (outcome, untouched, none) = inr (none, inl untouched.1.0)
plans_are_told (Some access) m zs t held p = told access m zs t held p
