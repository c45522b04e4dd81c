-- A program is told whether a zone changed, and where one did, the response is there.
use Rattle.std.proofs.Common.{◌≡◌, ◌≢◌, ◌⊎◌, ◌≤◌, ℕ, List, length, inl, inr, refl, arith}
use Rattle.std.specs.Prelude.{Option, Some, None}
use Rattle.arrival_calls.specs.declared.client.ClientMessage.{ClientMessage}
use Rattle.zone_proto.specs.Names.{Name}
use Rattle.zone_database.specs.declared.outcome.Outcome.TheVariants.{Done, NoRoom}
use Rattle.zone_database.specs.declared.zone.Zone.{Zone}
use Rattle.held_updates.proofs.Permitted.{refusals_change_nothing, updates_are_permitted}
use Rattle.held_updates.specs.declared.access.UpdateAccess.{UpdateAccess}
use Rattle.held_updates.specs.declared.answering.UpdateAnswer.{UpdateAnswer}
use Rattle.held_updates.specs.declared.answering.UpdateAnswer.TheVariants as answer
use Rattle.held_updates.specs.declared.planned.PlannedUpdate.{PlannedUpdate}
use Rattle.held_updates.specs.declared.planned.PlannedUpdate.TheVariants as planned
use Rattle.held_updates.specs.Answering.{AnswersUpdate, Comes}
use Rattle.update_calls.specs.declared.outcome.UpdateOutcome.{UpdateOutcome}
use Rattle.update_calls.specs.declared.outcome.UpdateOutcome.TheVariants.{Usual}
use Rattle.update_calls.specs.Laws.{ChangesAreTold, TellsChange, TellsNoChange}
use Rattle.update_calls.specs.Updates.{IsGivenBy, TellsAnswer, Told, UpdatesZones}

-- the response to an update that is carried out has room
has_room : (room : ℕ) (octets : List ℕ) (p : PlannedUpdate) (zs new : List Zone) (origin : Name) → Comes room octets p zs (answer.Updated origin) new → length octets ≤ room
has_room room octets planned.Other zs new origin (is, same) = absurd cc
has_room room octets planned.Refused zs new origin (is, same) = absurd cc
has_room room octets planned.Unchanged zs new origin (is, same) = absurd cc
has_room room octets (planned.Updated u) zs new origin (inl (fits, is, put)) = fits
has_room room octets (planned.Updated u) zs new origin (inr (long, is, same)) = absurd cc

-- a response that has room is given
is_done : (octets before after : List ℕ) (written : ℕ) (o : UpdateOutcome) → IsGivenBy octets o written before after → length octets ≤ length before → o ≡ Usual Done
is_done octets before after written (Usual Done) given fits = refl
is_done octets before after written (Usual NoRoom) (longer, needed, same) fits = absurd (omega (arith, longer, fits))
is_done octets before after written (Usual o) given fits = absurd given
is_done octets before after written o given fits = absurd given

module _ (access : UpdateAccess) (m : ClientMessage) (zs new : List Zone) (t : Told) where
  stays : (a : UpdateAnswer) (octets : List ℕ) → AnswersUpdate access m.moment (length t.before) m.octets.now zs a octets new → ((n : Name) → a ≢ answer.Updated n) → new ≡ zs
  stays a octets is apart = refusals_change_nothing access m.moment (length t.before) m.octets.now zs new a octets is apart

  told_answer : (a : UpdateAnswer) (octets : List ℕ) → AnswersUpdate access m.moment (length t.before) m.octets.now zs a octets new → TellsAnswer a octets t
      → TellsChange (Some access) m zs t new ⊎ TellsNoChange zs t new
  told_answer answer.Other octets is (outcome, untouched, none) = inr (none, stays answer.Other octets is (λ n e. cc))
  told_answer answer.Refused octets is (given, none) = inr (none, stays answer.Refused octets is (λ n e. cc))
  told_answer answer.Unchanged octets is (given, none) = inr (none, stays answer.Unchanged octets is (λ n e. cc))
  told_answer answer.TooLong octets is (given, none) = inr (none, stays answer.TooLong octets is (λ n e. cc))
  told_answer (answer.Updated origin) octets is (given, one) = inl (record {
    changed = one;
    done = is_done octets t.before t.after t.written t.outcome given (has_room (length t.before) octets is.plan zs new origin is.comes);
    kept = access;
    held = refl;
    origin = origin;
    updated = updates_are_permitted access m.moment (length t.before) m.octets.now zs new origin octets is;
  })

  told_zones : UpdatesZones access m zs t new → TellsChange (Some access) m zs t new ⊎ TellsNoChange zs t new
  told_zones (inl ((outcome, untouched, none), same)) = inr (none, same)
  told_zones (inr (a, octets, is, told)) = told_answer a octets is told

pub changes_are_told : ChangesAreTold
changes_are_told None m zs new t ((outcome, untouched, none), same) = inr (none, same)
changes_are_told (Some access) m zs new t u = told_zones access m zs new t u
