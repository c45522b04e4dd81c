-- Updates of the zones of a database carried out: what comes of what is planned of a message
use Rattle.std.specs.Prelude.{◌≡◌, ◌⊎◌, ◌≤◌, ◌<◌, ℕ, List, length}
use Rattle.zone_database.specs.declared.zone.Zone.{Zone}
use Rattle.zone_database.specs.Databases.{with_zone}
use Rattle.held_updates.specs.declared.access.UpdateAccess.{UpdateAccess}
use Rattle.held_updates.specs.declared.answering.UpdateAnswer.{UpdateAnswer}
use Rattle.held_updates.specs.declared.answering.UpdateAnswer.TheVariants as answer
use Rattle.held_updates.specs.declared.planned.PlannedUpdate.{PlannedUpdate}
use Rattle.held_updates.specs.declared.planned.PlannedUpdate.TheVariants as planned
use Rattle.held_updates.specs.Planning.{PlansUpdate}

-- What comes of a plan, whose response is these octets: a zone that is to take the place of another does (RFC 2136 section 3.5), if there is room for
-- the response, and else nothing changes.
abbrev pub Comes : ℕ → List ℕ → PlannedUpdate → List Zone → UpdateAnswer → List Zone → Type 0
Comes room octets planned.Other zs a new = (a ≡ answer.Other) × (new ≡ zs)
Comes room octets planned.Refused zs a new = (a ≡ answer.Refused) × (new ≡ zs)
Comes room octets planned.Unchanged zs a new = (a ≡ answer.Unchanged) × (new ≡ zs)
Comes room octets (planned.Updated u) zs a new =
    ((length octets ≤ room) × (a ≡ answer.Updated u.zone.origin) × (new ≡ with_zone u.zone zs)) ⊎ ((room < length octets) × (a ≡ answer.TooLong) × (new ≡ zs))

-- a message is answered so by the keys and the rules of a server, at a moment, with room for so many octets of a response
pub record AnswersUpdate (access : UpdateAccess) (now room : ℕ) (message : List ℕ) (zs : List Zone) (a : UpdateAnswer) (octets : List ℕ) (new : List Zone) : Type 0 where
  pub plan : PlannedUpdate
  pub plans : PlansUpdate access now message zs plan octets
  pub comes : Comes room octets plan zs a new
