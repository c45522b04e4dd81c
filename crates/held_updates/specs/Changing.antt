-- A zone of a database that an update changes, before it takes its place
use Rattle.std.specs.Prelude.{◌≡◌, ℕ, Bool, true, false, List, [], Option, Some, None, Result, Ok, Err}
use Rattle.message_reading.specs.declared.header.Header.{Header}
use Rattle.zone_proto.specs.Names.{Name}
use Rattle.zone_map.specs.Zones.{Sets, IsZone}
use Rattle.shown_zones.specs.Steps.{Step, IsStep}
use Rattle.zone_journal.specs.Journals.{IsPut}
use Rattle.zone_update.specs.Entries.{code_of}
use Rattle.zone_update.specs.declared.refusal.Refusal.{Refusal}
use Rattle.zone_update.specs.declared.refusal.Refusal.TheVariants.{Memory}
use Rattle.update_in_place.specs.declared.in_place.Changed.{Changed}
use Rattle.update_in_place.specs.Parts.{is_among, AreChanged}
use Rattle.update_answers.specs.Replies.{reply_text}
use Rattle.zone_database.specs.declared.zone.Zone.{Zone}
use Rattle.zone_database.specs.Versions.{IsAfterAny}
use Rattle.held_updates.specs.declared.planned.PlannedUpdate.{PlannedUpdate}
use Rattle.held_updates.specs.declared.planned.PlannedUpdate.TheVariants as planned
use Rattle.held_updates.specs.Planning.{RepliesTo}

-- the sets of the zone that is found; none where none is
abbrev pub records_in : Option Zone → Sets
records_in None = []
records_in (Some z) = z.inner.records

-- a change is one of the sets that some names have in the zone that is found, its origin among them
abbrev pub IsChangeAbout : Name → Option Zone → Changed → Type 0
IsChangeAbout origin found changed =
    (names : List Name) × (is_among names origin ≡ true) × (next : Sets) × AreChanged names (records_in found) next changed.before changed.after

-- so is what an update changes, if it changes anything
abbrev pub IsChangeIfAny : Name → Option Zone → Result (Option Changed) Refusal → Type 0
IsChangeIfAny origin found (Ok (Some changed)) = IsChangeAbout origin found changed
IsChangeIfAny origin found change = Unit {0}

-- ---- what its journal gets

-- a step leads from each zone to the one that a change makes of it
abbrev pub LeadsEach : Name → Changed → Step → Type 0
LeadsEach origin changed step =
    (names : List Name) (zone next : Sets) → IsZone zone → is_among names origin ≡ true → AreChanged names zone next changed.before changed.after → IsStep origin zone next step

-- octets are the frame of the entry of that step if journals are kept, and else none
abbrev pub IsFrameOf : Bool → Name → Changed → List ℕ → Type 0
IsFrameOf false origin changed octets = octets ≡ []
IsFrameOf true origin changed octets = (step : Step) × LeadsEach origin changed step × IsPut [] octets step

-- ---- the response

-- What is to come of an update that changes this of the zone that is found, and the response to it. SERVFAIL may come in its place, since a journal
-- can't take the change.
abbrev pub RepliesChanged : Option Zone → Name → Changed → Header → Bool → PlannedUpdate → List ℕ → Type 0
RepliesChanged found origin changed h has_extension (planned.Updated u) octets = (octets ≡ reply_text h 0 has_extension) × IsAfterAny origin found changed (Some u.zone)
RepliesChanged found origin changed h has_extension planned.Refused octets = octets ≡ reply_text h (code_of Memory) has_extension
RepliesChanged found origin changed h has_extension p octets = ⊥

-- the same of an update that changes so much, or nothing, or is refused
abbrev pub RepliesBy : Option Zone → Name → Result (Option Changed) Refusal → Header → Bool → PlannedUpdate → List ℕ → Type 0
RepliesBy found origin (Ok (Some changed)) h has_extension p octets = RepliesChanged found origin changed h has_extension p octets
RepliesBy found origin (Ok None) h has_extension p octets = RepliesTo (Ok None) origin h has_extension p octets
RepliesBy found origin (Err e) h has_extension p octets = RepliesTo (Err e) origin h has_extension p octets
