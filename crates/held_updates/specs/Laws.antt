-- Laws of updates of the zones of a database
use Rattle.std.specs.Prelude.{◌≡◌, ◌≢◌, ◌⊎◌, ℕ, true, false, List, [], ◌∷◌, ◌++◌, Some, IsTrue}
use Rattle.std.specs.List.{find}
use Rattle.message_tsig.specs.declared.key.Key.{Key}
use Rattle.message_tsig.specs.declared.tsig.Tsig.{Tsig}
use Rattle.message_tsig.specs.Checking.{IsAuthentic}
use Rattle.message_tsig.specs.Keys.{are_same}
use Rattle.zone_proto.specs.Names.{Name}
use Rattle.zone_map.specs.Zones.{Sets, set_at}
use Rattle.zone_difference.specs.Laws.{last_of}
use Rattle.zone_journal.specs.Journals.{IsJournal}
use Rattle.zone_update.specs.Updates.{zone_serial}
use Rattle.update_policy.specs.Policies.{permits}
use Rattle.update_permission.specs.PermittedChanges.{HasNextSerial}
use Rattle.zone_database.specs.declared.zone.Zone.{Zone}
use Rattle.zone_database.specs.Databases.{begins_at}
use Rattle.zone_database.specs.Zones.{zone_of_records}
use Rattle.held_updates.specs.declared.access.UpdateAccess.{UpdateAccess}
use Rattle.held_updates.specs.declared.answering.UpdateAnswer.{UpdateAnswer}
use Rattle.held_updates.specs.declared.answering.UpdateAnswer.TheVariants as answer
use Rattle.held_updates.specs.declared.committing.Commit.TheVariants as commit
use Rattle.held_updates.specs.declared.planned.PlannedUpdate.TheVariants as planned
use Rattle.held_updates.specs.declared.planned.UpdatedZone.{UpdatedZone}
use Rattle.held_updates.specs.Answering.{AnswersUpdate}
use Rattle.held_updates.specs.Committing.{Commits}
use Rattle.held_updates.specs.Journaling.{IsJournaled}
use Rattle.held_updates.specs.Planning.{has_expired, is_signed, PlansUpdate}
use Rattle.held_updates.specs.Tables.{rules_for}

-- a message was found signed under a key of these at this moment
abbrev pub IsFoundSigned : List Key → ℕ → List ℕ → Key → Type 0
IsFoundSigned keys now message k = (t : Tsig) × (rest : List ℕ) × IsAuthentic keys now message t k rest

-- A zone after an update that a message asks for: this was found signed under a key, the zone was there, has neither expired nor is signed, and each
-- of its sets stands as it did, or the rules of the zone permit the owner of the key to change it, or it is the SOA with the next serial. The
-- serial is another than before.
pub record IsPermitted (access : UpdateAccess) (now : ℕ) (message : List ℕ) (zs : List Zone) (u : UpdatedZone) : Type 0 where
  pub key : Key
  pub authentic : IsFoundSigned access.keys.items now message key
  pub zone : Zone
  pub stood : find (begins_at u.zone.origin) zs ≡ Some zone
  pub current : has_expired zone ≡ false
  pub bare : is_signed zone ≡ false
  pub after : Sets
  pub made : u.zone ≡ zone_of_records u.zone.origin after
  pub sets : (n : Name) (t : ℕ)
      → (set_at after n t ≡ set_at zone.inner.records n t)
      ⊎ (IsTrue (permits (rules_for u.zone.origin access.tables.entries) key.name n t) ⊎ HasNextSerial u.zone.origin zone.inner.records after n t)
  pub serial : (number : ℕ) → zone_serial u.zone.origin zone.inner.records ≡ Some number → zone_serial u.zone.origin after ≢ Some number

abbrev pub PlansArePermitted : Type 0
PlansArePermitted = (access : UpdateAccess) (now : ℕ) (message : List ℕ) (zs : List Zone) (u : UpdatedZone) (octets : List ℕ)
    → PlansUpdate access now message zs (planned.Updated u) octets → IsPermitted access now message zs u

-- The zone of an origin is one after such an update, and each other zone is as it was.
pub record ChangesZone (access : UpdateAccess) (now : ℕ) (message : List ℕ) (zs : List Zone) (origin : Name) (new : List Zone) : Type 0 where
  pub update : UpdatedZone
  pub its : update.zone.origin ≡ origin
  pub permitted : IsPermitted access now message zs update
  pub stands : find (begins_at origin) new ≡ Some update.zone
  pub others : (n : Name) → are_same origin n ≡ false → find (begins_at n) new ≡ find (begins_at n) zs

abbrev pub UpdatesArePermitted : Type 0
UpdatesArePermitted = (access : UpdateAccess) (now room : ℕ) (message : List ℕ) (zs new : List Zone) (origin : Name) (octets : List ℕ)
    → AnswersUpdate access now room message zs (answer.Updated origin) octets new → ChangesZone access now message zs origin new

-- what is refused, left to others, changes nothing or has too long a response, changes no zone
abbrev pub RefusalsChangeNothing : Type 0
RefusalsChangeNothing = (access : UpdateAccess) (now room : ℕ) (message : List ℕ) (zs new : List Zone) (a : UpdateAnswer) (octets : List ℕ)
    → AnswersUpdate access now room message zs a octets new → ((n : Name) → a ≢ answer.Updated n) → new ≡ zs

-- Where a zone after an update is put, it is the zone of its origin, each other zone is as it was, and the zone that stood there is the one that
-- was updated, as far as their serials tell.
pub record IsCommitted (u : UpdatedZone) (zs new : List Zone) : Type 0 where
  pub zone : Zone
  pub stood : find (begins_at u.zone.origin) zs ≡ Some zone
  pub serial : zone_serial zone.origin zone.inner.records ≡ u.replaces
  pub stands : find (begins_at u.zone.origin) new ≡ Some u.zone
  pub others : (n : Name) → are_same u.zone.origin n ≡ false → find (begins_at n) new ≡ find (begins_at n) zs

abbrev pub CommitsReplaceOne : Type 0
CommitsReplaceOne = (u : UpdatedZone) (zs new : List Zone) → Commits u zs commit.Done new → IsCommitted u zs new

-- The frame of a zone after an update, put behind the journal of the versions that led to the one before, makes it the journal of one more.
abbrev pub JournalsGrowByUpdates : Type 0
JournalsGrowByUpdates = (z : Zone) (u : UpdatedZone) (a : Sets) (bs : List Sets) (journal : List ℕ) → IsJournaled true (Some z) u
    → IsJournal u.zone.origin a bs journal → last_of a bs ≡ z.inner.records
    → IsJournal u.zone.origin a (bs ++ u.zone.inner.records ∷ []) (journal ++ u.frame.items)
