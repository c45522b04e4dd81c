-- Laws of updates of signed zones of a database
use Rattle.std.specs.Prelude.{◌≡◌, ◌⊎◌, ℕ, true, false, List, [], ◌∷◌, ◌++◌, Some, IsTrue}
use Rattle.std.specs.List.{find}
use Rattle.message_tsig.specs.declared.key.Key.{Key}
use Rattle.zone_proto.specs.Names.{Name}
use Rattle.zone_map.specs.Renewals.{with_signatures}
use Rattle.zone_map.specs.Zones.{Sets, set_at}
use Rattle.zone_planning.specs.Filling.{filled}
use Rattle.zone_difference.specs.Laws.{last_of}
use Rattle.zone_journal.specs.Journals.{IsJournal}
use Rattle.update_policy.specs.Policies.{permits}
use Rattle.update_message.specs.Updates.{Parts}
use Rattle.update_denials.specs.Prepared.{IsPrepared}
use Rattle.update_denials.specs.declared.preparing.Prepared.{Prepared}
use Rattle.update_denials.specs.declared.preparing.Signing.{Signing}
use Rattle.update_signing.specs.Laws.{is_of_signing, records_of, HasNextSerial}
use Rattle.update_signing.specs.declared.answering.SignedReply.TheVariants as reply
use Rattle.zone_database.specs.declared.zone.Zone.{Zone}
use Rattle.zone_database.specs.Databases.{begins_at}
use Rattle.held_updates.specs.declared.access.UpdateAccess.{UpdateAccess}
use Rattle.held_updates.specs.declared.planned.UpdatedZone.{UpdatedZone}
use Rattle.held_updates.specs.Journaling.{IsJournaled}
use Rattle.held_updates.specs.Laws.{IsFoundSigned}
use Rattle.held_updates.specs.Planning.{has_expired, is_signed}
use Rattle.held_updates.specs.Tables.{rules_for}
use Rattle.signed_updates.specs.Beginning.{Begins}
use Rattle.signed_updates.specs.declared.beginning.SignedPlan.TheVariants as plan

-- An update that a message asks for is prepared in the signed zone of an origin: the message was found signed under a key, and of the zone, once it
-- is signed, each set has its records that the rules don't permit the owner of this key to change.
pub record IsPreparedFor (access : UpdateAccess) (origin : Name) (signing : Signing) (now : ℕ) (message : List ℕ) (zs : List Zone) (p : Prepared) : Type 0 where
  pub key : Key
  pub authentic : IsFoundSigned access.keys.items now message key
  pub zone : Zone
  pub stood : find (begins_at origin) zs ≡ Some zone
  pub current : has_expired zone ≡ false
  pub secured : is_signed zone ≡ true
  pub asked : Parts
  pub prepared : IsPrepared origin zone.inner.records asked.prerequisites asked.changes signing p.plan
  pub records : (signatures : List (List ℕ)) (n : Name) (t : ℕ) → is_of_signing t ≡ false
      → (records_of (set_at (with_signatures p.plan.records (filled p.plan.records signatures)) n t) ≡ records_of (set_at zone.inner.records n t))
      ⊎ (IsTrue (permits (rules_for origin access.tables.entries) key.name n t)
      ⊎ HasNextSerial origin zone.inner.records (with_signatures p.plan.records (filled p.plan.records signatures)) n t)

abbrev pub PreparedArePermitted : Type 0
PreparedArePermitted = (access : UpdateAccess) (origin : Name) (signing : Signing) (now : ℕ) (message : List ℕ) (zs : List Zone) (p : Prepared) (octets : List ℕ)
    → Begins access origin signing now message zs (plan.Signed (reply.Prepared p)) octets → IsPreparedFor access origin signing now message zs p

-- the frame of a finished zone, put behind the journal of the versions that led to the one before, makes it the journal of one more
abbrev pub FinishedGrowJournals : Type 0
FinishedGrowJournals = (z : Zone) (u : UpdatedZone) (p : Prepared) (signatures : List (List ℕ)) (a : Sets) (bs : List Sets) (journal : List ℕ) → IsJournaled true (Some z) u
    → u.zone.inner.records ≡ with_signatures p.plan.records (filled p.plan.records signatures)
    → IsJournal u.zone.origin a bs journal → last_of a bs ≡ z.inner.records
    → IsJournal u.zone.origin a (bs ++ with_signatures p.plan.records (filled p.plan.records signatures) ∷ []) (journal ++ u.frame.items)
