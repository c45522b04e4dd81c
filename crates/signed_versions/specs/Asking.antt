-- An update of a signed zone of a database that a message asks for, made in the version that is to take the zone's place
use Rattle.std.specs.Prelude.{◌≡◌, ℕ, true, false, List, Some, Ok}
use Rattle.std.specs.List.{find}
use Rattle.message_tsig.specs.declared.key.Key.{Key}
use Rattle.message_tsig.specs.declared.tsig.Tsig.{Tsig}
use Rattle.message_tsig.specs.Checking.{IsAuthentic}
use Rattle.message_tsig.specs.Signing.{signed_message}
use Rattle.zone_proto.specs.Names.{Name, lower}
use Rattle.zone_planner.specs.declared.keys.PlannedKey.{PlannedKey}
use Rattle.zone_planner.specs.declared.request.Request.{Request}
use Rattle.update_message.specs.Updates.{update_of, Parts}
use Rattle.update_permission.specs.Permissions.{updated_if_permitted}
use Rattle.update_answers.specs.Replies.{reply_text}
use Rattle.update_in_place.specs.Parts.{names_about}
use Rattle.zone_database.specs.declared.zone.Zone.{Zone}
use Rattle.zone_database.specs.Databases.{begins_at}
use Rattle.held_updates.specs.declared.access.UpdateAccess.{UpdateAccess}
use Rattle.held_updates.specs.Planning.{has_expired, is_signed, signing_of}
use Rattle.held_updates.specs.Tables.{rules_for}
use Rattle.signed_versions.specs.Begun.{IsBegunOf}
use Rattle.signed_versions.specs.Versions.{VersionState}
use Rattle.signed_versions.specs.declared.beginning.BegunVersion.TheVariants as begun

module _ (access : UpdateAccess) (origin : Name) (keys : List PlannedKey) (request : Request) where
  -- A message without a TSIG, of the owner of a key, asks for an update of the zone of an origin, which is there, hasn't expired and is signed. Its rules permit that, and it is
  -- made in a version of the zone; the response says that it is carried out (RFC 2136 section 3.8).
  pub record IsMadeFor (key : Name) (message : List ℕ) (zs : List Zone) (v : VersionState) (octets : List ℕ) : Type 0 where
    pub asked : Parts
    pub read : update_of message ≡ Ok asked
    pub named : lower asked.zone ≡ origin
    pub zone : Zone
    pub stood : find (begins_at origin) zs ≡ Some zone
    pub current : has_expired zone ≡ false
    pub secured : is_signed zone ≡ true
    pub made : IsBegunOf origin keys request (names_about origin asked.changes) asked.changes
        (updated_if_permitted (rules_for origin access.tables.entries) (Some key) origin zone.inner.records asked.prerequisites asked.changes) zone (begun.Waiting v)
    pub response : octets ≡ reply_text asked.header 0 asked.has_extension

  -- A message was found signed under a key of the server, and asks for such an update; the response goes out signed (RFC 8945 section 5.3).
  pub record IsAskedFor (now : ℕ) (message : List ℕ) (zs : List Zone) (v : VersionState) (octets : List ℕ) : Type 0 where
    pub tsig : Tsig
    pub key : Key
    pub rest : List ℕ
    pub authentic : IsAuthentic access.keys.items now message tsig key rest
    pub plain : List ℕ
    pub made : IsMadeFor key.name rest zs v plain
    pub response : octets ≡ signed_message key now (signing_of tsig) plain
