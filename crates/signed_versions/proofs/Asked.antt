-- What a message asks for that is made in a version, from what the steps of the way say
use Rattle.std.proofs.Common.{◌≡◌, ℕ, true, false, List, sym, ◌∙◌, subst, Result, Ok}
use Rattle.std.specs.Prelude.{Option, Some}
use Rattle.std.specs.List.{find}
use Rattle.message_tsig.specs.declared.key.Key.{Key}
use Rattle.message_tsig.specs.declared.tsig.Tsig.{Tsig}
use Rattle.message_tsig.specs.Checking.{IsAuthentic}
use Rattle.message_tsig.specs.Signing.{signed_message}
use Rattle.zone_proto.specs.Names.{Name, lower}
use Rattle.zone_map.specs.Zones.{Sets}
use Rattle.zone_planner.specs.declared.keys.PlannedKey.{PlannedKey}
use Rattle.zone_planner.specs.declared.request.Request.{Request}
use Rattle.zone_update.specs.declared.refusal.Refusal.{Refusal}
use Rattle.update_message.specs.Updates.{parts_of, update_of}
use Rattle.update_message.specs.declared.message.UpdateMessage.{UpdateMessage}
use Rattle.update_policy.specs.declared.rule.Rule.{Rule}
use Rattle.update_permission.specs.Permissions.{updated_if_permitted}
use Rattle.update_answers.specs.Replies.{reply_text}
use Rattle.update_in_place.specs.Parts.{names_about}
use Rattle.zone_database.specs.declared.zone.Zone.{Zone}
use Rattle.zone_database.specs.Databases.{begins_at}
use Rattle.held_updates.specs.declared.access.UpdateAccess.{UpdateAccess}
use Rattle.held_updates.specs.Planning.{has_expired, is_signed, signing_of}
use Rattle.held_updates.specs.Tables.{rules_for}
use Rattle.signed_versions.specs.Asking.{IsAskedFor, IsMadeFor}
use Rattle.signed_versions.specs.Begun.{IsBegunIn}
use Rattle.signed_versions.specs.Versions.{VersionState}
use Rattle.signed_versions.specs.declared.beginning.BegunVersion.TheVariants as begun

module _ (access : UpdateAccess) (origin : Name) (keys : List PlannedKey) (request : Request) (zs : List Zone) (v : VersionState) where
  pub made_for : (key name : Name) (message octets : List ℕ) (asked : UpdateMessage) (rules : List Rule) → update_of message ≡ Ok (parts_of asked)
      → name ≡ lower asked.zone → name ≡ origin → (z : Zone) × (find (begins_at origin) zs ≡ Some z) × (has_expired z ≡ false) × (is_signed z ≡ true)
      → rules ≡ rules_for origin access.tables.entries
      → IsBegunIn origin keys request (names_about origin asked.update.changes.items) asked.update.changes.items
      (λ m. updated_if_permitted rules (Some key) origin m asked.update.prerequisites.items asked.update.changes.items) (find (begins_at origin) zs) (begun.Waiting v)
      → octets ≡ reply_text asked.header 0 asked.has_extension → IsMadeFor access origin keys request key message zs v octets
  made_for key name message octets asked rules read its same (z, stood, current, secured) table made response =
      let update : List Rule → Sets → Result (Option Sets) Refusal = λ rs m. updated_if_permitted rs (Some key) origin m asked.update.prerequisites.items asked.update.changes.items in
      let Made : List Rule → Option Zone → Type 0 = λ rs found. IsBegunIn origin keys request (names_about origin asked.update.changes.items) asked.update.changes.items (update rs) found (begun.Waiting v) in
      record {
        asked = parts_of asked;
        read = read;
        named = sym its ∙ same;
        zone = z;
        stood = stood;
        current = current;
        secured = secured;
        made = subst (λ (found : Option Zone). Made (rules_for origin access.tables.entries) found) stood (subst (λ (rs : List Rule). Made rs (find (begins_at origin) zs)) table made);
        response = response;
      }

  pub asked_for : (now : ℕ) (message octets plain rest : List ℕ) (t : Tsig) (k : Key) → IsAuthentic access.keys.items now message t k rest
      → IsMadeFor access origin keys request k.name rest zs v plain → octets ≡ signed_message k now (signing_of t) plain
      → IsAskedFor access origin keys request now message zs v octets
  asked_for now message octets plain rest t k authentic made response = record { tsig = t; key = k; rest = rest; authentic = authentic; plain = plain; made = made; response = response }
