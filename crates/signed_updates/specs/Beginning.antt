-- What is planned of a message that may be an update of a signed zone of a database
use Rattle.std.specs.Prelude.{◌≡◌, ℕ, List, Option, Some, None, Result, Ok, Err, if◌then◌else◌}
use Rattle.std.specs.Bool.{MatchBool}
use Rattle.std.specs.List.{find}
use Rattle.message_reading.specs.declared.header.Header.{Header}
use Rattle.message_reading.specs.Headers.{header_of}
use Rattle.message_tsig.specs.declared.key.Key.{Key}
use Rattle.message_tsig.specs.declared.tsig.Tsig.{Tsig}
use Rattle.message_tsig.specs.Checking.{Checked, unsigned, malformed, refused, signed, checked_of, IsAuthentic}
use Rattle.message_tsig.specs.Keys.{are_same}
use Rattle.message_tsig.specs.Signing.{signed_message}
use Rattle.zone_proto.specs.Names.{Name, lower}
use Rattle.update_message.specs.Updates.{update_of, Parts}
use Rattle.update_message.specs.declared.message.UpdateError.{UpdateError}
use Rattle.update_denials.specs.declared.preparing.Signing.{Signing}
use Rattle.update_signing.specs.Replies.{course_for, IsSignedReply}
use Rattle.update_signing.specs.declared.answering.SignedReply.{SignedReply}
use Rattle.zone_database.specs.declared.zone.Zone.{Zone}
use Rattle.zone_database.specs.Databases.{begins_at}
use Rattle.held_updates.specs.declared.access.UpdateAccess.{UpdateAccess}
use Rattle.held_updates.specs.declared.planned.PlannedUpdate.{PlannedUpdate}
use Rattle.held_updates.specs.declared.planned.PlannedUpdate.TheVariants as planned
use Rattle.held_updates.specs.Planning.{has_expired, is_signed, is_update, outcome_among, signing_of, Plans, PlansUpdate}
use Rattle.held_updates.specs.Tables.{rules_for}
use Rattle.signed_updates.specs.declared.beginning.SignedPlan.{SignedPlan}
use Rattle.signed_updates.specs.declared.beginning.SignedPlan.TheVariants as plan

-- ---- the zone of an update

-- a zone, if it is there, hasn't expired and is signed
abbrev pub if_signed : Option Zone → Option Zone
if_signed None = None
if_signed (Some z) = if has_expired z then None else (if is_signed z then Some z else None)

-- among the zones of a database the signed one of this origin, if an update names it
abbrev pub own_zone : Name → Name → List Zone → Option Zone
own_zone origin name zs = if are_same origin name then if_signed (find (begins_at name) zs) else None

-- ---- what comes of it

-- it is planned as any other, and this holds of that plan and of the octets of the response
abbrev pub IsPlanned : (PlannedUpdate → List ℕ → Type 0) → SignedPlan → List ℕ → Type 0
IsPlanned P (plan.Planned x) octets = P x octets
IsPlanned P (plan.Signed r) octets = ⊥

-- it is one of the signed zone, and this holds of what came of it and of the octets of the response
abbrev pub IsAnswered : (SignedReply → List ℕ → Type 0) → SignedPlan → List ℕ → Type 0
IsAnswered P (plan.Planned x) octets = ⊥
IsAnswered P (plan.Signed r) octets = P r octets

-- of what is planned as any other this holds
abbrev pub IfPlanned : (PlannedUpdate → Type 0) → SignedPlan → Type 0
IfPlanned P (plan.Planned x) = P x
IfPlanned P (plan.Signed r) = Unit {0}

module _ (access : UpdateAccess) (key : Option Name) (origin : Name) (signing : Signing) (zs : List Zone) where
  -- An update that was read: of the signed zone, by its rules; or of another
  abbrev pub PlansIn : Parts → Option Zone → SignedPlan → List ℕ → Type 0
  PlansIn p None x octets = IsPlanned (Plans (outcome_among access key zs) (Ok p)) x octets
  PlansIn p (Some z) x octets =
      let name : Name = lower p.zone in
      IsAnswered (IsSignedReply name z.inner.records signing (course_for (rules_for name access.tables.entries) key name z.inner.records) p) x octets

  -- of what isn't of the form of an update nothing else is planned than elsewhere
  abbrev pub PlansRead : Result Parts UpdateError → SignedPlan → List ℕ → Type 0
  PlansRead (Ok p) x octets = PlansIn p (own_zone origin (lower p.zone) zs) x octets
  PlansRead (Err e) x octets = IsPlanned (Plans (outcome_among access key zs) (Err e)) x octets

-- ---- a message

module _ (access : UpdateAccess) (origin : Name) (signing : Signing) (now : ℕ) where
  -- an update that was found signed under a key is one of those who have the key, and the response goes out signed
  abbrev pub BeginsSigned : Tsig → Key → List ℕ → List Zone → SignedPlan → List ℕ → Type 0
  BeginsSigned t k message zs x octets =
      (plain : List ℕ) × PlansRead access (Some k.name) origin signing zs (update_of message) x plain × (octets ≡ signed_message k now (signing_of t) plain)

  -- by what its TSIG is found to be: without a right one it is planned as any other, and refused
  abbrev pub BeginsBy : List ℕ → Checked → List Zone → SignedPlan → List ℕ → Type 0
  BeginsBy message unsigned zs x octets = IsPlanned (PlansUpdate access now message zs) x octets
  BeginsBy message malformed zs x octets = IsPlanned (PlansUpdate access now message zs) x octets
  BeginsBy message (refused t e k rest) zs x octets = IsPlanned (PlansUpdate access now message zs) x octets
  BeginsBy message (signed t k rest) zs x octets = IsAuthentic access.keys.items now message t k rest × BeginsSigned t k rest zs x octets

  -- a message of another kind is left to others
  abbrev pub BeginsAs : List ℕ → Header → List Zone → SignedPlan → List ℕ → Type 0
  BeginsAs message h zs x octets =
      MatchBool (is_update h) (BeginsBy message (checked_of access.keys.items now message) zs x octets) (x ≡ plan.Planned planned.Other)

  abbrev pub BeginsHeader : List ℕ → Option (Header × List ℕ) → List Zone → SignedPlan → List ℕ → Type 0
  BeginsHeader message None zs x octets = x ≡ plan.Planned planned.Other
  BeginsHeader message (Some h) zs x octets = BeginsAs message h.0 zs x octets

  abbrev pub Begins : List ℕ → List Zone → SignedPlan → List ℕ → Type 0
  Begins message zs x octets = BeginsHeader message (header_of message) zs x octets
