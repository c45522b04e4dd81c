-- What is planned of a message that may be an update of one of the zones of a database, for those who have a key and whom the rules of the zone
-- permit it
use Rattle.std.specs.Prelude.{◌≡◌, ◌==◌, ◌&&◌, ◌||◌, not, ℕ, Bool, false, List, Option, Some, None, is_some, Result, Ok, Err, if◌then◌else◌}
use Rattle.std.specs.Bool.{MatchBool}
use Rattle.std.specs.List.{find}
use Rattle.message_reading.specs.declared.header.Header.{Header}
use Rattle.message_reading.specs.Headers.{header_of}
use Rattle.message_tsig.specs.declared.key.Key.{Key}
use Rattle.message_tsig.specs.declared.tsig.Tsig.{Tsig}
use Rattle.message_tsig.specs.Checking.{Checked, unsigned, malformed, refused, signed, checked_of, IsAuthentic}
use Rattle.message_tsig.specs.Signing.{Signing, of_request, refused_text, signed_message}
use Rattle.zone_proto.specs.Names.{Name, lower}
use Rattle.zone_proto.specs.Types.{DNSKEY, SOA}
use Rattle.zone_map.specs.Zones.{Sets, owns}
use Rattle.update_policy.specs.declared.rule.Rule.{Rule}
use Rattle.zone_update.specs.declared.entry.Entry.{Entry}
use Rattle.zone_update.specs.declared.refusal.Refusal.{Refusal}
use Rattle.zone_update.specs.declared.refusal.Refusal.TheVariants.{FormErr, Memory, NotAuth, Refused}
use Rattle.zone_update.specs.Entries.{code_of}
use Rattle.update_message.specs.Updates.{update_of, Parts}
use Rattle.update_message.specs.declared.message.UpdateError.{UpdateError}
use Rattle.update_message.specs.declared.message.UpdateError.TheVariants as unread
use Rattle.update_permission.specs.Permissions.{updated_if_permitted}
use Rattle.update_answers.specs.Replies.{outcome, reply_text, IsReply}
use Rattle.update_answers.specs.declared.answering.UpdateReply.TheVariants as reply
use Rattle.zone_database.specs.declared.zone.Zone.{Zone}
use Rattle.zone_database.specs.Databases.{begins_at}
use Rattle.zone_database.specs.Zones.{zone_of_records}
use Rattle.held_updates.specs.declared.access.UpdateAccess.{UpdateAccess}
use Rattle.held_updates.specs.declared.planned.PlannedUpdate.{PlannedUpdate}
use Rattle.held_updates.specs.declared.planned.PlannedUpdate.TheVariants as planned
use Rattle.held_updates.specs.Tables.{rules_for}

-- ---- the zone of an update

-- a zone has expired, or was never there to be served: it has no SOA at its origin
abbrev pub has_expired : Zone → Bool
has_expired z = not (owns z.inner.records z.origin SOA)

-- a zone is signed: it denies by NSEC or NSEC3, or has keys at its origin (RFC 4035 section 2)
abbrev pub is_signed : Zone → Bool
is_signed z = is_some z.nx_proof_kind || owns z.inner.records z.origin DNSKEY

-- What an update makes of the zone of an origin, by how it ends where that zone can be changed; none where it changes nothing. A zone that isn't
-- there isn't this server's (RFC 2136 section 3.1.2). One that has expired gets SERVFAIL, as its queries do (RFC 1034 section 4.3.5): what the
-- zone is isn't known here any more, and RFC 2136 has no code for that. One that is signed isn't updated, since its chain wouldn't be closed,
-- and signatures would be missing.
abbrev pub if_changeable : Option Zone → (Zone → Result (Option Sets) Refusal) → Result (Option Sets) Refusal
if_changeable None made = Err NotAuth
if_changeable (Some z) made = if has_expired z then Err Memory else (if is_signed z then Err Refused else made z)

abbrev pub outcome_in : List Rule → Option Name → Name → Option Zone → Parts → Result (Option Sets) Refusal
outcome_in rules key origin zone p = if_changeable zone (λ z. outcome rules key origin z.inner.records p)

-- the same among the zones of a database, by the rules of the zone that the update names
abbrev pub outcome_among : UpdateAccess → Option Name → List Zone → Parts → Result (Option Sets) Refusal
outcome_among access key zs p =
    let origin : Name = lower p.zone in
    outcome_in (rules_for origin access.tables.entries) key origin (find (begins_at origin) zs) p

-- ---- an update that was read

-- this is the origin of the zone that an update names
abbrev pub IsItsOrigin : Name → Result Parts UpdateError → Type 0
IsItsOrigin origin (Ok p) = origin ≡ lower p.zone
IsItsOrigin origin (Err e) = ⊥

-- What is planned of what was read, where an update has this outcome: nothing, of what is no update; a response alone, of an update that is
-- refused or changes nothing; and of another that the zone after it stands in place of the one before (section 3.5).
abbrev pub Plans : (Parts → Result (Option Sets) Refusal) → Result Parts UpdateError → PlannedUpdate → List ℕ → Type 0
Plans outcome read planned.Other octets = read ≡ Err unread.NoUpdate
Plans outcome read planned.Refused octets = IsReply outcome read reply.Refused octets
Plans outcome read planned.Unchanged octets = IsReply outcome read reply.Unchanged octets
Plans outcome read (planned.Updated u) octets =
    (after : Sets) × IsReply outcome read (reply.Updated after) octets × IsItsOrigin u.zone.origin read × (u.zone ≡ zone_of_records u.zone.origin after)

-- ---- a message

-- its header is one of an update (section 1.3), and of no response
abbrev pub is_update : Header → Bool
is_update h = not h.is_response && h.opcode == 5

-- an update without a TSIG is one of nobody
abbrev pub PlansUnsigned : UpdateAccess → List ℕ → List Zone → PlannedUpdate → List ℕ → Type 0
PlansUnsigned access message zs p octets = Plans (outcome_among access None zs) (update_of message) p octets

-- how the response to a request is signed: its MAC covers that of the request (RFC 8945 section 5.3)
abbrev pub signing_of : Tsig → Signing
signing_of request = record { original_id = request.original_id; prior = of_request request.mac }

-- an update that was found signed under a key is one of those who have the key, and the response goes out signed
abbrev pub PlansSigned : UpdateAccess → ℕ → Tsig → Key → List ℕ → List Zone → PlannedUpdate → List ℕ → Type 0
PlansSigned access now t k message zs p octets =
    (plain : List ℕ) × Plans (outcome_among access (Some k.name) zs) (update_of message) p plain × (octets ≡ signed_message k now (signing_of t) plain)

-- the update, or its TSIG, is refused by these octets
abbrev pub PlansRefusal : List ℕ → PlannedUpdate → List ℕ → Type 0
PlansRefusal text p octets = (p ≡ planned.Refused) × (octets ≡ text)

-- by what its TSIG is found to be (RFC 8945 sections 5.2 and 5.3.2)
abbrev pub PlansBy : UpdateAccess → ℕ → List ℕ → Header → Checked → List Zone → PlannedUpdate → List ℕ → Type 0
PlansBy access now message h unsigned zs p octets = PlansUnsigned access message zs p octets
PlansBy access now message h malformed zs p octets = PlansRefusal (reply_text h (code_of FormErr) false) p octets
PlansBy access now message h (refused t e k rest) zs p octets = PlansRefusal (refused_text t e k now rest) p octets
PlansBy access now message h (signed t k rest) zs p octets = IsAuthentic access.keys.items now message t k rest × PlansSigned access now t k rest zs p octets

-- a message of another kind is left to others
abbrev pub PlansAs : UpdateAccess → ℕ → List ℕ → Header → List Zone → PlannedUpdate → List ℕ → Type 0
PlansAs access now message h zs p octets =
    MatchBool (is_update h) (PlansBy access now message h (checked_of access.keys.items now message) zs p octets) (p ≡ planned.Other)

abbrev pub PlansHeader : UpdateAccess → ℕ → List ℕ → Option (Header × List ℕ) → List Zone → PlannedUpdate → List ℕ → Type 0
PlansHeader access now message None zs p octets = p ≡ planned.Other
PlansHeader access now message (Some h) zs p octets = PlansAs access now message h.0 zs p octets

-- by the keys and the rules of a server, at a moment
abbrev pub PlansUpdate : UpdateAccess → ℕ → List ℕ → List Zone → PlannedUpdate → List ℕ → Type 0
PlansUpdate access now message zs p octets = PlansHeader access now message (header_of message) zs p octets

-- ---- on the way

-- what an update makes of the zone of an origin, by its sections
abbrev pub updated_in : List Rule → Option Name → Name → Option Zone → List Entry → List Entry → Result (Option Sets) Refusal
updated_in rules key origin zone prerequisites changes = if_changeable zone (λ z. updated_if_permitted rules key origin z.inner.records prerequisites changes)

-- What is to come of an update that makes this zone, and the response to it. SERVFAIL may come in its place, since a journal can't take the change.
abbrev pub RepliesWith : Zone → Header → Bool → PlannedUpdate → List ℕ → Type 0
RepliesWith z h has_extension (planned.Updated u) octets = (octets ≡ reply_text h 0 has_extension) × (u.zone ≡ z)
RepliesWith z h has_extension planned.Refused octets = octets ≡ reply_text h (code_of Memory) has_extension
RepliesWith z h has_extension p octets = ⊥

-- the same of an update of the zone of an origin that ended so
abbrev pub RepliesTo : Result (Option Sets) Refusal → Name → Header → Bool → PlannedUpdate → List ℕ → Type 0
RepliesTo (Ok (Some after)) origin h has_extension p octets = RepliesWith (zone_of_records origin after) h has_extension p octets
RepliesTo (Ok None) origin h has_extension p octets = (p ≡ planned.Unchanged) × (octets ≡ reply_text h 0 has_extension)
RepliesTo (Err e) origin h has_extension p octets = (p ≡ planned.Refused) × (octets ≡ reply_text h (code_of e) has_extension)
