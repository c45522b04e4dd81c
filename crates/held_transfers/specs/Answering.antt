-- Messages answered by a server with keys
use Rattle.std.specs.Prelude.{◌≡◌, ℕ, List, [], ◌∷◌, map, Option, Some, None, option_copied, Result, Ok, Err}
use Rattle.std.specs.Arc.{arc_value}
use Rattle.std.specs.List.{find}
use Rattle.message_reading.specs.declared.error.ReadError.{ReadError}
use Rattle.message_reading.specs.declared.error.ReadError.TheVariants as errors
use Rattle.message_reading.specs.declared.query.Query.{Query as ReadQuery}
use Rattle.message_reading.specs.Queries.{query_of}
use Rattle.zone_proto.specs.Names.{Name, lower}
use Rattle.zone_response.specs.Queries as queries
use Rattle.zone_server.specs.declared.transfer_policy.TransferPolicy.{TransferPolicy}
use Rattle.zone_server.specs.declared.transport.Transport.{Transport}
use Rattle.zone_server.specs.Answers.{IsAnswer}
use Rattle.zone_server.specs.Limits.{limit_for}
use Rattle.zone_server.specs.Transfers.{Reply, reply_to}
use Rattle.zone_database.specs.declared.zone.Zone.{Zone}
use Rattle.zone_database.specs.Databases.{begins_at}
use Rattle.zone_database.specs.Zones.{served_zone}
use Rattle.transfer_messages.specs.declared.beginning.Begun.{Begun}
use Rattle.transfer_messages.specs.declared.beginning.Begun.TheVariants as begun
use Rattle.transfer_messages.specs.declared.opening.Opened.{Opened}
use Rattle.transfer_messages.specs.declared.opening.Opened.TheVariants as opened
use Rattle.transfer_messages.specs.declared.opening.Request.{Request}
use Rattle.transfer_messages.specs.declared.sealing.Sealing.{Sealing}
use Rattle.transfer_messages.specs.Beginning.{BeginsBy, granted_to}
use Rattle.transfer_messages.specs.Opening.{IsAuthenticRequest, Opens}
use Rattle.transfer_messages.specs.Seals.{goes_out}
use Rattle.held_transfers.specs.declared.access.TransferAccess.{TransferAccess}
use Rattle.held_transfers.specs.declared.answering.KeyedAnswer.{KeyedAnswer}
use Rattle.held_transfers.specs.declared.answering.KeyedAnswer.TheVariants as answer
use Rattle.held_transfers.specs.Accesses.{policy_for}

-- ---- a request for a zone

-- the zone that is asked for, if there is one, as it is asked
abbrev pub zones_asked : Option Zone → List queries.Zone
zones_asked None = []
zones_asked (Some z) = served_zone z ∷ []

-- what a request gets for the zone, where its policy says whether the one who asks may have it
abbrev pub reply_in : TransferPolicy → Option Zone → Transport → Request → Reply
reply_in policy zone t r =
    reply_to (zones_asked zone) (granted_to policy (option_copied r.key) (lower r.query.question.name) ∷ []) t r.message.items r.query

-- what began of this zone is held
abbrev pub IsHeld : Zone → Begun → KeyedAnswer → Type 0
IsHeld z begun.Answered answer.Response = Unit {0}
IsHeld z (begun.Transfer x) (answer.Transfer h) = (arc_value h.zone ≡ z) × (h.transfer ≡ x)
IsHeld z _ _ = ⊥

abbrev pub IsUnkeyed : KeyedAnswer → Type 0
IsUnkeyed answer.Unkeyed = Unit {0}
IsUnkeyed _ = ⊥

abbrev pub IsResponse : KeyedAnswer → Type 0
IsResponse answer.Response = Unit {0}
IsResponse _ = ⊥

-- a transfer is of the zone of the origin that is asked for; where there is none, the response is there
abbrev pub IsHeldIfAny : Option Zone → Begun → KeyedAnswer → Type 0
IsHeldIfAny None b a = IsResponse a
IsHeldIfAny (Some z) b a = IsHeld z b a

-- a request is answered by what the zone of its name, among those of the server, is for the one who asks
abbrev pub AnswersRequest : TransferAccess → List Zone → ℕ → Transport → Request → KeyedAnswer → List ℕ → Type 0
AnswersRequest access zs now t r a octets =
    let origin : Name = lower r.query.question.name in
    let zone : Option Zone = find (begins_at origin) zs in
    (b : Begun) × BeginsBy t now r (reply_in (policy_for access.grants.items (option_copied r.key) origin) zone t r) b octets × IsHeldIfAny zone b a

-- ---- a message that was found signed, and asks for no transfer

-- how many octets the response to a message may have
abbrev pub answer_limit : Transport → Result ReadQuery ReadError → ℕ
answer_limit t (Ok q) = limit_for t q.extension
answer_limit t (Err (errors.BadVersion q)) = limit_for t q.extension
answer_limit t (Err e) = limit_for t None

-- the response goes out signed, if there is one
abbrev pub IsSealed : ℕ → ℕ → Sealing → List ℕ → KeyedAnswer → List ℕ → Type 0
IsSealed now limit s plain answer.Nothing octets = (plain ≡ []) × (octets ≡ [])
IsSealed now limit s plain answer.Response octets = octets ≡ goes_out (Some s) now limit plain
IsSealed now limit s plain a octets = ⊥

-- the message without its TSIG is answered as any message is, and the response goes out signed
pub record AnswersSigned (zs : List Zone) (now : ℕ) (t : Transport) (message : List ℕ) (s : Sealing) (a : KeyedAnswer) (octets : List ℕ) : Type 0 where
  pub plain : List ℕ
  pub answers : IsAnswer (map served_zone zs) t message plain
  pub sealed : IsSealed now (answer_limit t (query_of message)) s plain a octets

-- ---- a message

-- by what it is found to be, where these octets were written when that was found out
abbrev pub AnswersOpened : TransferAccess → List Zone → ℕ → Transport → Opened → List ℕ → KeyedAnswer → List ℕ → Type 0
AnswersOpened access zs now t opened.Other written a octets = IsUnkeyed a
AnswersOpened access zs now t opened.Refused written a octets = IsResponse a × (octets ≡ written)
AnswersOpened access zs now t (opened.Signed rest s) written a octets = AnswersSigned zs now t rest.items s a octets
AnswersOpened access zs now t (opened.Transfer r) written a octets = AnswersRequest access zs now t r a octets

-- by the keys of the server
pub record AnswersWithKeys (access : TransferAccess) (zs : List Zone) (now : ℕ) (t : Transport) (message : List ℕ) (a : KeyedAnswer) (octets : List ℕ) : Type 0 where
  pub found : Opened
  pub written : List ℕ
  pub opens : Opens access.keys.items now t message found written
  pub authentic : IsAuthenticRequest access.keys.items now message found
  pub answers : AnswersOpened access zs now t found written a octets
