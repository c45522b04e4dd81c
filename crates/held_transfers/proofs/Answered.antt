-- What a message is answered with, from what the steps of the way say
use Rattle.std.proofs.Common.{◌≡◌, ◌∙◌, ℕ, List, [], map, ap, subst}
use Rattle.std.specs.List.{find}
use Rattle.std.specs.Prelude.{Option, Some, None, option_copied}
use Rattle.zone_proto.specs.Names.{Name, lower}
use Rattle.message_reading.specs.Queries.{query_of}
use Rattle.zone_server.specs.declared.transfer_policy.TransferPolicy.{TransferPolicy}
use Rattle.zone_server.specs.declared.transport.Transport.{Transport}
use Rattle.zone_server.specs.Answers.{IsAnswer}
use Rattle.zone_database.specs.declared.zone.Zone.{Zone}
use Rattle.zone_database.specs.Databases.{begins_at}
use Rattle.zone_database.specs.Zones.{served_zone}
use Rattle.transfer_messages.specs.declared.beginning.Begun.{Begun}
use Rattle.transfer_messages.specs.declared.opening.Opened.{Opened}
use Rattle.transfer_messages.specs.declared.opening.Request.{Request}
use Rattle.transfer_messages.specs.declared.sealing.Sealing.{Sealing}
use Rattle.transfer_messages.specs.Beginning.{BeginsBy}
use Rattle.transfer_messages.specs.Opening.{IsAuthenticRequest, Opens}
use Rattle.transfer_messages.specs.Seals.{goes_out}
use Rattle.held_transfers.specs.declared.access.TransferAccess.{TransferAccess}
use Rattle.held_transfers.specs.declared.answering.KeyedAnswer.{KeyedAnswer}
use Rattle.held_transfers.specs.declared.answering.KeyedAnswer.TheVariants as answer
use Rattle.held_transfers.specs.Accesses.{policy_for}
use Rattle.held_transfers.specs.Answering.{answer_limit, reply_in, AnswersOpened, AnswersRequest, AnswersSigned, AnswersWithKeys, IsHeld, IsHeldIfAny}

-- ---- a message

pub with_keys : (access : TransferAccess) (zs : List Zone) (now : ℕ) (t : Transport) (message octets written : List ℕ) (found : Opened) (a : KeyedAnswer)
    → Opens access.keys.items now t message found written → IsAuthenticRequest access.keys.items now message found → AnswersOpened access zs now t found written a octets
    → AnswersWithKeys access zs now t message a octets
with_keys access zs now t message octets written found a opens authentic answers =
    record { found = found; written = written; opens = opens; authentic = authentic; answers = answers }

-- ---- a message that was found signed

pub signed_response : (zs : List Zone) (now : ℕ) (t : Transport) (message plain octets : List ℕ) (s : Sealing) (limit : ℕ) → IsAnswer (map served_zone zs) t message plain
    → limit ≡ answer_limit t (query_of message) → octets ≡ goes_out (Some s) now limit plain → AnswersSigned zs now t message s answer.Response octets
signed_response zs now t message plain octets s limit answers within sealed =
    record { plain = plain; answers = answers; sealed = sealed ∙ ap (λ (n : ℕ). goes_out (Some s) now n plain) within }

pub signed_nothing : (zs : List Zone) (now : ℕ) (t : Transport) (message plain : List ℕ) (s : Sealing) → IsAnswer (map served_zone zs) t message plain → plain ≡ []
    → AnswersSigned zs now t message s answer.Nothing plain
signed_nothing zs now t message plain s answers none = record { plain = plain; answers = answers; sealed = (none, none) }

-- ---- a request for a zone

module _ (access : TransferAccess) (zs : List Zone) (now : ℕ) (t : Transport) (r : Request) (octets : List ℕ) (origin : Name) (policy : TransferPolicy) (b : Begun) where
  of_asked : (a : KeyedAnswer) (zone : Option Zone) → origin ≡ lower r.query.question.name → policy ≡ policy_for access.grants.items (option_copied r.key) origin
      → zone ≡ find (begins_at origin) zs → BeginsBy t now r (reply_in policy zone t r) b octets → IsHeldIfAny zone b a → AnswersRequest access zs now t r a octets
  of_asked a zone o p found begins held =
      let name : Name = lower r.query.question.name in
      let by_grants : policy ≡ policy_for access.grants.items (option_copied r.key) name = p ∙ ap (λ (n : Name). policy_for access.grants.items (option_copied r.key) n) o in
      let its : zone ≡ find (begins_at name) zs = found ∙ ap (λ (n : Name). find (begins_at n) zs) o in
      let granted : BeginsBy t now r (reply_in (policy_for access.grants.items (option_copied r.key) name) zone t r) b octets =
      subst (λ (q : TransferPolicy). BeginsBy t now r (reply_in q zone t r) b octets) by_grants begins in (
        b,
        subst (λ (z : Option Zone). BeginsBy t now r (reply_in (policy_for access.grants.items (option_copied r.key) name) z t r) b octets) its granted,
        subst (λ (z : Option Zone). IsHeldIfAny z b a) its held,
      )

  -- the zone is lent while the request is answered
  pub of_zone : (a : KeyedAnswer) (z lent : Zone) → origin ≡ lower r.query.question.name → policy ≡ policy_for access.grants.items (option_copied r.key) origin
      → Some z ≡ find (begins_at origin) zs → lent ≡ z → BeginsBy t now r (reply_in policy (Some lent) t r) b octets → IsHeld z b a → AnswersRequest access zs now t r a octets
  of_zone a z lent o p found same begins held =
      of_asked a (Some z) o p found (subst (λ (x : Zone). BeginsBy t now r (reply_in policy (Some x) t r) b octets) same begins) held

  pub of_none : origin ≡ lower r.query.question.name → policy ≡ policy_for access.grants.items (option_copied r.key) origin → None ≡ find (begins_at origin) zs
      → BeginsBy t now r (reply_in policy None t r) b octets → AnswersRequest access zs now t r answer.Response octets
  of_none o p found begins = of_asked answer.Response None o p found begins tt
