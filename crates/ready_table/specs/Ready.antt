-- Ready answers: responses of a zone that are kept as the octets that go out
use Rattle.std.specs.Prelude.{◌≡◌, ℕ, ◌+◌, ◌≤◌, ◌==◌, Bool, true, false, List, ◌++◌, drop, length, take, Option, Some, IfSome}
use Rattle.std.specs.List.{AllByRecursion}
use Rattle.zone_proto.specs.Names.{Name, lower, is_at_or_above}
use Rattle.zone_proto.specs.Types.{DS}
use Rattle.message_reading.specs.declared.query.Query.{Query}
use Rattle.message_reading.specs.declared.question.Question.{Question}
use Rattle.message_reading.specs.Messages.{question_of}
use Rattle.zone_response.specs.Queries.{Zone}
use Rattle.zone_response.specs.Responses.{IsResponse}
use Rattle.zone_response.specs.Sections.{Sections}
use Rattle.zone_server.specs.Answers.{asked_of, GoesOut}
use Rattle.ready_denials.specs.Denials.{IsDenial}
use Rattle.ready_referrals.specs.Referrals.{AreReferrals}
use Rattle.ready_answers.specs.Again.{said_by}
use Rattle.ready_table.specs.declared.table.Place.{Place}
use Rattle.ready_table.specs.declared.table.ReadyTable.{ReadyTable}

-- octets are the response of a zone to a query, within a limit
pub record IsReady (z : Zone) (limit : ℕ) (q : Query) (octets : List ℕ) : Type 0 where
  pub said : Sections
  pub says : IsResponse z (asked_of q) said
  pub goes_out : GoesOut limit q said octets

-- A zone may answer a query whatever other zones there are, if none is nearer: its origin is the name or above it (RFC 1034 section 4.3.2
-- step 2), and the query isn't for DS, which the zone of the parent answers (RFC 4035 section 3.1.4.1).
pub record IsInside (origin : Name) (q : Query) : Type 0 where
  pub above : is_at_or_above origin (lower q.question.name) ≡ true
  pub no_ds : (q.question.query_type.0 == DS) ≡ false

-- behind the header of a message these octets are read as a question (RFC 1035 section 4.1.2), whatever follows them
abbrev pub IsQuestionText : Question → List ℕ → Type 0
IsQuestionText question text =
    (message after : List ℕ) → length message ≡ 12 + length (text ++ after) → drop 12 message ≡ text ++ after
    → question_of message (text ++ after) ≡ Some (question, after)

-- the octets at a place of a table, and those of their question
abbrev pub octets_at : List ℕ → Place → List ℕ
octets_at octets p = take p.size (drop p.start octets)

abbrev pub question_at : List ℕ → Place → List ℕ
question_at octets p = take p.question (drop 12 (octets_at octets p))

-- at a place is the response of a zone to some query of this question that says so by EDNS
pub record IsReadyAt (z : Zone) (octets : List ℕ) (p : Place) : Type 0 where
  pub query : Query
  pub ready : IsReady z p.limit query (octets_at octets p)
  pub extension : said_by query.extension ≡ p.dnssec_ok
  pub question : IsQuestionText query.question (question_at octets p)
  pub within : p.start + p.size ≤ length octets
  pub whole : 12 + p.question ≤ p.size

-- the answers of a table are those of a zone
abbrev pub AreReady : Zone → ReadyTable → Type 0
AreReady z t = AllByRecursion (IsReadyAt z t.octets.items) t.places.items

-- what a table keeps to deny names, if it does, is of a zone
abbrev pub DeniesFor : Zone → ReadyTable → Type 0
DeniesFor z t = IfSome t.denial (IsDenial z)

-- what it keeps to refer names is of a zone
abbrev pub RefersFor : Zone → ReadyTable → Type 0
RefersFor z t = AreReferrals z t.referrals

-- octets are the response of a zone to some query of the question of a message that says so by EDNS
pub record IsFound (z : Zone) (limit : ℕ) (dnssec_ok : Option Bool) (message octets : List ℕ) : Type 0 where
  pub query : Query
  pub ready : IsReady z limit query octets
  pub extension : said_by query.extension ≡ dnssec_ok
  pub behind : List ℕ
  pub question : question_of message (drop 12 message) ≡ Some (query.question, behind)
