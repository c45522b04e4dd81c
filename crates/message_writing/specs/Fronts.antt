-- The answers of a response that goes on in further messages, as that to a query for a whole zone does (RFC 5936 section 2.2)
use Rattle.std.specs.Prelude.{◌≡◌, ℕ, ◌-◌, ◌≤◌, false, List, [], ◌∷◌, length, take, drop, Option, Some, None, Result, Ok, Err}
use Rattle.zone_proto.specs.declared.record.Record.{Record}
use Rattle.message_reading.specs.declared.query.Extension.{Extension}
use Rattle.message_reading.specs.declared.query.Query.{Query}
use Rattle.message_reading.specs.Messages.{message_of, question_of}
use Rattle.message_writing.specs.declared.error.WriteError.{WriteError}
use Rattle.message_writing.specs.declared.front_writer.Front.{Front}
use Rattle.message_writing.specs.declared.response.Group.{Group}
use Rattle.message_writing.specs.declared.response.Response.{Response}
use Rattle.message_writing.specs.Continuing.{Appends, AppendsAll}
use Rattle.message_writing.specs.Outcomes.{FailsToWrite}
use Rattle.message_writing.specs.Responses.{GoesOver, all_records, parts_for, records_of}
use Rattle.message_writing.specs.StrictReading.{strict_record_of}

-- how many octets the OPT record of a response has: 11, where the query has one (RFC 6891 section 6.1.2)
abbrev pub opt_octets : Option Extension → ℕ
opt_octets None = 0
opt_octets (Some e) = 11

-- A message of so many octets that has the question of a query, and behind it these records, has no room for others: written there, they go
-- over, the octets of the OPT record counted.
pub record HasNoRoomFor (limit : ℕ) (q : Query) (written others : List Record) : Type 0 where
  pub header : List ℕ
  pub start : List ℕ
  pub end : List ℕ
  pub twelve : length header ≡ 12
  pub question : Appends question_of header start q.question
  pub behind : AppendsAll strict_record_of start end written
  pub over : GoesOver (limit - opt_octets q.extension) end others

-- the first of some groups, if there is one, finds no room behind these records
abbrev pub FirstHasNoRoom : ℕ → Query → List Record → List Group → Type 0
FirstHasNoRoom limit q written [] = Unit {0}
FirstHasNoRoom limit q written (g ∷ gs) = HasNoRoomFor limit q written (records_of g)

-- Octets are a message within a limit whose answers are the first of a response, so many groups, each whole. It has no other section but
-- the OPT record, and TC is clear. The groups are all of them, or there is no room for the next.
pub record IsFront (limit : ℕ) (r : Response) (count : ℕ) (octets : List ℕ) : Type 0 where
  pub at_most : count ≤ length r.answers.now
  pub reads : message_of octets ≡ Some (parts_for r false (all_records (take count r.answers.now)) [] [])
  pub within : length octets ≤ limit
  pub next : FirstHasNoRoom limit r.query.now (all_records (take count r.answers.now)) (drop count r.answers.now)

-- A call wrote the first of the answers of a response, whose code has twelve bits at most, within a limit; or it says why not, and then
-- there are no octets.
abbrev pub WritesFront : ℕ → Response → List ℕ → Result ℕ WriteError → Type 0
WritesFront limit r octets (Ok count) = (r.code ≤ 4095) × IsFront limit r count octets
WritesFront limit r octets (Err e) = (octets ≡ []) × FailsToWrite limit r e

-- ---- on the way

-- the first of some groups, if there is one, goes over behind these octets
abbrev pub FirstGoesOver : ℕ → List ℕ → List Group → Type 0
FirstGoesOver room old [] = Unit {0}
FirstGoesOver room old (g ∷ gs) = GoesOver room old (records_of g)

-- the first of some groups were written, each whole: how many groups they are, and how many records
pub record IsFrontPut (room : ℕ) (old new : List ℕ) (gs : List Group) (front : Front) : Type 0 where
  pub at_most : front.groups ≤ length gs
  pub written : AppendsAll strict_record_of old new (all_records (take front.groups gs))
  pub counted : front.records ≡ length (all_records (take front.groups gs))
  pub next : FirstGoesOver room new (drop front.groups gs)
