-- All messages of an answer by steps (RFC 1995 section 4)
use Rattle.std.specs.Prelude.{◌≡◌, ℕ, ◌≤◌, List, [], ◌∷◌, ◌++◌, length, drop, map, Option, Some, None, Result, Ok, Err, Vec}
use Rattle.std.specs.declared.alloc.Global.{Global}
use Rattle.zone_proto.specs.Sets.{RRset}
use Rattle.message_reading.specs.declared.query.Query.{Query}
use Rattle.message_writing.specs.declared.response.Group.{Group}
use Rattle.message_writing.specs.Responses.{all_records}
use Rattle.shown_zones.specs.Sending.{sent_steps}
use Rattle.shown_zones.specs.Steps.{step_of}
use Rattle.shown_zones.specs.declared.step.ZoneStep.{ZoneStep}
use Rattle.difference_messages.specs.AnswerLaws.{AreAll}
use Rattle.difference_messages.specs.Messages.{Answer, HasUnsendable, IsNext}
use Rattle.difference_messages.specs.declared.writing.DifferenceFault.{DifferenceFault}
use Rattle.difference_messages.specs.declared.writing.DifferenceFault.TheVariants as faults

-- the octets of messages
abbrev pub texts_of : List (Vec ℕ Global) → List (List ℕ)
texts_of vs = map (λ v. v.items) vs

-- the answer to a query by groups of records: how many octets the server takes in one datagram, and how many a message may have
abbrev pub answer_by : Query → ℕ → ℕ → List Group → Answer
answer_by q size limit gs = record { query = q; groups = gs; size = size; limit = limit }

-- groups have the records of steps between two SOA records of the newest version
abbrev pub HaveSteps : RRset → List ZoneStep → List Group → Type 0
HaveSteps soa ss gs = all_records gs ≡ sent_steps soa (map step_of ss)

-- octets are all messages of these steps, as the answer to a query
pub record AreMessages (q : Query) (soa : RRset) (ss : List ZoneStep) (size limit : ℕ) (texts : List (List ℕ)) : Type 0 where
  pub groups : List Group
  pub records : HaveSteps soa ss groups
  pub all : AreAll (answer_by q size limit groups) 0 texts

-- behind some of the records of these steps is one that can't be sent
pub record HaveUnsendable (q : Query) (soa : RRset) (ss : List ZoneStep) (size limit : ℕ) : Type 0 where
  pub groups : List Group
  pub records : HaveSteps soa ss groups
  pub sent : ℕ
  pub unsendable : HasUnsendable (answer_by q size limit groups) (drop sent groups)

-- the messages are there, or one of the records can't be sent
abbrev pub GivesMessages : Query → RRset → List ZoneStep → ℕ → ℕ → Option (Vec (Vec ℕ Global) Global) → Type 0
GivesMessages q soa ss size limit (Some texts) = AreMessages q soa ss size limit (texts_of texts.items)
GivesMessages q soa ss size limit None = HaveUnsendable q soa ss size limit

-- ---- on the way

abbrev pub WritesAll : Answer → Result (Vec (Vec ℕ Global) Global) DifferenceFault → Type 0
WritesAll a (Ok texts) = AreAll a 0 (texts_of texts.items)
WritesAll a (Err faults.Unsendable) = (sent : ℕ) × HasUnsendable a (drop sent a.groups)
WritesAll a (Err faults.Memory) = Unit {0}

-- the next message was put behind others, or there is none, or it can't be written
abbrev pub PutsNext : Answer → ℕ → List (List ℕ) → List (List ℕ) → Result (Option ℕ) DifferenceFault → Type 0
PutsNext a sent old new (Ok (Some next)) = (text : List ℕ) × IsNext a sent next text × (new ≡ old ++ text ∷ [])
PutsNext a sent old new (Ok None) = (length a.groups ≤ sent) × (new ≡ old)
PutsNext a sent old new (Err faults.Unsendable) = HasUnsendable a (drop sent a.groups)
PutsNext a sent old new (Err faults.Memory) = Unit {0}
