-- The answers of a message of a response (RFC 5936 section 2.2)
use Rattle.std.specs.Prelude.{◌≡◌, ◌==◌, ◌&&◌, not, Bool, false, true, if◌then◌else◌, List, [], ◌∷◌, Option, Some, None, Result, Ok, Err, Vec}
use Rattle.zone_proto.specs.Names.{same_name}
use Rattle.zone_proto.specs.Types.{IN}
use Rattle.zone_proto.specs.declared.record.Record.{Record}
use Rattle.message_reading.specs.Messages.{Parts}
use Rattle.message_reading.specs.declared.header.Header.{Header}
use Rattle.message_reading.specs.declared.question.Question.{Question as ReadQuestion}
use Rattle.zone_secondary.specs.declared.secondary.Question.{Question}
use Rattle.zone_secondary.specs.declared.secondary.Question.TheVariants.{Soa, Changes, Zone}
use Rattle.transfer_reading.specs.Queries.{type_asked}
use Rattle.transfer_reading.specs.declared.asked.Asked.{Asked}
use Rattle.transfer_reading.specs.declared.fault.AnswerFault.{AnswerFault}
use Rattle.transfer_reading.specs.declared.fault.AnswerFault.TheVariants.{Malformed, NotTheAnswer, Code, OtherQuestion, NotAuthoritative, Truncated, Memory}

-- one step after the other: the first fault is that of all
infixl 10 ◌>>=◌
abbrev pub ◌>>=◌ : {A B : Type 0} → Result A AnswerFault → (A → Result B AnswerFault) → Result B AnswerFault
(Ok x) >>= f = f x
(Err e) >>= f = Err e

-- a response of a standard query, with the identifier of the query (section 2.2.1)
abbrev pub is_answer : Asked → Header → Bool
is_answer a h = (h.id == a.id) && (h.is_response && (h.opcode == 0))

-- the question that was asked, the case of letters aside
abbrev pub is_asked : Asked → ReadQuestion → Bool
is_asked a q = same_name q.name a.origin && ((q.query_type.0 == type_asked a.question) && (q.query_class.0 == IN))

-- the first message has the question, and each other has it or none (section 2.2.2)
abbrev pub asks : Asked → Bool → List ReadQuestion → Bool
asks a is_first [] = not is_first
asks a is_first (q ∷ []) = is_asked a q
asks a is_first _ = false

-- An SOA record is asked of an authority. Whether AA is set where a zone is sent isn't looked at (RFC 5936 section 2.2.1).
abbrev pub asks_authority : Question → Bool
asks_authority Soa = true
asks_authority (Changes held) = false
asks_authority Zone = false

-- the records of the answer section, of a message that is whole and refuses nothing
abbrev pub answers_in : Asked → Bool → Parts → Result (List Record) AnswerFault
answers_in a is_first m =
    if not (is_answer a m.header) then Err NotTheAnswer
    else (if not (m.header.response_code == 0) then Err (Code m.header.response_code)
    else (if not (asks a is_first m.questions) then Err OtherQuestion
    else (if not m.header.authoritative && asks_authority a.question then Err NotAuthoritative
    else (if m.header.truncated then Err Truncated
    else Ok m.answers))))

abbrev pub answers_of : Asked → Bool → Option Parts → Result (List Record) AnswerFault
answers_of a is_first None = Err Malformed
answers_of a is_first (Some m) = answers_in a is_first m

-- a call gives what is defined, unless memory ran out
abbrev pub IsFault : {A : Type 0} → AnswerFault → Result A AnswerFault → Type 0
IsFault Memory made = Unit {0}
IsFault e made = made ≡ Err e

abbrev pub Gives : {A : Type 0} → Result A AnswerFault → Result A AnswerFault → Type 0
Gives (Ok x) made = made ≡ Ok x
Gives (Err e) made = IsFault e made

-- the list that a call gives
abbrev pub listed : {A B : Type 0} → Result (Vec A B) AnswerFault → Result (List A) AnswerFault
listed (Ok v) = Ok v.items
listed (Err e) = Err e
