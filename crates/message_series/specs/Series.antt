-- Messages one behind the other, and their answers
use Rattle.std.specs.Prelude.{◌≡◌, ℕ, zero, suc, ◌<◌, ◌≤◌, List, [], ◌++◌, length, take, drop, Option, Some}
use Rattle.zone_proto.specs.declared.record.Record.{Record}
use Rattle.message_reading.specs.Octets.{◌>>=◌, alone, octets_of, short_of}
use Rattle.message_reading.specs.Messages.{Parts, message_of}
use Rattle.message_reading.specs.declared.query.Query.{Query}
use Rattle.message_writing.specs.Fronts.{FirstHasNoRoom}
use Rattle.message_writing.specs.Responses.{all_records}
use Rattle.message_writing.specs.declared.response.Group.{Group}

-- the answers of a message behind its length in two octets, as over TCP (RFC 1035 section 4.2.2), and what follows it
abbrev pub answers_of : List ℕ → Option (List Record × List ℕ)
answers_of octets =
    short_of octets >>= λ count.
    octets_of count.0 count.1 >>= λ text.
    message_of text.0 >>= λ message.
    Some (message.answers, text.1)

-- the answers of so many messages, one behind the other
unfoldable pub all_answers_of : ℕ → List ℕ → Option (List Record × List ℕ)
all_answers_of zero octets = Some ([], octets)
all_answers_of (suc n) octets =
    answers_of octets >>= λ first.
    all_answers_of n first.1 >>= λ others.
    Some (first.0 ++ others.0, others.1)

-- the answers of a series of messages: their number in two octets, and then these, to the end
abbrev pub records_of : List ℕ → Option (List Record)
records_of octets = short_of octets >>= λ count. alone (all_answers_of count.0 count.1)

-- Octets are a message of 65,535 octets at most whose answers are the records of the first groups, so many; and it has no room for the next.
pub record HasFirst (q : Query) (octets : List ℕ) (groups : List Group) (taken : ℕ) : Type 0 where
  pub at_most : taken ≤ length groups
  pub message : Parts
  pub reads : message_of octets ≡ Some message
  pub answers : message.answers ≡ all_records (take taken groups)
  pub within : length octets < 65536
  pub next : FirstHasNoRoom 65535 q (all_records (take taken groups)) (drop taken groups)

-- a message with the records of some of the first groups, of one at least, is put behind octets, behind its length
pub record IsPushed (old new : List ℕ) (groups : List Group) (taken : ℕ) : Type 0 where
  pub some : 0 < taken
  pub at_most : taken ≤ length groups
  pub text : List ℕ
  pub put : new ≡ old ++ text
  pub short : length text ≤ 65537
  pub reads : (rest : List ℕ) → answers_of (text ++ rest) ≡ Some (all_records (take taken groups), rest)
