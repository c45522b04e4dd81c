-- What was written where the frames of an input aren't served to its end: a front of their answers
use Rattle.std.specs.Prelude.{◌≡◌, ◌⊎◌, ℕ, List, [], ◌++◌, Option, Some, Result, Ok, Err}
use Rattle.std.specs.Bool.{MatchBool}
use Rattle.std.specs.Io.KnownBytes.{Consumes}
use Rattle.zone_proto.specs.declared.record.Record.{Record}
use Rattle.message_reading.specs.declared.error.ReadError.{ReadError}
use Rattle.message_reading.specs.declared.query.Query.{Query as ReadQuery}
use Rattle.message_reading.specs.Queries.{query_of}
use Rattle.zone_server.specs.declared.frames.Mode.{Mode}
use Rattle.zone_server.specs.declared.transport.Transport.{Transport}
use Rattle.zone_server.specs.Frames.{Framed, FramesThen, frame_of}
use Rattle.zone_server.specs.Serving.{AnswerFrames, IsOneAnswer, Moves, Served}
use Rattle.zone_server.specs.Transfers.{asks_for_transfer, groups_sent, joined, reply_to, by_code, by_soa, by_zone, AreBrokenOff, AreMessages, AreSentWhole, Replies, Reply}

-- of the octets that waited a front was written to what a writer holds
pub record MovesFront (waited : List ℕ) (held_before held_after : Option (List ℕ)) : Type 0 where
  pub left : List ℕ
  pub moved : Moves waited held_before held_after left

-- ---- whole messages with which an answer begins

-- the first messages of sets that are sent: their answers together are the first records of these
pub record AreFirstMessages (q : ReadQuery) (sets : List (List Record)) (text : List ℕ) : Type 0 where
  pub sent : List Record
  pub left : List Record
  pub parts : joined sets ≡ sent ++ left
  pub messages : List (List (List Record))
  pub parted : joined (joined messages) ≡ sent
  pub written : AreMessages q messages text

-- the first messages of sets that are sent, or all that are written for these
abbrev pub BeginsSets : ReadQuery → List (List Record) → List ℕ → Type 0
BeginsSets q sets text = AreFirstMessages q sets text ⊎ (AreSentWhole q sets text ⊎ AreBrokenOff q sets text)

abbrev pub BeginsReply : Transport → ReadQuery → Reply → List ℕ → Type 0
BeginsReply t q (by_code c) text = Replies t q (by_code c) text
BeginsReply t q (by_soa soa) text = Replies t q (by_soa soa) text
BeginsReply t q (by_zone soa m) text = BeginsSets q (groups_sent soa m) text

abbrev pub BeginsQuery : Served → Framed → ReadQuery → List ℕ → Type 0
BeginsQuery s f q text =
    MatchBool (asks_for_transfer f.transport q) (BeginsReply f.transport q (reply_to s.zones s.policies f.transport f.message q) text) (IsOneAnswer s f text)

abbrev pub BeginsRead : Served → Framed → Result ReadQuery ReadError → List ℕ → Type 0
BeginsRead s f (Ok q) text = BeginsQuery s f q text
BeginsRead s f (Err e) text = IsOneAnswer s f text

-- a zone that is sent can have many messages, and any other answer is one
abbrev pub BeginsAnswer : Served → Framed → List ℕ → Type 0
BeginsAnswer s f text = BeginsRead s f (query_of f.message) text

-- ---- where it stops

-- of the frame at the start of octets nothing was answered yet, or these messages, with which its answer begins
abbrev pub IsBegun : Served → Mode → List ℕ → List ℕ → Type 0
IsBegun s mode octets text =
    (text ≡ []) ⊎ ((f : Framed) × (rest : List ℕ) × (frame_of mode octets ≡ Some (f, rest)) × BeginsAnswer s f text)

-- The first frames of octets were answered, in their order, and the next one perhaps to some message of its answer; of the octets that
-- waited, with these answers behind them, a front was written, which may end within a message.
pub record StopsWithin (s : Served) (mode : Mode) (octets waited : List ℕ) (held_before held_after : Option (List ℕ)) : Type 0 where
  pub frames : List Framed
  pub behind : List ℕ
  pub stand : FramesThen mode octets frames behind
  pub answers : List ℕ
  pub answered : AnswerFrames s frames answers
  pub begun : List ℕ
  pub next : IsBegun s mode behind begun
  pub front : MovesFront (waited ++ (answers ++ begun)) held_before held_after

-- Octets of an input were read; what was written is a front of the answers to their frames, and no octet besides.
pub record BreaksOff (s : Served) (mode : Mode) (left_before left_after held_before held_after : Option (List ℕ)) : Type 0 where
  pub octets : List ℕ
  pub consumed : Consumes left_before left_after octets
  pub stopped : StopsWithin s mode octets [] held_before held_after

-- ---- on the way

-- nothing, or a text of which this holds, came behind the octets that waited, of which a front was written
pub record Stops (Is : List ℕ → Type 0) (waited : List ℕ) (held_before held_after : Option (List ℕ)) : Type 0 where
  pub text : List ℕ
  pub is : (text ≡ []) ⊎ Is text
  pub front : MovesFront (waited ++ text) held_before held_after

-- the one answer to a message that is read so
abbrev pub IsOneAnswerTo : Served → Framed → Result ReadQuery ReadError → List ℕ → Type 0
IsOneAnswerTo s f read text = (query_of f.message ≡ read) × IsOneAnswer s f text
