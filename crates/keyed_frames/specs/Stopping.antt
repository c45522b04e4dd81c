-- What was written where the frames of an input aren't answered to its end: a front of their answers
use Rattle.std.specs.Prelude.{◌≡◌, ◌⊎◌, ℕ, List, [], ◌++◌, Option, Some}
use Rattle.std.specs.Io.KnownBytes.{Consumes}
use Rattle.zone_server.specs.declared.frames.Mode.{Mode}
use Rattle.zone_server.specs.Frames.{Framed, FramesThen, frame_of}
use Rattle.zone_server.specs.Stopping.{MovesFront}
use Rattle.zone_database.specs.declared.zone.Zone.{Zone}
use Rattle.held_transfers.specs.declared.access.TransferAccess.{TransferAccess}
use Rattle.held_transfers.specs.declared.answering.KeyedAnswer.{KeyedAnswer}
use Rattle.held_transfers.specs.declared.answering.KeyedAnswer.TheVariants as answer
use Rattle.held_transfers.specs.declared.held_transfer.HeldTransfer.{HeldTransfer}
use Rattle.held_transfers.specs.Answering.{AnswersWithKeys}
use Rattle.keyed_frames.specs.Sending.{AreSent, Sent, text_of}
use Rattle.keyed_frames.specs.Serving.{AnswerFrames, IsPlainAnswer, IsWrittenFor}

-- ---- whole messages with which an answer begins

-- the first messages of a zone that is sent
pub record BeginsZone (first : HeldTransfer) (text : List ℕ) : Type 0 where
  pub messages : List Sent
  pub last : HeldTransfer
  pub sent : AreSent first messages last
  pub written : text ≡ text_of messages

-- a zone that is sent can have many messages, and any other answer is one
abbrev pub BeginsFor : List Zone → Framed → KeyedAnswer → List ℕ → List ℕ → Type 0
BeginsFor zs f answer.Unkeyed octets text = IsPlainAnswer zs f text
BeginsFor zs f answer.Nothing octets text = text ≡ []
BeginsFor zs f answer.Response octets text = IsWrittenFor zs f answer.Response octets text
BeginsFor zs f (answer.Transfer h) octets text = BeginsZone h text

-- the answer to a message by keys, at some moment, begins so
pub record BeginsByKeys (access : TransferAccess) (zs : List Zone) (f : Framed) (text : List ℕ) : Type 0 where
  pub moment : ℕ
  pub answer_is : KeyedAnswer
  pub octets : List ℕ
  pub answers : AnswersWithKeys access zs moment f.transport f.message answer_is octets
  pub begun : BeginsFor zs f answer_is octets text

-- ---- where it stops

-- of the frame at the start of octets nothing was answered yet, or these messages, with which its answer begins
abbrev pub IsBegun : TransferAccess → List Zone → Mode → List ℕ → List ℕ → Type 0
IsBegun access zs mode octets text =
    (text ≡ []) ⊎ ((f : Framed) × (rest : List ℕ) × (frame_of mode octets ≡ Some (f, rest)) × BeginsByKeys access zs f text)

-- The first frames of octets were answered, in their order, and the next one perhaps to some message of its answer; of these answers a front
-- was written, which may end within a message.
pub record StopsWithin (access : TransferAccess) (zs : List Zone) (mode : Mode) (octets : List ℕ) (held_before held_after : Option (List ℕ)) : Type 0 where
  pub frames : List Framed
  pub behind : List ℕ
  pub stand : FramesThen mode octets frames behind
  pub answers : List ℕ
  pub answered : AnswerFrames access zs frames answers
  pub begun : List ℕ
  pub next : IsBegun access zs mode behind begun
  pub front : MovesFront (answers ++ begun) held_before held_after

-- Octets of an input were read; what was written is a front of the answers to their frames, and no octet besides.
pub record BreaksOff (access : TransferAccess) (zs : List Zone) (mode : Mode) (left_before left_after held_before held_after : Option (List ℕ)) : Type 0 where
  pub octets : List ℕ
  pub consumed : Consumes left_before left_after octets
  pub stopped : StopsWithin access zs mode octets held_before held_after

-- ---- on the way

-- of a text of which this holds, or of none, a front was written
pub record Stops (Is : List ℕ → Type 0) (held_before held_after : Option (List ℕ)) : Type 0 where
  pub text : List ℕ
  pub is : (text ≡ []) ⊎ Is text
  pub front : MovesFront text held_before held_after
