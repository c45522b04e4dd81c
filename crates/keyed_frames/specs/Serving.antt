-- The answers of a server with keys to the frames of an input
use Rattle.std.specs.Prelude.{◌≡◌, ℕ, List, [], ◌∷◌, ◌++◌, map, Option, None}
use Rattle.std.specs.Io.KnownBytes.{Appends, Consumes, IsAtEnd}
use Rattle.zone_server.specs.declared.frames.Mode.{Mode}
use Rattle.zone_server.specs.Answers.{IsAnswer}
use Rattle.zone_server.specs.Frames.{Framed, FramesThen, frame_of, framed}
use Rattle.zone_database.specs.declared.zone.Zone.{Zone}
use Rattle.zone_database.specs.Zones.{served_zone}
use Rattle.held_transfers.specs.declared.access.TransferAccess.{TransferAccess}
use Rattle.held_transfers.specs.declared.answering.KeyedAnswer.{KeyedAnswer}
use Rattle.held_transfers.specs.declared.answering.KeyedAnswer.TheVariants as answer
use Rattle.held_transfers.specs.Answering.{AnswersWithKeys}
use Rattle.keyed_frames.specs.Sending.{IsSentWhole}

-- ---- the answer to a message

-- what any server answers to it, behind its length
abbrev pub IsPlainAnswer : List Zone → Framed → List ℕ → Type 0
IsPlainAnswer zs f text = (octets : List ℕ) × IsAnswer (map served_zone zs) f.transport f.message octets × (text ≡ framed octets)

-- by what it is answered with, and the octets that are there for that: what any server answers; nothing; these octets; or the messages of a zone
abbrev pub IsWrittenFor : List Zone → Framed → KeyedAnswer → List ℕ → List ℕ → Type 0
IsWrittenFor zs f answer.Unkeyed octets text = IsPlainAnswer zs f text
IsWrittenFor zs f answer.Nothing octets text = text ≡ []
IsWrittenFor zs f answer.Response octets text = text ≡ framed octets
IsWrittenFor zs f (answer.Transfer h) octets text = IsSentWhole h text

-- what is written to a message that is answered by keys at some moment
pub record AnswersByKeys (access : TransferAccess) (zs : List Zone) (f : Framed) (text : List ℕ) : Type 0 where
  pub moment : ℕ
  pub answer_is : KeyedAnswer
  pub octets : List ℕ
  pub answers : AnswersWithKeys access zs moment f.transport f.message answer_is octets
  pub written : IsWrittenFor zs f answer_is octets text

-- what is written to frames, in their order
abbrev pub AnswerFrames : TransferAccess → List Zone → List Framed → List ℕ → Type 0
AnswerFrames access zs [] text = text ≡ []
AnswerFrames access zs (f ∷ fs) text = (first more : List ℕ) × AnswersByKeys access zs f first × (text ≡ first ++ more) × AnswerFrames access zs fs more

-- ---- the frames of an input

-- Octets were read behind those that waited. All whole frames of these were answered, in order, and the answers written; what is left
-- waits. Of an input and an output of which it is known what they hold, the last four are what they have left and hold before and after.
pub record ServesOn (access : TransferAccess) (zs : List Zone) (mode : Mode) (waited waiting : List ℕ) (left_before left_after held_before held_after : Option (List ℕ)) : Type 0 where
  pub octets : List ℕ
  pub frames : List Framed
  pub text : List ℕ
  pub consumed : Consumes left_before left_after octets
  pub stand : FramesThen mode (waited ++ octets) frames waiting
  pub no_more : frame_of mode waiting ≡ None
  pub answered : AnswerFrames access zs frames text
  pub appended : Appends held_before held_after text

-- An input was read to its end, and its whole frames were answered; what is left of it is no frame, and gets no answer.
pub record Serves (access : TransferAccess) (zs : List Zone) (mode : Mode) (left_before left_after held_before held_after : Option (List ℕ)) : Type 0 where
  pub left : List ℕ
  pub served : ServesOn access zs mode [] left left_before left_after held_before held_after
  pub at_end : IsAtEnd left_after

-- ---- on the way

-- a text of which this holds was written
abbrev pub Writes : (List ℕ → Type 0) → Option (List ℕ) → Option (List ℕ) → Type 0
Writes Is held_before held_after = (text : List ℕ) × Is text × Appends held_before held_after text

-- the frames at the start of octets were answered, and these octets are left
pub record TakesFrames (access : TransferAccess) (zs : List Zone) (mode : Mode) (octets left : List ℕ) (held_before held_after : Option (List ℕ)) : Type 0 where
  pub frames : List Framed
  pub text : List ℕ
  pub stand : FramesThen mode octets frames left
  pub answered : AnswerFrames access zs frames text
  pub appended : Appends held_before held_after text
