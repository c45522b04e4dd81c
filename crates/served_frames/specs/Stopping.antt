-- What was written where the frames of an input aren't answered to its end: a front of their answers
use Rattle.std.specs.Prelude.{◌≡◌, ◌⊎◌, ℕ, List, [], ◌++◌, Option, Some}
use Rattle.std.specs.Io.KnownBytes.{Consumes}
use Rattle.zone_server.specs.declared.frames.Mode.{Mode}
use Rattle.zone_server.specs.Frames.{Framed, FramesThen, frame_of}
use Rattle.zone_server.specs.Stopping.{MovesFront}
use Rattle.served_frames.specs.Serving.{AnswerFrames, Answers}

-- of a text of which this holds a front was written
pub record Stops (Is : List ℕ → Type 0) (held_before held_after : Option (List ℕ)) : Type 0 where
  pub text : List ℕ
  pub is : Is text
  pub front : MovesFront text held_before held_after

module _ {S : Type 0} (answers begins : Answers S) where
  -- of the frame at the start of octets nothing was answered yet, or the answer to it began with this text
  abbrev pub IsBegun : S → Mode → List ℕ → List ℕ → S → Type 0
  IsBegun s mode octets text new =
      ((text ≡ []) × (new ≡ s)) ⊎ ((f : Framed) × (rest : List ℕ) × (frame_of mode octets ≡ Some (f, rest)) × begins s f text new)

  -- The first frames of octets were answered, in their order, and the answer to the next one perhaps began; of these answers a front was
  -- written, which may end within a message.
  pub record StopsWithin (s : S) (mode : Mode) (octets : List ℕ) (held_before held_after : Option (List ℕ)) (new : S) : Type 0 where
    pub frames : List Framed
    pub behind : List ℕ
    pub stand : FramesThen mode octets frames behind
    pub answers_are : List ℕ
    pub mid : S
    pub answered : AnswerFrames answers s frames answers_are mid
    pub begun : List ℕ
    pub next : IsBegun mid mode behind begun new
    pub front : MovesFront (answers_are ++ begun) held_before held_after

  -- Octets of an input were read; what was written is a front of the answers to their frames, and no octet besides.
  pub record BreaksOff (s : S) (mode : Mode) (left_before left_after held_before held_after : Option (List ℕ)) (new : S) : Type 0 where
    pub octets : List ℕ
    pub consumed : Consumes left_before left_after octets
    pub stopped : StopsWithin s mode octets held_before held_after new
