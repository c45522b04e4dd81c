-- The frames of an input are answered one after the other, by who may be another after each
use Rattle.std.specs.Prelude.{◌≡◌, ℕ, List, [], ◌∷◌, ◌++◌, Option, None}
use Rattle.std.specs.Io.KnownBytes.{Appends, Consumes, IsAtEnd}
use Rattle.zone_server.specs.declared.frames.Mode.{Mode}
use Rattle.zone_server.specs.Frames.{Framed, FramesThen, frame_of}

-- what is written to a message by who is this, and who that is then
abbrev pub Answers : Type 0 → Type 1
Answers S = S → Framed → List ℕ → S → Type 0

-- a text of which this holds was written
abbrev pub Writes : (List ℕ → Type 0) → Option (List ℕ) → Option (List ℕ) → Type 0
Writes Is held_before held_after = (text : List ℕ) × Is text × Appends held_before held_after text

module _ {S : Type 0} (answers : Answers S) where
  -- what is written to frames, in their order
  abbrev pub AnswerFrames : S → List Framed → List ℕ → S → Type 0
  AnswerFrames s [] text new = (text ≡ []) × (new ≡ s)
  AnswerFrames s (f ∷ fs) text new = (first more : List ℕ) × (mid : S) × answers s f first mid × (text ≡ first ++ more) × AnswerFrames mid fs more new

  -- the frames at the start of octets were answered, and these octets are left
  pub record TakesFrames (s : S) (mode : Mode) (octets left : List ℕ) (held_before held_after : Option (List ℕ)) (new : S) : Type 0 where
    pub frames : List Framed
    pub text : List ℕ
    pub stand : FramesThen mode octets frames left
    pub answered : AnswerFrames s frames text new
    pub appended : Appends held_before held_after text

  -- Octets were read behind those that waited. All whole frames of these were answered, in order, and the answers written; what is left
  -- waits. Of an input and an output of which it is known what they hold, the last four are what they have left and hold before and after.
  pub record ServesOn (s : S) (mode : Mode) (waited waiting : List ℕ) (left_before left_after held_before held_after : Option (List ℕ)) (new : S) : Type 0 where
    pub octets : List ℕ
    pub frames : List Framed
    pub text : List ℕ
    pub consumed : Consumes left_before left_after octets
    pub stand : FramesThen mode (waited ++ octets) frames waiting
    pub no_more : frame_of mode waiting ≡ None
    pub answered : AnswerFrames s frames text new
    pub appended : Appends held_before held_after text

  -- An input was read to its end, and its whole frames were answered; what is left of it is no frame, and gets no answer.
  pub record Serves (s : S) (mode : Mode) (left_before left_after held_before held_after : Option (List ℕ)) (new : S) : Type 0 where
    pub left : List ℕ
    pub served : ServesOn s mode [] left left_before left_after held_before held_after new
    pub at_end : IsAtEnd left_after
