-- The answers to the frames of an input
use Rattle.std.specs.Prelude.{◌≡◌, ℕ, List, [], ◌∷◌, ◌++◌, map, Option, None, Result, Ok, Err}
use Rattle.std.specs.Bool.{MatchBool}
use Rattle.std.specs.Io.KnownBytes.{Appends, Consumes, IsAtEnd}
use Rattle.message_reading.specs.declared.error.ReadError.{ReadError}
use Rattle.message_reading.specs.declared.query.Query.{Query as ReadQuery}
use Rattle.message_reading.specs.Queries.{query_of}
use Rattle.zone_server.specs.declared.transfer_policy.TransferPolicy.{TransferPolicy}
use Rattle.zone_proto.specs.Names.{Name}
use Rattle.zone_proto.specs.declared.rdata.signing.RRSIG.{RRSIG}
use Rattle.zone_proto.specs.Signing.{SignedPart}
use Rattle.zone_response.specs.Queries.{Zone, zone_of}
use Rattle.zone_server.specs.declared.frames.Mode.{Mode}
use Rattle.zone_server.specs.declared.server.Server.{Server}
use Rattle.zone_server.specs.Answers.{IsAnswer}
use Rattle.zone_server.specs.Frames.{Framed, FramesThen, frame_of, framed}
use Rattle.zone_server.specs.Transfers.{asks_for_transfer, reply_to, Replies}

-- the zones that are served, and beside them who may transfer each
pub record Served : Type 0 where
  pub zones : List Zone
  pub policies : List TransferPolicy

-- the answer to a message, behind its length
pub record IsOneAnswer (s : Served) (f : Framed) (text : List ℕ) : Type 0 where
  pub octets : List ℕ
  pub answer : IsAnswer s.zones f.transport f.message octets
  pub text_is : text ≡ framed octets

-- a query for a transfer is answered by its reply, and any other message by one answer
abbrev pub AnswersQuery : Served → Framed → ReadQuery → List ℕ → Type 0
AnswersQuery s f q text =
    MatchBool (asks_for_transfer f.transport q) (Replies f.transport q (reply_to s.zones s.policies f.transport f.message q) text) (IsOneAnswer s f text)

abbrev pub AnswersRead : Served → Framed → Result ReadQuery ReadError → List ℕ → Type 0
AnswersRead s f (Ok q) text = AnswersQuery s f q text
AnswersRead s f (Err e) text = IsOneAnswer s f text

-- what is written to a frame
abbrev pub Answers : Served → Framed → List ℕ → Type 0
Answers s f text = AnswersRead s f (query_of f.message) text

-- what is written to frames, in their order
abbrev pub AnswerFrames : Served → List Framed → List ℕ → Type 0
AnswerFrames s [] text = text ≡ []
AnswerFrames s (f ∷ fs) text = (first more : List ℕ) × Answers s f first × (text ≡ first ++ more) × AnswerFrames s fs more

-- Octets were read behind those that waited. All whole frames of these were answered, in order, and the answers written; what is left
-- waits. Of an input and an output of which it is known what they hold, the last four are what they have left and hold before and after.
pub record ServesOn (s : Served) (mode : Mode) (waited waiting : List ℕ) (left_before left_after held_before held_after : Option (List ℕ)) : Type 0 where
  pub octets : List ℕ
  pub frames : List Framed
  pub text : List ℕ
  pub consumed : Consumes left_before left_after octets
  pub stand : FramesThen mode (waited ++ octets) frames waiting
  pub no_more : frame_of mode waiting ≡ None
  pub answered : AnswerFrames s frames text
  pub appended : Appends held_before held_after text

-- An input was read to its end, and its whole frames were answered; what is left of it is no frame, and gets no answer.
pub record Serves (s : Served) (mode : Mode) (left_before left_after held_before held_after : Option (List ℕ)) : Type 0 where
  pub left : List ℕ
  pub served : ServesOn s mode [] left left_before left_after held_before held_after
  pub at_end : IsAtEnd left_after

-- ---- on the way

-- of the octets that waited the first ones were written to what a writer holds, and the others wait still
pub record Moves (waited : List ℕ) (held_before held_after : Option (List ℕ)) (waiting : List ℕ) : Type 0 where
  pub written : List ℕ
  pub parts : waited ≡ written ++ waiting
  pub appended : Appends held_before held_after written

-- a text of which this holds was put behind the octets that waited, of which some were written
pub record Puts (Is : List ℕ → Type 0) (waited waiting : List ℕ) (held_before held_after : Option (List ℕ)) : Type 0 where
  pub text : List ℕ
  pub is : Is text
  pub moved : Moves (waited ++ text) held_before held_after waiting

-- the frames at the start of octets were answered, and these octets are left; the answers were put behind those that
-- waited, of which some were written
pub record TakesFrames (s : Served) (mode : Mode) (octets left waited waiting : List ℕ) (held_before held_after : Option (List ℕ)) : Type 0 where
  pub frames : List Framed
  pub text : List ℕ
  pub stand : FramesThen mode octets frames left
  pub answered : AnswerFrames s frames text
  pub moved : Moves (waited ++ text) held_before held_after waiting

-- ---- as the program keeps it

abbrev pub served_of : {S H : Type 0} → (S → SignedPart → ℕ → ℕ → Option RRSIG) → (H → ℕ → List ℕ → Name → ℕ → Option (List ℕ)) → Server S H → Served
served_of signature_of digest_of s = record { zones = map (zone_of signature_of digest_of) s.zones.now; policies = s.policies.now }
