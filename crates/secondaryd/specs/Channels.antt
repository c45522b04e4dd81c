-- How a primary is spoken to: the question that goes out, and its answer, message by message
use Rattle.std.specs.Prelude.{◌≡◌, ℕ, Bool, false, true, is_some, if◌then◌else◌, List, [], Option, Some, None, Result, Ok, Err}
use Rattle.message_reading.specs.Messages.{message_of}
use Rattle.message_tsig.specs.Checkings.{is_complete}
use Rattle.message_tsig.specs.Requests.{request_mac, signed_request}
use Rattle.message_tsig.specs.Signing.{fudge, of_request}
use Rattle.message_tsig.specs.declared.key.Key.{Key}
use Rattle.transfer_reading.specs.Queries.{query_text}
use Rattle.transfer_reading.specs.Transfers.{Course}
use Rattle.transfer_reading.specs.declared.asked.Asked.{Asked}
use Rattle.transfer_reading.specs.declared.stage.Stage.{Stage}
use Rattle.transfer_reading.specs.declared.stage.Stage.TheVariants.{Before, WholeZone, AllDifferences, SerialAlone}
use Rattle.signed_transfers.specs.SignedTransfers.{took_plain, took_signed, IsFault, SignedCourse}
use Rattle.signed_transfers.specs.declared.fault.SignedFault.{SignedFault}
use Rattle.signed_transfers.specs.declared.fault.SignedFault.TheVariants.{Memory}
use Rattle.secondaryd.specs.declared.channel.Channel.{Channel}
use Rattle.secondaryd.specs.declared.channel.Channel.TheVariants.{Plain, Signed}
use Rattle.secondaryd.specs.declared.channel.Step.{Step}
use Rattle.secondaryd.specs.declared.channel.Step.TheVariants.{Unasked, Reached, Wrong}

-- questions are signed with a key, if there is one
abbrev pub channel_of : Option Key → Channel
channel_of None = Plain None
channel_of (Some k) = Signed k None

-- an answer is waited for
abbrev pub is_open : Channel → Bool
is_open (Plain answer) = is_some answer
is_open (Signed k answer) = is_some answer

-- none is any more
abbrev pub closed : Channel → Channel
closed (Plain answer) = Plain None
closed (Signed k answer) = Signed k None

-- ---- questions

abbrev pub octets_of : Asked → List ℕ
octets_of a = query_text a.id a.origin a.question

-- what is sent to ask something at a moment
abbrev pub sent : Channel → Asked → ℕ → List ℕ
sent (Plain answer) a now = octets_of a
sent (Signed k answer) a now = signed_request k now fudge (octets_of a)

-- no message of the answer has come
abbrev pub begun : Asked → Course
begun a = record { asked = a; stage = Before; records = [] }

abbrev pub signed_begun : Key → Asked → ℕ → SignedCourse
signed_begun k a now = record {
  course = begun a;
  checking = record { prior = of_request (request_mac k now fudge (octets_of a)); since = []; count = 0 };
}

-- its answer is waited for then
abbrev pub opened : Channel → Asked → ℕ → Channel
opened (Plain answer) a now = Plain (Some (begun a))
opened (Signed k answer) a now = Signed k (Some (signed_begun k a now))

-- ---- answers

abbrev pub plainly : Result Course SignedFault → Result Channel SignedFault
plainly (Ok t) = Ok (Plain (Some t))
plainly (Err e) = Err e

abbrev pub signed_with : Key → Result SignedCourse SignedFault → Result Channel SignedFault
signed_with k (Ok s) = Ok (Signed k (Some s))
signed_with k (Err e) = Err e

-- a channel behind the next message, at a moment; nothing where no answer is waited for
abbrev pub behind : Channel → ℕ → List ℕ → Option (Result Channel SignedFault)
behind (Plain None) now message = None
behind (Plain (Some t)) now message = Some (plainly (took_plain t (message_of message)))
behind (Signed k None) now message = None
behind (Signed k (Some s)) now message = Some (signed_with k (took_signed k now s message))

-- how far the answer has come
abbrev pub stage_of : Channel → Option Stage
stage_of (Plain None) = None
stage_of (Plain (Some t)) = Some t.stage
stage_of (Signed k None) = None
stage_of (Signed k (Some s)) = Some s.course.stage

-- it has come to its end
abbrev pub is_end : Stage → Bool
is_end WholeZone = true
is_end AllDifferences = true
is_end (SerialAlone serial) = true
is_end _ = false

-- the answer, if it is signed to its end where its question is
abbrev pub whole : Channel → Option Course
whole (Plain answer) = answer
whole (Signed k None) = None
whole (Signed k (Some s)) = if is_complete s.checking then Some s.course else None

-- ---- what a call tells

-- why a message is none of the answer, unless memory ran out
abbrev pub IsWrong : SignedFault → Option (Result Channel SignedFault) → Type 0
IsWrong Memory made = Unit {0}
IsWrong e made = made ≡ Some (Err e)

abbrev pub IsPlainStep : Step → Result Course SignedFault → Course → Type 0
IsPlainStep Unasked made t = ⊥
IsPlainStep (Reached stage) made t = (made ≡ Ok t) × (stage ≡ t.stage)
IsPlainStep (Wrong e) made t = IsFault e made

abbrev pub IsSignedStep : Step → Result SignedCourse SignedFault → SignedCourse → Type 0
IsSignedStep Unasked made s = ⊥
IsSignedStep (Reached stage) made s = (made ≡ Ok s) × (stage ≡ s.course.stage)
IsSignedStep (Wrong e) made s = IsFault e made

-- what the next message is, and what the channel is behind it
abbrev pub IsStep : Step → Channel → Option (Result Channel SignedFault) → Channel → Type 0
IsStep Unasked before made c = (made ≡ None) × (c ≡ before)
IsStep (Reached stage) before made c = (made ≡ Some (Ok c)) × (stage_of c ≡ Some stage)
IsStep (Wrong e) before made c = IsWrong e made
