-- An answer to a signed question, taken message by message (RFC 8945 sections 5.3.1 and 5.4)
use Rattle.std.specs.Prelude.{◌≡◌, ℕ, List, Option, Result, Ok, Err}
use Rattle.message_reading.specs.Messages.{message_of, Parts}
use Rattle.message_tsig.specs.Checkings.{Checking}
use Rattle.message_tsig.specs.Responses.{checking_behind, found_of, refused, refused_unsigned, signed, unsigned, wrong, Found}
use Rattle.message_tsig.specs.declared.key.Key.{Key}
use Rattle.transfer_reading.specs.Transfers.{took, Course}
use Rattle.transfer_reading.specs.declared.fault.AnswerFault.{AnswerFault}
use Rattle.signed_transfers.specs.declared.fault.SignedFault.{SignedFault}
use Rattle.signed_transfers.specs.declared.fault.SignedFault.TheVariants.{Wrong, Refused, Answer, Memory}

-- the answer, and how far its signatures are checked
pub record SignedCourse : Type 0 where
  pub course : Course
  pub checking : Checking

-- one step after the other: the first fault is that of all
infixl 10 ◌>>=◌
abbrev pub ◌>>=◌ : {A B : Type 0} → Result A SignedFault → (A → Result B SignedFault) → Result B SignedFault
(Ok x) >>= f = f x
(Err e) >>= f = Err e

-- a message without its TSIG, where it is signed or may be without
abbrev pub plain_of : List ℕ → Found → Result (List ℕ) SignedFault
plain_of message (signed t rest) = Ok rest
plain_of message unsigned = Ok message
plain_of message (refused t) = Err (Refused t.error)
plain_of message (refused_unsigned t) = Err (Refused t.error)
plain_of message (wrong fault) = Err (Wrong fault)

abbrev pub answered : Result Course AnswerFault → Result Course SignedFault
answered (Ok t) = Ok t
answered (Err fault) = Err (Answer fault)

-- an answer behind its next message, which is without its TSIG
abbrev pub took_plain : Course → Option Parts → Result Course SignedFault
took_plain t message = answered (took t message)

abbrev pub took_found : SignedCourse → List ℕ → Found → Result SignedCourse SignedFault
took_found s message found =
    plain_of message found >>= λ plain.
    took_plain s.course (message_of plain) >>= λ course.
    Ok (record { course = course; checking = checking_behind s.checking message found })

-- an answer behind its next message, under the key of the question, at a moment in seconds since 1970
abbrev pub took_signed : Key → ℕ → SignedCourse → List ℕ → Result SignedCourse SignedFault
took_signed k now s message = took_found s message (found_of k now s.checking message)

-- a call refuses as is defined, unless memory ran out
abbrev pub IsFault : {A : Type 0} → SignedFault → Result A SignedFault → Type 0
IsFault Memory made = Unit {0}
IsFault e made = made ≡ Err e
