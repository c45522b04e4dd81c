-- What the calls do that answer messages by keys, and send zones
use Rattle.std.specs.Prelude.{◌≡◌, ◌⊎◌, ℕ, Bool, true, false, List, Option, Some, None, Result, Ok, Err}
use Rattle.std.specs.declared.alloc.AllocError.{AllocError}
use Rattle.call_handles.specs.Rooms.{IsUntouched}
use Rattle.arrival_calls.specs.declared.client.ClientMessage.{ClientMessage}
use Rattle.zone_server.specs.declared.transport.Transport.{Transport}
use Rattle.zone_database.specs.declared.database.ZoneDatabase.{ZoneDatabase}
use Rattle.zone_database.specs.declared.outcome.Outcome.TheVariants.{Done, Ignored, Closed, NoMemory, BadTransport}
use Rattle.zone_database.specs.declared.zone.Zone.{Zone}
use Rattle.zone_database.specs.Calls.{transport_of, IsGiven}
use Rattle.zone_database.specs.Databases.{zones_in}
use Rattle.held_transfers.specs.declared.access.TransferAccess.{TransferAccess}
use Rattle.held_transfers.specs.declared.answering.KeyedAnswer.{KeyedAnswer}
use Rattle.held_transfers.specs.declared.answering.KeyedAnswer.TheVariants as answer
use Rattle.held_transfers.specs.declared.held_transfer.HeldTransfer.{HeldTransfer}
use Rattle.held_transfers.specs.Answering.{AnswersWithKeys}
use Rattle.held_steps.specs.declared.held_answer.HeldAnswer.{HeldAnswer}
use Rattle.held_steps.specs.Sending.{GoesOnAnswer}
use Rattle.transfer_calls.specs.declared.outcome.TransferOutcome.{TransferOutcome}
use Rattle.transfer_calls.specs.declared.outcome.TransferOutcome.TheVariants.{Usual, NoKeys, Unkeyed, Transfer, NoTransfer, NoMore}

-- the octets are in the room, whose length is returned; or it is too small for them, and stays as it was
abbrev pub IsGivenBy : List ℕ → TransferOutcome → ℕ → List ℕ → List ℕ → Type 0
IsGivenBy octets (Usual o) written before after = IsGiven octets o written before after
IsGivenBy octets outcome written before after = ⊥

-- ---- a message is answered

-- no memory was found, and nothing changed
abbrev pub FindsNoMemory : Option HeldAnswer → TransferOutcome → ℕ → List ℕ → List ℕ → Option HeldAnswer → Type 0
FindsNoMemory old outcome written before after new = (outcome ≡ Usual NoMemory) × IsUntouched written before after × (new ≡ old)

-- a zone goes out, with no steps in its place
abbrev pub whole_of : HeldTransfer → HeldAnswer
whole_of h = record { transfer = h; texts = None }

-- what is told of an answer, of which these are the octets; a transfer is held in place of what was held
abbrev pub TellsAnswer : KeyedAnswer → List ℕ → Option HeldAnswer → TransferOutcome → ℕ → List ℕ → List ℕ → Option HeldAnswer → Type 0
TellsAnswer answer.Unkeyed octets old outcome written before after new = (outcome ≡ Unkeyed) × IsUntouched written before after × (new ≡ old)
TellsAnswer answer.Nothing octets old outcome written before after new = (outcome ≡ Usual Ignored) × IsUntouched written before after × (new ≡ old)
TellsAnswer answer.Response octets old outcome written before after new = IsGivenBy octets outcome written before after × (new ≡ old)
TellsAnswer (answer.Transfer h) octets old outcome written before after new =
    ((outcome ≡ Transfer) × IsUntouched written before after × (new ≡ Some (whole_of h))) ⊎ FindsNoMemory old outcome written before after new

-- a message that came by a transport is answered from these zones, by these keys
abbrev pub AnswersKeyed : TransferAccess → List Zone → Transport → ClientMessage → Option HeldAnswer → TransferOutcome → ℕ → List ℕ → List ℕ → Option HeldAnswer → Type 0
AnswersKeyed access zs t m old outcome written before after new =
    FindsNoMemory old outcome written before after new
    ⊎ ((x : KeyedAnswer) × (octets : List ℕ) × AnswersWithKeys access zs m.moment t m.octets.now x octets × TellsAnswer x octets old outcome written before after new)

-- the call ends so, and nothing changed
abbrev pub EndsWith : TransferOutcome → Option HeldAnswer → TransferOutcome → ℕ → List ℕ → List ℕ → Option HeldAnswer → Type 0
EndsWith end old outcome written before after new = (outcome ≡ end) × IsUntouched written before after × (new ≡ old)

-- the same of a handle, which may hold no keys
abbrev pub AnswersByAccess : Option TransferAccess → List Zone → Transport → ClientMessage → Option HeldAnswer → TransferOutcome → ℕ → List ℕ → List ℕ → Option HeldAnswer → Type 0
AnswersByAccess None zs t m old outcome written before after new = EndsWith NoKeys old outcome written before after new
AnswersByAccess (Some access) zs t m old outcome written before after new = AnswersKeyed access zs t m old outcome written before after new

-- the same of one that may hold no zones
abbrev pub AnswersByZones : Option ZoneDatabase → Option TransferAccess → Transport → ClientMessage → Option HeldAnswer → TransferOutcome → ℕ → List ℕ → List ℕ → Option HeldAnswer → Type 0
AnswersByZones None access t m old outcome written before after new = EndsWith (Usual Closed) old outcome written before after new
AnswersByZones (Some c) access t m old outcome written before after new = AnswersByAccess access (zones_in c) t m old outcome written before after new

-- the same of a message with a number of a transport, which may be none
abbrev pub AnswersBy : Option Transport → Option ZoneDatabase → Option TransferAccess → ClientMessage → Option HeldAnswer → TransferOutcome → ℕ → List ℕ → List ℕ → Option HeldAnswer → Type 0
AnswersBy None zones access m old outcome written before after new = EndsWith (Usual BadTransport) old outcome written before after new
AnswersBy (Some t) zones access m old outcome written before after new = AnswersByZones zones access t m old outcome written before after new

abbrev pub AnswersMessage : Option ZoneDatabase → Option TransferAccess → ClientMessage → Option HeldAnswer → TransferOutcome → ℕ → List ℕ → List ℕ → Option HeldAnswer → Type 0
AnswersMessage zones access m old outcome written before after new =
    AnswersBy (transport_of m.limit m.transport) zones access m old outcome written before after new

-- ---- a transfer goes on

-- what is told where a transfer went on by these octets, came to its end, or stayed for want of memory
abbrev pub TellsMessage : Result Bool AllocError → List ℕ → TransferOutcome → ℕ → List ℕ → List ℕ → Type 0
TellsMessage (Ok true) octets outcome written before after = IsGivenBy octets outcome written before after
TellsMessage (Ok false) octets outcome written before after = (outcome ≡ NoMore) × IsUntouched written before after
TellsMessage (Err e) octets outcome written before after = (outcome ≡ Usual NoMemory) × IsUntouched written before after

-- the next message of a transfer is handed out, at a moment
pub record HandsOut (now : ℕ) (old new : HeldAnswer) (outcome : TransferOutcome) (written : ℕ) (before after : List ℕ) : Type 0 where
  pub octets : List ℕ
  pub goes : Result Bool AllocError
  pub on : GoesOnAnswer now old new octets goes
  pub told : TellsMessage goes octets outcome written before after

-- a transfer is held on; but not behind its last message, nor where one found no room, since none may be left out
abbrev pub IsKeptBy : TransferOutcome → HeldAnswer → Option HeldAnswer → Type 0
IsKeptBy (Usual Done) h new = new ≡ Some h
IsKeptBy (Usual NoMemory) h new = new ≡ Some h
IsKeptBy outcome h new = new ≡ None

-- the same of a handle, which may hold none
abbrev pub GivesMessage : ℕ → Option HeldAnswer → TransferOutcome → ℕ → List ℕ → List ℕ → Option HeldAnswer → Type 0
GivesMessage now None outcome written before after new = (outcome ≡ NoTransfer) × IsUntouched written before after × (new ≡ None)
GivesMessage now (Some old) outcome written before after new = (h : HeldAnswer) × HandsOut now old h outcome written before after × IsKeptBy outcome h new
