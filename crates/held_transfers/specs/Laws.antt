-- Laws of messages that are answered by keys
use Rattle.std.specs.Prelude.{◌≡◌, ℕ, true, List, Option, Some}
use Rattle.std.specs.Arc.{arc_value}
use Rattle.message_tsig.specs.declared.key.Key.{Key}
use Rattle.message_tsig.specs.declared.tsig.Tsig.{Tsig}
use Rattle.message_tsig.specs.Checking.{IsAuthentic}
use Rattle.zone_server.specs.declared.transport.Transport.{Transport}
use Rattle.zone_database.specs.declared.zone.Zone.{Zone}
use Rattle.held_transfers.specs.declared.access.TransferAccess.{TransferAccess}
use Rattle.held_transfers.specs.declared.answering.KeyedAnswer.TheVariants as answer
use Rattle.held_transfers.specs.declared.held_transfer.HeldTransfer.{HeldTransfer}
use Rattle.held_transfers.specs.Accesses.{is_let}
use Rattle.held_transfers.specs.Answering.{AnswersWithKeys}

-- a message was found signed under a key of these at this moment, and is these octets without its TSIG
abbrev pub IsFoundSigned : List Key → ℕ → List ℕ → Key → Type 0
IsFoundSigned keys now message k = (tsig : Tsig) × (rest : List ℕ) × IsAuthentic keys now message tsig k rest

-- a grant lets those have the zone that is held and sent who have this key, or none; and if it is a key, the message was found signed under it
pub record IsEntitled (access : TransferAccess) (now : ℕ) (message : List ℕ) (h : HeldTransfer) : Type 0 where
  pub key : Option Key
  pub granted : is_let access.grants.items key (arc_value h.zone).origin ≡ true
  pub authentic : (k : Key) → key ≡ Some k → IsFoundSigned access.keys.items now message k

-- the messages of a zone begin only for those who may have it
abbrev pub TransfersAreGranted : Type 0
TransfersAreGranted = (access : TransferAccess) (zs : List Zone) (now : ℕ) (t : Transport) (message : List ℕ) (h : HeldTransfer) (octets : List ℕ)
    → AnswersWithKeys access zs now t message (answer.Transfer h) octets → IsEntitled access now message h
