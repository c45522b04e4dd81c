-- A zone that is sent in messages one behind the other, each made at a moment of its own (RFC 5936 section 2.2)
use Rattle.std.specs.Prelude.{◌≡◌, ℕ, true, false, List, [], ◌∷◌, Ok}
use Rattle.std.specs.List.{flat_map}
use Rattle.zone_server.specs.Frames.{framed}
use Rattle.held_transfers.specs.declared.held_transfer.HeldTransfer.{HeldTransfer}
use Rattle.held_transfers.specs.Holding.{GoesOnHeld}

-- a message of a zone: when it was made, the transfer behind it, and its octets
pub record Sent : Type 0 where
  pub moment : ℕ
  pub behind : HeldTransfer
  pub octets : List ℕ

-- messages lead a transfer on from one to another
abbrev pub AreSent : HeldTransfer → List Sent → HeldTransfer → Type 0
AreSent first [] last = last ≡ first
AreSent first (m ∷ ms) last = GoesOnHeld m.moment first m.behind m.octets (Ok true) × AreSent m.behind ms last

-- they are written, each behind its length
abbrev pub text_of : List Sent → List ℕ
text_of ms = flat_map (λ m. framed m.octets) ms

-- messages lead a transfer to its end, where nothing is left to be sent at some moment, and are written so
pub record IsSentWhole (first : HeldTransfer) (text : List ℕ) : Type 0 where
  pub messages : List Sent
  pub last : HeldTransfer
  pub sent : AreSent first messages last
  pub moment : ℕ
  pub end : HeldTransfer
  pub rest : List ℕ
  pub ended : GoesOnHeld moment last end rest (Ok false)
  pub written : text ≡ text_of messages
