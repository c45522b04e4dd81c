-- The messages of a response signed, one after the other (RFC 8945 sections 5.3 and 5.3.1)
use Rattle.std.specs.Prelude.{◌≡◌, ℕ, List, Option, Some, None}
use Rattle.message_tsig.specs.declared.key.Key.{Key}
use Rattle.message_tsig.specs.declared.tsig.Tsig.{Tsig}
use Rattle.message_tsig.specs.Signing.{Signing, behind_signed, fitting, of_request, signed_message, tsig_size}
use Rattle.transfer_messages.specs.declared.sealing.Sealing.{Sealing}

-- keys under which the same is signed
pub record IsSameKey (k j : Key) : Type 0 where
  pub name : j.name ≡ k.name
  pub algorithm : j.algorithm ≡ k.algorithm
  pub secret : j.secret ≡ k.secret

-- the MAC of the first message of a response covers that of the request
abbrev pub signer_of : Tsig → Signing
signer_of request = record { original_id = request.original_id; prior = of_request request.mac }

-- a message with its TSIG within a limit, and how far the response is signed behind it
abbrev pub signed_by : Sealing → ℕ → ℕ → List ℕ → List ℕ
signed_by s now limit message = signed_message s.key now s.signer (fitting limit (tsig_size s.key) message)

abbrev pub signed_behind : Sealing → ℕ → ℕ → List ℕ → Sealing
signed_behind s now limit message = record s { signer = behind_signed s.key now s.signer (fitting limit (tsig_size s.key) message) }

-- a message as it goes out: with its TSIG if the response is signed, and else as it is
abbrev pub goes_out : Option Sealing → ℕ → ℕ → List ℕ → List ℕ
goes_out None now limit message = message
goes_out (Some s) now limit message = signed_by s now limit message

abbrev pub sealing_behind : Option Sealing → ℕ → ℕ → List ℕ → Option Sealing
sealing_behind None now limit message = None
sealing_behind (Some s) now limit message = Some (signed_behind s now limit message)

-- the same of a message that isn't cut
abbrev pub goes_out_whole : Option Sealing → ℕ → List ℕ → List ℕ
goes_out_whole None now message = message
goes_out_whole (Some s) now message = signed_message s.key now s.signer message

abbrev pub sealing_behind_whole : Option Sealing → ℕ → List ℕ → Option Sealing
sealing_behind_whole None now message = None
sealing_behind_whole (Some s) now message = Some (record s { signer = behind_signed s.key now s.signer message })
