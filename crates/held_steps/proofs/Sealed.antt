-- A message that leaves room for its TSIG is signed whole
use Rattle.std.proofs.Common.{◌≡◌, ℕ, ◌+◌, ◌≤◌, List, length, refl, ap, subst, sym, arith}
use Rattle.std.specs.Prelude.{Option, Some, None}
use Rattle.message_tsig.specs.Signing.{behind_signed, signed_message, tsig_size}
use Rattle.transfer_messages.proofs.Fits.{fits}
use Rattle.transfer_messages.specs.declared.sealing.Sealing.{Sealing}
use Rattle.transfer_messages.specs.Seals.{goes_out, goes_out_whole, sealing_behind, sealing_behind_whole}
use Rattle.held_steps.specs.Sending.{room_for}

pub sealed_whole : (s : Option Sealing) (now limit : ℕ) (message : List ℕ) → limit ≡ room_for s message → goes_out s now limit message ≡ goes_out_whole s now message
sealed_whole None now limit message is = refl
sealed_whole (Some s) now limit message is = ap (signed_message s.key now s.signer) (fits limit (tsig_size s.key) message (omega (arith, is)))

pub behind_whole : (s : Option Sealing) (now limit : ℕ) (message : List ℕ) → limit ≡ room_for s message → sealing_behind s now limit message ≡ sealing_behind_whole s now message
behind_whole None now limit message is = refl
behind_whole (Some s) now limit message is =
    ap (λ (m : List ℕ). Some (record s { signer = behind_signed s.key now s.signer m })) (fits limit (tsig_size s.key) message (omega (arith, is)))
