-- A transfer of a zone that is held goes on, from how it goes on by the SOA of the zone
use Rattle.std.proofs.Common.{◌≡◌, ℕ, Bool, false, List, [], Result, Ok, Err, refl, sym, subst}
use Rattle.std.specs.Prelude.{Option, Some, None}
use Rattle.std.specs.declared.alloc.AllocError.{AllocError}
use Rattle.zone_proto.specs.Sets.{RRset}
use Rattle.transfer_messages.specs.Sending.{GoesOn}
use Rattle.held_transfers.specs.declared.held_transfer.HeldTransfer.{HeldTransfer}
use Rattle.held_transfers.specs.Holding.{sets_held, soa_held, GoesOnBySoa, GoesOnHeld}

module _ (now : ℕ) (old new : HeldTransfer) (octets : List ℕ) where
  pub goes_by_soa : (r : Result Bool AllocError) (soa : RRset) → soa_held old ≡ Some soa → new.zone ≡ old.zone → GoesOn soa (sets_held old) now old.transfer new.transfer octets r
      → GoesOnHeld now old new octets r
  goes_by_soa r soa is same on = (same, subst (λ (s : Option RRset). GoesOnBySoa s now old new octets r) (sym is) on)

-- there is nothing to be sent of a zone without an SOA
pub ends_without : (now : ℕ) (old : HeldTransfer) → soa_held old ≡ None → GoesOnHeld now old old [] (Ok false)
ends_without now old is = (refl, subst (λ (s : Option RRset). GoesOnBySoa s now old old [] (Ok false)) (sym is) (refl, refl, refl))

-- no memory was found, and nothing changed
pub stays : (now : ℕ) (old : HeldTransfer) (octets : List ℕ) (e : AllocError) → GoesOnHeld now old old octets (Err e)
stays now old octets e = (refl, by (soa_held old))
  where
    by : (s : Option RRset) → GoesOnBySoa s now old old octets (Err e)
    by None = refl
    by (Some soa) = refl
