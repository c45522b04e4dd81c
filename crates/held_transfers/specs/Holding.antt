-- A zone that is being sent, held
use Rattle.std.specs.Prelude.{◌≡◌, ℕ, Bool, false, List, [], Option, Some, None, Result, Ok, Err}
use Rattle.std.specs.Arc.{arc_value}
use Rattle.std.specs.declared.alloc.AllocError.{AllocError}
use Rattle.zone_proto.specs.Sets.{RRset}
use Rattle.zone_proto.specs.Types.{SOA}
use Rattle.zone_map.specs.Zones.{Sets, set_at}
use Rattle.transfer_messages.specs.Sending.{GoesOn}
use Rattle.held_transfers.specs.declared.held_transfer.HeldTransfer.{HeldTransfer}

-- the sets of the zone
abbrev pub sets_held : HeldTransfer → Sets
sets_held h = (arc_value h.zone).inner.records

abbrev pub soa_held : HeldTransfer → Option RRset
soa_held h = set_at (sets_held h) (arc_value h.zone).origin SOA

-- there is nothing to be sent of a zone without an SOA
abbrev pub IsEmpty : HeldTransfer → HeldTransfer → List ℕ → Result Bool AllocError → Type 0
IsEmpty old new octets (Ok b) = (b ≡ false) × (new ≡ old) × (octets ≡ [])
IsEmpty old new octets (Err e) = new ≡ old

abbrev pub GoesOnBySoa : Option RRset → ℕ → HeldTransfer → HeldTransfer → List ℕ → Result Bool AllocError → Type 0
GoesOnBySoa None now old new octets r = IsEmpty old new octets r
GoesOnBySoa (Some soa) now old new octets r = GoesOn soa (sets_held old) now old.transfer new.transfer octets r

-- the transfer went on, of the same zone
abbrev pub GoesOnHeld : ℕ → HeldTransfer → HeldTransfer → List ℕ → Result Bool AllocError → Type 0
GoesOnHeld now old new octets r = (new.zone ≡ old.zone) × GoesOnBySoa (soa_held old) now old new octets r
