-- A zone that is being sent (RFC 5936 section 2.2), its messages signed if the request was (RFC 8945 section 5.3.1)
use Rattle.std.specs.Prelude.{◌≡◌, ◌⊎◌, ℕ, Bool, true, false, List, [], if◌then◌else◌, Result, Ok, Err}
use Rattle.std.specs.declared.alloc.AllocError.{AllocError}
use Rattle.zone_proto.specs.declared.record.Record.{Record}
use Rattle.zone_proto.specs.declared.response_code.ResponseCode.TheVariants as code
use Rattle.zone_proto.specs.Sets.{RRset}
use Rattle.zone_map.specs.Zones.{Sets}
use Rattle.zone_response.specs.Responses.{bare}
use Rattle.zone_server.specs.Answers.{IsSent}
use Rattle.zone_server.specs.Limits.{datagram_size}
use Rattle.transfer_messages.specs.declared.open_transfer.OpenTransfer.{OpenTransfer}
use Rattle.transfer_messages.specs.declared.open_transfer.Planned.{Planned}
use Rattle.transfer_messages.specs.declared.open_transfer.Planned.TheVariants as plan
use Rattle.transfer_messages.specs.Messages.{HasUnsendable, IsNext, Transfer, left_of}
use Rattle.transfer_messages.specs.Seals.{goes_out_whole, sealing_behind_whole}

-- how many octets a message has at most before it is signed: 65,535 without the 358 that a TSIG has at most
abbrev pub room : ℕ
room = 65177

-- what is sent of the zone with this SOA and these sets
abbrev pub transfer_in : RRset → Sets → OpenTransfer → Transfer
transfer_in soa m x = record { query = x.query; soa = soa; sets = m; size = datagram_size; limit = room }

-- the records that are left; none where the transfer was broken off
abbrev pub left_in : RRset → Sets → OpenTransfer → List Record
left_in soa m x = if x.is_broken_off then [] else left_of (transfer_in soa m x) x.place

-- octets are a message of ServFail, since one of the records that are left can't be sent
pub record IsBreakOff (soa : RRset) (m : Sets) (x : OpenTransfer) (octets : List ℕ) : Type 0 where
  pub unsendable : HasUnsendable (transfer_in soa m x) (left_of (transfer_in soa m x) x.place)
  pub going : x.is_broken_off ≡ false
  pub failed : IsSent room x.query (bare code.ServFail) octets

-- a transfer went on by a message that was these octets before it was signed
abbrev pub GoesBy : RRset → Sets → OpenTransfer → OpenTransfer → List ℕ → Type 0
GoesBy soa m old new plain =
    (IsNext (transfer_in soa m old) old.place new.place plain × (old.is_broken_off ≡ false) × (new.is_broken_off ≡ false))
    ⊎ (IsBreakOff soa m old plain × (new.is_broken_off ≡ true))

-- a transfer went on by a message, which went out signed if the request was
pub record GoesOnBy (soa : RRset) (m : Sets) (now : ℕ) (old new : OpenTransfer) (octets : List ℕ) : Type 0 where
  pub plain : List ℕ
  pub message : GoesBy soa m old new plain
  pub text : octets ≡ goes_out_whole old.sealing now plain
  pub sealing : new.sealing ≡ sealing_behind_whole old.sealing now plain
  pub query : new.query ≡ old.query

-- it did; or nothing is left to be sent; or memory ran out, and it is where it was
abbrev pub GoesOn : RRset → Sets → ℕ → OpenTransfer → OpenTransfer → List ℕ → Result Bool AllocError → Type 0
GoesOn soa m now old new octets (Ok true) = GoesOnBy soa m now old new octets
GoesOn soa m now old new octets (Ok false) = (left_in soa m old ≡ []) × (octets ≡ []) × (new ≡ old)
GoesOn soa m now old new octets (Err e) = new ≡ old

-- ---- on the way

-- what comes next was written, as it is before it is signed
abbrev pub Plans : RRset → Sets → OpenTransfer → List ℕ → Result Planned AllocError → Type 0
Plans soa m x octets (Ok plan.End) = (left_in soa m x ≡ []) × (octets ≡ [])
Plans soa m x octets (Ok (plan.Next place)) = IsNext (transfer_in soa m x) x.place place octets × (x.is_broken_off ≡ false)
Plans soa m x octets (Ok plan.BreakOff) = IsBreakOff soa m x octets
Plans soa m x octets (Err e) = Unit {0}
