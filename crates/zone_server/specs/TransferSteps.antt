-- How far a transfer has come
use Rattle.std.specs.Prelude.{◌≡◌, ℕ, ◌≤◌, List, ◌++◌, length, take, drop, Option, Result, Ok, Err}
use Rattle.zone_proto.specs.declared.record.Record.{Record}
use Rattle.message_reading.specs.declared.query.Query.{Query as ReadQuery}
use Rattle.message_writing.specs.declared.error.WriteError.{WriteError}
use Rattle.message_writing.specs.declared.error.WriteError.TheVariants as errors
use Rattle.message_writing.specs.declared.response.Group.{Group}
use Rattle.message_writing.specs.Fronts.{FirstHasNoRoom}
use Rattle.message_writing.specs.Outcomes.{HasUnwritable}
use Rattle.message_writing.specs.Responses.{all_records}
use Rattle.zone_server.specs.declared.transfer_writer.Halt.{Halt}
use Rattle.zone_server.specs.declared.transfer_writer.Halt.TheVariants as halt
use Rattle.zone_server.specs.declared.transfer_reply.TransferReply.{TransferReply}
use Rattle.zone_server.specs.declared.transfer_reply.TransferReply.TheVariants as replies
use Rattle.zone_server.specs.Answers.{code_number}
use Rattle.zone_server.specs.Serving.{Moves}
use Rattle.zone_server.specs.Stopping.{MovesFront}
use Rattle.zone_server.specs.Transfers.{joined, by_code, by_soa, by_zone, AreMessages, ArePiecesOf, HasUnsendable, IsTransferMessage, Reply}

-- a message of the first of some groups was written, so many as it has room for
pub record IsMessageOf (q : ReadQuery) (gs : List Group) (count : ℕ) (octets : List ℕ) : Type 0 where
  pub at_most : count ≤ length gs
  pub message : IsTransferMessage q (all_records (take count gs)) octets
  pub next : FirstHasNoRoom 65535 q (all_records (take count gs)) (drop count gs)

-- it was, or it says why not
abbrev pub WritesMessage : ReadQuery → List Group → List ℕ → Result ℕ WriteError → Type 0
WritesMessage q gs octets (Ok count) = IsMessageOf q gs count octets
WritesMessage q gs octets (Err errors.Unwritable) = HasUnwritable (all_records gs)
WritesMessage q gs octets (Err errors.NoRoom) = ⊥
WritesMessage q gs octets (Err errors.BadCode) = ⊥
WritesMessage q gs octets (Err errors.Memory) = Unit {0}

-- pieces were put into messages, and these behind the octets that waited, of which some were written
pub record HasSent (q : ReadQuery) (pieces : List (List Record)) (waited waiting : List ℕ) (held_before held_after : Option (List ℕ)) : Type 0 where
  pub text : List ℕ
  pub messages : List (List (List Record))
  pub parted : joined messages ≡ pieces
  pub written : AreMessages q messages text
  pub moved : Moves (waited ++ text) held_before held_after waiting

-- so were the first of some pieces, and these are left
pub record HasSentPieces (q : ReadQuery) (pieces left : List (List Record)) (waited waiting : List ℕ) (held_before held_after : Option (List ℕ)) : Type 0 where
  pub first : List (List Record)
  pub parts : pieces ≡ first ++ left
  pub sent : HasSent q first waited waiting held_before held_after

-- so were sets
pub record HasSentSets (q : ReadQuery) (sets : List (List Record)) (waited waiting : List ℕ) (held_before held_after : Option (List ℕ)) : Type 0 where
  pub pieces : List (List Record)
  pub cut : ArePiecesOf q sets pieces
  pub sent : HasSent q pieces waited waiting held_before held_after

-- so were the first of some sets, and these are left
pub record HasSentFirst (q : ReadQuery) (sets left : List (List Record)) (waited waiting : List ℕ) (held_before held_after : Option (List ℕ)) : Type 0 where
  pub first : List (List Record)
  pub parts : sets ≡ first ++ left
  pub sent : HasSentSets q first waited waiting held_before held_after

-- so were records up to a place behind which one can't be sent
pub record HasBrokenOff (q : ReadQuery) (records : List Record) (waited waiting : List ℕ) (held_before held_after : Option (List ℕ)) : Type 0 where
  pub pieces : List (List Record)
  pub left : List Record
  pub parts : records ≡ joined pieces ++ left
  pub unsendable : HasUnsendable q left
  pub sent : HasSent q pieces waited waiting held_before held_after

-- so were the first of some records, and no more, since frames can't be served any more; of all that waited a front was written
pub record HasStopped (q : ReadQuery) (records : List Record) (waited : List ℕ) (held_before held_after : Option (List ℕ)) : Type 0 where
  pub pieces : List (List Record)
  pub left : List Record
  pub parts : records ≡ joined pieces ++ left
  pub text : List ℕ
  pub messages : List (List (List Record))
  pub parted : joined messages ≡ pieces
  pub written : AreMessages q messages text
  pub front : MovesFront (waited ++ text) held_before held_after

-- why the sending of records ended before its end
abbrev pub Halts : ReadQuery → List Record → List ℕ → List ℕ → Option (List ℕ) → Option (List ℕ) → Halt → Type 0
Halts q records waited waiting held_before held_after halt.Unsendable = HasBrokenOff q records waited waiting held_before held_after
Halts q records waited waiting held_before held_after (halt.Stop stop) = HasStopped q records waited held_before held_after

-- a reply as the program keeps it
abbrev pub reply_kept : TransferReply → Reply
reply_kept (replies.Code c) = by_code c
reply_kept (replies.StartOfAuthority soa) = by_soa soa.now
reply_kept (replies.Whole soa sets) = by_zone soa.now sets.now

-- the code of a reply, if it is one alone, has twelve bits
abbrev pub HasSmallCode : TransferReply → Type 0
HasSmallCode (replies.Code c) = code_number c ≤ 4095
HasSmallCode _ = Unit {0}
