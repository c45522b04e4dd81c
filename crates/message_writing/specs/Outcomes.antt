-- What a call that writes says
use Rattle.std.specs.Prelude.{◌≡◌, ℕ, ◌+◌, ◌<◌, ◌≤◌, Bool, true, false, List, [], ◌∷◌, ◌++◌, length, Result, Ok, Err}
use Rattle.zone_proto.specs.Names.{wire_length}
use Rattle.zone_proto.specs.declared.record.Record.{Record}
use Rattle.zone_proto.specs.declared.rdata.RData.{RData}
use Rattle.message_writing.specs.StrictReading.{strict_record_of}
use Rattle.message_writing.specs.declared.error.WriteError.{WriteError}
use Rattle.message_writing.specs.declared.error.WriteError.TheVariants as errors
use Rattle.message_writing.specs.declared.response.Group.{Group}
use Rattle.message_writing.specs.declared.response.Response.{Response}
use Rattle.message_writing.specs.declared.message_parts.Counts.{Counts}
use Rattle.message_writing.specs.Continuing.{AppendsAll}
use Rattle.message_writing.specs.DataText.{IsWritable}
use Rattle.message_writing.specs.Responses.{AreHelpful, GoesOver, IsBody, IsSection, IsWritten, all_records, opt_length}

-- records at the start of these were written, all of them within so many octets, or up to the first behind which there
-- are more
abbrev pub ArePutWithin : ℕ → List ℕ → List ℕ → List Record → Bool → Type 0
ArePutWithin room old new rs true = AppendsAll strict_record_of old new rs × (length new ≤ room)
ArePutWithin room old new rs false = (front rest : List Record) × (rs ≡ front ++ rest) × AppendsAll strict_record_of old new front × (room < length new)

-- Records were written whole within so many octets; or nothing was, since they go over.
abbrev pub IsPutWithin : ℕ → List ℕ → List ℕ → List Record → Bool → Type 0
IsPutWithin room old new rs true = AppendsAll strict_record_of old new rs × (length new ≤ room)
IsPutWithin room old new rs false = (new ≡ old) × GoesOver room old rs

-- one of the records has data that no octets are
pub record HasUnwritable (rs : List Record) : Type 0 where
  pub front : List Record
  pub unwritable : Record
  pub rest : List Record
  pub stands : rs ≡ front ++ unwritable ∷ rest
  pub is : IsWritable unwritable.rdata → ⊥

-- a section was written: whether all of it, and how many records
pub record IsSectionPut (room : ℕ) (old new : List ℕ) (gs : List Group) (whole : Bool) (count : ℕ) : Type 0 where
  pub kept : List Record
  pub is : IsSection room old new gs kept whole
  pub counted : count ≡ length kept

-- what helps was written where there was room, and how many records
pub record IsHelpPut (room : ℕ) (old new : List ℕ) (gs : List Group) (count : ℕ) : Type 0 where
  pub kept : List Record
  pub is : AreHelpful room old new gs kept
  pub counted : count ≡ length kept

-- the sections were written: how many records each of them has, and whether one was cut
pub record IsBodyPut (room : ℕ) (r : Response) (start end : List ℕ) (counts : Counts) : Type 0 where
  pub answers : List Record
  pub authorities : List Record
  pub additionals : List Record
  pub is : IsBody room r start end answers authorities additionals counts.truncated
  pub answers_counted : counts.answers ≡ length answers
  pub authorities_counted : counts.authorities ≡ length authorities
  pub additionals_counted : counts.additionals ≡ length additionals

-- why a record was not written: no octets are its data, or memory ran out
abbrev pub FailsToPut : RData → WriteError → Type 0
FailsToPut rdata errors.Unwritable = IsWritable rdata → ⊥
FailsToPut rdata errors.NoRoom = ⊥
FailsToPut rdata errors.BadCode = ⊥
FailsToPut rdata errors.Memory = Unit {0}

-- the same of one of some records
abbrev pub FailsToPutAny : List Record → WriteError → Type 0
FailsToPutAny rs errors.Unwritable = HasUnwritable rs
FailsToPutAny rs errors.NoRoom = ⊥
FailsToPutAny rs errors.BadCode = ⊥
FailsToPutAny rs errors.Memory = Unit {0}

-- the records of a response
abbrev pub records_in : Response → List Record
records_in r = all_records (r.answers.now ++ (r.authorities.now ++ (r.glue.now ++ r.additionals.now)))

-- a header, the question and the OPT record have more octets than the limit
abbrev pub HasNoRoom : ℕ → Response → Type 0
HasNoRoom limit r = limit < 12 + (wire_length r.query.now.question.name + 4) + opt_length r

abbrev pub FailsToWrite : ℕ → Response → WriteError → Type 0
FailsToWrite limit r errors.Unwritable = HasUnwritable (records_in r)
FailsToWrite limit r errors.NoRoom = HasNoRoom limit r
FailsToWrite limit r errors.BadCode = 4095 < r.code
FailsToWrite limit r errors.Memory = Unit {0}

-- A call wrote a response, whose code has twelve bits at most, within a limit; or it says why not, and then there are no octets.
abbrev pub Writes : ℕ → Response → List ℕ → Result (Unit {0}) WriteError → Type 0
Writes limit r octets (Ok done) = (r.code ≤ 4095) × IsWritten limit r octets
Writes limit r octets (Err e) = (octets ≡ []) × FailsToWrite limit r e
