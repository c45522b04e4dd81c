-- Responses that are written group by group: how far they are
use Rattle.std.specs.Prelude.{◌≡◌, ℕ, ◌+◌, ◌-◌, ◌<◌, ◌≤◌, Bool, not, List, [], ◌++◌, length}
use Rattle.zone_proto.specs.Names.{wire_length}
use Rattle.message_reading.specs.Messages.{question_of}
use Rattle.message_writing.specs.declared.error.WriteError.{WriteError}
use Rattle.message_writing.specs.declared.error.WriteError.TheVariants as errors
use Rattle.message_writing.specs.declared.message_parts.Counts.{Counts}
use Rattle.message_writing.specs.declared.response.Group.{Group}
use Rattle.message_writing.specs.declared.response.Response.{Response}
use Rattle.message_writing.specs.declared.response.ResponseHead.{ResponseHead}
use Rattle.message_writing.specs.declared.response.Section.{Section}
use Rattle.message_writing.specs.declared.response.Section.TheVariants as sections
use Rattle.message_writing.specs.declared.response_writer.ResponseWriter.{ResponseWriter}
use Rattle.message_writing.specs.Continuing.{Appends}
use Rattle.message_writing.specs.Fronts.{opt_octets}
use Rattle.message_writing.specs.KnownNames.{IsAskedAt}
use Rattle.message_writing.specs.Outcomes.{IsBodyPut}
use Rattle.message_writing.specs.Responses.{opt_length}

-- ---- a response by its groups

-- a response has this head
pub record IsHeadOf (head : ResponseHead) (r : Response) : Type 0 where
  pub query : r.query.now ≡ head.query.now
  pub authoritative : r.authoritative ≡ head.authoritative
  pub code : r.code ≡ head.code
  pub size : r.size ≡ head.size

pub record HasNoGroups (r : Response) : Type 0 where
  pub answers : r.answers.now ≡ []
  pub authorities : r.authorities.now ≡ []
  pub glue : r.glue.now ≡ []
  pub additionals : r.additionals.now ≡ []

-- the response with more groups at the end of a section
abbrev pub with_groups : Section → List Group → Response → Response
with_groups sections.Answers gs r = record r { answers = record { ref_ptr = r.answers.ref_ptr; now = r.answers.now ++ gs } }
with_groups sections.Authorities gs r = record r { authorities = record { ref_ptr = r.authorities.ref_ptr; now = r.authorities.now ++ gs } }
with_groups sections.Glue gs r = record r { glue = record { ref_ptr = r.glue.ref_ptr; now = r.glue.now ++ gs } }
with_groups sections.Additionals gs r = record r { additionals = record { ref_ptr = r.additionals.ref_ptr; now = r.additionals.now ++ gs } }

-- no section behind this one has a group
abbrev pub IsLast : Section → Response → Type 0
IsLast sections.Answers r = (r.authorities.now ≡ []) × (r.glue.now ≡ []) × (r.additionals.now ≡ [])
IsLast sections.Authorities r = (r.glue.now ≡ []) × (r.additionals.now ≡ [])
IsLast sections.Glue r = r.additionals.now ≡ []
IsLast sections.Additionals r = Unit {0}

-- ---- how far it is

-- Octets are what comes first of a response within a limit, up to the last of its groups: room for a header, the question, and of the
-- groups what is kept of them.
pub record IsUnderway (limit : ℕ) (r : Response) (w : ResponseWriter) (octets : List ℕ) : Type 0 where
  pub head : IsHeadOf w.head r
  pub fits : opt_length r ≤ limit
  pub room : w.setting.room ≡ limit - opt_length r
  pub header : List ℕ
  pub start : List ℕ
  pub twelve : length header ≡ 12
  pub question : Appends question_of header start r.query.now.question
  pub body : IsBodyPut (limit - opt_length r) r start octets w.counts

-- groups were put at the end of a section
abbrev pub PutsGroups : Section → List Group → ResponseWriter → List ℕ → ResponseWriter → List ℕ → Type 0
PutsGroups section gs before old after new =
    (limit : ℕ) (r : Response) → IsLast section r → IsUnderway limit r before old → IsUnderway limit (with_groups section gs r) after new

-- Octets are what the writer left: it can go on with them, and they find room in a message, the OPT record too. There are no more records
-- than octets.
pub record CanGoOn (w : ResponseWriter) (octets : List ℕ) : Type 0 where
  pub long : 12 ≤ length octets
  pub within : length octets ≤ w.setting.room
  pub small : w.setting.room + opt_octets w.head.query.now.extension ≤ 65535
  pub asked : IsAskedAt octets w.setting.asked
  pub answers : w.counts.answers ≤ length octets
  pub authorities : w.counts.authorities ≤ length octets
  pub additionals : w.counts.additionals ≤ length octets

-- the counts with a group more of so many records, which was written or left out
abbrev pub counts_with : Section → Bool → ℕ → Counts → Counts
counts_with sections.Answers written n c = record c { answers = c.answers + n; truncated = not written }
counts_with sections.Authorities written n c = record c { authorities = c.authorities + n; truncated = not written }
counts_with sections.Glue written n c = record c { additionals = c.additionals + n; truncated = not written }
counts_with sections.Additionals written n c = record c { additionals = c.additionals + n }

-- why a response was not begun: header, question and OPT record have more octets than the limit, the code has more than twelve bits, or
-- memory ran out
abbrev pub FailsToBegin : ℕ → ResponseHead → WriteError → Type 0
FailsToBegin limit head errors.Unwritable = ⊥
FailsToBegin limit head errors.NoRoom =
    limit < 12 + (wire_length head.query.now.question.name + 4) + opt_octets head.query.now.extension
FailsToBegin limit head errors.BadCode = 4095 < head.code
FailsToBegin limit head errors.Memory = Unit {0}
