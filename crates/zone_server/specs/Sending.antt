-- What calls say that send the response to a query
use Rattle.std.specs.Prelude.{◌≡◌, ℕ, ◌<◌, Bool, List, Result, Ok, Err}
use Rattle.message_reading.specs.declared.query.Query.{Query as ReadQuery}
use Rattle.zone_proto.specs.Sets.{RRset}
use Rattle.zone_response.specs.Sections.{Sections}
use Rattle.message_writing.specs.declared.error.WriteError.{WriteError}
use Rattle.message_writing.specs.declared.error.WriteError.TheVariants as errors
use Rattle.message_writing.specs.declared.response.Group.{Group}
use Rattle.message_writing.specs.declared.response.Response.{Response}
use Rattle.message_writing.specs.declared.response.Section.{Section}
use Rattle.message_writing.specs.declared.response_writer.ResponseWriter.{ResponseWriter}
use Rattle.message_writing.specs.Outcomes.{HasUnwritable}
use Rattle.message_writing.specs.Writers.{HasNoGroups, IsLast, IsUnderway, with_groups}
use Rattle.zone_server.specs.Answers.{code_number, records_in, AreSets, IsSent}

-- why it was not sent, where there is room for header, question and OPT record
abbrev pub FailsToSend : Sections → WriteError → Type 0
FailsToSend s errors.Unwritable = HasUnwritable (records_in s)
FailsToSend s errors.NoRoom = ⊥
FailsToSend s errors.BadCode = 4095 < code_number s.code
FailsToSend s errors.Memory = Unit {0}

-- it was sent, or it says why not
abbrev pub Sends : ℕ → ReadQuery → Sections → List ℕ → Result (Unit {0}) WriteError → Type 0
Sends limit q s octets (Ok done) = IsSent limit q s octets
Sends limit q s octets (Err e) = FailsToSend s e

-- ---- on the way

-- sets were put at the end of a section, each as a group
abbrev pub PutsSets : Section → List RRset → ResponseWriter → List ℕ → ResponseWriter → List ℕ → Type 0
PutsSets section ss before old after new =
    (limit : ℕ) (r : Response) → IsLast section r → IsUnderway limit r before old
    → (gs : List Group) × AreSets gs ss × IsUnderway limit (with_groups section gs r) after new

-- a response has these sections, and is as another besides
pub record HasSections (s : Sections) (before after : Response) : Type 0 where
  pub query : after.query.now ≡ before.query.now
  pub authoritative : after.authoritative ≡ before.authoritative
  pub code : after.code ≡ before.code
  pub size : after.size ≡ before.size
  pub answers : AreSets after.answers.now s.answers
  pub authorities : AreSets after.authorities.now s.authorities
  pub glue : AreSets after.glue.now s.glue
  pub additionals : AreSets after.additionals.now s.additionals

-- the sets of all sections were put into a response without groups
abbrev pub PutsSections : Sections → ResponseWriter → List ℕ → ResponseWriter → List ℕ → Type 0
PutsSections s before old after new =
    (limit : ℕ) (r : Response) → HasNoGroups r → IsUnderway limit r before old
    → (whole : Response) × HasSections s r whole × IsUnderway limit whole after new
