-- A response written within a limit: what may be left out, and when TC is set (RFC 2181 section 9, RFC 4035 section 3.1.1, RFC 6891
-- section 7, RFC 9471 section 3.1)
use Rattle.std.specs.Prelude.{◌≡◌, ◌⊎◌, ℕ, refl, ◌+◌, ◌-◌, ◌*◌, ◌/◌, ◌%◌, ◌<◌, ◌≤◌, ◌&&◌, not, Bool, true, false, if◌then◌else◌, List, [], ◌∷◌, ◌++◌, length, map, Option, Some, None}
use Rattle.std.specs.List.{flat_map}
use Rattle.zone_proto.specs.Sets.{RRset}
use Rattle.zone_proto.specs.declared.record.Record.{Record}
use Rattle.zone_proto.specs.declared.rdata.RData.TheVariants as V
use Rattle.message_reading.specs.declared.header.Header.{Header}
use Rattle.message_reading.specs.declared.query.Extension.{Extension}
use Rattle.message_reading.specs.Messages.{Parts, message_of, question_of}
use Rattle.message_writing.specs.StrictReading.{strict_record_of}
use Rattle.message_writing.specs.declared.response.Group.{Group}
use Rattle.message_writing.specs.declared.response.Response.{Response}
use Rattle.message_writing.specs.Continuing.{Continues, Appends, AppendsAll}

-- ---- what a response is meant to have

-- the record with another TTL
abbrev pub with_ttl : ℕ → Record → Record
with_ttl ttl r = record r { ttl = ttl }

-- the records of a set and then its signatures, with the TTL of the set (RFC 2181 section 5.2, RFC 4034 section 3)
abbrev pub records_together : RRset → List Record
records_together s = map (with_ttl s.ttl) (s.records ++ s.signatures)

-- The records of a group and then its signatures, all with the group's TTL (RFC 2181 section 5.2, RFC 4034 section 3).
abbrev pub records_of : Group → List Record
records_of g = map (with_ttl g.ttl) (g.records.now ++ g.signatures.now)

abbrev pub all_records : List Group → List Record
all_records = flat_map records_of

-- the TTL of an OPT record: the upper eight bits of the response code, version 0, and DO as the query has it (RFC 6891 section 6.1.3)
abbrev pub opt_ttl : ℕ → Extension → ℕ
opt_ttl code e = ((code / 16) % 256) * 16777216 + (if e.dnssec_ok then 32768 else 0)

-- the OPT record of a server that takes so many octets, where the query has one (RFC 6891 section 6.1.1)
abbrev pub opt_for : ℕ → ℕ → Option Extension → List Record
opt_for size code None = []
opt_for size code (Some e) =
    record {
      name = [];
      dns_class = record { 0 = size };
      ttl = opt_ttl code e;
      rdata = V.Other (record { record_type = record { 0 = 41 }; octets = []; other = refl });
    } ∷ []

abbrev pub opt_of : Response → List Record
opt_of r = opt_for r.size r.code r.query.now.extension

-- an OPT record without options has 11 octets
abbrev pub opt_length : Response → ℕ
opt_length r = 11 * length (opt_of r)

-- ---- what of it is kept

-- Behind these octets the records go over so many octets: those at the start of them that were written do.
abbrev pub GoesOver : ℕ → List ℕ → List Record → Type 0
GoesOver room old rs =
    (front rest : List Record) × (over : List ℕ) × (rs ≡ front ++ rest) × AppendsAll strict_record_of old over front × (room < length over)

-- A section was written: all its groups; or those before the first that goes over, each whole.
abbrev pub IsSection : ℕ → List ℕ → List ℕ → List Group → List Record → Bool → Type 0
IsSection room old new gs kept true = (kept ≡ all_records gs) × AppendsAll strict_record_of old new kept
IsSection room old new gs kept false =
    (front : List Group) × (g : Group) × (rest : List Group) × (gs ≡ front ++ g ∷ rest) × (kept ≡ all_records front)
    × AppendsAll strict_record_of old new kept × GoesOver room new (records_of g)

-- Of the groups that merely help each was written that does not go over, each whole.
abbrev pub AreHelpful : ℕ → List ℕ → List ℕ → List Group → List Record → Type 0
AreHelpful room old new [] kept = (new ≡ old) × (kept ≡ [])
AreHelpful room old new (g ∷ gs) kept =
    ((mid : List ℕ) × (others : List Record) × (kept ≡ records_of g ++ others) × AppendsAll strict_record_of old mid (records_of g)
    × AreHelpful room mid new gs others)
    ⊎ (GoesOver room old (records_of g) × AreHelpful room old new gs kept)

-- the groups of a section behind those that are whole; none of one behind a section that was cut
abbrev pub if_whole : Bool → List Group → List Group
if_whole true gs = gs
if_whole false gs = []

-- The answers, the authorities and the glue are required: they are whole, or the first that is cut ends the message, and then TC is
-- set. What merely helps follows where all that is required is there, and may be left out without TC.
pub record IsBody (room : ℕ) (r : Response) (start end : List ℕ) (answers authorities additionals : List Record) (truncated : Bool) : Type 0 where
  pub answers_whole : Bool
  pub authorities_whole : Bool
  pub glue_whole : Bool
  pub behind_answers : List ℕ
  pub behind_authorities : List ℕ
  pub behind_glue : List ℕ
  pub glue : List Record
  pub helpful : List Record
  pub answers_are : IsSection room start behind_answers r.answers.now answers answers_whole
  pub authorities_are : IsSection room behind_answers behind_authorities (if_whole answers_whole r.authorities.now) authorities authorities_whole
  pub glue_is : IsSection room behind_authorities behind_glue (if_whole (answers_whole && authorities_whole) r.glue.now) glue glue_whole
  pub helpful_are : AreHelpful room behind_glue end
      (if_whole (answers_whole && (authorities_whole && glue_whole)) r.additionals.now) helpful
  pub additionals_are : additionals ≡ glue ++ helpful
  pub truncated_is : truncated ≡ not (answers_whole && (authorities_whole && glue_whole))

-- ---- what is written

-- The header of a response: identifier and RD are the query's (RFC 1035 section 4.1.1), the opcode is that of a standard query, and AD
-- and CD are clear (RFC 4035 section 3.1.6).
abbrev pub header_for : Response → Bool → List Record → List Record → List Record → Header
header_for r truncated answers authorities additionals = record {
  id = r.query.now.header.id;
  is_response = true;
  opcode = 0;
  authoritative = r.authoritative;
  truncated = truncated;
  recursion_desired = r.query.now.header.recursion_desired;
  recursion_available = false;
  reserved = false;
  authentic_data = false;
  checking_disabled = false;
  response_code = r.code % 16;
  questions = 1;
  answers = length answers;
  authorities = length authorities;
  additionals = length additionals;
}

-- the message with these records, and the OPT record last
abbrev pub parts_for : Response → Bool → List Record → List Record → List Record → Parts
parts_for r truncated answers authorities additionals = record {
  header = header_for r truncated answers authorities (additionals ++ opt_of r);
  questions = r.query.now.question ∷ [];
  answers = answers;
  authorities = authorities;
  additionals = additionals ++ opt_of r;
}

-- Octets are a response within a limit: they are read as the message whose records are those of the response that were
-- kept. What was left out goes over the limit where it is written behind what is there, the octets of the OPT record
-- counted: it has 11 of them, so its owner is the octet 0, and no pointer to one (RFC 6891 section 6.1.2).
pub record IsWritten (limit : ℕ) (r : Response) (octets : List ℕ) : Type 0 where
  pub answers : List Record
  pub authorities : List Record
  pub additionals : List Record
  pub truncated : Bool
  pub reads : message_of octets ≡ Some (parts_for r truncated answers authorities additionals)
  pub within : length octets ≤ limit
  pub header : List ℕ
  pub start : List ℕ
  pub end : List ℕ
  pub all : List ℕ
  pub twelve : length header ≡ 12
  pub question : Appends question_of header start r.query.now.question
  pub body : IsBody (limit - opt_length r) r start end answers authorities additionals truncated
  pub opt : AppendsAll strict_record_of end all (opt_of r)
  pub opt_size : length all ≡ length end + opt_length r
  pub octets_are : Continues all [] octets
