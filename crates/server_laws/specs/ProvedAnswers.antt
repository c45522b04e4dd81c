-- What a message proves to a validator that answers a query
use Rattle.std.specs.Prelude.{◌≡◌, ℕ, false, ◌⊎◌, ◌%◌, List, [], ◌++◌, Option, Some, Ok, IsTrue}
use Rattle.std.specs.List.{flat_map}
use Rattle.zone_proto.specs.declared.rdata.denial.NSEC3PARAM.{NSEC3PARAM as Nsec3Parameters}
use Rattle.zone_proto.specs.declared.record.Record.{Record}
use Rattle.zone_proto.specs.declared.response_code.ResponseCode.TheVariants as code
use Rattle.zone_proto.specs.Names.{Name}
use Rattle.message_reading.specs.declared.query.Query.{Query as ReadQuery}
use Rattle.message_reading.specs.Messages.{Parts, message_of}
use Rattle.message_reading.specs.Queries.{query_of}
use Rattle.denial_validation.specs.NsecRecords.{nsec_records}
use Rattle.denial_validation.specs.Nsec3Records.{nsec3_records}
use Rattle.zone_response.specs.Queries.{Zone}
use Rattle.zone_response.specs.Responses.{IsResponse}
use Rattle.zone_response.specs.Sections.{Sections}
use Rattle.zone_server.specs.declared.transport.Transport.{Transport}
use Rattle.zone_server.specs.Answers.{asked_of, code_number, records_sent, AreUnsendable, IsAnswer}
use Rattle.zone_server.specs.ServedZones.{IsAnswering}
use Rattle.response_laws.specs.Contents.{HasContents}
use Rattle.response_laws.specs.HashedSayings.{DeniesByNsec3, HashesDistinctly, concluded_by, shown_nsec3, proof_in, ProvesByHashes}
use Rattle.response_laws.specs.ProvedSayings.{DeniesByNsec, ProvesWhatItSays, shown}

-- a zone answers for a name and a type, and no other does
abbrev pub OneZoneAnswers : Type 0
OneZoneAnswers = (zs : List Zone) (x : Name) (t : ℕ) (a b : Option Zone) → IsAnswering zs x t a → IsAnswering zs x t b → a ≡ b

-- a message has the code, AA, the answer section, the authority section and the glue of what is said; the lower four
-- bits of the code are in its header (RFC 6891 section 6.1.3)
pub record HasSections (said : Sections) (m : Parts) : Type 0 where
  pub code : m.header.response_code ≡ code_number said.code % 16
  pub authoritative : m.header.authoritative ≡ said.authoritative
  pub answers : m.answers ≡ flat_map records_sent said.answers
  pub authorities : m.authorities ≡ flat_map records_sent said.authorities
  -- the glue is whole, or TC would be set (RFC 9471 section 3.1), and others come after it
  pub others : List Record
  pub glue : m.additionals ≡ flat_map records_sent said.glue ++ others

-- a message has the sections of what a zone says to a query, and they prove it
pub record ProvesInMessage (z : Zone) (q : ReadQuery) (m : Parts) : Type 0 where
  pub said : Sections
  -- they have what belongs there, and each set its TTL
  pub contents : HasContents z (asked_of q) said
  pub proved : ProvesWhatItSays z (asked_of q) said
  pub sections : HasSections said m
  -- the NSEC records that a validator reads in it are those by which it is proved
  pub shown : nsec_records m.authorities ≡ shown said

-- so it is by NSEC3 records
pub record ProvesByHashesInMessage (z : Zone) (parameters : Nsec3Parameters) (names : List Name) (q : ReadQuery) (m : Parts) : Type 0 where
  pub said : Sections
  pub contents : HasContents z (asked_of q) said
  pub proved : ProvesByHashes z parameters names (asked_of q) said
  pub sections : HasSections said m
  pub shown : nsec3_records m.authorities ≡ shown_nsec3 said
  -- and it finds the zone's parameters in them
  pub parameters_found : (x : Name) (t : ℕ) → HashesDistinctly z parameters names x → concluded_by z m.authorities x t ≡ proof_in z parameters said x t

-- no message has what the zone says, so the server has failed, and says nothing else (RFC 1035 section 4.1.1)
pub record IsFailure (z : Zone) (q : ReadQuery) (m : Parts) : Type 0 where
  pub said : Sections
  pub says : IsResponse z (asked_of q) said
  pub unsendable : AreUnsendable said
  pub code : m.header.response_code ≡ code_number code.ServFail
  pub answers : m.answers ≡ []
  pub authorities : m.authorities ≡ []

-- so does each answer that wasn't cut to a query with DNSSEC that such a zone answers
abbrev pub AnswerProvesWhatItSays : Type 0
AnswerProvesWhatItSays = (zs : List Zone) (t : Transport) (message octets : List ℕ) (q : ReadQuery) (z : Zone) (m : Parts)
    → query_of message ≡ Ok q → IsAnswer zs t message octets → IsAnswering zs (asked_of q).name (asked_of q).record_type (Some z)
    → DeniesByNsec z → IsTrue (asked_of q).signed → message_of octets ≡ Some m → m.header.truncated ≡ false
    → ProvesInMessage z q m ⊎ IsFailure z q m

-- and where it denies by NSEC3
abbrev pub AnswerProvesByHashes : Type 0
AnswerProvesByHashes = (zs : List Zone) (t : Transport) (message octets : List ℕ) (q : ReadQuery) (z : Zone) (parameters : Nsec3Parameters) (m : Parts)
    → query_of message ≡ Ok q → IsAnswer zs t message octets → IsAnswering zs (asked_of q).name (asked_of q).record_type (Some z)
    → (d : DeniesByNsec3 z parameters) → IsTrue (asked_of q).signed → message_of octets ≡ Some m → m.header.truncated ≡ false
    → ProvesByHashesInMessage z parameters d.names q m ⊎ IsFailure z q m
