-- What responses of small zones with opt-out prove by NSEC3, computed from the definitions. Each zone has besides an SOA at its origin, and its NSEC3 sets, no more than is shown
use Rattle.std.proofs.Common.{◌≡◌, ℕ, true, false, List, [], ◌∷◌, refl}
use Rattle.std.specs.Prelude.{codes, Option, Some}
use Rattle.zone_proto.specs.declared.nx_proof_kind.NxProofKind.TheVariants as kind
use Rattle.zone_proto.specs.declared.rdata.RData.TheVariants as V
use Rattle.zone_proto.specs.declared.rdata.denial.NSEC3PARAM.{NSEC3PARAM as Nsec3Parameters}
use Rattle.zone_proto.specs.declared.response_code.ResponseCode.TheVariants as code
use Rattle.zone_proto.specs.declared.rr_key.RrKey.{RrKey}
use Rattle.zone_proto.specs.HashedOwners.{hashed_owner}
use Rattle.zone_proto.specs.Names.{Name, wire_form, wildcard_under}
use Rattle.zone_proto.specs.Sets.{RRset}
use Rattle.zone_proto.specs.Types.{A, NS, SOA, RRSIG, NSEC3, NSEC3PARAM, IN, DNAME}
use Rattle.zone_map.specs.Wildcards.{renamed}
use Rattle.zone_map.specs.Zones.{Sets, put}
use Rattle.zone_denial.specs.Nsec3Circle.{nsec3_data}
use Rattle.zone_denial.specs.Nsec3Names.{nsec3_names}
use Rattle.zone_denial.proofs.Examples.NsecExamples.{origin, at_origin, record_with, entry, address, start}
use Rattle.zone_denial.proofs.Examples.Nsec3Examples.{digest_in}
use Rattle.denial_validation.specs.declared.proof.Proof.TheVariants.{NameError, UnsignedDelegation}
use Rattle.denial_validation.specs.Judgement.{nsec3_proof}
use Rattle.denial_validation.specs.Nsec3Proofs.{proves_name_error, proves_empty_answer, proves_wildcard_answer, proves_unsigned_delegation}
use Rattle.zone_response.specs.declared.response.Part.TheVariants as part
use Rattle.zone_response.specs.Paths.{path}
use Rattle.zone_response.specs.Queries.{Zone}
use Rattle.zone_response.specs.Dname.{synthesized_alias}
use Rattle.zone_response.specs.Responses.{IsResponse}
use Rattle.zone_response.specs.Sections.{Sections, sent, as_it_is}
use Rattle.response_laws.specs.HashedSayings.{shown_nsec3}
use Rattle.response_laws.specs.Sayings.{data_of, name_error, no_data, referral, saying}
use Rattle.response_laws.proofs.SayingExamples.{asked, sections}

abbrev parameters : Nsec3Parameters
parameters = record { algorithm = 1; opt_out = true; iterations = 0; salt = [] }

-- the NSEC3 set of an owner that says a next digest and types
abbrev says : List ℕ → List ℕ → List ℕ → RRset
says digest next types = record {
  owner = hashed_owner origin digest;
  record_type = NSEC3;
  class = IN;
  ttl = 60;
  serial = 7;
  records = record_with (hashed_owner origin digest) (V.NSEC3 (nsec3_data parameters next types)) ∷ [];
  signatures = [];
}

abbrev b : Name
b = at_origin (codes "b")

abbrev q : Name
q = codes "q" ∷ b

abbrev c : Name
c = codes "c" ∷ b

abbrev wildcard_name : Name
wildcard_name = wildcard_under origin

abbrev a : Name
a = at_origin (codes "a")

-- the digests of names
abbrev digest : Name → Option (List ℕ)
digest = digest_in ((origin, 64 ∷ []) ∷ (wildcard_name, 96 ∷ []) ∷ (a, 96 ∷ []) ∷ (b, 80 ∷ []) ∷ (c, 32 ∷ []) ∷ (q, 32 ∷ []) ∷ (wildcard_under b, 16 ∷ []) ∷ [])

abbrev at_apex : RRset
at_apex = says (64 ∷ []) (96 ∷ []) (SOA ∷ RRSIG ∷ NSEC3PARAM ∷ [])

-- sets with the NSEC3 sets of the origin and of another name
abbrev hashed_sets : Sets → RRset → Sets
hashed_sets m other = put (put (put m origin NSEC3PARAM (entry origin NSEC3PARAM (V.NSEC3PARAM parameters)).1) (hashed_owner origin (64 ∷ [])) NSEC3 at_apex) (hashed_owner origin (96 ∷ [])) NSEC3 other

-- a zone with these, by a hash
abbrev zone_by : (Name → Option (List ℕ)) → Sets → RRset → Zone
zone_by digest m other = record {
  origin = origin;
  sets = hashed_sets m other;
  denials = hashed_sets m other;
  nx_proof_kind = Some (kind.Nsec3 parameters.algorithm parameters.salt parameters.iterations parameters.opt_out);
  digest_of = λ algorithm salt n iterations. digest n;
  sign = λ signed s. [];
}

abbrev zone : Sets → RRset → Zone
zone = zone_by digest

abbrev at_other : RRset
at_other = says (96 ∷ []) (64 ∷ []) (A ∷ RRSIG ∷ [])

abbrev servers : Name → RrKey × RRset
servers n = entry n NS (V.NS (codes "org" ∷ []))

-- ---- below an empty non-terminal that is left out, where a wildcard is above it

abbrev above : Sets
above = start ∷ address wildcard_name ∷ servers c ∷ []

on_circle : nsec3_names origin above true ≡ origin ∷ wildcard_name ∷ []
on_circle = refl

abbrev error : Sections
error = sections code.NXDomain [] (sent part.Signed 60 start.1 ∷ sent part.Signed 60 at_apex ∷ sent part.Signed 60 at_other ∷ [])

of_error : IsResponse (zone above at_other) (asked q A) error
unfolding path
of_error = record { code = refl; authoritative = refl; answers = refl; authorities = refl; additionals = refl; glue = refl; left_at = refl }

error_says : saying (asked q A) error ≡ Some (name_error q)
error_says = refl

-- the wildcard is there, so that its record covers nothing of it
error_unproved : proves_name_error origin digest (shown_nsec3 error) q ≡ false
error_unproved = refl

-- what is proved is that the name may be left out
error_opted_out : nsec3_proof origin digest (shown_nsec3 error) q A ≡ Some UnsignedDelegation
error_opted_out = refl

-- of the empty non-terminal itself that is proved too
abbrev empty : Sections
empty = sections code.NoError [] (sent part.Signed 60 start.1 ∷ sent part.Signed 60 at_apex ∷ [])

of_empty : IsResponse (zone above at_other) (asked b A) empty
unfolding path
of_empty = record { code = refl; authoritative = refl; answers = refl; authorities = refl; additionals = refl; glue = refl; left_at = refl }

empty_says : saying (asked b A) empty ≡ Some (no_data b)
empty_says = refl

empty_proved : proves_empty_answer origin digest (shown_nsec3 empty) b A ≡ true
empty_proved = refl

empty_insecure : nsec3_proof origin digest (shown_nsec3 empty) b A ≡ Some UnsignedDelegation
empty_insecure = refl

-- a child that is left out is proved unsigned
abbrev to_child : Sections
to_child = record (sections code.NoError [] (as_it_is part.Records (servers c).1 ∷ sent part.Signed 60 at_apex ∷ [])) { authoritative = false }

of_child : IsResponse (zone above at_other) (asked c A) to_child
unfolding path
of_child = record { code = refl; authoritative = refl; answers = refl; authorities = refl; additionals = refl; glue = refl; left_at = refl }

child_says : saying (asked c A) to_child ≡ Some (referral c)
child_says = refl

child_proved : proves_unsigned_delegation origin digest (shown_nsec3 to_child) c ≡ true
child_proved = refl

-- ---- a wildcard that is left out

abbrev left_out : Sets
left_out = start ∷ address a ∷ servers (wildcard_under b) ∷ []

abbrev from_wildcard : Sections
from_wildcard = sections code.NoError (renamed true (wildcard_under b) q (servers (wildcard_under b)).1 ∷ []) (sent part.Signed 60 at_other ∷ [])

of_wildcard : IsResponse (zone left_out at_other) (asked q NS) from_wildcard
unfolding path
of_wildcard = record { code = refl; authoritative = refl; answers = refl; authorities = refl; additionals = refl; glue = refl; left_at = refl }

wildcard_says : saying (asked q NS) from_wildcard ≡ Some (data_of q)
wildcard_says = refl

-- the name next closer to the wildcard's encloser is covered
wildcard_proved : proves_wildcard_answer origin digest (shown_nsec3 from_wildcard) q b ≡ true
wildcard_proved = refl

-- ---- below a DNAME: the new name isn't there, and is denied

abbrev renaming : RrKey × RRset
renaming = entry a DNAME (V.Other (record { record_type = record { 0 = DNAME }; octets = wire_form b; other = refl }))

abbrev at_renaming : RRset
at_renaming = says (96 ∷ []) (64 ∷ []) (DNAME ∷ RRSIG ∷ [])

abbrev below_renaming : Name
below_renaming = codes "q" ∷ a

-- the wildcard of the new name isn't there either
abbrev renamed_digest : Name → Option (List ℕ)
renamed_digest = digest_in ((origin, 64 ∷ []) ∷ (a, 96 ∷ []) ∷ (b, 80 ∷ []) ∷ (q, 32 ∷ []) ∷ (wildcard_name, 16 ∷ []) ∷ [])

abbrev renamed_error : Sections
renamed_error = sections code.NXDomain (renaming.1 ∷ synthesized_alias renaming.1 below_renaming q ∷ []) (sent part.Signed 60 start.1 ∷ sent part.Signed 60 at_apex ∷ sent part.Signed 60 at_renaming ∷ [])

of_renamed_error : IsResponse (zone_by renamed_digest (start ∷ renaming ∷ []) at_renaming) (asked below_renaming A) renamed_error
unfolding path
of_renamed_error = record { code = refl; authoritative = refl; answers = refl; authorities = refl; additionals = refl; glue = refl; left_at = refl }

renamed_error_says : saying (asked below_renaming A) renamed_error ≡ Some (name_error q)
renamed_error_says = refl

renamed_error_proved : proves_name_error origin renamed_digest (shown_nsec3 renamed_error) q ≡ true
renamed_error_proved = refl

renamed_error_told : nsec3_proof origin renamed_digest (shown_nsec3 renamed_error) q A ≡ Some (NameError true)
renamed_error_told = refl
