-- The smallest zones that show what the premises of the laws of NSEC3 are for, computed from the definitions with a hash by a table. Each has besides an SOA and NSEC3PARAM at its origin no more than is shown
use Rattle.std.proofs.Common.{◌≡◌, ℕ, true, false, List, [], ◌∷◌, refl}
use Rattle.std.specs.Prelude.{Option, None, Result, Ok, Err, codes, unwrap_or}
use Rattle.zone_proto.specs.declared.error.ProtoError.{ProtoError}
use Rattle.zone_proto.specs.declared.rdata.RData.TheVariants as V
use Rattle.zone_proto.specs.declared.rdata.denial.NSEC3PARAM.{NSEC3PARAM as Nsec3Parameters}
use Rattle.zone_proto.specs.HashedOwners.{hashed_owner}
use Rattle.zone_proto.specs.Names.{Name, wildcard_under}
use Rattle.zone_proto.specs.Sets.{RRset}
use Rattle.zone_proto.specs.Types.{A, NS, NSEC, NSEC3, NSEC3PARAM}
use Rattle.zone_map.specs.Wildcards.{found}
use Rattle.zone_map.specs.Zones.{Sets, put}
use Rattle.zone_denial.specs.Nsec3Circle.{nsec3_data, nsec3_types, digests, next_digest}
use Rattle.zone_denial.specs.Nsec3Denial.{nsec3_denial}
use Rattle.zone_denial.specs.Nsec3Names.{nsec3_names}
use Rattle.zone_denial.proofs.Examples.NsecExamples.{origin, entry, address, start}
use Rattle.zone_denial.proofs.Examples.Nsec3Examples.{parameters, digest_in, hashed_by, a, b}
use Rattle.zone_lookup.specs.Replies.{name_exists, nx_domain, negative_answer}
use Rattle.denial_validation.specs.Nsec3Proofs.{proves_name_error, proves_empty_answer}
use Rattle.denial_validation.specs.Nsec3Records.{Nsec3Record}
use Rattle.denial_laws.specs.Nsec3Scope.{read_nsec3_sets}

abbrev below_b : Name
below_b = codes "x" ∷ b

abbrev table : List (Name × List ℕ)
table = (origin, 64 ∷ []) ∷ (a, 128 ∷ []) ∷ (b, 32 ∷ []) ∷ (wildcard_under origin, 96 ∷ []) ∷ (hashed_owner origin (128 ∷ []), 16 ∷ []) ∷ (below_b, 48 ∷ []) ∷ []

abbrev hash : Name → Option (List ℕ)
hash n = digest_in table n

-- a zone with NSEC3 sets by these parameters
abbrev nsec3_set : Nsec3Parameters → Sets → Name → RRset
nsec3_set chosen m n =
    let digest = unwrap_or (hash n) [] in
    (entry (hashed_owner origin digest) NSEC3 (V.NSEC3 (nsec3_data chosen (next_digest (digests hash (nsec3_names origin m chosen.opt_out)) digest) (nsec3_types origin m n)))).1

abbrev with_sets : Nsec3Parameters → Sets → Sets → List Name → Sets
with_sets chosen m sets [] = sets
with_sets chosen m sets (n ∷ ns) = put (with_sets chosen m sets ns) (hashed_owner origin (unwrap_or (hash n) [])) NSEC3 (nsec3_set chosen m n)

abbrev linked_by : Nsec3Parameters → Sets → Sets
linked_by chosen m = with_sets chosen m (put m origin NSEC3PARAM (entry origin NSEC3PARAM (V.NSEC3PARAM chosen)).1) (nsec3_names origin m chosen.opt_out)

abbrev linked : Sets → Sets
linked = linked_by parameters

-- what the denial of a name shows
abbrev sets_of : Result (List RRset) ProtoError → List RRset
sets_of (Ok sets) = sets
sets_of (Err e) = []

abbrev call_concludes : Sets → Name → List Nsec3Record
call_concludes m x = read_nsec3_sets (sets_of (nsec3_denial m (hashed_by table) false x))

-- ---- a name that isn't there, and no wildcard: both agree

abbrev hosts : Sets
hosts = linked (start ∷ address a ∷ [])

hosts_denied : negative_answer origin hosts b ≡ nx_domain
hosts_denied = refl

hosts_proved : proves_name_error origin hash (call_concludes hosts b) b ≡ true
hosts_proved = refl

-- ---- the hashed owner of a: a lookup says that it is there, since it owns NSEC3, and the circle has no such name (RFC 5155 section 7.2.8)

abbrev hashed_a : Name
hashed_a = hashed_owner origin (128 ∷ [])

hashed_exists : negative_answer origin hosts hashed_a ≡ name_exists
hashed_exists = refl

hashed_found : found hosts true hashed_a A ≡ None
hashed_found = refl

hashed_refused : proves_empty_answer origin hash (call_concludes hosts hashed_a) hashed_a A ≡ false
hashed_refused = refl

hashed_error : proves_name_error origin hash (call_concludes hosts hashed_a) hashed_a ≡ true
hashed_error = refl

-- ---- with opt-out, b is an empty non-terminal above a delegation without DS: a lookup says that it is there, and the
-- circle has no such name. The record that covers b has the flag, which proves as much as can be: that what is there is
-- left out (RFC 5155 section 8.6)

abbrev opted_out : Sets
opted_out = linked_by (record parameters { opt_out = true }) (start ∷ entry below_b NS (V.NS origin) ∷ [])

opted_out_exists : negative_answer origin opted_out b ≡ name_exists
opted_out_exists = refl

opted_out_accepted : proves_empty_answer origin hash (call_concludes opted_out b) b A ≡ true
opted_out_accepted = refl

opted_out_error : proves_name_error origin hash (call_concludes opted_out b) b ≡ true
opted_out_error = refl

-- ---- a wildcard that owns nothing but NSEC: it doesn't exist, and is on the circle

abbrev foreign_wildcard : Sets
foreign_wildcard = linked (start ∷ entry (wildcard_under origin) NSEC (V.NSEC (record { next_domain_name = origin; types = [] })) ∷ [])

foreign_denied : negative_answer origin foreign_wildcard b ≡ nx_domain
foreign_denied = refl

foreign_refused : proves_name_error origin hash (call_concludes foreign_wildcard b) b ≡ false
foreign_refused = refl

-- ---- an origin that is a delegation: its record may not be that of an encloser (RFC 5155 section 8.3). A lookup refers such a query

abbrev delegated : Sets
delegated = linked (entry origin NS (V.NS origin) ∷ [])

delegated_denied : negative_answer origin delegated b ≡ nx_domain
delegated_denied = refl

delegated_refused : proves_name_error origin hash (call_concludes delegated b) b ≡ false
delegated_refused = refl
