-- What responses of small zones say and prove, computed from the definitions. Each zone has besides an SOA at its origin, and its NSEC sets, no more than is shown
use Rattle.std.proofs.Common.{◌≡◌, ℕ, true, false, List, [], ◌∷◌, ◌++◌, map, refl}
use Rattle.std.specs.Prelude.{codes, Some, None, pos}
use Rattle.zone_proto.specs.declared.nx_proof_kind.NxProofKind.TheVariants as kind
use Rattle.zone_proto.specs.declared.rdata.RData.TheVariants as V
use Rattle.zone_proto.specs.declared.response_code.ResponseCode.{ResponseCode}
use Rattle.zone_proto.specs.declared.response_code.ResponseCode.TheVariants as code
use Rattle.zone_proto.specs.declared.rr_key.RrKey.{RrKey}
use Rattle.zone_proto.specs.Names.{Name, wire_form, wildcard_under}
use Rattle.zone_proto.specs.Sets.{RRset}
use Rattle.zone_proto.specs.Types.{A, NS, CNAME, SOA, MX, DS, RRSIG, NSEC3, ANAME, IN, DNAME}
use Rattle.zone_map.specs.Wildcards.{renamed, found}
use Rattle.zone_map.specs.Zones.{Sets}
use Rattle.zone_denial.specs.NsecSets.{nsec_set}
use Rattle.zone_denial.specs.Nsec3Circle.{nsec3_data}
use Rattle.zone_denial.proofs.Examples.NsecExamples.{origin, at_origin, record_with, entry, address, start, linked}
use Rattle.zone_denial.proofs.Examples.Nsec3Examples.{parameters}
use Rattle.denial_validation.specs.NsecProofs.{proves_name_error, proves_empty_answer, proves_wildcard_answer, proves_unsigned_delegation}
use Rattle.zone_response.specs.declared.response.Part.TheVariants as part
use Rattle.zone_response.specs.Paths.{path}
use Rattle.zone_response.specs.Queries.{Zone, Query}
use Rattle.zone_response.specs.Dname.{synthesized_alias}
use Rattle.zone_response.specs.Responses.{IsResponse}
use Rattle.zone_response.specs.Sections.{Sections, sent, as_it_is}
use Rattle.response_laws.specs.ProvedSayings.{shown, is_signed_by}
use Rattle.response_laws.specs.Repeats.{repeats}
use Rattle.response_laws.specs.Sayings.{data_of, name_error, no_data, referral, saying}

abbrev pub zone : Sets → Zone
zone m = record { origin = origin; sets = linked m; denials = linked m; nx_proof_kind = Some kind.Nsec; digest_of = λ algorithm salt n iterations. None; sign = λ signed s. [] }

-- a query with DNSSEC
abbrev pub asked : Name → ℕ → Query
asked n t = record { name = n; record_type = t; class = IN; signed = true }

-- ---- sections

-- the NSEC set of an owner, with the TTL of a negative response
abbrev pub proof : Sets → Name → RRset
proof m n = sent part.Signed 60 (nsec_set origin m 300 7 n)

abbrev pub sections : ResponseCode → List RRset → List RRset → Sections
sections c answers authorities = record { code = c; authoritative = true; answers = answers; authorities = authorities; additionals = []; glue = []; left_at = None }

-- a negative response, with the NSEC sets of these owners
abbrev pub negative : Sets → ResponseCode → List Name → Sections
negative m c owners = sections c [] (sent part.Signed 60 start.1 ∷ map (proof m) owners)

abbrev pub a : Name
a = at_origin (codes "a")

abbrev pub b : Name
b = at_origin (codes "b")

abbrev pub wildcard_name : Name
wildcard_name = wildcard_under origin

abbrev pub server : Name
server = codes "ns" ∷ b

abbrev pub alias : Name → RrKey × RRset
alias target = entry a CNAME (V.CNAME target)

abbrev pub servers : Name → RrKey × RRset
servers n = entry n NS (V.NS (codes "org" ∷ []))

-- ---- negative responses

abbrev host : Sets
host = start ∷ address a ∷ []

-- a name error
of_missing : IsResponse (zone host) (asked b A) (negative host code.NXDomain (a ∷ origin ∷ []))
unfolding path
of_missing = record { code = refl; authoritative = refl; answers = refl; authorities = refl; additionals = refl; glue = refl; left_at = refl }

missing_says : saying (asked b A) (negative host code.NXDomain (a ∷ origin ∷ [])) ≡ Some (name_error b)
missing_says = refl

missing_proved : proves_name_error origin (shown (negative host code.NXDomain (a ∷ origin ∷ []))) b ≡ true
missing_proved = refl

-- no data
of_other_type : IsResponse (zone host) (asked a MX) (negative host code.NoError (a ∷ []))
unfolding path
of_other_type = record { code = refl; authoritative = refl; answers = refl; authorities = refl; additionals = refl; glue = refl; left_at = refl }

other_type_says : saying (asked a MX) (negative host code.NoError (a ∷ [])) ≡ Some (no_data a)
other_type_says = refl

other_type_proved : proves_empty_answer origin (shown (negative host code.NoError (a ∷ []))) a MX ≡ true
other_type_proved = refl

-- nor has a name whose ANAME leads to no addresses: its record lists neither A nor AAAA, though a lookup finds the ANAME
abbrev stand_in : RrKey × RRset
stand_in = entry a ANAME (V.ANAME b)

abbrev lost : Sets
lost = start ∷ stand_in ∷ []

of_lost : IsResponse (zone lost) (asked a A) (negative lost code.NoError (a ∷ []))
unfolding path
of_lost = record { code = refl; authoritative = refl; answers = refl; authorities = refl; additionals = refl; glue = refl; left_at = refl }

lost_says : saying (asked a A) (negative lost code.NoError (a ∷ [])) ≡ Some (no_data a)
lost_says = refl

lost_proved : proves_empty_answer origin (shown (negative lost code.NoError (a ∷ []))) a A ≡ true
lost_proved = refl

lost_found : found (linked lost) true a A ≡ Some stand_in.1
lost_found = refl

-- the code of an alias is that of its target, of which the response speaks (RFC 6604 section 3)
abbrev aliased : Sets
aliased = start ∷ alias b ∷ []

abbrev behind_alias : Sections
behind_alias = sections code.NXDomain ((alias b).1 ∷ []) (sent part.Signed 60 start.1 ∷ proof aliased a ∷ proof aliased origin ∷ [])

of_alias : IsResponse (zone aliased) (asked a A) behind_alias
unfolding path
of_alias = record { code = refl; authoritative = refl; answers = refl; authorities = refl; additionals = refl; glue = refl; left_at = refl }

alias_says : saying (asked a A) behind_alias ≡ Some (name_error b)
alias_says = refl

alias_proved : proves_name_error origin (shown behind_alias) b ≡ true
alias_proved = refl

-- where the alias itself is asked for, it is the answer
alias_itself : saying (asked a CNAME) (sections code.NoError ((alias b).1 ∷ []) []) ≡ Some (data_of a)
alias_itself = refl

-- of a name outside the zone nothing is said
abbrev leaving : Sets
leaving = start ∷ alias (codes "org" ∷ []) ∷ []

of_leaving : IsResponse (zone leaving) (asked a A) (record (sections code.NoError ((alias (codes "org" ∷ [])).1 ∷ []) []) { left_at = Some (codes "org" ∷ []) })
unfolding path
of_leaving = record { code = refl; authoritative = refl; answers = refl; authorities = refl; additionals = refl; glue = refl; left_at = refl }

leaving_says : saying (asked a A) (record (sections code.NoError ((alias (codes "org" ∷ [])).1 ∷ []) []) { left_at = Some (codes "org" ∷ []) }) ≡ None
leaving_says = refl

-- ---- below a DNAME

abbrev pub renaming : RrKey × RRset
renaming = entry b DNAME (V.Other (record { record_type = record { 0 = DNAME }; octets = wire_form a; other = refl }))

abbrev pub under_a : List ℕ → Name
under_a label = label ∷ a

abbrev pub under_b : List ℕ → Name
under_b label = label ∷ b

abbrev renamed_names : Sets
renamed_names = start ∷ renaming ∷ address (under_a (codes "x")) ∷ []

-- the DNAME set of b, and the CNAME that it makes
abbrev pub new_name : List ℕ → List RRset
new_name label = renaming.1 ∷ synthesized_alias renaming.1 (under_b label) (under_a label) ∷ []

of_new_name : IsResponse (zone renamed_names) (asked (under_b (codes "x")) A) (sections code.NoError (new_name (codes "x") ++ (address (under_a (codes "x"))).1 ∷ []) [])
unfolding path
of_new_name = record { code = refl; authoritative = refl; answers = refl; authorities = refl; additionals = refl; glue = refl; left_at = refl }

new_name_says : saying (asked (under_b (codes "x")) A) (sections code.NoError (new_name (codes "x") ++ (address (under_a (codes "x"))).1 ∷ []) []) ≡ Some (data_of (under_a (codes "x")))
new_name_says = refl

-- what is denied is denied of the new name
abbrev no_new_name : Sections
no_new_name = record (negative renamed_names code.NXDomain (under_a (codes "x") ∷ origin ∷ [])) { answers = new_name (codes "y") }

of_no_new_name : IsResponse (zone renamed_names) (asked (under_b (codes "y")) A) no_new_name
unfolding path
of_no_new_name = record { code = refl; authoritative = refl; answers = refl; authorities = refl; additionals = refl; glue = refl; left_at = refl }

no_new_name_says : saying (asked (under_b (codes "y")) A) no_new_name ≡ Some (name_error (under_a (codes "y")))
no_new_name_says = refl

no_new_name_proved : proves_name_error origin (shown no_new_name) (under_a (codes "y")) ≡ true
no_new_name_proved = refl

-- where the CNAME is asked for, it is the answer
of_new_alias : IsResponse (zone renamed_names) (asked (under_b (codes "x")) CNAME) (sections code.NoError (new_name (codes "x")) [])
unfolding path
of_new_alias = record { code = refl; authoritative = refl; answers = refl; authorities = refl; additionals = refl; glue = refl; left_at = refl }

new_alias_says : saying (asked (under_b (codes "x")) CNAME) (sections code.NoError (new_name (codes "x")) []) ≡ Some (data_of (under_b (codes "x")))
new_alias_says = refl

-- where DNAME is asked for, and the search comes back to the owner of one that it passed, that set is the answer
abbrev back : RrKey × RRset
back = entry (under_a (codes "x")) CNAME (V.CNAME b)

abbrev led_back : Sections
led_back = sections code.NoError (new_name (codes "x") ++ back.1 ∷ []) []

of_led_back : IsResponse (zone (start ∷ renaming ∷ back ∷ [])) (asked (under_b (codes "x")) DNAME) led_back
unfolding path
of_led_back = record { code = refl; authoritative = refl; answers = refl; authorities = refl; additionals = refl; glue = refl; left_at = refl }

led_back_says : saying (asked (under_b (codes "x")) DNAME) led_back ≡ Some (data_of b)
led_back_says = refl

-- were it there once more, it would repeat the first
led_back_twice : repeats renaming.1 renaming.1 ≡ true
led_back_twice = refl

-- for another type these sets say nothing
led_back_otherwise : saying (asked (under_b (codes "x")) MX) led_back ≡ None
led_back_otherwise = refl

-- ---- a wildcard

abbrev starred : Sets
starred = start ∷ address wildcard_name ∷ []

abbrev from_wildcard : Sections
from_wildcard = sections code.NoError (renamed true wildcard_name b (address wildcard_name).1 ∷ []) (proof starred wildcard_name ∷ [])

of_wildcard : IsResponse (zone starred) (asked b A) from_wildcard
unfolding path
of_wildcard = record { code = refl; authoritative = refl; answers = refl; authorities = refl; additionals = refl; glue = refl; left_at = refl }

wildcard_says : saying (asked b A) from_wildcard ≡ Some (data_of b)
wildcard_says = refl

wildcard_proved : proves_wildcard_answer origin (shown from_wildcard) b origin ≡ true
wildcard_proved = refl

of_wildcard_without_data : IsResponse (zone starred) (asked b MX) (negative starred code.NoError (wildcard_name ∷ []))
unfolding path
of_wildcard_without_data = record { code = refl; authoritative = refl; answers = refl; authorities = refl; additionals = refl; glue = refl; left_at = refl }

wildcard_without_data_says : saying (asked b MX) (negative starred code.NoError (wildcard_name ∷ [])) ≡ Some (no_data b)
wildcard_without_data_says = refl

wildcard_without_data_proved : proves_empty_answer origin (shown (negative starred code.NoError (wildcard_name ∷ []))) b MX ≡ true
wildcard_without_data_proved = refl

-- ---- a referral

abbrev divided : Sets
divided = start ∷ servers b ∷ []

abbrev to_child : Sections
to_child = record (sections code.NoError [] (as_it_is part.Records (servers b).1 ∷ proof divided b ∷ [])) { authoritative = false }

of_child : IsResponse (zone divided) (asked server A) to_child
unfolding path
of_child = record { code = refl; authoritative = refl; answers = refl; authorities = refl; additionals = refl; glue = refl; left_at = refl }

child_says : saying (asked server A) to_child ≡ Some (referral b)
child_says = refl

child_proved : proves_unsigned_delegation origin (shown to_child) b ≡ true
child_proved = refl

-- ---- signatures

-- the address of a with a signature
abbrev signed_host : Name → ℕ → RRset
signed_host signer labels = record (address a).1 {
  signatures =
      record_with a (V.RRSIG (record { type_covered = record { 0 = A }; algorithm = 253; num_labels = labels; original_ttl = 60; expiration = 86400; inception = 0; key_tag = 1; signer_name = signer; signature = [] })) ∷ [];
}

by_zone : is_signed_by origin (signed_host origin 2) ≡ true
by_zone = refl

-- another signer
by_other : is_signed_by origin (signed_host a 2) ≡ false
by_other = refl

-- a label less: the set was made from a wildcard
of_made_set : is_signed_by origin (signed_host origin 1) ≡ false
of_made_set = refl

-- and a wildcard itself has one label that doesn't count
of_wildcard_itself : is_signed_by origin (record (signed_host origin 1) { owner = wildcard_name }) ≡ true
of_wildcard_itself = refl

-- ---- where nothing is proved

-- RRSIG of a set without signatures: each name on the circle owns RRSIG, as it seems to a validator
of_no_signature : IsResponse (zone host) (asked a RRSIG) (negative host code.NoError (a ∷ []))
unfolding path
of_no_signature = record { code = refl; authoritative = refl; answers = refl; authorities = refl; additionals = refl; glue = refl; left_at = refl }

no_signature_unproved : proves_empty_answer origin (shown (negative host code.NoError (a ∷ []))) a RRSIG ≡ false
no_signature_unproved = refl

-- DS of the origin, which is the parent's
of_no_digest : IsResponse (zone host) (asked origin DS) (negative host code.NoError (origin ∷ []))
unfolding path
of_no_digest = record { code = refl; authoritative = refl; answers = refl; authorities = refl; additionals = refl; glue = refl; left_at = refl }

no_digest_unproved : proves_empty_answer origin (shown (negative host code.NoError (origin ∷ []))) origin DS ≡ false
no_digest_unproved = refl

-- a wildcard that is a delegation (RFC 4592 section 4.2)
abbrev wildcard_divided : Sets
wildcard_divided = start ∷ servers wildcard_name ∷ []

of_wildcard_cut : IsResponse (zone wildcard_divided) (asked b A) (negative wildcard_divided code.NoError (wildcard_name ∷ []))
unfolding path
of_wildcard_cut = record { code = refl; authoritative = refl; answers = refl; authorities = refl; additionals = refl; glue = refl; left_at = refl }

wildcard_cut_unproved : proves_empty_answer origin (shown (negative wildcard_divided code.NoError (wildcard_name ∷ []))) b A ≡ false
wildcard_cut_unproved = refl

-- a child that is in the zone with its SOA
abbrev with_child : Sets
with_child = start ∷ servers b ∷ entry b SOA (V.SOA (record { mname = b; rname = b; serial = 7; refresh = pos 7200; retry = pos 600; expire = pos 86400; minimum = 300 })) ∷ []

abbrev to_inner_child : Sections
to_inner_child = record (sections code.NoError [] (as_it_is part.Records (servers b).1 ∷ proof with_child b ∷ [])) { authoritative = false }

of_inner_child : IsResponse (zone with_child) (asked server A) to_inner_child
unfolding path
of_inner_child = record { code = refl; authoritative = refl; answers = refl; authorities = refl; additionals = refl; glue = refl; left_at = refl }

inner_child_unproved : proves_unsigned_delegation origin (shown to_inner_child) b ≡ false
inner_child_unproved = refl

-- a wildcard that owns NSEC3 alone, which is on the circle, and doesn't exist for a search
abbrev foreign : Sets
foreign = start ∷ entry wildcard_name NSEC3 (V.NSEC3 (nsec3_data parameters [] [])) ∷ []

of_foreign_wildcard : IsResponse (zone foreign) (asked b A) (negative foreign code.NXDomain (wildcard_name ∷ []))
unfolding path
of_foreign_wildcard = record { code = refl; authoritative = refl; answers = refl; authorities = refl; additionals = refl; glue = refl; left_at = refl }

foreign_wildcard_unproved : proves_name_error origin (shown (negative foreign code.NXDomain (wildcard_name ∷ []))) b ≡ false
foreign_wildcard_unproved = refl
