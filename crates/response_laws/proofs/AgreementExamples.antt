-- Where a response isn't what a lookup says, each with the smallest zone, computed from the definitions. Each zone has besides an SOA at its origin no more than is shown
use Rattle.std.proofs.Common.{◌≡◌, ℕ, true, false, List, [], ◌∷◌, refl}
use Rattle.std.specs.Prelude.{codes, Option, Some, None, pos}
use Rattle.zone_proto.specs.declared.nx_proof_kind.NxProofKind.TheVariants as kind
use Rattle.zone_proto.specs.declared.rdata.RData.TheVariants as V
use Rattle.zone_proto.specs.declared.response_code.ResponseCode.{ResponseCode}
use Rattle.zone_proto.specs.declared.response_code.ResponseCode.TheVariants as code
use Rattle.zone_proto.specs.declared.rr_key.RrKey.{RrKey}
use Rattle.zone_proto.specs.Names.{Name, wildcard_under}
use Rattle.zone_proto.specs.Sets.{RRset}
use Rattle.zone_proto.specs.Types.{A, NS, CNAME, SOA, MX, AAAA, NSEC, NSEC3, ANAME, IN}
use Rattle.zone_map.specs.Wildcards.{renamed, found}
use Rattle.zone_map.specs.Zones.{Sets}
use Rattle.zone_denial.proofs.Examples.NsecExamples.{origin, at_origin, entry, address, start}
use Rattle.zone_denial.specs.Nsec3Circle.{nsec3_data}
use Rattle.zone_denial.proofs.Examples.Nsec3Examples.{parameters}
use Rattle.zone_lookup.specs.Replies.{name_exists, nx_domain, negative_answer}
use Rattle.zone_response.specs.declared.response.Part.TheVariants as part
use Rattle.zone_response.specs.Paths.{path}
use Rattle.zone_response.specs.Queries.{Zone, Query}
use Rattle.zone_response.specs.Responses.{bare, IsResponse}
use Rattle.zone_response.specs.Sections.{Sections, sent}

-- an unsigned zone, and a query without DNSSEC
abbrev zone_at : Name → Sets → Zone
zone_at o m = record { origin = o; sets = m; denials = m; nx_proof_kind = None; digest_of = λ algorithm salt n iterations. None; sign = λ signed s. [] }

abbrev zone : Sets → Zone
zone m = zone_at origin (start ∷ m)

abbrev asked : Name → ℕ → Query
asked n t = record { name = n; record_type = t; class = IN; signed = false }

abbrev answer : List RRset → Sections
answer sets = record { code = code.NoError; authoritative = true; answers = sets; authorities = []; additionals = []; glue = []; left_at = None }

abbrev negative : ResponseCode → Sections
negative c = record (answer []) { code = c; authorities = sent part.Records 60 start.1 ∷ [] }

-- what a lookup finds
abbrev looked_up : Sets → Name → ℕ → Option RRset
looked_up m n t = found (start ∷ m) false n t

abbrev a : Name
a = at_origin (codes "a")

abbrev b : Name
b = at_origin (codes "b")

abbrev below_b : Name
below_b = codes "x" ∷ b

abbrev wildcard_name : Name
wildcard_name = wildcard_under origin

abbrev other : Name
other = codes "b" ∷ codes "other" ∷ []

abbrev servers : Name → RrKey × RRset
servers n = entry n NS (V.NS (codes "org" ∷ []))

abbrev alias : Name → Name → RrKey × RRset
alias n target = entry n CNAME (V.CNAME target)

-- ---- a zone cut: a lookup answers with its NS set, and a response refers

cut_found : looked_up (servers b ∷ []) below_b A ≡ Some (servers b).1
cut_found = refl

cut_refers : IsResponse (zone (servers b ∷ [])) (asked below_b A) (record (answer []) { authoritative = false; authorities = (servers b).1 ∷ [] })
unfolding path
cut_refers = record { code = refl; authoritative = refl; answers = refl; authorities = refl; additionals = refl; glue = refl; left_at = refl }

-- ---- the apex of another zone within the zone: a lookup answers below it, and a response refers

abbrev inner : Sets
inner = servers b ∷ entry b SOA (V.SOA (record { mname = b; rname = b; serial = 7; refresh = pos 7200; retry = pos 600; expire = pos 86400; minimum = 300 })) ∷ address below_b ∷ []

inner_found : looked_up inner below_b A ≡ Some (address below_b).1
inner_found = refl

inner_refers : IsResponse (zone inner) (asked below_b A) (record (answer []) { authoritative = false; authorities = (servers b).1 ∷ [] })
unfolding path
inner_refers = record { code = refl; authoritative = refl; answers = refl; authorities = refl; additionals = refl; glue = refl; left_at = refl }

-- ---- a name that begins with `*` (RFC 4592 section 2.3)

abbrev other_wildcard : Name
other_wildcard = wildcard_under (at_origin (codes "q"))

starred_unfound : looked_up (address wildcard_name ∷ []) other_wildcard A ≡ None
starred_unfound = refl

starred_answered : IsResponse (zone (address wildcard_name ∷ [])) (asked other_wildcard A) (answer (renamed false wildcard_name other_wildcard (address wildcard_name).1 ∷ []))
unfolding path
starred_answered = record { code = refl; authoritative = refl; answers = refl; authorities = refl; additionals = refl; glue = refl; left_at = refl }

-- ---- a wildcard that is a delegation (RFC 4592 section 4.2)

wildcard_cut_found : looked_up (servers wildcard_name ∷ []) b A ≡ Some (renamed false wildcard_name b (servers wildcard_name).1)
wildcard_cut_found = refl

wildcard_cut_denied : IsResponse (zone (servers wildcard_name ∷ [])) (asked b A) (negative code.NoError)
unfolding path
wildcard_cut_denied = record { code = refl; authoritative = refl; answers = refl; authorities = refl; additionals = refl; glue = refl; left_at = refl }

-- ---- a set outside the zone

outside_found : looked_up (alias a other ∷ address other ∷ []) other A ≡ Some (address other).1
outside_found = refl

outside_left : IsResponse (zone (alias a other ∷ address other ∷ [])) (asked a A) (record (answer ((alias a other).1 ∷ [])) { left_at = Some other })
unfolding path
outside_left = record { code = refl; authoritative = refl; answers = refl; authorities = refl; additionals = refl; glue = refl; left_at = refl }

-- ---- an origin that begins with `*`: a lookup asks it for a name that isn't below it

abbrev apex : RrKey × RRset
apex = entry wildcard_name SOA (V.SOA (record { mname = origin; rname = origin; serial = 7; refresh = pos 7200; retry = pos 600; expire = pos 86400; minimum = 300 }))

abbrev below_apex : Name
below_apex = codes "a" ∷ wildcard_name

abbrev wildcard_zone : Sets
wildcard_zone = apex ∷ address wildcard_name ∷ alias below_apex b ∷ []

wildcard_origin_found : found wildcard_zone false b A ≡ Some (renamed false wildcard_name b (address wildcard_name).1)
wildcard_origin_found = refl

wildcard_origin_left : IsResponse (zone_at wildcard_name wildcard_zone) (asked below_apex A) (record (answer ((alias below_apex b).1 ∷ [])) { left_at = Some b })
unfolding path
wildcard_origin_left = record { code = refl; authoritative = refl; answers = refl; authorities = refl; additionals = refl; glue = refl; left_at = refl }

-- ---- a CNAME beside another type (RFC 1034 section 3.6.2)

abbrev exchange : RrKey × RRset
exchange = entry a MX (V.MX (record { preference = 10; exchange = codes "org" ∷ [] }))

beside_found : looked_up (alias a b ∷ exchange ∷ []) a MX ≡ Some (alias a b).1
beside_found = refl

beside_answered : IsResponse (zone (alias a b ∷ exchange ∷ [])) (asked a MX) (answer (exchange.1 ∷ []))
unfolding path
beside_answered = record { code = refl; authoritative = refl; answers = refl; authorities = refl; additionals = refl; glue = refl; left_at = refl }

-- ---- NSEC beside a CNAME (RFC 4035 section 2.5)

abbrev denial : RrKey × RRset
denial = entry a NSEC (V.NSEC (record { next_domain_name = origin; types = [] }))

denial_found : looked_up (alias a b ∷ denial ∷ []) a NSEC ≡ Some (alias a b).1
denial_found = refl

denial_answered : IsResponse (zone (alias a b ∷ denial ∷ [])) (asked a NSEC) (answer (denial.1 ∷ []))
unfolding path
denial_answered = record { code = refl; authoritative = refl; answers = refl; authorities = refl; additionals = refl; glue = refl; left_at = refl }

-- ---- an NSEC set alone: a name that owns nothing else doesn't exist

lone_found : looked_up (denial ∷ []) a NSEC ≡ Some denial.1
lone_found = refl

lone_denied : IsResponse (zone (denial ∷ [])) (asked a NSEC) (negative code.NXDomain)
unfolding path
lone_denied = record { code = refl; authoritative = refl; answers = refl; authorities = refl; additionals = refl; glue = refl; left_at = refl }

-- ---- the owner of an NSEC3 set (RFC 5155 section 7.2.8)

abbrev hashed : RrKey × RRset
hashed = entry a NSEC3 (V.NSEC3 (nsec3_data parameters [] []))

hashed_found : looked_up (hashed ∷ []) a NSEC3 ≡ Some hashed.1
hashed_found = refl

hashed_denied : IsResponse (zone (hashed ∷ [])) (asked a NSEC3) (negative code.NXDomain)
unfolding path
hashed_denied = record { code = refl; authoritative = refl; answers = refl; authorities = refl; additionals = refl; glue = refl; left_at = refl }

hashed_exists : negative_answer origin (start ∷ hashed ∷ []) a ≡ name_exists
hashed_exists = refl

hashed_is_error : IsResponse (zone (hashed ∷ [])) (asked a A) (negative code.NXDomain)
unfolding path
hashed_is_error = record { code = refl; authoritative = refl; answers = refl; authorities = refl; additionals = refl; glue = refl; left_at = refl }

-- ---- an ANAME set behind an alias: a lookup answers with the set itself, and a response with the addresses

abbrev c : Name
c = at_origin (codes "c")

abbrev stand_in : Name → Name → RrKey × RRset
stand_in n target = entry n ANAME (V.ANAME target)

behind_found : looked_up (alias a b ∷ stand_in b c ∷ address c ∷ []) b A ≡ Some (stand_in b c).1
behind_found = refl

behind_answered : IsResponse (zone (alias a b ∷ stand_in b c ∷ address c ∷ [])) (asked a A) (answer ((alias a b).1 ∷ renamed false c b (address c).1 ∷ []))
unfolding path
behind_answered = record { code = refl; authoritative = refl; answers = refl; authorities = refl; additionals = refl; glue = refl; left_at = refl }

-- ---- an ANAME set that leads to no addresses: a lookup answers with it, and a response without data

lost_found : looked_up (stand_in a c ∷ address c ∷ []) a AAAA ≡ Some (stand_in a c).1
lost_found = refl

lost_denied : IsResponse (zone (stand_in a c ∷ address c ∷ [])) (asked a AAAA) (negative code.NoError)
unfolding path
lost_denied = record { code = refl; authoritative = refl; answers = refl; authorities = refl; additionals = refl; glue = refl; left_at = refl }

-- ---- one that leads out of the zone: a response can't tell what is there

untold_found : looked_up (stand_in a other ∷ []) a A ≡ Some (stand_in a other).1
untold_found = refl

untold_fails : IsResponse (zone (stand_in a other ∷ [])) (asked a A) (bare code.ServFail)
unfolding path
untold_fails = refl

-- ---- one in a zone that denies and has no signer, where DNSSEC is asked for: nobody signs the addresses

proved_found : found (start ∷ stand_in a c ∷ address c ∷ []) true a A ≡ Some (stand_in a c).1
proved_found = refl

proved_fails : IsResponse (record (zone (stand_in a c ∷ address c ∷ [])) { nx_proof_kind = Some kind.Nsec }) (record (asked a A) { signed = true }) (bare code.ServFail)
unfolding path
proved_fails = refl

-- ---- no SOA

without_soa_denied : negative_answer origin [] a ≡ nx_domain
without_soa_denied = refl

without_soa_fails : IsResponse (zone_at origin []) (asked a A) (bare code.ServFail)
unfolding path
without_soa_fails = refl
