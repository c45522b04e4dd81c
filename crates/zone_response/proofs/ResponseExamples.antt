-- Worked examples: whole responses of a small zone that denies by NSEC, and of one that denies by NSEC3, computed from the definitions
use Rattle.std.proofs.Common.{◌≡◌, ℕ, ◌+◌, Bool, true, false, cond, List, [], ◌∷◌, length, map, refl}
use Rattle.std.specs.Prelude.{◌==◌, codes, Some, None, pos}
use Rattle.zone_proto.specs.declared.nx_proof_kind.NxProofKind.TheVariants as kind
use Rattle.zone_proto.specs.declared.rdata.RData.{RData}
use Rattle.zone_proto.specs.declared.rdata.RData.TheVariants as V
use Rattle.zone_proto.specs.declared.record.Record.{Record}
use Rattle.zone_proto.specs.declared.response_code.ResponseCode.TheVariants as code
use Rattle.zone_proto.specs.Keys.{key}
use Rattle.zone_proto.specs.Names.{Name, wildcard_under}
use Rattle.zone_proto.specs.Sets.{RRset}
use Rattle.zone_proto.specs.Types.{A, NS, SOA, CNAME, TXT, DS, RRSIG, NSEC, NSEC3, IN}
use Rattle.zone_map.specs.Zones.{Sets}
use Rattle.zone_response.specs.Paths.{path, path_names}
use Rattle.zone_response.specs.Queries.{Zone, Query}
use Rattle.zone_response.specs.Responses.{bare, IsResponse}
use Rattle.zone_response.specs.Searches.{most_searches}
use Rattle.zone_response.specs.Sections.{Sections}

-- ---- the zone example: an alias that leads to no name, an unsigned and a signed child, a wildcard, and a host

abbrev example : Name
example = codes "example" ∷ []

abbrev under : List ℕ → Name
under label = label ∷ example

abbrev unsigned_child : Name
unsigned_child = under (codes "b")

abbrev server : Name
server = codes "ns" ∷ unsigned_child

abbrev wildcard_name : Name
wildcard_name = wildcard_under (under (codes "w"))

abbrev record_of : Name → ℕ → RData → Record
record_of n ttl d = record { name = n; dns_class = record { 0 = IN }; ttl = ttl; rdata = d }

abbrev signature : Name → ℕ → ℕ → ℕ → Record
signature n ttl t labels =
    record_of n ttl (V.RRSIG (record { type_covered = record { 0 = t }; algorithm = 8; num_labels = labels; original_ttl = 3600; expiration = 86400; inception = 0; key_tag = 1; signer_name = example; signature = [] }))

abbrev set_with : ℕ → Name → ℕ → RData → List Record → RRset
set_with ttl n t d signatures = record { owner = n; record_type = t; class = IN; ttl = ttl; serial = 1; records = record_of n ttl d ∷ []; signatures = signatures }

-- a set with the signature that covers its type
abbrev signed : ℕ → Name → ℕ → ℕ → RData → RRset
signed ttl n t labels d = set_with ttl n t d (signature n ttl t labels ∷ [])

abbrev nsec : ℕ → Name → ℕ → Name → List ℕ → RRset
nsec ttl n labels next types = signed ttl n NSEC labels (V.NSEC (record { next_domain_name = next; types = map (λ t. record { 0 = t }) types }))

abbrev soa : ℕ → RRset
soa ttl = signed ttl example SOA 1 (V.SOA (record { mname = server; rname = server; serial = 1; refresh = pos 7200; retry = pos 600; expire = pos 86400; minimum = 300 }))

abbrev first_nsec : ℕ → RRset
first_nsec ttl = nsec ttl example 1 (under (codes "a")) (SOA ∷ RRSIG ∷ NSEC ∷ [])

abbrev alias : RRset
alias = signed 3600 (under (codes "a")) CNAME 2 (V.CNAME (under (codes "gone")))

abbrev child_servers : RRset
child_servers = set_with 3600 unsigned_child NS (V.NS server) []

abbrev child_nsec : ℕ → RRset
child_nsec ttl = nsec ttl unsigned_child 2 (under (codes "c")) (NS ∷ RRSIG ∷ NSEC ∷ [])

abbrev glue : RRset
glue = set_with 3600 server A (V.A (192 ∷ 0 ∷ 2 ∷ 1 ∷ [])) []

abbrev signed_child_servers : RRset
signed_child_servers = set_with 3600 (under (codes "c")) NS (V.NS server) []

abbrev digest : RRset
digest = signed 3600 (under (codes "c")) DS 2 (V.Other (record { record_type = record { 0 = DS }; octets = 1 ∷ []; other = refl }))

abbrev signed_child_nsec : ℕ → RRset
signed_child_nsec ttl = nsec ttl (under (codes "c")) 2 wildcard_name (NS ∷ DS ∷ RRSIG ∷ NSEC ∷ [])

abbrev text : RData
text = V.Other (record { record_type = record { 0 = TXT }; octets = 0 ∷ []; other = refl })

abbrev wildcard_text : RRset
wildcard_text = signed 3600 wildcard_name TXT 2 text

abbrev wildcard_nsec : ℕ → RRset
wildcard_nsec ttl = nsec ttl wildcard_name 2 (under (codes "www")) (TXT ∷ RRSIG ∷ NSEC ∷ [])

-- with a signature that covers another type
abbrev host : List Record → RRset
host more = set_with 3600 (under (codes "www")) A (V.A (192 ∷ 0 ∷ 2 ∷ 2 ∷ [])) (signature (under (codes "www")) 3600 A 2 ∷ more)

abbrev last_nsec : RRset
last_nsec = nsec 3600 (under (codes "www")) 2 example (A ∷ RRSIG ∷ NSEC ∷ [])

abbrev sets : Sets
sets =
    (key example SOA, soa 3600) ∷ (key example NSEC, first_nsec 3600)
    ∷ (key (under (codes "a")) CNAME, alias) ∷ (key (under (codes "a")) NSEC, nsec 3600 (under (codes "a")) 2 unsigned_child (CNAME ∷ RRSIG ∷ NSEC ∷ []))
    ∷ (key unsigned_child NS, child_servers) ∷ (key unsigned_child NSEC, child_nsec 3600)
    ∷ (key server A, glue)
    ∷ (key (under (codes "c")) NS, signed_child_servers) ∷ (key (under (codes "c")) DS, digest) ∷ (key (under (codes "c")) NSEC, signed_child_nsec 3600)
    ∷ (key wildcard_name TXT, wildcard_text) ∷ (key wildcard_name NSEC, wildcard_nsec 3600)
    ∷ (key (under (codes "www")) A, host (signature (under (codes "www")) 3600 TXT 2 ∷ [])) ∷ (key (under (codes "www")) NSEC, last_nsec)
    ∷ []

abbrev zone : Zone
zone = record { origin = example; sets = sets; denials = sets; nx_proof_kind = Some kind.Nsec; digest_of = λ algorithm salt n iterations. None; sign = λ signed s. [] }

-- a query that asks for DNSSEC
abbrev asked : Name → ℕ → Query
asked n t = record { name = n; record_type = t; class = IN; signed = true }

abbrev sections : Bool → List RRset → List RRset → List RRset → List RRset → Sections
sections authoritative answers authorities additionals glue =
    record { code = code.NoError; authoritative = authoritative; answers = answers; authorities = authorities; additionals = additionals; glue = glue; left_at = None }

-- ---- answers

-- the signature goes along that covers the set's type
of_host : IsResponse zone (asked (under (codes "www")) A) (sections true (host [] ∷ []) [] [] [])
unfolding path
of_host = record { code = refl; authoritative = refl; answers = refl; authorities = refl; additionals = refl; glue = refl; left_at = refl }

-- the wildcard answers with its text and signature under the name, and the NSEC set says that it may (RFC 4035 section
-- 3.1.3.3)
of_wildcard : IsResponse zone (asked (codes "q" ∷ under (codes "w")) TXT) (sections true (record (signed 3600 (codes "q" ∷ under (codes "w")) TXT 2 text) { serial = 0 } ∷ []) (wildcard_nsec 300 ∷ []) [] [])
unfolding path
of_wildcard = record { code = refl; authoritative = refl; answers = refl; authorities = refl; additionals = refl; glue = refl; left_at = refl }

-- the code is that of the alias's target, which isn't there (RFC 6604 section 3); the SOA has its minimum as TTL, and
-- the NSEC sets deny the target and the wildcard
along_alias : IsResponse zone (asked (under (codes "a")) A) (record { code = code.NXDomain; authoritative = true; answers = alias ∷ []; authorities = soa 300 ∷ signed_child_nsec 300 ∷ first_nsec 300 ∷ []; additionals = []; glue = []; left_at = None })
unfolding path
along_alias = record { code = refl; authoritative = refl; answers = refl; authorities = refl; additionals = refl; glue = refl; left_at = refl }

-- ---- how often the map is searched for names, at most

-- for one of five labels below names that aren't there, as often as for a host
for_long_name : most_searches zone (asked (codes "x" ∷ codes "y" ∷ codes "z" ∷ under (codes "no")) A) ≡ most_searches zone (asked (under (codes "www")) A)
unfolding path_names
for_long_name = refl

-- below an empty non-terminal twice more
below_empty_name : most_searches zone (asked (codes "y" ∷ codes "x" ∷ under (codes "w")) A) ≡ 15
unfolding path_names
below_empty_name = refl

-- for an alias and its target
for_alias : most_searches zone (asked (under (codes "a")) A) ≡ 25
unfolding path_names
for_alias = refl

-- ---- negative responses

-- a name error
of_missing : IsResponse zone (asked (codes "x" ∷ under (codes "no")) A) (record { code = code.NXDomain; authoritative = true; answers = []; authorities = soa 300 ∷ signed_child_nsec 300 ∷ first_nsec 300 ∷ []; additionals = []; glue = []; left_at = None })
unfolding path
of_missing = record { code = refl; authoritative = refl; answers = refl; authorities = refl; additionals = refl; glue = refl; left_at = refl }

-- an empty non-terminal is there (RFC 4592 section 2.2.2)
of_empty_name : IsResponse zone (asked (under (codes "w")) A) (sections true [] (soa 300 ∷ signed_child_nsec 300 ∷ []) [] [])
unfolding path
of_empty_name = record { code = refl; authoritative = refl; answers = refl; authorities = refl; additionals = refl; glue = refl; left_at = refl }

-- no data by the wildcard: one set says both that the name isn't there and what the wildcard has, and appears once
of_wildcard_without_data : IsResponse zone (asked (codes "q" ∷ under (codes "w")) A) (sections true [] (soa 300 ∷ wildcard_nsec 300 ∷ []) [] [])
unfolding path
of_wildcard_without_data = record { code = refl; authoritative = refl; answers = refl; authorities = refl; additionals = refl; glue = refl; left_at = refl }

-- DS of an unsigned child is no data of the parent
of_no_digest : IsResponse zone (asked unsigned_child DS) (sections true [] (soa 300 ∷ child_nsec 300 ∷ []) [] [])
unfolding path
of_no_digest = record { code = refl; authoritative = refl; answers = refl; authorities = refl; additionals = refl; glue = refl; left_at = refl }

-- and that of a signed one is an answer
of_digest : IsResponse zone (asked (under (codes "c")) DS) (sections true (digest ∷ []) [] [] [])
unfolding path
of_digest = record { code = refl; authoritative = refl; answers = refl; authorities = refl; additionals = refl; glue = refl; left_at = refl }

-- ---- referrals

-- NS without signature and without AA, the NSEC set that proves the child unsigned, and glue without signature
below_unsigned_child : IsResponse zone (asked (codes "x" ∷ unsigned_child) A) (sections false [] (child_servers ∷ child_nsec 300 ∷ []) [] (glue ∷ []))
unfolding path
below_unsigned_child = record { code = refl; authoritative = refl; answers = refl; authorities = refl; additionals = refl; glue = refl; left_at = refl }

-- the DS set of a signed child; its server is in the other child, so that its address may go
below_signed_child : IsResponse zone (asked (under (codes "c")) A) (sections false [] (signed_child_servers ∷ digest ∷ []) (glue ∷ []) [])
unfolding path
below_signed_child = record { code = refl; authoritative = refl; answers = refl; authorities = refl; additionals = refl; glue = refl; left_at = refl }

-- ---- what isn't searched

-- outside the zone
of_outside : IsResponse zone (asked (codes "org" ∷ []) A) (bare code.Refused)
of_outside = refl

-- of another class
of_another_class : IsResponse zone (record (asked (under (codes "www")) A) { class = 3 }) (bare code.Refused)
of_another_class = refl

-- of a type that no record has
of_no_type : IsResponse zone (asked (under (codes "www")) 41) (bare code.NotImp)
of_no_type = refl

-- ---- a zone that denies by hashed names: with a host, a child that has its NSEC3 set, and one that opt-out leaves out

-- a digest that counts the octets of a name
octets : Name → ℕ
octets [] = 0
octets (l ∷ n) = length l + octets n

abbrev nsec3 : ℕ → List ℕ → ℕ → List ℕ → RRset
nsec3 ttl owner next types =
    signed ttl (owner ∷ example) NSEC3 2 (V.NSEC3 (record { algorithm = 1; opt_out = true; iterations = 0; salt = []; next_hashed_owner_name = next ∷ []; types = map (λ t. record { 0 = t }) types }))

-- of example, which has 7 octets; of sub.example, which has 10; and of mail.example, which has 11
abbrev of_apex : ℕ → RRset
of_apex ttl = nsec3 ttl (codes "0s") 10 (SOA ∷ RRSIG ∷ [])

abbrev of_sub : ℕ → RRset
of_sub ttl = nsec3 ttl (codes "18") 11 (NS ∷ [])

abbrev of_mail : ℕ → RRset
of_mail ttl = nsec3 ttl (codes "1c") 7 (A ∷ RRSIG ∷ [])

abbrev servers : Name → RRset
servers n = set_with 3600 n NS (V.NS (codes "ns" ∷ codes "other" ∷ [])) []

abbrev mail : RRset
mail = signed 3600 (under (codes "mail")) A 2 (V.A (192 ∷ 0 ∷ 2 ∷ 3 ∷ []))

abbrev hashed_sets : Sets
hashed_sets =
    (key example SOA, soa 3600)
    ∷ (key (codes "0s" ∷ example) NSEC3, of_apex 3600) ∷ (key (codes "18" ∷ example) NSEC3, of_sub 3600) ∷ (key (codes "1c" ∷ example) NSEC3, of_mail 3600)
    ∷ (key (under (codes "mail")) A, mail) ∷ (key (under (codes "sub")) NS, servers (under (codes "sub"))) ∷ (key (under (codes "unsigned")) NS, servers (under (codes "unsigned")))
    ∷ []

-- with the algorithm 1 alone
abbrev hashed_zone : ℕ → Zone
hashed_zone algorithm = record { origin = example; sets = hashed_sets; denials = hashed_sets; nx_proof_kind = Some (kind.Nsec3 algorithm [] 0 true); digest_of = λ algorithm salt n iterations. cond (algorithm == 1) (Some (octets n ∷ [])) None; sign = λ signed s. [] }

-- a name error: one set matches the closest encloser, and covers the name, of 9 octets, and the wildcard, of 8
abbrev hashed_absence : Sections
hashed_absence = record { code = code.NXDomain; authoritative = true; answers = []; authorities = soa 300 ∷ of_apex 300 ∷ []; additionals = []; glue = []; left_at = None }

of_hashed_absence : IsResponse (hashed_zone 1) (asked (under (codes "no")) A) hashed_absence
unfolding path octets
of_hashed_absence = record { code = refl; authoritative = refl; answers = refl; authorities = refl; additionals = refl; glue = refl; left_at = refl }

-- no data
of_hashed_mail : IsResponse (hashed_zone 1) (asked (under (codes "mail")) TXT) (sections true [] (soa 300 ∷ of_mail 300 ∷ []) [] [])
unfolding path octets
of_hashed_mail = record { code = refl; authoritative = refl; answers = refl; authorities = refl; additionals = refl; glue = refl; left_at = refl }

-- a referral with the child's own set
below_hashed_child : IsResponse (hashed_zone 1) (asked (under (codes "sub")) A) (sections false [] (servers (under (codes "sub")) ∷ of_sub 300 ∷ []) [] [])
unfolding path octets
below_hashed_child = record { code = refl; authoritative = refl; answers = refl; authorities = refl; additionals = refl; glue = refl; left_at = refl }

-- and one by the closest encloser proof (RFC 5155 section 7.2.7): the set that covers the child, of 15 octets, and that of its encloser
below_left_out : IsResponse (hashed_zone 1) (asked (under (codes "unsigned")) A) (sections false [] (servers (under (codes "unsigned")) ∷ of_mail 300 ∷ of_apex 300 ∷ []) [] [])
unfolding path octets
below_left_out = record { code = refl; authoritative = refl; answers = refl; authorities = refl; additionals = refl; glue = refl; left_at = refl }

-- a set that is left of another chain, and stands nearer before the name than that of the apex
abbrev left_over : RRset
left_over = signed 3600 (codes "12" ∷ example) NSEC3 2 (V.NSEC3 (record { algorithm = 1; opt_out = false; iterations = 0; salt = 1 ∷ []; next_hashed_owner_name = 1 ∷ []; types = [] }))

abbrev sets_of_two_chains : Sets
sets_of_two_chains =
    (key example SOA, soa 3600)
    ∷ (key (codes "0s" ∷ example) NSEC3, of_apex 3600) ∷ (key (codes "12" ∷ example) NSEC3, left_over) ∷ (key (codes "18" ∷ example) NSEC3, of_sub 3600) ∷ (key (codes "1c" ∷ example) NSEC3, of_mail 3600)
    ∷ (key (under (codes "mail")) A, mail) ∷ (key (under (codes "sub")) NS, servers (under (codes "sub"))) ∷ (key (under (codes "unsigned")) NS, servers (under (codes "unsigned")))
    ∷ []

-- proves nothing where the zone lends its denials without it
of_absence_beside_another_chain : IsResponse (record (hashed_zone 1) { sets = sets_of_two_chains }) (asked (under (codes "no")) A) hashed_absence
unfolding path octets
of_absence_beside_another_chain = record { code = refl; authoritative = refl; answers = refl; authorities = refl; additionals = refl; glue = refl; left_at = refl }

-- without a digest nothing is said that has to be proved
of_undigested_absence : IsResponse (hashed_zone 2) (asked (under (codes "no")) A) (bare code.ServFail)
unfolding path octets
of_undigested_absence = refl

-- and an answer is given
of_undigested_mail : IsResponse (hashed_zone 2) (asked (under (codes "mail")) A) (sections true (mail ∷ []) [] [] [])
unfolding path octets
of_undigested_mail = record { code = refl; authoritative = refl; answers = refl; authorities = refl; additionals = refl; glue = refl; left_at = refl }
