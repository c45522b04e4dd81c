-- Worked examples, computed from the definitions: a wrong definition is refused here
use Rattle.std.proofs.Common.{◌≡◌, ℕ, true, false, List, [], ◌∷◌, refl}
use Rattle.std.specs.Prelude.{codes, Some, None, pos}
use Rattle.zone_proto.specs.declared.rdata.RData.{RData}
use Rattle.zone_proto.specs.declared.rdata.RData.TheVariants as V
use Rattle.zone_proto.specs.declared.record.Record.{Record}
use Rattle.zone_proto.specs.Keys.{key}
use Rattle.zone_proto.specs.Names.{Name}
use Rattle.zone_proto.specs.Sets.{RRset}
use Rattle.zone_proto.specs.Types.{A, NS, CNAME, SOA, TXT, NSEC, DS, IN}
use Rattle.zone_map.specs.Zones.{Sets, owns, types_at, owners}
use Rattle.zone_map.specs.Upserts.{clashes, upserted}
use Rattle.zone_map.specs.Direct.{nearest_delegation, referral, exact, direct}
use Rattle.zone_lookup.specs.StartOfAuthority.{serial, minimum}
use Rattle.zone_lookup.specs.Replies.{negative_answer, IsReply, name_exists, nx_domain, refused, one_set, negative, answered}

-- ---- the zone example.com: its SOA, a host, two zone cuts, one inside the other, and an inner zone's apex

abbrev above_apex : Name
above_apex = codes "com" ∷ []

abbrev pub apex : Name
apex = codes "example" ∷ codes "com" ∷ []

abbrev pub at_apex : List ℕ → Name
at_apex label = label ∷ apex

abbrev under_sub : List ℕ → Name
under_sub label = label ∷ at_apex (codes "sub")

abbrev pub record_with : Name → RData → Record
record_with n d = record { name = n; dns_class = record { 0 = IN }; ttl = 60; rdata = d }

abbrev pub set_with : Name → ℕ → RData → RRset
set_with n t d = record { owner = n; record_type = t; class = IN; ttl = 60; serial = 1; records = record_with n d ∷ []; signatures = [] }

abbrev pub server : RData
server = V.NS (codes "ns" ∷ apex)

abbrev start : RData
start = V.SOA (record { mname = codes "ns" ∷ apex; rname = codes "host" ∷ apex; serial = 7; refresh = pos 7200; retry = pos 600; expire = pos 86400; minimum = 300 })

abbrev pub soa_set : RRset
soa_set = set_with apex SOA start

abbrev host_set : RRset
host_set = set_with (at_apex (codes "www")) A (V.A (192 ∷ 0 ∷ 2 ∷ 1 ∷ []))

abbrev sub_set : RRset
sub_set = set_with (at_apex (codes "sub")) NS server

abbrev deep_set : RRset
deep_set = set_with (under_sub (codes "deep")) NS server

abbrev inner_server : RRset
inner_server = set_with (at_apex (codes "in")) NS server

abbrev inner_start : RRset
inner_start = set_with (at_apex (codes "in")) SOA start

abbrev pub zone : Sets
zone =
    (key apex SOA, soa_set)
    ∷ (key (at_apex (codes "in")) NS, inner_server)
    ∷ (key (at_apex (codes "in")) SOA, inner_start)
    ∷ (key (at_apex (codes "sub")) NS, sub_set)
    ∷ (key (under_sub (codes "deep")) NS, deep_set)
    ∷ (key (at_apex (codes "www")) A, host_set)
    ∷ []

-- ---- what the map has

owns_what_is_stored : owns zone (at_apex (codes "www")) A ≡ true
owns_what_is_stored = refl

owns_no_other_type : owns zone (at_apex (codes "www")) NS ≡ false
owns_no_other_type = refl

types_of_inner_apex : types_at zone (at_apex (codes "in")) ≡ NS ∷ SOA ∷ []
types_of_inner_apex = refl

owners_of_ns : owners zone NS ≡ at_apex (codes "in") ∷ at_apex (codes "sub") ∷ under_sub (codes "deep") ∷ []
owners_of_ns = refl

serial_of_zone : serial zone apex ≡ 7
serial_of_zone = refl

minimum_of_zone : minimum zone apex ≡ 300
minimum_of_zone = refl

-- ---- referrals (RFC 1034 section 4.2.1)

below_a_cut : referral zone (under_sub (codes "www")) A ≡ Some sub_set
below_a_cut = refl

at_a_cut : direct zone (at_apex (codes "sub")) NS ≡ Some sub_set
at_a_cut = refl

-- DS is the parent's (RFC 4035 section 3.1.4.1)
ds_at_a_cut : direct zone (at_apex (codes "sub")) DS ≡ None
ds_at_a_cut = refl

-- of cuts inside one another the nearest refers
nearest_cut : referral zone (codes "www" ∷ under_sub (codes "deep")) A ≡ Some deep_set
nearest_cut = refl

ds_at_an_inner_cut : referral zone (under_sub (codes "deep")) DS ≡ Some sub_set
ds_at_an_inner_cut = refl

-- an inner name that owns NS and SOA is an apex: it doesn't refer, and a DS query stops at it
at_an_inner_apex : referral zone (codes "x" ∷ at_apex (codes "in")) A ≡ None
at_an_inner_apex = refl

ds_at_an_inner_apex : nearest_delegation zone (at_apex (codes "in")) DS ≡ Some (at_apex (codes "in"))
ds_at_an_inner_apex = refl

-- ---- exact sets

exact_host : exact zone (at_apex (codes "www")) A ≡ Some host_set
exact_host = refl

no_other_type : direct zone (at_apex (codes "www")) TXT ≡ None
no_other_type = refl

-- ---- replies

-- an answer that makes no set has nothing to sign
abbrev pub unsigned : RRset → List Record
unsigned s = []

answers_host : IsReply unsigned apex zone false (at_apex (codes "www")) A (answered (one_set host_set) [])
answers_host = record { more = []; found = refl; sections = refl }

no_such_type : IsReply unsigned apex zone false (at_apex (codes "www")) TXT (negative name_exists)
no_such_type = refl

above_the_zone : negative_answer apex zone above_apex ≡ name_exists
above_the_zone = refl

no_such_name : negative_answer apex zone (at_apex (codes "no")) ≡ nx_domain
no_such_name = refl

outside_the_zone : negative_answer apex zone (codes "example" ∷ codes "org" ∷ []) ≡ refused
outside_the_zone = refl

-- ---- CNAME beside other types (RFC 1034 section 3.6.2)

cname_beside_a : clashes zone (at_apex (codes "www")) CNAME ≡ true
cname_beside_a = refl

txt_beside_a : clashes zone (at_apex (codes "www")) TXT ≡ false
txt_beside_a = refl

nsec_beside_anything : clashes zone (at_apex (codes "www")) NSEC ≡ false
nsec_beside_anything = refl

cname_is_not_taken : upserted zone IN (record_with (at_apex (codes "www")) (V.CNAME apex)) 7 ≡ None
cname_is_not_taken = refl

another_class_is_not_taken : upserted zone 3 (record_with (at_apex (codes "new")) (V.CNAME apex)) 7 ≡ None
another_class_is_not_taken = refl

-- the name in capitals: the key is in lower case, and the set's owner as it was spelled
alias_is_taken : upserted [] IN (record_with (codes "NEW" ∷ []) (V.CNAME apex)) 7
    ≡ Some ((key (codes "new" ∷ []) CNAME, record { owner = codes "NEW" ∷ []; record_type = CNAME; class = IN; ttl = 60; serial = 7; records = record_with (codes "NEW" ∷ []) (V.CNAME apex) ∷ []; signatures = [] }) ∷ [])
alias_is_taken = refl
