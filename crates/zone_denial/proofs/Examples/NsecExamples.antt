-- Small zones with their NSEC sets, and the sets that deny in them, computed from the definitions
use Rattle.std.proofs.Common.{◌≡◌, ℕ, true, false, List, [], ◌∷◌, map, refl}
use Rattle.std.specs.Prelude.{codes, Some, None, pos}
use Rattle.zone_proto.specs.declared.rdata.RData.{RData}
use Rattle.zone_proto.specs.declared.rdata.RData.TheVariants as V
use Rattle.zone_proto.specs.declared.record.Record.{Record}
use Rattle.zone_proto.specs.declared.rr_key.RrKey.{RrKey}
use Rattle.zone_proto.specs.Keys.{key}
use Rattle.zone_proto.specs.Names.{Name, name_cmp}
use Rattle.zone_proto.specs.Sets.{RRset}
use Rattle.zone_proto.specs.Types.{A, NS, SOA, RRSIG, NSEC, DNSKEY, IN}
use Rattle.zone_map.specs.Zones.{Sets, put}
use Rattle.zone_denial.specs.Authority.{is_authoritative, authoritative_names}
use Rattle.zone_denial.specs.AuthoritativeKeys.{authoritative_keys}
use Rattle.zone_denial.specs.Covering.{covers}
use Rattle.zone_denial.specs.NsecCircle.{nsec_next}
use Rattle.zone_denial.specs.NsecDenial.{nsec_encloser, nsec_denial}
use Rattle.zone_denial.specs.NsecSets.{nsec_set, nsec_set_at}
use Rattle.zone_denial.specs.OwnersRead.{owners_read}

-- ---- the zone example, with names one and two labels below its origin

abbrev pub origin : Name
origin = codes "example" ∷ []

abbrev pub at_origin : List ℕ → Name
at_origin label = label ∷ origin

abbrev pub record_with : Name → RData → Record
record_with n d = record { name = n; dns_class = record { 0 = IN }; ttl = 60; rdata = d }

abbrev pub entry : Name → ℕ → RData → RrKey × RRset
entry n t d = (key n t, record { owner = n; record_type = t; class = IN; ttl = 60; serial = 7; records = record_with n d ∷ []; signatures = [] })

abbrev pub address : Name → RrKey × RRset
address n = entry n A (V.A (192 ∷ 0 ∷ 2 ∷ 1 ∷ []))

abbrev pub start : RrKey × RRset
start = entry origin SOA (V.SOA (record { mname = origin; rname = origin; serial = 7; refresh = pos 7200; retry = pos 600; expire = pos 86400; minimum = 300 }))

abbrev pub public_key : RrKey × RRset
public_key = entry origin DNSKEY (V.DNSKEY (record { flags = 256; protocol = 3; algorithm = 253; public_key = [] }))

-- the NSEC set of an owner that says a next name and types
abbrev says : Name → Name → List ℕ → RRset
says n next types = record {
  owner = n;
  record_type = NSEC;
  class = IN;
  ttl = 300;
  serial = 7;
  records = record (record_with n (V.NSEC (record { next_domain_name = next; types = map (λ t. record { 0 = t }) types }))) { ttl = 300 } ∷ [];
  signatures = [];
}

-- a zone with its NSEC sets
abbrev with_sets : Sets → List Name → Sets
with_sets m [] = m
with_sets m (n ∷ ns) = put (with_sets m ns) n NSEC (nsec_set origin m 300 7 n)

abbrev pub linked : Sets → Sets
linked m = with_sets m (authoritative_names origin m NSEC)

-- ---- a zone of its origin alone: its set leads back to itself, and denies each name

abbrev pub bare : Sets
bare = start ∷ public_key ∷ []

abbrev pub bare_set : RRset
bare_set = says origin origin (SOA ∷ RRSIG ∷ NSEC ∷ DNSKEY ∷ [])

bare_origin : nsec_set_at origin bare 300 7 origin NSEC ≡ Some bare_set
bare_origin = refl

bare_absent : nsec_denial origin (linked bare) (at_origin (codes "b")) ≡ bare_set ∷ []
bare_absent = refl

-- ---- with the hosts a and c

abbrev hosts : Sets
hosts = start ∷ public_key ∷ address (at_origin (codes "a")) ∷ address (at_origin (codes "c")) ∷ []

abbrev hosts_origin : RRset
hosts_origin = says origin (at_origin (codes "a")) (SOA ∷ RRSIG ∷ NSEC ∷ DNSKEY ∷ [])

abbrev hosts_a : RRset
hosts_a = says (at_origin (codes "a")) (at_origin (codes "c")) (A ∷ RRSIG ∷ NSEC ∷ [])

abbrev hosts_c : RRset
hosts_c = says (at_origin (codes "c")) origin (A ∷ RRSIG ∷ NSEC ∷ [])

-- a name between the two: the set that covers the wildcard at the origin, and then the one that covers the name
between : nsec_denial origin (linked hosts) (at_origin (codes "b")) ≡ hosts_origin ∷ hosts_a ∷ []
between = refl

-- after the last comes the origin
last_next : nsec_next origin hosts (at_origin (codes "c")) ≡ origin
last_next = refl

-- a name behind the last, and one below the last
behind : nsec_denial origin (linked hosts) (at_origin (codes "d")) ≡ hosts_origin ∷ hosts_c ∷ []
behind = refl

below_last : nsec_denial origin (linked hosts) (codes "b" ∷ at_origin (codes "c")) ≡ hosts_c ∷ []
below_last = refl

-- a name below one that isn't there: the origin is its closest encloser
below_absent : nsec_denial origin (linked hosts) (codes "x" ∷ at_origin (codes "b")) ≡ hosts_origin ∷ hosts_a ∷ []
below_absent = refl

-- a name that is there: its own set
there : nsec_denial origin (linked hosts) (at_origin (codes "a")) ≡ hosts_a ∷ []
there = refl

-- a name outside the zone behind all names of it: the origin's set and that of the last
outside_behind : nsec_denial origin (linked hosts) (codes "org" ∷ []) ≡ hosts_origin ∷ hosts_c ∷ []
outside_behind = refl

-- and one before all names of it: no owner reaches it
outside_before : nsec_denial origin (linked hosts) (codes "a" ∷ []) ≡ hosts_origin ∷ []
outside_before = refl

-- what is read for the closest set: one owner, and before all of them none
read_between : owners_read (linked hosts) (at_origin (codes "b")) ≡ at_origin (codes "a") ∷ []
read_between = refl

read_before : owners_read (linked hosts) (codes "a" ∷ []) ≡ []
read_before = refl

-- where the set of a leads to a name before b, all up to b are read, and none reaches it
read_all : owners_read (put (linked hosts) (at_origin (codes "a")) NSEC (says (at_origin (codes "a")) (at_origin (codes "aa")) [])) (at_origin (codes "b")) ≡ origin ∷ at_origin (codes "a") ∷ []
read_all = refl

-- without NSEC sets nothing is denied
unlinked : nsec_denial origin hosts (at_origin (codes "b")) ≡ []
unlinked = refl

-- ---- with a zone cut at sub, and glue below it

abbrev sub : Name
sub = at_origin (codes "sub")

abbrev cut : Sets
cut = start ∷ public_key ∷ entry sub NS (V.NS (codes "ns" ∷ sub)) ∷ address (codes "ns" ∷ sub) ∷ []

at_cut : is_authoritative origin cut NSEC sub ≡ true
at_cut = refl

glue : is_authoritative origin cut NSEC (codes "ns" ∷ sub) ≡ false
glue = refl

denied_glue : nsec_denial origin (linked cut) (codes "ns" ∷ sub) ≡ says sub origin (NS ∷ RRSIG ∷ NSEC ∷ []) ∷ []
denied_glue = refl

-- ---- with a cut in below that of sub, and a name t behind them

abbrev inner : Name
inner = codes "in" ∷ sub

abbrev behind_cuts : Name
behind_cuts = at_origin (codes "t")

abbrev cuts : Sets
cuts =
    start ∷ public_key ∷ entry sub NS (V.NS (codes "ns" ∷ sub)) ∷ entry inner NS (V.NS (codes "ns" ∷ sub)) ∷ address (codes "ns" ∷ inner) ∷ address (codes "ns" ∷ sub) ∷ address behind_cuts ∷ []

keys_of_cuts : authoritative_keys origin cuts NSEC ≡ key origin SOA ∷ key origin DNSKEY ∷ key sub NS ∷ key behind_cuts A ∷ []
keys_of_cuts = refl

over_cuts : nsec_set_at origin cuts 300 7 sub NSEC ≡ Some (says sub behind_cuts (NS ∷ RRSIG ∷ NSEC ∷ []))
over_cuts = refl

at_inner_cut : nsec_set_at origin cuts 300 7 inner NSEC ≡ None
at_inner_cut = refl

-- ---- with an empty non-terminal y above x.y

abbrev deep : Sets
deep = start ∷ public_key ∷ address (codes "x" ∷ at_origin (codes "y")) ∷ []

empty_name : nsec_denial origin (linked deep) (at_origin (codes "y")) ≡ says origin (codes "x" ∷ at_origin (codes "y")) (SOA ∷ RRSIG ∷ NSEC ∷ DNSKEY ∷ []) ∷ []
empty_name = refl

-- it is the closest encloser of a name below it, and the wildcard at it comes before x.y
empty_encloser : nsec_encloser origin (linked deep) (codes "z" ∷ at_origin (codes "y")) ≡ at_origin (codes "y")
empty_encloser = refl

below_empty : nsec_denial origin (linked deep) (codes "z" ∷ at_origin (codes "y"))
    ≡ says origin (codes "x" ∷ at_origin (codes "y")) (SOA ∷ RRSIG ∷ NSEC ∷ DNSKEY ∷ []) ∷ says (codes "x" ∷ at_origin (codes "y")) origin (A ∷ RRSIG ∷ NSEC ∷ []) ∷ []
below_empty = refl

-- ---- with a wildcard, whose own set tells of it

abbrev wildcard_name : Name
wildcard_name = at_origin (codes "*")

abbrev starred : Sets
starred = start ∷ public_key ∷ address wildcard_name ∷ address (at_origin (codes "c")) ∷ []

wildcard_told : nsec_denial origin (linked starred) (codes "x" ∷ at_origin (codes "d")) ≡ says wildcard_name (at_origin (codes "c")) (A ∷ RRSIG ∷ NSEC ∷ []) ∷ hosts_c ∷ []
wildcard_told = refl

-- ---- a name that has nothing but a set of NSEC leaves the circle

abbrev left_behind : Sets
left_behind = start ∷ entry (at_origin (codes "a")) NSEC (V.NSEC (record { next_domain_name = origin; types = [] })) ∷ []

off_circle : nsec_set_at origin left_behind 300 7 (at_origin (codes "a")) NSEC ≡ None
off_circle = refl

-- ---- what a pair covers

covered_between : covers name_cmp (at_origin (codes "a")) (at_origin (codes "c")) (at_origin (codes "b")) ≡ true
covered_between = refl

not_itself : covers name_cmp (at_origin (codes "a")) (at_origin (codes "c")) (at_origin (codes "a")) ≡ false
not_itself = refl

not_next : covers name_cmp (at_origin (codes "a")) (at_origin (codes "c")) (at_origin (codes "c")) ≡ false
not_next = refl

covered_by_last : covers name_cmp (at_origin (codes "c")) origin (at_origin (codes "d")) ≡ true
covered_by_last = refl

not_by_last : covers name_cmp (at_origin (codes "c")) origin (at_origin (codes "b")) ≡ false
not_by_last = refl

covered_alone : covers name_cmp origin origin (at_origin (codes "b")) ≡ true
covered_alone = refl
