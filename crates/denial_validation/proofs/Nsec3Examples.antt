-- The denials of RFC 5155 appendix B, with the NSEC3 records of the zone of its appendix A and the digests that both name: what they prove, computed from the definitions. Then what they don't prove, in other places or turned a little
use Rattle.std.proofs.Common.{◌≡◌, ℕ, ◌+◌, ◌-◌, ◌*◌, true, false, List, [], ◌∷◌, map, codes, refl}
use Rattle.std.specs.Prelude.{Option, None, ◌/◌, ◌%◌, nat_lt, cond, find, option_map}
use Rattle.zone_proto.specs.declared.rdata.RData.{RData}
use Rattle.zone_proto.specs.declared.rdata.RData.TheVariants as V
use Rattle.zone_proto.specs.declared.record.Record.{Record}
use Rattle.zone_proto.specs.Base32.{base32_text}
use Rattle.zone_proto.specs.Names.{Label, Name, name_eq, wildcard_under}
use Rattle.zone_proto.specs.Types.{A, NS, CNAME, SOA, MX, AAAA, DS, RRSIG, DNSKEY, NSEC3PARAM, ANY, IN, DNAME}
use Rattle.denial_validation.specs.Nsec3Proofs.{is_covered, proves_name_error, proves_no_data, proves_wildcard_no_data, proves_empty_answer, proves_wildcard_answer, proves_unsigned_delegation}
use Rattle.denial_validation.specs.Nsec3Records.{Nsec3Record, nsec3_records}

-- ---- digests

-- the octets of numbers of five bits, of which the count is a multiple of eight
abbrev octets : List ℕ → List ℕ
octets (a ∷ b ∷ c ∷ d ∷ e ∷ f ∷ g ∷ h ∷ more) = (a * 8 + b / 4) ∷ (b % 4 * 64 + c * 2 + d / 16) ∷ (d % 16 * 16 + e / 2) ∷ (e % 2 * 128 + f * 4 + g / 8) ∷ (g % 8 * 32 + h) ∷ octets more
octets _ = []

-- the digest of a text in base32hex
abbrev digest : List ℕ → List ℕ
digest text = octets (map (λ c. cond (nat_lt c 97) (c - 48) (c - 87)) text)

read_back : base32_text (digest (codes "0p9mhaveqvm6t7vbl5lop2u3t2rp3tom")) ≡ codes "0p9mhaveqvm6t7vbl5lop2u3t2rp3tom"
read_back = refl

-- ---- names of the zone example

abbrev apex : Name
apex = codes "example" ∷ []

abbrev under : Label → Name
under label = label ∷ apex

abbrev a : Name
a = under (codes "a")

abbrev c : Name
c = under (codes "c")

abbrev ns1 : Name
ns1 = under (codes "ns1")

abbrev w : Name
w = under (codes "w")

abbrev xw : Name
xw = codes "x" ∷ w

abbrev yw : Name
yw = codes "y" ∷ w

abbrev cxw : Name
cxw = codes "c" ∷ xw

abbrev acxw : Name
acxw = codes "a" ∷ cxw

abbrev azw : Name
azw = codes "a" ∷ codes "z" ∷ w

-- names that the appendix has no digest of
abbrev xa : Name
xa = codes "x" ∷ a

abbrev last : Name
last = under (codes "last")

abbrev first : Name
first = under (codes "first")

-- the hash. The digests of the last four names are made up
abbrev table : List (Name × List ℕ)
table =
    (apex, codes "0p9mhaveqvm6t7vbl5lop2u3t2rp3tom") ∷ (a, codes "35mthgpgcu1qg68fab165klnsnk3dpvl") ∷ (c, codes "4g6p9u5gvfshp30pqecj98b3maqbn1ck")
    ∷ (ns1, codes "2t7b4g4vsa5smi47k61mv5bv1a22bojr") ∷ (w, codes "k8udemvp1j2f7eg6jebps17vp3n8i58h") ∷ (wildcard_under w, codes "r53bq7cc2uvmubfu5ocmm6pers9tk9en")
    ∷ (xw, codes "b4um86eghhds6nea196smvmlo4ors995") ∷ (yw, codes "ji6neoaepv8b5o6k4ev33abha8ht9fgc") ∷ (cxw, codes "0va5bpr2ou0vk0lbqeeljri88laipsfh")
    ∷ (wildcard_under xw, codes "92pqneegtaue7pjatc3l3qnk738c6v5m") ∷ (codes "z" ∷ w, codes "qlu7gtfaeh0ek0c05ksfhdpbcgglbe03")
    ∷ (wildcard_under cxw, codes "10000000000000000000000000000000") ∷ (xa, codes "11000000000000000000000000000000") ∷ (wildcard_under a, codes "12000000000000000000000000000000")
    ∷ (last, codes "u0000000000000000000000000000000") ∷ (first, codes "00000000000000000000000000000001") ∷ []

abbrev hash : Name → Option (List ℕ)
hash x = option_map (λ e. digest e.1) (find (λ e. name_eq e.0 x) table)

-- ---- its NSEC3 records, as a validator reads them; each has the Opt-Out flag

abbrev says : List ℕ → List ℕ → List ℕ → Nsec3Record
says owner next types = record { owner = owner ∷ apex; next = digest next; types = types; opt_out = true }

abbrev at_apex : Nsec3Record
at_apex = says (codes "0p9mhaveqvm6t7vbl5lop2u3t2rp3tom") (codes "2t7b4g4vsa5smi47k61mv5bv1a22bojr") (MX ∷ DNSKEY ∷ NS ∷ SOA ∷ NSEC3PARAM ∷ RRSIG ∷ [])

abbrev at_ns1 : Nsec3Record
at_ns1 = says (codes "2t7b4g4vsa5smi47k61mv5bv1a22bojr") (codes "2vptu5timamqttgl4luu9kg21e0aor3s") (A ∷ RRSIG ∷ [])

abbrev at_a : Nsec3Record
at_a = says (codes "35mthgpgcu1qg68fab165klnsnk3dpvl") (codes "b4um86eghhds6nea196smvmlo4ors995") (NS ∷ DS ∷ RRSIG ∷ [])

abbrev at_xw : Nsec3Record
at_xw = says (codes "b4um86eghhds6nea196smvmlo4ors995") (codes "gjeqe526plbf1g8mklp59enfd789njgi") (MX ∷ RRSIG ∷ [])

abbrev at_yw : Nsec3Record
at_yw = says (codes "ji6neoaepv8b5o6k4ev33abha8ht9fgc") (codes "k8udemvp1j2f7eg6jebps17vp3n8i58h") []

abbrev at_w : Nsec3Record
at_w = says (codes "k8udemvp1j2f7eg6jebps17vp3n8i58h") (codes "kohar7mbb8dc2ce8a9qvl8hon4k53uhi") []

abbrev at_ns2 : Nsec3Record
at_ns2 = says (codes "q04jkcevqvmu85r014c7dkba38o0ji5r") (codes "r53bq7cc2uvmubfu5ocmm6pers9tk9en") (A ∷ RRSIG ∷ [])

abbrev at_wildcard : Nsec3Record
at_wildcard = says (codes "r53bq7cc2uvmubfu5ocmm6pers9tk9en") (codes "t644ebqk9bibcna874givr6joj62mlhv") (MX ∷ RRSIG ∷ [])

-- HINFO is type 13
abbrev at_xx : Nsec3Record
at_xx = says (codes "t644ebqk9bibcna874givr6joj62mlhv") (codes "0p9mhaveqvm6t7vbl5lop2u3t2rp3tom") (A ∷ 13 ∷ AAAA ∷ RRSIG ∷ [])

-- they are read with the owner in lower case, and records of other types are passed over

abbrev answer : RData → Record
answer rdata = record { name = codes "B4UM86EGHHDS6NEA196SMVMLO4ORS995" ∷ codes "Example" ∷ []; dns_class = record { 0 = IN }; ttl = 3600; rdata = rdata }

abbrev said : RData
said = V.NSEC3 (record { algorithm = 1; opt_out = true; iterations = 12; salt = 170 ∷ 187 ∷ 204 ∷ 221 ∷ []; next_hashed_owner_name = at_xw.next; types = map (λ t. record { 0 = t }) at_xw.types })

read : nsec3_records (answer (V.A (192 ∷ 0 ∷ 2 ∷ 7 ∷ [])) ∷ answer said ∷ []) ≡ at_xw ∷ []
read = refl

-- ---- the appendix

-- B.1, a name error: a record matches x.w, one covers the next closer name c.x.w, and one the wildcard at x.w
name_error : proves_name_error apex hash (at_apex ∷ at_xw ∷ at_a ∷ []) acxw ≡ true
name_error = refl

-- B.2, no data
no_data : proves_no_data apex hash (at_ns1 ∷ []) ns1 MX ≡ true
no_data = refl

-- B.2.1, no data at a name that owns nothing and is above x.y.w
empty : proves_no_data apex hash (at_yw ∷ []) yw A ≡ true
empty = refl

-- B.3, a referral to an unsigned zone that opt-out leaves out: a record matches the apex, and one with the flag covers c
opted_out : proves_unsigned_delegation apex hash (at_a ∷ at_apex ∷ []) c ≡ true
opted_out = refl

opted_out_ds : proves_empty_answer apex hash (at_a ∷ at_apex ∷ []) c DS ≡ true
opted_out_ds = refl

-- B.4, an answer that the wildcard at w gave: a record covers z.w
wildcard_answer : proves_wildcard_answer apex hash (at_ns2 ∷ []) azw w ≡ true
wildcard_answer = refl

-- B.5, no data by a wildcard: a record matches w, one covers z.w, and one matches the wildcard at w
wildcard_no_data : proves_wildcard_no_data apex hash (at_w ∷ at_ns2 ∷ at_wildcard ∷ []) azw AAAA ≡ true
wildcard_no_data = refl

-- B.6, DS at the apex: the zone's own record has no say on it
apex_ds : proves_empty_answer apex hash (at_apex ∷ []) apex DS ≡ false
apex_ds = refl

-- ---- one record alone, or one left out

next_closer_left_out : proves_name_error apex hash (at_xw ∷ at_a ∷ []) acxw ≡ false
next_closer_left_out = refl

wildcard_left_out : proves_name_error apex hash (at_apex ∷ at_xw ∷ []) acxw ≡ false
wildcard_left_out = refl

-- without the record of x.w the closest encloser seems to be the apex, and nothing covers w
encloser_left_out : proves_name_error apex hash (at_apex ∷ at_a ∷ []) acxw ≡ false
encloser_left_out = refl

wildcard_alone : proves_empty_answer apex hash (at_wildcard ∷ []) azw AAAA ≡ false
wildcard_alone = refl

nothing : proves_name_error apex hash [] acxw ≡ false
nothing = refl

-- ---- the wildcard at the parent of the name in place of the one under its closest encloser

parents_wildcard_is_covered : is_covered apex hash (at_apex ∷ at_xw ∷ []) (wildcard_under cxw) ≡ true
parents_wildcard_is_covered = refl

parents_wildcard : proves_name_error apex hash (at_apex ∷ at_xw ∷ []) acxw ≡ false
parents_wildcard = refl

other_encloser : proves_wildcard_answer apex hash (at_ns2 ∷ []) azw apex ≡ false
other_encloser = refl

-- ---- the parent's record at a zone cut, as that of a closest encloser (RFC 5155 section 8.3), and for types that the child has
-- (section 8.5, RFC 6840 section 4.1)

below_cut : proves_name_error apex hash (at_apex ∷ at_a ∷ []) xa ≡ false
below_cut = refl

at_cut : proves_empty_answer apex hash (at_a ∷ []) a A ≡ false
at_cut = refl

-- with A in place of NS it is the record of a host; with DNAME in its place it has names below it renamed

abbrev a_with : List ℕ → Nsec3Record
a_with types = record at_a { types = types }

below_host : proves_name_error apex hash (at_apex ∷ a_with (A ∷ RRSIG ∷ []) ∷ []) xa ≡ true
below_host = refl

below_dname : proves_name_error apex hash (at_apex ∷ a_with (DNAME ∷ RRSIG ∷ []) ∷ []) xa ≡ false
below_dname = refl

-- and with SOA beside NS it is that of the zone's own apex
below_apex : proves_name_error apex hash (at_apex ∷ a_with (NS ∷ SOA ∷ RRSIG ∷ []) ∷ []) xa ≡ true
below_apex = refl

-- ---- a type that is there, an alias, which would answer for the type, and any type

listed : proves_empty_answer apex hash (at_ns1 ∷ []) ns1 A ≡ false
listed = refl

listed_wildcard : proves_wildcard_no_data apex hash (at_w ∷ at_ns2 ∷ at_wildcard ∷ []) azw MX ≡ false
listed_wildcard = refl

alias : proves_empty_answer apex hash (record at_ns1 { types = CNAME ∷ RRSIG ∷ [] } ∷ []) ns1 MX ≡ false
alias = refl

alias_wildcard : proves_wildcard_no_data apex hash (at_w ∷ at_ns2 ∷ record at_wildcard { types = CNAME ∷ RRSIG ∷ [] } ∷ []) azw AAAA ≡ false
alias_wildcard = refl

any_type : proves_empty_answer apex hash (at_ns1 ∷ []) ns1 ANY ≡ false
any_type = refl

-- the record of another name
other_owner : proves_empty_answer apex hash (at_ns2 ∷ []) ns1 MX ≡ false
other_owner = refl

-- ---- DS

-- the child's record, which SOA tells
child_ds : proves_empty_answer apex hash (a_with (NS ∷ SOA ∷ RRSIG ∷ []) ∷ []) a DS ≡ false
child_ds = refl

-- a delegation that has one
signed_delegation : proves_unsigned_delegation apex hash (at_a ∷ []) a ≡ false
signed_delegation = refl

-- a record that covers c without the Opt-Out flag
not_opted_out : proves_unsigned_delegation apex hash (record at_a { opt_out = false } ∷ at_apex ∷ []) c ≡ false
not_opted_out = refl

-- ---- moved digests

-- the next digest comes before that of c.x.w
next_before : proves_name_error apex hash (record at_apex { next = digest (codes "0r000000000000000000000000000000") } ∷ at_xw ∷ at_a ∷ []) acxw ≡ false
next_before = refl

-- it is that of c.x.w, which is there then
next_is_name : proves_name_error apex hash (record at_apex { next = digest (codes "0va5bpr2ou0vk0lbqeeljri88laipsfh") } ∷ at_xw ∷ at_a ∷ []) acxw ≡ false
next_is_name = refl

-- ---- the last record of the zone covers the digests after its owner and those before its next one, and none between the two

after_last : is_covered apex hash (at_xx ∷ []) last ≡ true
after_last = refl

before_first : is_covered apex hash (at_xx ∷ []) first ≡ true
before_first = refl

between : is_covered apex hash (at_xx ∷ []) c ≡ false
between = refl

-- one whose next digest is another one before its owner covers more, and not what stands between these two
other_first : is_covered apex hash (record at_xx { next = digest (codes "35mthgpgcu1qg68fab165klnsnk3dpvl") } ∷ []) c ≡ false
other_first = refl

-- ---- a record that matches the name, beside others that would deny it: it is there

abbrev denying_xw : List Nsec3Record
denying_xw = at_w ∷ record at_a { next = digest (codes "gjeqe526plbf1g8mklp59enfd789njgi") } ∷ record at_ns2 { next = digest (codes "t644ebqk9bibcna874givr6joj62mlhv") } ∷ []

unmatched : proves_name_error apex hash denying_xw xw ≡ true
unmatched = refl

matched : proves_name_error apex hash (at_xw ∷ denying_xw) xw ≡ false
matched = refl

-- ---- a name that the hash has no digest of is neither matched nor covered

unhashed : proves_name_error apex (λ x. None) (at_apex ∷ at_xw ∷ at_a ∷ []) acxw ≡ false
unhashed = refl
