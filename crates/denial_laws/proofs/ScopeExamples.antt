-- The smallest zones that show what the premises of the laws are for, computed from the definitions. Each has besides an SOA at its origin no more than is shown
use Rattle.std.proofs.Common.{◌≡◌, true, false, [], ◌∷◌, refl}
use Rattle.std.specs.Prelude.{codes, Some, None, pos, is_some}
use Rattle.zone_proto.specs.declared.rr_key.RrKey.{RrKey}
use Rattle.zone_proto.specs.declared.rdata.RData.TheVariants as V
use Rattle.zone_proto.specs.Names.{Name, wildcard_under}
use Rattle.zone_proto.specs.Sets.{RRset}
use Rattle.zone_proto.specs.Types.{A, NS, SOA, TXT, DS, RRSIG, NSEC3, ANY, ANAME, DNAME}
use Rattle.zone_map.specs.AnyTypes.{searched_type}
use Rattle.zone_map.specs.Wildcards.{found, asked_wildcard}
use Rattle.zone_map.specs.Zones.{Sets, put}
use Rattle.zone_denial.specs.Nsec3Circle.{nsec3_data}
use Rattle.zone_denial.proofs.Examples.NsecExamples.{origin, at_origin, entry, address, start, linked}
use Rattle.zone_denial.proofs.Examples.Nsec3Examples.{parameters, b}
use Rattle.zone_lookup.specs.Replies.{name_exists, nx_domain, negative_answer}
use Rattle.denial_validation.specs.NsecProofs.{proves_name_error, proves_no_data, proves_empty_answer, proves_wildcard_answer}
use Rattle.denial_laws.specs.Scope.{denial_records}

abbrev below_b : Name
below_b = codes "x" ∷ b

abbrev wildcard_name : Name
wildcard_name = wildcard_under origin

abbrev text : Name → RrKey × RRset
text n = entry n TXT (V.Other (record { record_type = record { 0 = TXT }; octets = 1 ∷ []; other = refl }))

abbrev start_at : Name → RrKey × RRset
start_at n = entry n SOA (V.SOA (record { mname = n; rname = n; serial = 7; refresh = pos 7200; retry = pos 600; expire = pos 86400; minimum = 300 }))

-- ---- a name that isn't there, and no wildcard: both agree

abbrev bare : Sets
bare = linked (start ∷ [])

bare_denied : negative_answer origin bare b ≡ nx_domain
bare_denied = refl

bare_proved : proves_name_error origin (denial_records origin bare b) b ≡ true
bare_proved = refl

-- ---- a zone without NSEC sets: no record tells of the name

unsigned_denied : negative_answer origin (start ∷ []) b ≡ nx_domain
unsigned_denied = refl

unsigned_refused : proves_name_error origin (denial_records origin (start ∷ []) b) b ≡ false
unsigned_refused = refl

-- and one that has a further name since its NSEC sets were made: the record of the origin still denies it

abbrev late : Sets
late = put bare b A (address b).1

late_found : found late true b TXT ≡ None
late_found = refl

late_exists : negative_answer origin late b ≡ name_exists
late_exists = refl

late_error : proves_name_error origin (denial_records origin late b) b ≡ true
late_error = refl

-- ---- a name outside the zone that owns a set: no record of the zone tells of it

abbrev outside : Name
outside = codes "other" ∷ []

abbrev stray : Sets
stray = linked (start ∷ address outside ∷ [])

stray_found : found stray true outside TXT ≡ None
stray_found = refl

stray_exists : negative_answer origin stray outside ≡ name_exists
stray_exists = refl

stray_refused : proves_empty_answer origin (denial_records origin stray outside) outside TXT ≡ false
stray_refused = refl

-- ---- a name that begins with `*`: a lookup asks no wildcard for *.b, but a wildcard there is, and answers for it too
-- (RFC 4592 section 3.3.1)

abbrev asterisk : Sets
asterisk = linked (start ∷ address wildcard_name ∷ [])

starred_denied : negative_answer origin asterisk (wildcard_under b) ≡ nx_domain
starred_denied = refl

starred_refused : proves_name_error origin (denial_records origin asterisk (wildcard_under b)) (wildcard_under b) ≡ false
starred_refused = refl

-- ---- below a DNAME, whose record may not tell of the names below it

abbrev renamed : Sets
renamed = linked (start ∷ entry b DNAME (V.Other (record { record_type = record { 0 = DNAME }; octets = 1 ∷ []; other = refl })) ∷ [])

renamed_denied : negative_answer origin renamed below_b ≡ nx_domain
renamed_denied = refl

renamed_refused : proves_name_error origin (denial_records origin renamed below_b) below_b ≡ false
renamed_refused = refl

-- ---- RRSIG: there are signatures, in the sets that they sign, and a lookup finds no set of them

signatures_denied : found bare true origin RRSIG ≡ None
signatures_denied = refl

signatures_refused : proves_empty_answer origin (denial_records origin bare origin) origin RRSIG ≡ false
signatures_refused = refl

-- ---- ANY where a wildcard with text alone answers: A is searched, and not found

abbrev texts : Sets
texts = linked (start ∷ text wildcard_name ∷ [])

any_denied : found texts true b (searched_type texts b ANY) ≡ None
any_denied = refl

any_exists : negative_answer origin texts b ≡ name_exists
any_exists = refl

any_refused : proves_empty_answer origin (denial_records origin texts b) b ANY ≡ false
any_refused = refl

-- ---- DS of the origin, which is the parent's to deny

child_denied : found bare true origin DS ≡ None
child_denied = refl

child_refused : proves_empty_answer origin (denial_records origin bare origin) origin DS ≡ false
child_refused = refl

-- ---- below an inner apex: a lookup finds the name, and the circle has no such name, so that even a name error is proved

abbrev inner : Sets
inner = linked (start ∷ entry b NS (V.NS origin) ∷ start_at b ∷ address below_b ∷ [])

inner_denied : found inner true below_b TXT ≡ None
inner_denied = refl

inner_exists : negative_answer origin inner below_b ≡ name_exists
inner_exists = refl

inner_refused : proves_empty_answer origin (denial_records origin inner below_b) below_b TXT ≡ false
inner_refused = refl

inner_error : proves_name_error origin (denial_records origin inner below_b) below_b ≡ true
inner_error = refl

-- and below one that is below a cut: the record of the cut may not tell of it

abbrev deeper : Sets
deeper = linked (start ∷ entry b NS (V.NS origin) ∷ entry below_b NS (V.NS origin) ∷ start_at below_b ∷ [])

deeper_found : found deeper true (codes "y" ∷ below_b) A ≡ None
deeper_found = refl

deeper_denied : negative_answer origin deeper (codes "y" ∷ below_b) ≡ nx_domain
deeper_denied = refl

deeper_refused : proves_name_error origin (denial_records origin deeper (codes "y" ∷ below_b)) (codes "y" ∷ below_b) ≡ false
deeper_refused = refl

-- ---- a name that owns nothing but NSEC3 is on the circle, and doesn't exist for a search: here the wildcard of the
-- circle's encloser

abbrev foreign : Name → RrKey × RRset
foreign n = entry n NSEC3 (V.NSEC3 (nsec3_data parameters [] []))

abbrev foreign_wildcard : Sets
foreign_wildcard = linked (start ∷ foreign (wildcard_under b) ∷ [])

foreign_denied : negative_answer origin foreign_wildcard below_b ≡ nx_domain
foreign_denied = refl

foreign_refused : proves_name_error origin (denial_records origin foreign_wildcard below_b) below_b ≡ false
foreign_refused = refl

-- and here the encloser itself: the wildcard that answers isn't the one that the records show

abbrev foreign_encloser : Sets
foreign_encloser = linked (start ∷ address wildcard_name ∷ foreign b ∷ [])

foreign_asked : asked_wildcard foreign_encloser below_b ≡ Some wildcard_name
foreign_asked = refl

foreign_unproved : proves_wildcard_answer origin (denial_records origin foreign_encloser below_b) below_b origin ≡ false
foreign_unproved = refl

-- ---- an ANAME set answers for A, and its name's record says that there is no A: this is no name error, and the laws are silent

abbrev flattened : Sets
flattened = linked (start ∷ entry b ANAME (V.ANAME (at_origin (codes "c"))) ∷ address (at_origin (codes "c")) ∷ [])

flattened_found : is_some (found flattened true b A) ≡ true
flattened_found = refl

flattened_denied : proves_no_data origin (denial_records origin flattened b) b A ≡ true
flattened_denied = refl
