-- The denials of RFC 4035 appendix B, with the NSEC records of the zone of its appendix A: what they prove, computed from the definitions
use Rattle.std.proofs.Common.{◌≡◌, ℕ, true, false, List, [], ◌∷◌, map, refl}
use Rattle.std.specs.Prelude.{codes, Some, None}
use Rattle.zone_proto.specs.declared.rdata.RData.{RData}
use Rattle.zone_proto.specs.declared.rdata.RData.TheVariants as V
use Rattle.zone_proto.specs.declared.record.Record.{Record}
use Rattle.zone_proto.specs.Names.{Label, Name, wildcard_under}
use Rattle.zone_proto.specs.Types.{A, NS, SOA, MX, AAAA, DS, RRSIG, NSEC, DNSKEY, IN}
use Rattle.denial_validation.specs.declared.proof.Proof.TheVariants.{NameError, UnsignedDelegation, EmptyNonTerminal, NoData, WildcardNoData, WildcardAnswer}
use Rattle.denial_validation.specs.Judgement.{nsec_proof}
use Rattle.denial_validation.specs.NsecProofs.{proves_no_data}
use Rattle.denial_validation.specs.NsecRecords.{NsecRecord, nsec_records}

-- ---- names of the zone example

abbrev pub apex : Name
apex = codes "example" ∷ []

abbrev pub under : Label → Name
under label = label ∷ apex

abbrev pub b : Name
b = under (codes "b")

abbrev pub ml : Name
ml = under (codes "ml")

abbrev pub ns1 : Name
ns1 = under (codes "ns1")

abbrev pub w : Name
w = under (codes "w")

abbrev pub azw : Name
azw = codes "a" ∷ codes "z" ∷ w

-- ---- its NSEC records, as a validator reads them

abbrev pub says : Name → Name → List ℕ → NsecRecord
says owner next types = record { owner = owner; next = next; types = types }

abbrev pub at_apex : NsecRecord
at_apex = says apex (under (codes "a")) (NS ∷ SOA ∷ MX ∷ RRSIG ∷ NSEC ∷ DNSKEY ∷ [])

abbrev pub at_a : NsecRecord
at_a = says (under (codes "a")) (under (codes "ai")) (NS ∷ DS ∷ RRSIG ∷ NSEC ∷ [])

abbrev pub at_b : NsecRecord
at_b = says b ns1 (NS ∷ RRSIG ∷ NSEC ∷ [])

abbrev pub at_ns1 : NsecRecord
at_ns1 = says ns1 (under (codes "ns2")) (A ∷ RRSIG ∷ NSEC ∷ [])

abbrev pub at_ns2 : NsecRecord
at_ns2 = says (under (codes "ns2")) (wildcard_under w) (A ∷ RRSIG ∷ NSEC ∷ [])

abbrev pub at_wildcard : NsecRecord
at_wildcard = says (wildcard_under w) (codes "x" ∷ w) (MX ∷ RRSIG ∷ NSEC ∷ [])

abbrev pub at_xw : NsecRecord
at_xw = says (codes "x" ∷ w) (codes "x" ∷ codes "y" ∷ w) (MX ∷ RRSIG ∷ NSEC ∷ [])

abbrev pub at_xyw : NsecRecord
at_xyw = says (codes "x" ∷ codes "y" ∷ w) (under (codes "xx")) (MX ∷ RRSIG ∷ NSEC ∷ [])

-- HINFO is type 13
abbrev pub at_xx : NsecRecord
at_xx = says (under (codes "xx")) apex (A ∷ 13 ∷ AAAA ∷ RRSIG ∷ NSEC ∷ [])

-- they are read in lower case, and records of other types are passed over

abbrev answer : RData → Record
answer rdata = record { name = codes "B" ∷ codes "Example" ∷ []; dns_class = record { 0 = IN }; ttl = 3600; rdata = rdata }

abbrev listed : NsecRecord → RData
listed r = V.NSEC (record { next_domain_name = codes "NS1" ∷ codes "eXample" ∷ []; types = map (λ t. record { 0 = t }) r.types })

read : nsec_records (answer (V.A (192 ∷ 0 ∷ 2 ∷ 7 ∷ [])) ∷ answer (listed at_b) ∷ []) ≡ at_b ∷ []
read = refl

-- ---- the appendix

-- B.2, a name error: one record denies the name, the other the wildcard at the apex
name_error : nsec_proof apex (at_b ∷ at_apex ∷ []) ml A ≡ Some (NameError false)
name_error = refl

-- in any order
name_error_turned : nsec_proof apex (at_apex ∷ at_b ∷ []) ml A ≡ Some (NameError false)
name_error_turned = refl

-- B.3, no data
no_data : nsec_proof apex (at_ns1 ∷ []) ns1 MX ≡ Some NoData
no_data = refl

-- B.5, a referral to an unsigned zone: b is a delegation, and has no DS
unsigned_delegation : nsec_proof apex (at_b ∷ []) b DS ≡ Some UnsignedDelegation
unsigned_delegation = refl

no_ds : proves_no_data apex (at_b ∷ []) b DS ≡ true
no_ds = refl

-- B.6, an answer that a wildcard gave: the signature's labels field is 2
wildcard_answer : nsec_proof apex (at_xyw ∷ []) azw MX ≡ Some (WildcardAnswer 2 false)
wildcard_answer = refl

-- B.7, no data by a wildcard
wildcard_no_data : nsec_proof apex (at_xyw ∷ at_wildcard ∷ []) azw AAAA ≡ Some (WildcardNoData false)
wildcard_no_data = refl

-- B.8, DS at the apex: the zone's own record has no say on it, and the parent is to be asked
apex_ds : nsec_proof apex (at_apex ∷ []) apex DS ≡ None
apex_ds = refl

-- ---- and of the same zone

-- no data at the apex
apex_no_data : nsec_proof apex (at_apex ∷ []) apex AAAA ≡ Some NoData
apex_no_data = refl

-- no DS at a host
host_no_ds : nsec_proof apex (at_ns1 ∷ []) ns1 DS ≡ Some NoData
host_no_ds = refl

-- names that own nothing, and are above *.w and x.y.w
empty : nsec_proof apex (at_ns2 ∷ []) w A ≡ Some EmptyNonTerminal
empty = refl

empty_below : nsec_proof apex (at_xw ∷ []) (codes "y" ∷ w) A ≡ Some EmptyNonTerminal
empty_below = refl

-- a name below a host: the record of the host denies it, and the wildcard at the host
below_host : nsec_proof apex (at_ns1 ∷ []) (codes "a" ∷ ns1) A ≡ Some (NameError false)
below_host = refl

-- a name after the last owner, whose record has the apex as its next name
after_last : nsec_proof apex (at_xx ∷ at_apex ∷ []) (under (codes "zz")) A ≡ Some (NameError false)
after_last = refl

-- ---- other zones

-- of one that has sets at its apex alone, the one record denies every other name
alone : nsec_proof apex (says apex apex (SOA ∷ RRSIG ∷ NSEC ∷ []) ∷ []) ml A ≡ Some (NameError false)
alone = refl

-- of one with a wildcard that owns nothing and is above x.*, one record denies the name, the other shows that the
-- wildcard is empty
empty_wildcard : nsec_proof apex (says (codes "x" ∷ wildcard_under apex) apex (A ∷ RRSIG ∷ NSEC ∷ []) ∷ says apex (codes "x" ∷ wildcard_under apex) (SOA ∷ RRSIG ∷ NSEC ∷ []) ∷ []) ml A ≡ Some (WildcardNoData false)
empty_wildcard = refl

-- the root's own record denies DS of the root, which has no parent
root_ds : nsec_proof [] (says [] (codes "com" ∷ []) (NS ∷ SOA ∷ RRSIG ∷ NSEC ∷ DNSKEY ∷ []) ∷ []) [] DS ≡ Some NoData
root_ds = refl
