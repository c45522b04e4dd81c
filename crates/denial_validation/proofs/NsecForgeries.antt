-- What NSEC records don't prove: those of the zone of RFC 4035 appendix A where they aren't in place, and some that are turned a little; computed from the definitions
use Rattle.std.proofs.Common.{◌≡◌, true, false, [], ◌∷◌, refl}
use Rattle.std.specs.Prelude.{codes, Some, None}
use Rattle.zone_proto.specs.Names.{Name, wildcard_under}
use Rattle.zone_proto.specs.Types.{A, NS, CNAME, SOA, MX, AAAA, DS, RRSIG, NSEC, ANY, DNAME}
use Rattle.denial_validation.specs.declared.proof.Proof.TheVariants.{NameError, EmptyNonTerminal, WildcardAnswer}
use Rattle.denial_validation.specs.Judgement.{nsec_proof}
use Rattle.denial_validation.specs.NsecProofs.{denies_name, proves_name_error, proves_no_data, proves_wildcard_no_data, proves_wildcard_answer, proves_unsigned_delegation}
use Rattle.denial_validation.specs.NsecRecords.{NsecRecord}
use Rattle.denial_validation.proofs.NsecExamples.{apex, under, b, ml, ns1, w, azw, says, at_apex, at_a, at_b, at_ns1, at_ns2, at_wildcard, at_xyw, at_xx}

-- ---- the parent's record at a zone cut, used below the cut and for types that the child has (RFC 6840 section 4.1)

abbrev mcb : Name
mcb = codes "mc" ∷ b

below_cut : nsec_proof apex (at_b ∷ at_apex ∷ []) mcb A ≡ None
below_cut = refl

below_signed_cut : nsec_proof apex (at_a ∷ at_apex ∷ []) (codes "x" ∷ under (codes "a")) A ≡ None
below_signed_cut = refl

at_cut : proves_no_data apex (at_b ∷ []) b A ≡ false
at_cut = refl

at_signed_cut : nsec_proof apex (at_a ∷ []) (under (codes "a")) A ≡ None
at_signed_cut = refl

-- with A in place of NS it is the record of a host, and denies what is below
below_host : nsec_proof apex (says b ns1 (A ∷ RRSIG ∷ NSEC ∷ []) ∷ []) mcb A ≡ Some (NameError false)
below_host = refl

-- the child's own record, with the child as the signer, denies what is below too
below_child : nsec_proof b (says b (codes "ns1" ∷ b) (NS ∷ SOA ∷ RRSIG ∷ NSEC ∷ []) ∷ []) mcb A ≡ Some (NameError false)
below_child = refl

-- ---- the record of a DNAME, used below it (RFC 6840 section 4.1)

below_dname : nsec_proof apex (says b ns1 (DNAME ∷ RRSIG ∷ NSEC ∷ []) ∷ at_apex ∷ []) mcb A ≡ None
below_dname = refl

-- ---- an alias, which would answer for the type (RFC 6840 section 4.3), at the name and at the wildcard

alias : nsec_proof apex (says ns1 (under (codes "ns2")) (CNAME ∷ RRSIG ∷ NSEC ∷ []) ∷ []) ns1 MX ≡ None
alias = refl

alias_wildcard : proves_wildcard_no_data apex (at_xyw ∷ says (wildcard_under w) (codes "x" ∷ w) (CNAME ∷ RRSIG ∷ NSEC ∷ []) ∷ []) azw AAAA ≡ false
alias_wildcard = refl

-- ---- a type that is there, one that each signed name has (RFC 4035 section 5.4), and any type

listed : nsec_proof apex (at_ns1 ∷ []) ns1 A ≡ None
listed = refl

listed_wildcard : nsec_proof apex (at_xyw ∷ at_wildcard ∷ []) azw MX ≡ Some (WildcardAnswer 2 false)
listed_wildcard = refl

unlisted_signature : nsec_proof apex (says ns1 (under (codes "ns2")) (A ∷ []) ∷ []) ns1 RRSIG ≡ None
unlisted_signature = refl

any_type : nsec_proof apex (at_ns1 ∷ []) ns1 ANY ≡ None
any_type = refl

-- the record of another name
other_owner : nsec_proof apex (at_ns2 ∷ []) ns1 MX ≡ None
other_owner = refl

-- ---- the wildcard at the parent of the name, or under the apex, in place of the one under its closest encloser w,
-- which is there

parents_wildcard_is_denied : denies_name apex at_xyw (wildcard_under (codes "z" ∷ w)) ≡ true
parents_wildcard_is_denied = refl

parents_wildcard : proves_name_error apex (at_xyw ∷ []) azw ≡ false
parents_wildcard = refl

apex_wildcard_is_denied : denies_name apex at_apex (wildcard_under apex) ≡ true
apex_wildcard_is_denied = refl

apex_wildcard : proves_name_error apex (at_xyw ∷ at_apex ∷ []) azw ≡ false
apex_wildcard = refl

-- an answer that is said to be made from the wildcard at the apex
other_encloser : proves_wildcard_answer apex (at_xyw ∷ at_apex ∷ []) azw apex ≡ false
other_encloser = refl

-- ---- a moved next name

-- it comes before the name
next_before : nsec_proof apex (says b (under (codes "mk")) (NS ∷ RRSIG ∷ NSEC ∷ []) ∷ at_apex ∷ []) ml A ≡ None
next_before = refl

-- it is the name
next_is_name : nsec_proof apex (says b ml (NS ∷ RRSIG ∷ NSEC ∷ []) ∷ at_apex ∷ []) ml A ≡ None
next_is_name = refl

-- it is below the name, which is there then
next_below : nsec_proof apex (says b (codes "x" ∷ ml) (NS ∷ RRSIG ∷ NSEC ∷ []) ∷ at_apex ∷ []) ml A ≡ Some EmptyNonTerminal
next_below = refl

-- ---- the last record of the zone

-- a name before its owner
before_last : nsec_proof apex (at_xx ∷ at_apex ∷ []) ml A ≡ None
before_last = refl

-- a name of another zone
other_zone : nsec_proof apex (at_xx ∷ at_apex ∷ []) (codes "zz" ∷ codes "org" ∷ []) A ≡ None
other_zone = refl

-- the apex
last_at_apex : nsec_proof apex (at_xx ∷ []) apex A ≡ None
last_at_apex = refl

-- one whose next name is another one before its owner
other_first : nsec_proof apex (says (under (codes "xx")) (under (codes "a")) (A ∷ RRSIG ∷ NSEC ∷ []) ∷ at_apex ∷ []) (under (codes "zz")) A ≡ None
other_first = refl

-- ---- one record alone

-- that of the wildcard
wildcard_alone : nsec_proof apex (at_apex ∷ []) ml A ≡ None
wildcard_alone = refl

-- that of the name: a wildcard may answer
name_alone : nsec_proof apex (at_b ∷ []) ml A ≡ Some (WildcardAnswer 1 false)
name_alone = refl

-- that of the wildcard, which shows no more than the wildcard's types
types_alone : nsec_proof apex (at_wildcard ∷ []) azw AAAA ≡ None
types_alone = refl

nothing : nsec_proof apex [] ml A ≡ None
nothing = refl

-- ---- DS

-- the child's record, which SOA tells: no word of the parent's DS (RFC 4035 section 5.2)
child_ds : nsec_proof apex (says b ns1 (NS ∷ SOA ∷ RRSIG ∷ NSEC ∷ []) ∷ []) b DS ≡ None
child_ds = refl

-- a delegation that has one
signed_delegation : nsec_proof apex (at_a ∷ []) (under (codes "a")) DS ≡ None
signed_delegation = refl

-- a name that is no delegation (RFC 6840 section 4.4)
no_delegation : proves_unsigned_delegation apex (at_ns1 ∷ []) ns1 ≡ false
no_delegation = refl

-- ---- records that are said to be of another zone than the one that signed them

other_apex : nsec_proof (codes "org" ∷ []) (at_b ∷ at_apex ∷ []) ml A ≡ None
other_apex = refl

-- ---- records of other zones. Each is genuine, and its own zone may have it signed by a key that a validator trusts

-- one whose owner comes before the zone and whose next name is the apex would deny all names of the zone
foreign : nsec_proof (codes "victim" ∷ []) (says (codes "a" ∷ codes "aaa" ∷ []) (codes "victim" ∷ []) (A ∷ RRSIG ∷ NSEC ∷ []) ∷ []) (codes "www" ∷ codes "victim" ∷ []) A ≡ None
foreign = refl

-- the parent's, which passes over the whole zone
parents : nsec_proof b (says (under (codes "a")) ns1 (A ∷ RRSIG ∷ NSEC ∷ []) ∷ []) mcb A ≡ None
parents = refl

-- and that of the zone's own apex, from the parent: it has no say on what the zone has
parents_at_apex : nsec_proof b (at_b ∷ []) b A ≡ None
parents_at_apex = refl

-- ---- an apex with NS and no SOA: the record is the parent's, whoever is said to have signed it (RFC 6840 section 4.1)

abbrev without_soa : NsecRecord
without_soa = says apex (under (codes "a")) (NS ∷ RRSIG ∷ NSEC ∷ [])

below_without_soa : nsec_proof apex (without_soa ∷ at_b ∷ []) (under (codes "0")) A ≡ None
below_without_soa = refl

-- nor is the apex a delegation of its own zone, or its DS denied by it (RFC 4035 section 5.2)
apex_delegation : proves_unsigned_delegation apex (without_soa ∷ []) apex ≡ false
apex_delegation = refl

apex_ds : nsec_proof apex (without_soa ∷ []) apex DS ≡ None
apex_ds = refl
