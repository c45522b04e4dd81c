-- What is in the sections of a response: of each set, where it comes from, and with which TTL it is sent
use Rattle.std.specs.Prelude.{◌≡◌, ℕ, ◌∷◌, ◌≤◌, Bool, true, false, ◌&&◌, not, ◌⊎◌, List, [], min, take, Option, Some, IsTrue, IsFalse}
use Rattle.std.specs.List.{Contains}
use Rattle.zone_proto.specs.declared.rdata.RData.TheVariants as V
use Rattle.zone_proto.specs.declared.rdata.start_of_authority.SOA.{SOA as SoaData}
use Rattle.zone_proto.specs.declared.record.Record.{Record}
use Rattle.zone_proto.specs.declared.response_code.ResponseCode.{ResponseCode}
use Rattle.zone_proto.specs.declared.response_code.ResponseCode.TheVariants as code
use Rattle.zone_proto.specs.Names.{Name, lower, IsAbove, is_at_or_above}
use Rattle.zone_proto.specs.Sets.{RRset}
use Rattle.zone_proto.specs.Types.{A, AAAA, NS, SOA, DS, RRSIG, ANAME, DNAME}
use Rattle.zone_map.specs.Upserts.{is_denial_type}
use Rattle.zone_map.specs.Wildcards.{exists, renamed}
use Rattle.zone_map.specs.Zones.{Sets, set_at, owns, IsZone}
use Rattle.zone_response.specs.declared.response.Part.{Part}
use Rattle.zone_response.specs.declared.response.Part.TheVariants as part
use Rattle.zone_response.specs.Additional.{host_of}
use Rattle.zone_response.specs.Queries.{Zone, Query, HasOwnDenials, Inquiry, inquiry}
use Rattle.zone_response.specs.Dname.{dname_target, in_place_of, synthesized_alias}
use Rattle.zone_response.specs.Responses.{negative_ttl}
use Rattle.zone_response.specs.Sections.{Sections, sent, as_it_is, part_for, is_signed}
use Rattle.zone_response.specs.Wildcards.{source_of_synthesis}
use Rattle.zone_response.specs.Aname.{addresses, stand_in_answer}
use Rattle.zone_response.specs.Steps.{keeps}
use Rattle.zone_response.specs.Descent.{Diversion, cut, diversion}
use Rattle.response_laws.specs.Sayings.{Saying, name_error, no_data, referral, saying}
use Rattle.response_laws.specs.Servers.{Server}

-- ---- AA

abbrev pub is_cut : Option Diversion → Bool
is_cut (Some (cut c)) = true
is_cut _ = false

-- the name that is asked for is another zone's: a zone cut is at it or above it, for DS above it
abbrev pub is_delegated : Zone → Query → Bool
is_delegated z q = is_cut (diversion z.origin z.sets q.name q.record_type)

-- a code that says that the server doesn't answer
abbrev pub is_refusal : ResponseCode → Bool
is_refusal code.Refused = true
is_refusal code.NotImp = true
is_refusal code.ServFail = true
is_refusal _ = false

-- ---- the answer section

-- a set is sent as the query asks for it, with its signatures or without; or where RRSIG is asked for, as its
-- signatures alone
abbrev pub IsAnswerPart : Inquiry → Part → Type 0
IsAnswerPart q p = (p ≡ part_for q.signed) ⊎ ((q.record_type ≡ RRSIG) × (p ≡ part.Signatures))

-- the zone's own set of a name and a type, with its own TTL: all records and signatures have this one (RFC 2181 section 5.2, RFC 4034 section 3)
pub record IsOwnSet (m : Sets) (p : Part) (s : RRset) : Type 0 where
  pub name : Name
  pub record_type : ℕ
  pub stored : RRset
  pub stands : set_at m name record_type ≡ Some stored
  pub sent : s ≡ as_it_is p stored

-- for a name that doesn't exist: the set of the wildcard at its closest encloser, under that name (RFC 4592 section
-- 3.3.1)
pub record IsFoundByItsWildcard (q : Inquiry) (name : Name) (record_type : ℕ) (found : RRset) : Type 0 where
  pub absent : IsFalse (exists q.sets name)
  pub wildcard_name : Name
  pub asked : source_of_synthesis q.sets name ≡ Some wildcard_name
  pub stored : RRset
  pub stands : set_at q.sets wildcard_name record_type ≡ Some stored
  pub made : found ≡ renamed (keeps q.signed q.record_type) wildcard_name name stored

-- a set that is found by a wildcard, with its own TTL
pub record IsWildcardSet (IsByWildcard : Name → ℕ → RRset → Type 0) (p : Part) (s : RRset) : Type 0 where
  pub name : Name
  pub record_type : ℕ
  pub found : RRset
  pub by_wildcard : IsByWildcard name record_type found
  pub sent : s ≡ as_it_is p found

-- the CNAME that a DNAME set of the section makes for a name below its owner, with that set's TTL (RFC 6672 section
-- 3.1): with DNSSEC a validator makes it anew from that set, which is the zone's and is sent signed (section 5.3.1)
pub record IsSynthesizedAlias (q : Inquiry) (answers : List RRset) (s : RRset) : Type 0 where
  pub dname : RRset
  pub among : Contains answers dname
  pub record_type : dname.record_type ≡ DNAME
  pub stands : IsOwnSet q.sets (part_for q.signed) dname
  pub target : Name
  pub call_concludes : dname_target dname ≡ Some target
  pub name : Name
  pub below : IsAbove (lower dname.owner) name
  pub made : s ≡ synthesized_alias dname name (in_place_of dname.owner target name)
  pub ttl : s.ttl ≡ dname.ttl

-- the addresses for which an ANAME set stands in, made for the response, with no greater TTL than that set, and where
-- they have to be proved signed for it by the zone. The ANAME set is the name's own, or one that is found by a wildcard
pub record IsStandInAddresses (q : Inquiry) (IsByWildcard : Name → ℕ → RRset → Type 0) (s : RRset) : Type 0 where
  pub name : Name
  pub aname : RRset
  pub stands : (set_at q.sets name ANAME ≡ Some aname) ⊎ IsByWildcard name ANAME aname
  pub made : RRset
  pub leads : stand_in_answer q name aname ≡ addresses made
  pub signatures : made.signatures ≡ q.sign (record made { signatures = [] })
  pub signed : IsTrue q.is_proved → IsTrue (is_signed made)
  pub sent : s ≡ as_it_is (part_for q.signed) made
  pub ttl : made.ttl ≤ aname.ttl

-- where a set of an answer section comes from
pub data Origin (q : Inquiry) (answers : List RRset) (IsByWildcard : Name → ℕ → RRset → Type 0) (s : RRset) : Type 0 where
  own : (p : Part) → IsAnswerPart q p → IsOwnSet q.sets p s → Origin q answers IsByWildcard s
  of_wildcard : (p : Part) → IsAnswerPart q p → IsWildcardSet IsByWildcard p s → Origin q answers IsByWildcard s
  of_dname : IsSynthesizedAlias q answers s → Origin q answers IsByWildcard s
  of_aname : IsStandInAddresses q IsByWildcard s → Origin q answers IsByWildcard s

-- ---- the authority section

-- there is no such name, or it has no data of the type
abbrev pub IsNegative : Option Saying → Type 0
IsNegative (Some (name_error x)) = Unit {0}
IsNegative (Some (no_data x)) = Unit {0}
IsNegative _ = ⊥

-- something is to be proved: a negative response; that a child has no DS; or that a wildcard may answer for a name
-- which doesn't exist
abbrev pub HasToProve : Zone → Query → Sections → Type 0
HasToProve z q r =
    IsNegative (saying q r) ⊎ ((c : Name) × (saying q r ≡ Some (referral c)) × IsFalse (owns z.sets c DS)) ⊎ ((s : RRset) × Contains r.answers s × IsFalse (exists z.sets s.owner))

-- where a set of an authority section comes from. Sets of denial are there with DNSSEC alone
pub data AuthorityOrigin (z : Zone) (q : Query) (r : Sections) (s : RRset) : Type 0 where
  -- the SOA of a negative response, with the lesser of its own TTL and its MINIMUM (RFC 2308 sections 3 and 5)
  start : (soa : RRset) → IsNegative (saying q r) → set_at z.sets z.origin SOA ≡ Some soa → s ≡ sent (part_for q.signed) (negative_ttl soa) soa → AuthorityOrigin z q r s
  -- the servers of a child to which it refers, which aren't signed here (RFC 4035 section 2.2)
  servers : (c : Name) (stored : RRset) → saying q r ≡ Some (referral c) → set_at z.sets c NS ≡ Some stored → s ≡ as_it_is part.Records stored → AuthorityOrigin z q r s
  -- the digests of the child's keys (RFC 4035 section 3.1.4)
  digests : (c : Name) (stored : RRset) → IsTrue q.signed → saying q r ≡ Some (referral c) → set_at z.sets c DS ≡ Some stored → s ≡ as_it_is part.Signed stored → AuthorityOrigin z q r s
  -- a set of NSEC or NSEC3, with no greater TTL than a negative response (RFC 9077 section 3)
  denial : (soa : RRset) (n : Name) (t : ℕ) (stored : RRset) → IsTrue q.signed → HasToProve z q r → set_at z.sets z.origin SOA ≡ Some soa → IsTrue (is_denial_type t) → set_at z.sets n t ≡ Some stored
      → s ≡ sent part.Signed (min stored.ttl (negative_ttl soa)) stored → AuthorityOrigin z q r s

-- the TTL of a negative response is the lesser of that of the zone's SOA set and of the MINIMUM of its record (RFC 2308 sections 3 and 5)
abbrev pub NegativeTtlIsLesser : Type 0
NegativeTtlIsLesser = (soa : RRset) (r : Record) (rs : List Record) (a : SoaData) → soa.records ≡ r ∷ rs → r.rdata ≡ V.SOA a → negative_ttl soa ≡ min soa.ttl a.minimum

-- ---- glue

-- a server of a child that is in it: one of the first 64 records of the child's NS set names this host, and it is at or
-- below the child
pub record IsServerBelow (m : Sets) (c h : Name) : Type 0 where
  pub servers : RRset
  pub stands : set_at m c NS ≡ Some servers
  pub record' : Record
  pub among : Contains (take 64 servers.records) record'
  pub names : host_of record'.rdata ≡ Some h
  pub below : IsTrue (is_at_or_above c h)

-- an address set of such a server, which has no signature here (RFC 4035 section 2.2)
pub record IsGlueOf (m : Sets) (c : Name) (s : RRset) : Type 0 where
  pub host : Name
  pub server : IsServerBelow m c host
  pub record_type : ℕ
  pub is_address : (record_type ≡ A) ⊎ (record_type ≡ AAAA)
  pub stored : RRset
  pub stands : set_at m host record_type ≡ Some stored
  pub sent : s ≡ as_it_is part.Records stored

-- the glue of a referral is all of these (RFC 9471 section 3.1), and nothing else is glue
pub record HasGlue (z : Zone) (q : Query) (r : Sections) : Type 0 where
  pub all : (c : Name) → saying q r ≡ Some (referral c) → (s : RRset) → IsGlueOf z.sets c s → Contains r.glue s
  pub only : (s : RRset) → Contains r.glue s → (c : Name) × (saying q r ≡ Some (referral c)) × IsGlueOf z.sets c s

-- ---- the additional section

-- a set of the zone that merely helps, with its own TTL: signed as the query asks for it, but for what is below a zone
-- cut (RFC 4035 section 2.2)
pub record IsHelpful (q : Inquiry) (s : RRset) : Type 0 where
  pub name : Name
  pub record_type : ℕ
  pub stored : RRset
  pub stands : set_at q.sets name record_type ≡ Some stored
  pub part' : Part
  pub goes_out : (part' ≡ part_for q.signed) ⊎ (part' ≡ part.Records)
  pub sent : s ≡ as_it_is part' stored

-- ---- all of it

pub record HasContents (z : Zone) (q : Query) (r : Sections) : Type 0 where
  -- AA is set but in a refusal, a failure and where the name that is asked for is another zone's: what aliases lead to doesn't matter (RFC 1035 section 4.1.1)
  pub authoritative : r.authoritative ≡ not (is_refusal r.code) && not (is_delegated z q)
  pub answers : (s : RRset) → Contains r.answers s → Origin (inquiry z q) r.answers (IsFoundByItsWildcard (inquiry z q)) s
  pub authorities : (s : RRset) → Contains r.authorities s → AuthorityOrigin z q r s
  -- a negative response has the SOA (RFC 2308 section 3)
  pub start : IsNegative (saying q r) → (soa : RRset) → set_at z.sets z.origin SOA ≡ Some soa → Contains r.authorities (sent (part_for q.signed) (negative_ttl soa) soa)
  pub glue : HasGlue z q r
  pub additionals : (s : RRset) → Contains r.additionals s → IsHelpful (inquiry z q) s

-- so it is of each response of each zone, signed or not
abbrev pub ResponseHasContents : Server → Type 0
ResponseHasContents server = (z : Zone) (q : Query) (r : Sections) → IsZone z.sets → HasOwnDenials z → server z q r → HasContents z q r
