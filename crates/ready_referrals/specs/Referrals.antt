-- Names at and below the cuts of a zone, and what is kept of the zone to refer them
use Rattle.std.specs.Prelude.{◌≡◌, ℕ, ◌==◌, Bool, true, false, List, [], ◌∷◌, map, take, Some, None}
use Rattle.std.specs.List.{AllByRecursion}
use Rattle.std.specs.Option.{option_map_or}
use Rattle.zone_proto.specs.declared.response_code.ResponseCode.TheVariants as code
use Rattle.zone_proto.specs.Names.{Name, is_at_or_above}
use Rattle.zone_proto.specs.Sets.{RRset}
use Rattle.zone_proto.specs.Types.{IN, SOA, NS, DS}
use Rattle.zone_map.specs.Zones.{set_at}
use Rattle.message_reading.specs.declared.query.Query.{Query as ReadQuery}
use Rattle.message_writing.specs.KeptText.{AreKept}
use Rattle.message_writing.specs.declared.kept_records.KeptRecords.{KeptRecords}
use Rattle.message_writing.specs.declared.response.Group.{Group}
use Rattle.message_writing.specs.Responses.{records_of}
use Rattle.zone_response.specs.Additional.{glue, sibling_glue}
use Rattle.zone_response.specs.Descent.{cut, diversion}
use Rattle.zone_response.specs.Queries.{Zone, Query}
use Rattle.zone_response.specs.QueryTypes.{is_no_data}
use Rattle.zone_response.specs.Responses.{authority_sets, lacks_proofs, IsResponse}
use Rattle.zone_response.specs.Sections.{Sections}
use Rattle.zone_response.specs.Steps.{referred}
use Rattle.zone_server.specs.Answers.{asked_of, records_sent, IsSent}
use Rattle.ready_referrals.specs.declared.additional.Additional.{Additional}
use Rattle.ready_referrals.specs.declared.keeping.ReadyReferral.{ReadyReferral}
use Rattle.ready_referrals.specs.declared.kept_cuts.ReadyReferrals.{ReadyReferrals}

-- ---- the laws

-- a search for a name of a zone, for a type other than DS, turns at a zone cut (RFC 1034 section 4.3.2 step 3b), of which this is the NS set; and this is the zone's SOA set
pub record IsBelowCut (z : Zone) (soa ns : RRset) (x : Name) : Type 0 where
  pub inside : is_at_or_above z.origin x ≡ true
  pub soa_is : set_at z.sets z.origin SOA ≡ Some soa
  pub turns : diversion z.origin z.sets x NS ≡ Some (cut ns)

-- the referral: the NS set, with DNSSEC the DS set or what proves that there is none, and the addresses of the servers
abbrev pub referral : Zone → RRset → Bool → RRset → Sections
referral z soa signed ns = record {
  code = code.NoError;
  authoritative = false;
  answers = [];
  authorities = authority_sets z signed soa [] (referred ns);
  additionals = sibling_glue z.origin z.sets signed ns;
  glue = glue z.sets ns;
  left_at = None;
}

-- That is the response to a query for data but DS of each name at or below a name that is below a cut.
abbrev pub NamesBelowACutAreReferredAlike : Type 0
NamesBelowACutAreReferredAlike = (z : Zone) (q : Query) (soa ns : RRset) (x : Name) → IsBelowCut z soa ns x → is_at_or_above x q.name ≡ true → q.class ≡ IN
    → is_no_data q.record_type ≡ false → (q.record_type == DS) ≡ false → lacks_proofs z q.signed [] (referred ns) ≡ false → IsResponse z q (referral z soa q.signed ns)

-- sections are the referral of a name, with DNSSEC
pub record SaysReferral (z : Zone) (x : Name) (s : Sections) : Type 0 where
  pub soa : RRset
  pub ns : RRset
  pub below : IsBelowCut z soa ns x
  pub proven : lacks_proofs z true [] (referred ns) ≡ false
  pub is : s ≡ referral z soa true ns

-- A response to a query for NS, with DNSSEC, is one where it has no error and no answers, and the server is no authority for the name.
abbrev pub UnauthoritativeResponsesAreReferrals : Type 0
UnauthoritativeResponsesAreReferrals = (z : Zone) (x : Name) (s : Sections) → IsResponse z (record { name = x; record_type = NS; class = IN; signed = true }) s
    → s.code ≡ code.NoError → s.authoritative ≡ false → s.answers ≡ [] → SaysReferral z x s

-- ---- what is kept

-- kept records are a set as it is sent, below a name
pub record IsKeptSet (x : Name) (s : RRset) (k : KeptRecords) : Type 0 where
  pub group : Group
  pub is_set : records_of group ≡ records_sent s
  pub kept : AreKept x (records_sent s) k

-- each of them is one of these sets, in order
abbrev pub AreSetsKept : Name → List RRset → List KeptRecords → Type 0
AreSetsKept x [] [] = Unit {0}
AreSetsKept x [] (k ∷ ks) = ⊥
AreSetsKept x (s ∷ ss) [] = ⊥
AreSetsKept x (s ∷ ss) (k ∷ ks) = IsKeptSet x s k × AreSetsKept x ss ks

-- a set without its signatures
abbrev pub unsigned : RRset → RRset
unsigned s = record s { signatures = [] }

-- the authority section that is kept, with DNSSEC and without
abbrev pub authorities_for : Bool → ReadyReferral → List KeptRecords
authorities_for true r = r.authorities.items
authorities_for false r = take 1 r.authorities.items

-- the additional section
abbrev pub additional_for : Bool → Additional → List KeptRecords
additional_for true a = a.signed.items
additional_for false a = option_map_or (λ v. v.items) a.plain a.signed.items

-- an additional section that has these sets with DNSSEC is kept
pub record IsAdditional (x : Name) (ss : List RRset) (a : Additional) : Type 0 where
  pub signed : AreSetsKept x ss (additional_for true a)
  pub plain : AreSetsKept x (map unsigned ss) (additional_for false a)

-- sections are kept below a name
pub record IsKeptReferral (x : Name) (s : Sections) (r : ReadyReferral) : Type 0 where
  pub cut : r.cut ≡ x
  pub authorities : AreSetsKept x s.authorities r.authorities.items
  pub glue : AreSetsKept x s.glue r.glue.items
  pub additional : IsAdditional x s.additionals r.additional

-- what is kept is the referral of its name by this NS set, in a zone with this SOA set
pub record IsReferralBy (z : Zone) (soa ns : RRset) (r : ReadyReferral) : Type 0 where
  pub below : IsBelowCut z soa ns r.cut
  pub proven : lacks_proofs z true [] (referred ns) ≡ false
  pub kept : IsKeptReferral r.cut (referral z soa true ns) r

abbrev pub IsReferral : Zone → ReadyReferral → Type 0
IsReferral z r = (soa : RRset) × (ns : RRset) × IsReferralBy z soa ns r

-- all that is kept are referrals of a zone
abbrev pub AreReferrals : Zone → ReadyReferrals → Type 0
AreReferrals z rs = AllByRecursion (IsReferral z) rs.referrals.items

-- octets are the response of a zone to a query, as it is sent
pub record IsReferred (z : Zone) (limit : ℕ) (q : ReadQuery) (octets : List ℕ) : Type 0 where
  pub said : Sections
  pub says : IsResponse z (asked_of q) said
  pub sent : IsSent limit q said octets
