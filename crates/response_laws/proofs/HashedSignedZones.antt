-- The premises of the law of NSEC3 are met by zones as dnssec-signzone, ldns-signzone and kzonesign write them: the
-- list of an unsigned delegation with glue at its own name is NS alone, or with opt-out it has no NSEC3 set; the flag
-- of NSEC3PARAM isn't set; and another chain is beside
use Rattle.std.proofs.Common.{◌≡◌, ℕ, Bool, true, false, List, [], ◌∷◌, map, refl, sym, ap, subst, true≢false, inl, inr, arith, slice_index}
use Rattle.std.specs.Prelude.{codes, Some, None}
use Rattle.std.specs.List.{Contains}
use Rattle.zone_proto.specs.declared.nx_proof_kind.NxProofKind.TheVariants as kind
use Rattle.zone_proto.specs.declared.rdata.RData.TheVariants as V
use Rattle.zone_proto.specs.declared.rdata.denial.NSEC3PARAM.{NSEC3PARAM as Nsec3Parameters}
use Rattle.zone_proto.specs.declared.rr_key.RrKey.{RrKey}
use Rattle.zone_proto.specs.HashedOwners.{hashed_owner}
use Rattle.zone_proto.specs.Keys.{key}
use Rattle.zone_proto.specs.declared.response_code.ResponseCode.TheVariants as code
use Rattle.zone_proto.specs.Names.{Name, wildcard_under}
use Rattle.zone_proto.specs.Sets.{RRset}
use Rattle.zone_proto.specs.Types.{A, NS, SOA, DS, RRSIG, NSEC3, NSEC3PARAM}
use Rattle.zone_proto.proofs.Members.{In, In-Contains, Contains-In, In-map}
use Rattle.zone_proto.proofs.SetLaws.{IsSet-alone}
use Rattle.zone_proto.proofs.Texts.TextFaults.{name_by_tests}
use Rattle.zone_map.specs.Zones.{Sets, put, set_at, owners, IsStoredAt, IsZone}
use Rattle.zone_map.proofs.Owned.{owner_in}
use Rattle.zone_map.proofs.Stored.{IsZone-none, IsZone-put}
use Rattle.zone_denial.specs.Chains.{IsInNsec3Chain, IsNsec3Chain}
use Rattle.zone_denial.specs.Nsec3Circle.{nsec3_data}
use Rattle.zone_denial.proofs.Examples.NsecExamples.{origin, at_origin, entry, address, start}
use Rattle.zone_denial.proofs.Examples.Nsec3Examples.{digest_in}
use Rattle.denial_validation.specs.declared.proof.Proof.TheVariants.{NameError, UnsignedDelegation}
use Rattle.denial_validation.specs.Nsec3Records.{Nsec3Record, nsec3_records}
use Rattle.zone_response.specs.declared.response.Part.TheVariants as part
use Rattle.zone_response.specs.Paths.{path}
use Rattle.zone_response.specs.Queries.{Zone, Query}
use Rattle.zone_response.specs.Responses.{IsResponse}
use Rattle.zone_response.specs.Sections.{Sections, sent, as_it_is}
use Rattle.response_laws.specs.HashedSayings.{DeniesByNsec3, shown_nsec3, proof_in, ProvesByHashes}
use Rattle.response_laws.proofs.ChainTests.{each_set, each_is, is_listed, right_at_delegation, right_elsewhere, nsec_told, names_between, names_authoritative, names_complete, is_unreferred}
use Rattle.response_laws.proofs.MetPremises.{soa_stored}
use Rattle.response_laws.proofs.SayingExamples.{asked, sections}

abbrev b : Name
b = at_origin (codes "b")

-- a name that isn't there
abbrev a : Name
a = at_origin (codes "a")

abbrev servers : RrKey × RRset
servers = entry b NS (V.NS b)

-- what NSEC3PARAM says, and the records of the chain
abbrev announced : Nsec3Parameters
announced = record { algorithm = 1; opt_out = false; iterations = 0; salt = [] }

abbrev parameters : Bool → Nsec3Parameters
parameters opt_out = record { algorithm = 1; opt_out = opt_out; iterations = 0; salt = [] }

abbrev another : Nsec3Parameters
another = record { algorithm = 1; opt_out = false; iterations = 0; salt = 170 ∷ [] }

abbrev table : List (Name × List ℕ)
table = (origin, 64 ∷ []) ∷ (b, 32 ∷ []) ∷ (a, 48 ∷ []) ∷ (wildcard_under origin, 16 ∷ []) ∷ []

abbrev nsec3 : Nsec3Parameters → List ℕ → List ℕ → List ℕ → RrKey × RRset
nsec3 p digest next types = entry (hashed_owner origin digest) NSEC3 (V.NSEC3 (nsec3_data p next types))

abbrev unsigned_sets : Sets
unsigned_sets = start ∷ entry origin NSEC3PARAM (V.NSEC3PARAM announced) ∷ address b ∷ servers ∷ []

-- ---- sets put one by one

abbrev put_entry : Sets → RrKey × RRset → Sets
put_entry m e = put m e.0.name e.0.record_type.0 e.1

stored_param : IsStoredAt origin NSEC3PARAM (entry origin NSEC3PARAM (V.NSEC3PARAM announced)).1
stored_param = record { named = name_by_tests origin refl refl; owner = refl; record_type = refl; filled = λ e. cc; set = IsSet-alone origin NSEC3PARAM _ refl refl }

stored_address : IsStoredAt b A (address b).1
stored_address = record { named = name_by_tests b refl refl; owner = refl; record_type = refl; filled = λ e. cc; set = IsSet-alone b A _ refl refl }

stored_servers : IsStoredAt b NS servers.1
stored_servers = record { named = name_by_tests b refl refl; owner = refl; record_type = refl; filled = λ e. cc; set = IsSet-alone b NS _ refl refl }

unsigned_zone : IsZone unsigned_sets
unsigned_zone =
    IsZone-put (start ∷ entry origin NSEC3PARAM (V.NSEC3PARAM announced) ∷ address b ∷ []) (key b NS) servers.1
    (IsZone-put (start ∷ entry origin NSEC3PARAM (V.NSEC3PARAM announced) ∷ []) (key b A) (address b).1
    (IsZone-put (start ∷ []) (key origin NSEC3PARAM) (entry origin NSEC3PARAM (V.NSEC3PARAM announced)).1 (IsZone-put [] (key origin SOA) start.1 IsZone-none soa_stored) stored_param) stored_address) stored_servers

same_digest : (d e : List ℕ) → Some d ≡ Some e → d ≡ e
same_digest d e q = cc

-- ---- all names have NSEC3 sets, and another chain is beside

abbrev origin_set : RrKey × RRset
origin_set = nsec3 (parameters false) (64 ∷ []) (32 ∷ []) (SOA ∷ RRSIG ∷ NSEC3PARAM ∷ [])

abbrev child_set : RrKey × RRset
child_set = nsec3 (parameters false) (32 ∷ []) (64 ∷ []) (NS ∷ [])

abbrev other_set : RrKey × RRset
other_set = nsec3 another (96 ∷ []) (96 ∷ []) (SOA ∷ RRSIG ∷ NSEC3PARAM ∷ [])

abbrev signed : Sets
signed = put_entry (put_entry unsigned_sets origin_set) child_set

abbrev both : Sets
both = put_entry signed other_set

abbrev zone : Zone
zone = record { origin = origin; sets = both; denials = signed; nx_proof_kind = Some (kind.Nsec3 1 [] 0 false); digest_of = λ algorithm salt n iterations. digest_in table n; sign = λ signed s. [] }

signed_zone : IsZone signed
signed_zone =
    IsZone-put (put_entry unsigned_sets origin_set) child_set.0 child_set.1
    (IsZone-put unsigned_sets origin_set.0 origin_set.1 unsigned_zone
    (record { named = name_by_tests origin_set.0.name refl refl; owner = refl; record_type = refl; filled = λ e. cc; set = IsSet-alone origin_set.0.name NSEC3 _ refl refl }))
    (record { named = name_by_tests child_set.0.name refl refl; owner = refl; record_type = refl; filled = λ e. cc; set = IsSet-alone child_set.0.name NSEC3 _ refl refl })

both_zone : IsZone both
both_zone =
    IsZone-put signed other_set.0 other_set.1 signed_zone
    (record { named = name_by_tests other_set.0.name refl refl; owner = refl; record_type = refl; filled = λ e. cc; set = IsSet-alone other_set.0.name NSEC3 _ refl refl })

abbrev names : List Name
names = origin ∷ b ∷ []

abbrev HasSet : Name → Type 0
HasSet n = (d : List ℕ) → digest_in table n ≡ Some d → (s : RRset) × (set_at signed (hashed_owner origin d) NSEC3 ≡ Some s) × IsInNsec3Chain origin both signed (digest_in table) (parameters false) names n d s

of_origin : HasSet origin
of_origin d e =
    subst (λ d. (s : RRset) × (set_at signed (hashed_owner origin d) NSEC3 ≡ Some s) × IsInNsec3Chain origin both signed (digest_in table) (parameters false) names origin d s) (same_digest (64 ∷ []) d e) (
      origin_set.1,
      refl,
      record {
        single = refl;
        types = SOA ∷ RRSIG ∷ NSEC3PARAM ∷ [];
        says = refl;
        right = right_elsewhere origin signed origin (SOA ∷ RRSIG ∷ NSEC3PARAM ∷ []) refl refl refl refl;
        nsec = λ _. nsec_told origin signed origin (SOA ∷ RRSIG ∷ NSEC3PARAM ∷ []) both refl refl;
        no_hashed = λ c. true≢false (sym (is_listed (SOA ∷ RRSIG ∷ NSEC3PARAM ∷ []) NSEC3 c));
        empty = λ none. absurd (true≢false none);
      },
    )

of_child : HasSet b
of_child d e =
    subst (λ d. (s : RRset) × (set_at signed (hashed_owner origin d) NSEC3 ≡ Some s) × IsInNsec3Chain origin both signed (digest_in table) (parameters false) names b d s) (same_digest (32 ∷ []) d e) (
      child_set.1,
      refl,
      record {
        single = refl;
        types = NS ∷ [];
        says = refl;
        right = right_at_delegation origin signed b (NS ∷ []) refl refl refl refl refl;
        nsec = λ _. nsec_told origin signed b (NS ∷ []) both refl refl;
        no_hashed = λ c. true≢false (sym (is_listed (NS ∷ []) NSEC3 c));
        empty = λ none. absurd (true≢false none);
      },
    )

abbrev IsHashedOwner : Name → Type 0
IsHashedOwner o = (n : Name) × (d : List ℕ) × Contains names n × (digest_in table n ≡ Some d) × (o ≡ hashed_owner origin d)

chain : IsNsec3Chain origin both signed (digest_in table) (parameters false) names
chain = record {
  zone = signed_zone;
  begins = In-Contains origin names (inl refl);
  between = names_between origin signed names refl;
  authoritative = names_authoritative origin signed names refl;
  complete = names_complete origin signed names false refl;
  one_for_each = λ n d c. each_is HasSet names (of_origin, (of_child, tt)) n (Contains-In n names c) d;
  no_other = λ o k.
      each_is IsHashedOwner (owners signed NSEC3)
      ((b, 32 ∷ [], In-Contains b names (inr (inl refl)), refl, refl), ((origin, 64 ∷ [], In-Contains origin names (inl refl), refl, refl), tt)) o (owner_in signed o NSEC3 k);
  announced = refl;
}

denies : DeniesByNsec3 zone (parameters false)
denies = record { flag = false; kind = refl; zone = both_zone; denials = refl; names = names; chain = chain; top = is_unreferred zone refl refl }

-- a name error is proved by the sets of the chain alone

abbrev response : Sections
response = sections code.NXDomain [] (sent part.Signed 60 start.1 ∷ sent part.Signed 60 child_set.1 ∷ sent part.Signed 60 origin_set.1 ∷ [])

of_missing : IsResponse zone (asked a A) response
unfolding path
of_missing = record { code = refl; authoritative = refl; answers = refl; authorities = refl; additionals = refl; glue = refl; left_at = refl }

missing_proved : proof_in zone (parameters false) response a A ≡ Some (NameError false)
missing_proved = refl

-- a response with a set of the other chain doesn't meet the law

abbrev mixed : Sections
mixed = sections code.NXDomain [] (sent part.Signed 60 start.1 ∷ sent part.Signed 60 other_set.1 ∷ [])

abbrev other_record : Nsec3Record
other_record = record { owner = hashed_owner origin (96 ∷ []); next = 96 ∷ []; types = SOA ∷ RRSIG ∷ NSEC3PARAM ∷ []; opt_out = false }

mixed_refused : (q : Query) → ProvesByHashes zone (parameters false) names q mixed → ⊥
mixed_refused q h =
    let r = h.records other_record (In-Contains other_record (shown_nsec3 mixed) (inl refl)) in
    each_set NSEC3 (λ o s. Contains (nsec3_records s.records) other_record → ⊥) signed (tt, (tt, (of 64 (λ e. omega (arith, e)) child_set.1 refl, (of 32 (λ e. omega (arith, e)) origin_set.1 refl, (tt, (tt, tt)))))) r.0 r.1 r.2 r.3
  where
    of : (next : ℕ) → (next ≡ 96 → ⊥) → (s : RRset) → map (λ (r : Nsec3Record). r.next) (nsec3_records s.records) ≡ (next ∷ []) ∷ [] → Contains (nsec3_records s.records) other_record → ⊥
    of next other s is c =
        let i = subst (In (96 ∷ [])) is (In-map (λ (r : Nsec3Record). r.next) other_record (nsec3_records s.records) (Contains-In other_record (nsec3_records s.records) c)) in
        by i
      where
        by : In (96 ∷ []) ((next ∷ []) ∷ []) → ⊥
        by (inl e) = other (ap (λ (xs : List ℕ). slice_index xs 0) e)
        by (inr i) = absurd i

-- ---- with opt-out the delegation has none, whatever is there, and the flag of NSEC3PARAM isn't set

abbrev alone_set : RrKey × RRset
alone_set = nsec3 (parameters true) (64 ∷ []) (64 ∷ []) (SOA ∷ RRSIG ∷ NSEC3PARAM ∷ [])

abbrev left_out : Sets
left_out = put_entry unsigned_sets alone_set

abbrev opt_out_zone : Zone
opt_out_zone = record { origin = origin; sets = left_out; denials = left_out; nx_proof_kind = Some (kind.Nsec3 1 [] 0 false); digest_of = λ algorithm salt n iterations. digest_in table n; sign = λ signed s. [] }

left_out_zone : IsZone left_out
left_out_zone =
    IsZone-put unsigned_sets alone_set.0 alone_set.1 unsigned_zone
    (record { named = name_by_tests alone_set.0.name refl refl; owner = refl; record_type = refl; filled = λ e. cc; set = IsSet-alone alone_set.0.name NSEC3 _ refl refl })

abbrev HasOptOutSet : Name → Type 0
HasOptOutSet n = (d : List ℕ) → digest_in table n ≡ Some d → (s : RRset) × (set_at left_out (hashed_owner origin d) NSEC3 ≡ Some s) × IsInNsec3Chain origin left_out left_out (digest_in table) (parameters true) (origin ∷ []) n d s

of_alone : HasOptOutSet origin
of_alone d e =
    subst (λ d. (s : RRset) × (set_at left_out (hashed_owner origin d) NSEC3 ≡ Some s) × IsInNsec3Chain origin left_out left_out (digest_in table) (parameters true) (origin ∷ []) origin d s) (same_digest (64 ∷ []) d e) (
      alone_set.1,
      refl,
      record {
        single = refl;
        types = SOA ∷ RRSIG ∷ NSEC3PARAM ∷ [];
        says = refl;
        right = right_elsewhere origin left_out origin (SOA ∷ RRSIG ∷ NSEC3PARAM ∷ []) refl refl refl refl;
        nsec = λ _. nsec_told origin left_out origin (SOA ∷ RRSIG ∷ NSEC3PARAM ∷ []) left_out refl refl;
        no_hashed = λ c. true≢false (sym (is_listed (SOA ∷ RRSIG ∷ NSEC3PARAM ∷ []) NSEC3 c));
        empty = λ none. absurd (true≢false none);
      },
    )

abbrev IsOptOutOwner : Name → Type 0
IsOptOutOwner o = (n : Name) × (d : List ℕ) × Contains (origin ∷ []) n × (digest_in table n ≡ Some d) × (o ≡ hashed_owner origin d)

opt_out_chain : IsNsec3Chain origin left_out left_out (digest_in table) (parameters true) (origin ∷ [])
opt_out_chain = record {
  zone = left_out_zone;
  begins = In-Contains origin (origin ∷ []) (inl refl);
  between = names_between origin left_out (origin ∷ []) refl;
  authoritative = names_authoritative origin left_out (origin ∷ []) refl;
  complete = names_complete origin left_out (origin ∷ []) true refl;
  one_for_each = λ n d c. each_is HasOptOutSet (origin ∷ []) (of_alone, tt) n (Contains-In n (origin ∷ []) c) d;
  no_other = λ o k. each_is IsOptOutOwner (owners left_out NSEC3) ((origin, 64 ∷ [], In-Contains origin (origin ∷ []) (inl refl), refl, refl), tt) o (owner_in left_out o NSEC3 k);
  announced = refl;
}

opt_out_denies : DeniesByNsec3 opt_out_zone (parameters true)
opt_out_denies = record { flag = false; kind = refl; zone = left_out_zone; denials = refl; names = origin ∷ []; chain = opt_out_chain; top = is_unreferred opt_out_zone refl refl }

-- a referral to it is proved to be one that may be unsigned

abbrev to_child : Sections
to_child = record {
  code = code.NoError;
  authoritative = false;
  answers = [];
  authorities = as_it_is part.Records servers.1 ∷ sent part.Signed 60 alone_set.1 ∷ [];
  additionals = [];
  glue = as_it_is part.Signed (address b).1 ∷ [];
  left_at = None;
}

of_child_left_out : IsResponse opt_out_zone (asked b A) to_child
unfolding path
of_child_left_out = record { code = refl; authoritative = refl; answers = refl; authorities = refl; additionals = refl; glue = refl; left_at = refl }

left_out_proved : proof_in opt_out_zone (parameters true) to_child b DS ≡ Some UnsignedDelegation
left_out_proved = refl
