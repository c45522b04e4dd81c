-- The premises of the law of NSEC3 are met: a zone of its origin alone, with its NSEC3 set and a hash by a table that tells the names apart which are hashed, denies by NSEC3, with opt-out and without, and its response proves the name error that it says
use Rattle.std.proofs.Common.{◌≡◌, ℕ, ◌+◌, false, List, [], ◌∷◌, ◌++◌, ◌&&◌, ◌==◌, length, slice_index, eq-eqb, refl, sym, ap, ◌∙◌, subst, true≢false, inl, inr, ◌⊎◌, length-append, arith}
use Rattle.std.specs.Prelude.{Bool, true, Option, Some, None, cond, unwrap_or, is_some, option_map}
use Rattle.std.specs.List.{AllByRecursion, cons_option}
use Rattle.zone_proto.specs.declared.nx_proof_kind.NxProofKind.TheVariants as kind
use Rattle.zone_proto.specs.declared.rdata.RData.TheVariants as V
use Rattle.zone_proto.specs.declared.rdata.denial.NSEC3PARAM.{NSEC3PARAM as Nsec3Parameters}
use Rattle.zone_proto.specs.declared.record.Record.{Record}
use Rattle.zone_proto.specs.declared.response_code.ResponseCode.TheVariants as code
use Rattle.zone_proto.specs.HashedOwners.{hashed_owner}
use Rattle.zone_proto.specs.Keys.{key, key_eq}
use Rattle.zone_proto.specs.Names.{Name, base_name, name_eq, IsAtOrAbove, wildcard_under}
use Rattle.zone_proto.specs.Ranges.{IsOctet}
use Rattle.zone_proto.specs.Sets.{RRset}
use Rattle.zone_proto.specs.Types.{A, NS, SOA, DNSKEY, RRSIG, NSEC, NSEC3, NSEC3PARAM, IN, DNAME}
use Rattle.zone_proto.proofs.Ordering.KeyOrder.{key_same}
use Rattle.zone_proto.proofs.Members.{In, Contains-In}
use Rattle.zone_proto.proofs.Names.NameTree.{name_eq-Decides}
use Rattle.zone_proto.proofs.SetLaws.{IsSet-alone}
use Rattle.zone_proto.proofs.Texts.TextFaults.{name_by_tests}
use Rattle.zone_map.specs.Wildcards.{exists}
use Rattle.zone_map.specs.Zones.{Sets, put, set_at, owns, IsStoredAt, IsZone}
use Rattle.zone_map.proofs.Stored.{IsZone-put, put_apart}
use Rattle.zone_denial.specs.Nsec3Circle.{nsec3_data}
use Rattle.zone_denial.specs.Nsec3Denial.{closest_encloser}
use Rattle.zone_denial.specs.Nsec3Names.{nsec3_names}
use Rattle.zone_denial.specs.Nsec3Sets.{nsec3_record, nsec3_set_at, set_of, HasNsec3Sets}
use Rattle.zone_denial.specs.Nsec3Zones.{IsCircleName, IsHashed, IsNsec3Zone, HasDistinctDigests}
use Rattle.zone_denial.proofs.Examples.NsecExamples.{origin, record_with, entry, start, public_key, bare}
use Rattle.response_laws.proofs.MetPremises.{type_apart, bare_zone}
use Rattle.zone_denial.proofs.Hashed.Nsec3Secured.{secured_is_nsec3_circle}
use Rattle.zone_denial.proofs.Examples.Nsec3Examples.{b, digest_in}
use Rattle.denial_validation.specs.declared.proof.Proof.TheVariants.{NameError}
use Rattle.zone_response.specs.declared.response.Part.TheVariants as part
use Rattle.zone_response.specs.Paths.{path}
use Rattle.zone_response.specs.Queries.{Zone}
use Rattle.zone_response.specs.Responses.{IsResponse}
use Rattle.zone_response.specs.Sections.{Sections, sent}
use Rattle.response_laws.specs.HashedSayings.{DeniesByNsec3, proof_in, HasErrorProof, IsHashedError}
use Rattle.response_laws.proofs.Responses.{response_proves_by_hashes}
use Rattle.response_laws.proofs.SecuredZones.{denies_by_circle}
use Rattle.response_laws.proofs.SayingExamples.{asked, sections}

abbrev table : List (Name × List ℕ)
table = (origin, 64 ∷ []) ∷ (b, 32 ∷ []) ∷ (wildcard_under origin, 96 ∷ []) ∷ []

-- with opt-out or without
abbrev parameters : Bool → Nsec3Parameters
parameters opt_out = record { algorithm = 1; opt_out = opt_out; iterations = 0; salt = [] }

abbrev owner : Name
owner = hashed_owner origin (64 ∷ [])

abbrev pub own_set : Bool → RRset
own_set opt_out = record {
  owner = hashed_owner origin (64 ∷ []);
  record_type = NSEC3;
  class = IN;
  ttl = 60;
  serial = 7;
  records = record_with (hashed_owner origin (64 ∷ [])) (V.NSEC3 (nsec3_data (parameters opt_out) (64 ∷ []) (SOA ∷ RRSIG ∷ DNSKEY ∷ NSEC3PARAM ∷ []))) ∷ [];
  signatures = [];
}

abbrev announcing : Bool → RRset
announcing opt_out = (entry origin NSEC3PARAM (V.NSEC3PARAM (parameters opt_out))).1

abbrev announced : Bool → Sets
announced opt_out = put bare origin NSEC3PARAM (announcing opt_out)

abbrev pub alone : Bool → Sets
alone opt_out = put (announced opt_out) owner NSEC3 (own_set opt_out)

abbrev pub zone : Bool → Zone
zone opt_out = record {
  origin = origin;
  sets = alone opt_out;
  denials = alone opt_out;
  nx_proof_kind = Some (kind.Nsec3 (parameters opt_out).algorithm (parameters opt_out).salt (parameters opt_out).iterations (parameters opt_out).opt_out);
  digest_of = λ algorithm salt n iterations. digest_in table n;
  sign = λ signed s. [];
}

abbrev digest : Name → List ℕ
digest n = unwrap_or (digest_in table n) []

-- ---- the names that are hashed are the origin, b and the wildcard

abbrev IsOneOfThree : Name → Type 0
IsOneOfThree n = (n ≡ origin) ⊎ ((n ≡ b) ⊎ (n ≡ wildcard_under origin))

circle_is : (opt_out : Bool) → nsec3_names origin (alone opt_out) opt_out ≡ origin ∷ []
circle_is true = refl
circle_is false = refl

encloser_is : (opt_out : Bool) → closest_encloser origin (alone opt_out) opt_out b ≡ Some origin
encloser_is true = refl
encloser_is false = refl

same_name : (n k : Name) → Some n ≡ Some k → n ≡ k
same_name n k e = cc

on_circle : (n : Name) → In n (origin ∷ []) → IsOneOfThree n
on_circle n (inl e) = inl (sym e)
on_circle n (inr e) = absurd e

between : (n : Name) (front back : Name) → b ≡ front ++ n → n ≡ back ++ origin → IsOneOfThree n
between n [] back e k = inr (inl (sym e))
between n (l ∷ []) back e k = inl (sym (ap base_name e))
between n (l ∷ j ∷ ls) back e k =
    let long : 2 ≡ length (l ∷ j ∷ ls ++ n) = ap length e in
    let sum : length (ls ++ n) ≡ length ls + length n = length-append ls n in
    let tail : length n ≡ length (back ++ origin) = ap length k in
    let rest : length (back ++ origin) ≡ length back + 1 = length-append back origin in
    absurd (omega arith)

hashed_names : (opt_out : Bool) (n : Name) → IsHashed origin (alone opt_out) opt_out b n → IsOneOfThree n
hashed_names opt_out n (inl c) = on_circle n (subst (In n) (circle_is opt_out) (Contains-In n (nsec3_names origin (alone opt_out) opt_out) c))
hashed_names opt_out n (inr (a, e, where_)) = by (subst (λ (k : Name). (IsAtOrAbove n b × IsAtOrAbove k n) ⊎ (n ≡ wildcard_under k)) (same_name a origin (sym e ∙ encloser_is opt_out)) where_)
  where
    by : (IsAtOrAbove n b × IsAtOrAbove origin n) ⊎ (n ≡ wildcard_under origin) → IsOneOfThree n
    by (inl (above, below)) = between n above.0 below.0 above.1 below.1
    by (inr wildcard_name) = inr (inr wildcard_name)

-- ---- their digests

answered : (n : Name) → IsOneOfThree n → digest_in table n ≡ Some (digest n)
answered n (inl e) = ap (digest_in table) e ∙ sym (ap (λ k. Some (digest k)) e)
answered n (inr (inl e)) = ap (digest_in table) e ∙ sym (ap (λ k. Some (digest k)) e)
answered n (inr (inr e)) = ap (digest_in table) e ∙ sym (ap (λ k. Some (digest k)) e)

first_octets : (i j : ℕ) (d e : List ℕ) → d ≡ i ∷ [] → e ≡ j ∷ [] → d ≡ e → i ≡ j
first_octets i j d e p q same = ap (λ (xs : List ℕ). slice_index xs 0) (sym p ∙ same ∙ q)

apart : (n k : Name) → IsOneOfThree n → IsOneOfThree k → digest n ≡ digest k → n ≡ k
apart n k (inl p) (inl q) e = p ∙ sym q
apart n k (inl p) (inr (inl q)) e = let h : 64 ≡ 32 = first_octets 64 32 (digest n) (digest k) (ap digest p) (ap digest q) e in absurd (omega (arith, h))
apart n k (inl p) (inr (inr q)) e = let h : 64 ≡ 96 = first_octets 64 96 (digest n) (digest k) (ap digest p) (ap digest q) e in absurd (omega (arith, h))
apart n k (inr (inl p)) (inl q) e = let h : 32 ≡ 64 = first_octets 32 64 (digest n) (digest k) (ap digest p) (ap digest q) e in absurd (omega (arith, h))
apart n k (inr (inl p)) (inr (inl q)) e = p ∙ sym q
apart n k (inr (inl p)) (inr (inr q)) e = let h : 32 ≡ 96 = first_octets 32 96 (digest n) (digest k) (ap digest p) (ap digest q) e in absurd (omega (arith, h))
apart n k (inr (inr p)) (inl q) e = let h : 96 ≡ 64 = first_octets 96 64 (digest n) (digest k) (ap digest p) (ap digest q) e in absurd (omega (arith, h))
apart n k (inr (inr p)) (inr (inl q)) e = let h : 96 ≡ 32 = first_octets 96 32 (digest n) (digest k) (ap digest p) (ap digest q) e in absurd (omega (arith, h))
apart n k (inr (inr p)) (inr (inr q)) e = p ∙ sym q

of_one_octet : (n : Name) → IsOneOfThree n → length (digest n) ≡ 1
of_one_octet n (inl e) = ap (λ k. length (digest k)) e
of_one_octet n (inr (inl e)) = ap (λ k. length (digest k)) e
of_one_octet n (inr (inr e)) = ap (λ k. length (digest k)) e

in_range : (n : Name) → IsOneOfThree n → AllByRecursion IsOctet (digest n)
in_range n (inl e) = subst (λ (k : Name). AllByRecursion IsOctet (digest k)) (sym e) (omega arith, tt)
in_range n (inr (inl e)) = subst (λ (k : Name). AllByRecursion IsOctet (digest k)) (sym e) (omega arith, tt)
in_range n (inr (inr e)) = subst (λ (k : Name). AllByRecursion IsOctet (digest k)) (sym e) (omega arith, tt)

table_tells_apart : (opt_out : Bool) → HasDistinctDigests (IsHashed origin (alone opt_out) opt_out b) (digest_in table)
table_tells_apart opt_out = record {
  digest = digest;
  answers = λ n h. answered n (hashed_names opt_out n h);
  apart = λ n k h j. apart n k (hashed_names opt_out n h) (hashed_names opt_out k j);
  alike = λ n k h j. of_one_octet n (hashed_names opt_out n h) ∙ sym (of_one_octet k (hashed_names opt_out k j));
  octets = λ n h. in_range n (hashed_names opt_out n h);
}

-- ---- the zone is one that NSEC3 denies

announcing_stored : (opt_out : Bool) → IsStoredAt origin NSEC3PARAM (announcing opt_out)
announcing_stored opt_out = record { named = name_by_tests origin refl refl; owner = refl; record_type = refl; filled = λ e. cc; set = IsSet-alone origin NSEC3PARAM _ refl refl }

own_stored : (opt_out : Bool) → IsStoredAt owner NSEC3 (own_set opt_out)
own_stored opt_out = record { named = name_by_tests owner refl refl; owner = refl; record_type = refl; filled = λ e. cc; set = IsSet-alone owner NSEC3 _ refl refl }

pub alone_zone : (opt_out : Bool) → IsZone (alone opt_out)
alone_zone opt_out =
    IsZone-put (announced opt_out) (key owner NSEC3) (own_set opt_out) (IsZone-put bare (key origin NSEC3PARAM) (announcing opt_out) bare_zone (announcing_stored opt_out)) (own_stored opt_out)

-- the origin's is the only NSEC3 set
not_there : (opt_out : Bool) (o : Name) → key_eq (key o NSEC3) (key owner NSEC3) ≡ false → set_at (alone opt_out) o NSEC3 ≡ None
not_there opt_out o h =
    put_apart (announced opt_out) (key owner NSEC3) (key o NSEC3) (own_set opt_out) h
    ∙ put_apart bare (key origin NSEC3PARAM) (key o NSEC3) (announcing opt_out) (type_apart o origin NSEC3 NSEC3PARAM refl)
    ∙ (λ i. cond (type_apart o origin NSEC3 SOA refl i) (Some start.1) (cond (type_apart o origin NSEC3 DNSKEY refl i) (Some public_key.1) None))

other_owner : (o : Name) → name_eq o owner ≡ false → key_eq (key o NSEC3) (key owner NSEC3) ≡ false
other_owner o h = by (key_eq (key o NSEC3) (key owner NSEC3)) refl
  where
    by : (c : Bool) → key_eq (key o NSEC3) (key owner NSEC3) ≡ c → c ≡ false
    by true e = absurd (true≢false (sym ((name_eq-Decides o owner).1 (ap (λ k. k.name) (key_same (key o NSEC3) (key owner NSEC3) e))) ∙ h))
    by false e = refl

-- its records, as they are there and as they are to be
abbrev records_there : Bool → Name → Option (List Record)
records_there opt_out o = option_map (λ (s : RRset). s.records) (set_at (alone opt_out) o NSEC3)

abbrev records_wanted : Bool → Name → Option (List Record)
records_wanted opt_out o = option_map (λ (s : RRset). s.records) (nsec3_set_at origin bare (digest_in table) (parameters opt_out) 60 7 o)

abbrev wanted_if : Bool → Name → Bool → Option (List Record)
wanted_if opt_out o c =
    option_map (λ (s : RRset). s.records)
    (set_of o NSEC3 7 (cons_option (cond c (Some (nsec3_record origin bare (digest_in table) (parameters opt_out) 60 7 (record { digest = 64 ∷ []; name = origin }))) None) []))

wanted_is : (opt_out : Bool) (o : Name) → records_wanted opt_out o ≡ wanted_if opt_out o (name_eq o owner)
wanted_is true o = refl
wanted_is false o = refl

owner_has : (opt_out : Bool) → records_there opt_out owner ≡ records_wanted opt_out owner
owner_has true = refl
owner_has false = refl

denials : (opt_out : Bool) (o : Name) → records_there opt_out o ≡ records_wanted opt_out o
denials opt_out o = by (name_eq o owner) refl
  where
    by : (c : Bool) → name_eq o owner ≡ c → records_there opt_out o ≡ records_wanted opt_out o
    by true e = let same = (name_eq-Decides o owner).0 e in ap (records_there opt_out) same ∙ owner_has opt_out ∙ sym (ap (records_wanted opt_out) same)
    by false e = ap (option_map (λ (s : RRset). s.records)) (not_there opt_out o (other_owner o e)) ∙ sym (wanted_is opt_out o ∙ ap (wanted_if opt_out o) e)

-- under every other key it has what was there, NSEC3PARAM at the origin aside
not_announcing : (n : Name) (t : ℕ) → (t == NSEC3PARAM) && name_eq n origin ≡ false → key_eq (key n t) (key origin NSEC3PARAM) ≡ false
not_announcing n t h = by (key_eq (key n t) (key origin NSEC3PARAM)) refl
  where
    by : (c : Bool) → key_eq (key n t) (key origin NSEC3PARAM) ≡ c → c ≡ false
    by true e =
        let same : key n t ≡ key origin NSEC3PARAM = key_same (key n t) (key origin NSEC3PARAM) e in
        absurd (true≢false (sym (λ i. (eq-eqb t NSEC3PARAM (ap (λ k. k.record_type.0) same) i) && ((name_eq-Decides n origin).1 (ap (λ k. k.name) same) i)) ∙ h))
    by false e = refl

others : (opt_out : Bool) (n : Name) (t : ℕ) → (t == NSEC3) ≡ false → (t == NSEC3PARAM) && name_eq n origin ≡ false → owns (alone opt_out) n t ≡ owns bare n t
others opt_out n t h k =
    ap is_some
    (put_apart (announced opt_out) (key owner NSEC3) (key n t) (own_set opt_out) (type_apart n owner t NSEC3 h)
    ∙ put_apart bare (key origin NSEC3PARAM) (key n t) (announcing opt_out) (not_announcing n t k))

alone_has_sets : (opt_out : Bool) → HasNsec3Sets origin bare (digest_in table) (parameters opt_out) 60 7 (alone opt_out)
alone_has_sets opt_out = record { others = others opt_out; denials = denials opt_out; announced = refl }

bare_circle : (opt_out : Bool) → nsec3_names origin bare opt_out ≡ origin ∷ []
bare_circle true = refl
bare_circle false = refl

circle_tells_apart : (opt_out : Bool) → HasDistinctDigests (IsCircleName origin bare opt_out) (digest_in table)
circle_tells_apart opt_out = record {
  digest = digest;
  answers = λ n c. answered n (of n c);
  apart = λ n k c j. apart n k (of n c) (of k j);
  alike = λ n k c j. of_one_octet n (of n c) ∙ sym (of_one_octet k (of k j));
  octets = λ n c. in_range n (of n c);
}
  where
    of : (n : Name) → IsCircleName origin bare opt_out n → IsOneOfThree n
    of n c = on_circle n (subst (In n) (bare_circle opt_out) (Contains-In n (nsec3_names origin bare opt_out) c))

alone_is_nsec3_zone : (opt_out : Bool) → IsNsec3Zone origin (alone opt_out) (digest_in table) (parameters opt_out)
alone_is_nsec3_zone opt_out =
    secured_is_nsec3_circle origin bare (alone opt_out) (digest_in table) (parameters opt_out) 60 7 (λ e. cc) (alone_zone opt_out) (alone_has_sets opt_out) (circle_tells_apart opt_out)

-- ---- so the zone denies by NSEC3

unowned : (opt_out : Bool) (n : Name) (t : ℕ) → (t == NSEC3) ≡ false → (t == NSEC3PARAM) ≡ false → (t == SOA) ≡ false → (t == DNSKEY) ≡ false → owns (alone opt_out) n t ≡ false
unowned opt_out n t c p s k =
    others opt_out n t c (λ i. p i && name_eq n origin)
    ∙ (λ i. is_some (cond (type_apart n origin t SOA s i) (Some start.1) (cond (type_apart n origin t DNSKEY k i) (Some public_key.1) None)))

abbrev denies : (opt_out : Bool) → DeniesByNsec3 (zone opt_out) (parameters opt_out)
denies opt_out =
    denies_by_circle (zone opt_out) (parameters opt_out) opt_out refl refl (alone_is_nsec3_zone opt_out) (λ n. unowned opt_out n NSEC refl refl refl refl)
    (record { unreferred = λ a u k. absurd (true≢false (sym k ∙ unowned opt_out a NS refl refl refl refl)); no_dname = λ a u. unowned opt_out a DNAME refl refl refl refl })

abbrev names : Bool → List Name
names opt_out = nsec3_names origin (alone opt_out) opt_out

-- ---- and a name that isn't there is proved so

abbrev pub response : Bool → Sections
response opt_out = sections code.NXDomain [] (sent part.Signed 60 start.1 ∷ sent part.Signed 60 (own_set opt_out) ∷ [])

pub of_missing : (opt_out : Bool) → IsResponse (zone opt_out) (asked b A) (response opt_out)
unfolding path
of_missing true = record { code = refl; authoritative = refl; answers = refl; authorities = refl; additionals = refl; glue = refl; left_at = refl }
of_missing false = record { code = refl; authoritative = refl; answers = refl; authorities = refl; additionals = refl; glue = refl; left_at = refl }

missing_proved : (opt_out : Bool) → IsHashedError (zone opt_out) (parameters opt_out) (names opt_out) (response opt_out) b
missing_proved opt_out = (response_proves_by_hashes (zone opt_out) (parameters opt_out) (asked b A) (response opt_out) (denies opt_out) refl (of_missing opt_out)).says.error b refl (table_tells_apart opt_out)

-- the standard has a proof of it, with opt-out too
has_proof : (opt_out : Bool) → HasErrorProof (zone opt_out) (parameters opt_out) (names opt_out) b
has_proof true e a is = ap (λ n. exists (alone true) (wildcard_under n)) (same_name a origin (sym is ∙ encloser_is true))
has_proof false e a is = absurd (true≢false (sym e))

call_concludes : (opt_out : Bool) → proof_in (zone opt_out) (parameters opt_out) (response opt_out) b A ≡ Some (NameError opt_out)
call_concludes opt_out = (missing_proved opt_out).call_concludes (has_proof opt_out) A
