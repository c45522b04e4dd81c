-- Servers that send wrong sets, or right ones with wrong TTLs: what each makes of a right response, and the law that is false of it
use Rattle.std.proofs.Common.{◌≡◌, ℕ, Bool, true, false, cond, [], ◌∷◌, ◌++◌, map, refl, sym, ap, ◌∙◌, subst, true≢false, ◌⊎◌, inl, inr}
use Rattle.std.specs.Map.{lookup}
use Rattle.std.specs.Prelude.{Some, None, min, ◌==◌}
use Rattle.zone_proto.specs.declared.response_code.ResponseCode.TheVariants as code
use Rattle.zone_proto.specs.declared.rr_key.RrKey.{RrKey}
use Rattle.zone_proto.specs.Keys.{key, key_eq}
use Rattle.zone_proto.specs.Names.{Name}
use Rattle.zone_proto.specs.Sets.{RRset}
use Rattle.zone_proto.specs.Types.{A, SOA, MX, NSEC, NSEC3, DNSKEY, ANAME}
use Rattle.zone_proto.proofs.Members.{In, In-Contains, Contains-In}
use Rattle.zone_map.specs.Upserts.{is_denial_type}
use Rattle.zone_map.specs.Wildcards.{exists}
use Rattle.zone_map.specs.Zones.{Sets, set_at}
use Rattle.zone_denial.specs.NsecSets.{nsec_set}
use Rattle.zone_denial.proofs.Examples.NsecExamples.{origin, start, public_key, bare as origin_alone, linked}
use Rattle.zone_response.specs.declared.response.Part.{Part}
use Rattle.zone_response.specs.declared.response.Part.TheVariants as part
use Rattle.zone_response.specs.Paths.{path}
use Rattle.zone_response.specs.Queries.{Zone, inquiry}
use Rattle.zone_response.specs.Responses.{negative_ttl, IsResponse}
use Rattle.zone_response.specs.Sections.{Sections, sent, as_it_is}
use Rattle.response_laws.specs.Contents.{Origin, own, of_wildcard, of_dname, of_aname, IsFoundByItsWildcard, HasToProve, AuthorityOrigin, start as starts, servers, digests, denial, HasContents, ResponseHasContents}
use Rattle.response_laws.proofs.HashedMetPremises as hashed
use Rattle.response_laws.proofs.OwnDenials.{lends_own}
use Rattle.response_laws.proofs.MetPremises.{linked_zone, type_apart, response, of_missing}
use Rattle.response_laws.proofs.SayingExamples.{zone, asked, sections, b}
use Rattle.response_laws.proofs.WrongServers.{Changed, plain, asks, start_zone}

-- what is found in a zone has what each of its sets has
abbrev EachSet : (RRset → Type 0) → Sets → Type 0
EachSet P [] = Unit {0}
EachSet P (e ∷ m) = P e.1 × EachSet P m

same_set : (v w : RRset) → Some v ≡ Some w → v ≡ w
same_set v w e = cc

each_found : (P : RRset → Type 0) (m : Sets) → EachSet P m → (passes : RrKey → Bool) (s : RRset) → lookup passes m ≡ Some s → P s
each_found P [] h passes s = λ e. absurd cc
each_found P (x ∷ m) h passes s = by (passes x.0) (each_found P m h.1 passes s)
  where
    by : (c : Bool) → (lookup passes m ≡ Some s → P s) → cond c (Some x.1) (lookup passes m) ≡ Some s → P s
    by true others e = subst P (same_set x.1 s e) h.0
    by false others e = others e

-- ---- the TTL of an answer

abbrev shortens_answers : Zone → Sections → Sections
shortens_answers z r = record r { answers = map (sent part.Records 5) r.answers }

abbrev soa_answer : Sections
soa_answer = sections code.NoError (as_it_is part.Records start.1 ∷ []) []

of_soa : IsResponse (plain (start ∷ [])) (asks origin SOA) soa_answer
unfolding path
of_soa = record { code = refl; authoritative = refl; answers = refl; authorities = refl; additionals = refl; glue = refl; left_at = refl }

abbrev short : RRset
short = sent part.Records 5 start.1

sent_ttl : (p : Part) (s : RRset) → (as_it_is p s).ttl ≡ s.ttl
sent_ttl part.Records s = refl
sent_ttl part.Signed s = refl
sent_ttl part.Signatures s = refl

-- no set of the zone has this TTL
not_short : (n : Name) (t : ℕ) (s : RRset) → set_at (start ∷ []) n t ≡ Some s → 5 ≡ s.ttl → ⊥
not_short n t s e same = true≢false (ap (λ k. 5 == k) same ∙ each_found (λ s. (5 == s.ttl) ≡ false) (start ∷ []) (refl, tt) (key_eq (key n t)) s e)

no_aname : (n : Name) (s : RRset) → set_at (start ∷ []) n ANAME ≡ Some s → ⊥
no_aname n s e = let none = sym (ap (λ c. cond c (Some start.1) None) (type_apart n origin ANAME SOA refl)) ∙ e in cc

answers_shortened : ResponseHasContents (Changed shortens_answers) → ⊥
answers_shortened law = by (has.answers short (In-Contains short (short ∷ []) (inl refl)))
  where
    has : HasContents (plain (start ∷ [])) (asks origin SOA) (record soa_answer { answers = short ∷ [] })
    has = law (plain (start ∷ [])) (asks origin SOA) (record soa_answer { answers = short ∷ [] }) start_zone (lends_own (plain (start ∷ [])) start_zone refl) (soa_answer, of_soa, refl)

    by : Origin (inquiry (plain (start ∷ [])) (asks origin SOA)) (short ∷ []) (IsFoundByItsWildcard (inquiry (plain (start ∷ [])) (asks origin SOA))) short → ⊥
    by (own p g h) = not_short h.name h.record_type h.stored h.stands (ap (λ (s : RRset). s.ttl) h.sent ∙ sent_ttl p h.stored)
    by (of_wildcard p g h) =
        not_short h.by_wildcard.wildcard_name h.record_type h.by_wildcard.stored h.by_wildcard.stands
        (ap (λ (s : RRset). s.ttl) h.sent ∙ sent_ttl p h.found ∙ ap (λ (s : RRset). s.ttl) h.by_wildcard.made)
    by (of_dname h) = true≢false (ap (λ (s : RRset). s.record_type == SOA) h.made)
    by (of_aname h) = of h.stands
      where
        of : (set_at (start ∷ []) h.name ANAME ≡ Some h.aname) ⊎ IsFoundByItsWildcard (inquiry (plain (start ∷ [])) (asks origin SOA)) h.name ANAME h.aname → ⊥
        of (inl e) = no_aname h.name h.aname e
        of (inr k) = no_aname k.wildcard_name k.stored k.stands

-- ---- that of the SOA of a negative response

abbrev shortens_authorities : Zone → Sections → Sections
shortens_authorities z r = record r { authorities = map (sent part.Records 5) r.authorities }

abbrev no_data : Sections
no_data = sections code.NoError [] (sent part.Records 60 start.1 ∷ [])

of_no_data : IsResponse (plain (start ∷ [])) (asks origin MX) no_data
unfolding path
of_no_data = record { code = refl; authoritative = refl; answers = refl; authorities = refl; additionals = refl; glue = refl; left_at = refl }

soa_shortened : ResponseHasContents (Changed shortens_authorities) → ⊥
soa_shortened law =
    by (Contains-In (sent part.Records 60 start.1) (short ∷ [])
    ((law (plain (start ∷ [])) (asks origin MX) (record no_data { authorities = short ∷ [] }) start_zone (lends_own (plain (start ∷ [])) start_zone refl) (no_data, of_no_data, refl)).start tt start.1 refl))
  where
    by : In (sent part.Records 60 start.1) (short ∷ []) → ⊥
    by (inl e) = true≢false (ap (λ (s : RRset). s.ttl == 5) e)
    by (inr i) = i

-- ---- that of NSEC

abbrev shortens_proofs : Zone → Sections → Sections
shortens_proofs z r = record r { authorities = map (λ s. cond (s.record_type == SOA) s (sent part.Signed 5 s)) r.authorities }

abbrev own_nsec : RRset
own_nsec = sent part.Signed 60 (nsec_set origin origin_alone 300 7 origin)

abbrev short_nsec : RRset
short_nsec = sent part.Signed 5 own_nsec

abbrev shortened : Sections
shortened = record response { authorities = sent part.Signed 60 start.1 ∷ short_nsec ∷ [] }

nsec_shortened : ResponseHasContents (Changed shortens_proofs) → ⊥
nsec_shortened law = by (has.authorities short_nsec (In-Contains short_nsec shortened.authorities (inr (inl refl))))
  where
    has : HasContents (zone origin_alone) (asked b A) shortened
    has = law (zone origin_alone) (asked b A) shortened linked_zone (lends_own (zone origin_alone) linked_zone refl) (response, of_missing, refl)

    by : AuthorityOrigin (zone origin_alone) (asked b A) shortened short_nsec → ⊥
    by (starts soa n f e) = true≢false (ap (λ (s : RRset). s.record_type == NSEC) e ∙ ap (λ (s : RRset). s.record_type == NSEC) (sym (same_set start.1 soa f)))
    by (servers c s f k e) = cc
    by (digests c s signed f k e) = cc
    by (denial soa n t s signed p f d k e) =
        true≢false
        (ap (λ (v : RRset). 5 == v.ttl) e
        ∙ ap (λ v. 5 == min s.ttl (negative_ttl v)) (sym (same_set start.1 soa f))
        ∙ each_found (λ s. (5 == min s.ttl 60) ≡ false) (linked origin_alone) (refl, (refl, (refl, tt))) (key_eq (key n t)) s k)

-- ---- that of NSEC3

abbrev hashed_zone : Zone
hashed_zone = hashed.zone false

abbrev short_nsec3 : RRset
short_nsec3 = sent part.Signed 5 (sent part.Signed 60 (hashed.own_set false))

abbrev hashed_shortened : Sections
hashed_shortened = record (hashed.response false) { authorities = sent part.Signed 60 start.1 ∷ short_nsec3 ∷ [] }

nsec3_shortened : ResponseHasContents (Changed shortens_proofs) → ⊥
nsec3_shortened law = by (has.authorities short_nsec3 (In-Contains short_nsec3 hashed_shortened.authorities (inr (inl refl))))
  where
    has : HasContents hashed_zone (asked b A) hashed_shortened
    has = law hashed_zone (asked b A) hashed_shortened (hashed.alone_zone false) (lends_own hashed_zone (hashed.alone_zone false) refl) (hashed.response false, hashed.of_missing false, refl)

    by : AuthorityOrigin hashed_zone (asked b A) hashed_shortened short_nsec3 → ⊥
    by (starts soa n f e) = true≢false (ap (λ (s : RRset). s.record_type == NSEC3) e ∙ ap (λ (s : RRset). s.record_type == NSEC3) (sym (same_set start.1 soa f)))
    by (servers c s f k e) = cc
    by (digests c s signed f k e) = cc
    by (denial soa n t s signed p f d k e) =
        true≢false
        (ap (λ (v : RRset). 5 == v.ttl) e
        ∙ ap (λ v. 5 == min s.ttl (negative_ttl v)) (sym (same_set start.1 soa f))
        ∙ each_found (λ s. (5 == min s.ttl 60) ≡ false) (hashed.alone false) (refl, (refl, (refl, (refl, tt)))) (key_eq (key n t)) s k)

-- ---- a set more

abbrev adds_key : Zone → Sections → Sections
adds_key z r = record r { authorities = r.authorities ++ as_it_is part.Signed public_key.1 ∷ [] }

abbrev sent_key : RRset
sent_key = as_it_is part.Signed public_key.1

abbrev with_key : Sections
with_key = record response { authorities = response.authorities ++ sent_key ∷ [] }

key_added : ResponseHasContents (Changed adds_key) → ⊥
key_added law = by (has.authorities sent_key (In-Contains sent_key with_key.authorities (inr (inr (inl refl)))))
  where
    has : HasContents (zone origin_alone) (asked b A) with_key
    has = law (zone origin_alone) (asked b A) with_key linked_zone (lends_own (zone origin_alone) linked_zone refl) (response, of_missing, refl)

    by : AuthorityOrigin (zone origin_alone) (asked b A) with_key sent_key → ⊥
    by (starts soa n f e) = true≢false (ap (λ (s : RRset). s.record_type == DNSKEY) e ∙ ap (λ (s : RRset). s.record_type == DNSKEY) (sym (same_set start.1 soa f)))
    by (servers c s f k e) = cc
    by (digests c s signed f k e) = cc
    by (denial soa n t s signed p f d k e) = let same : DNSKEY ≡ t = ap (λ (v : RRset). v.record_type) e ∙ (linked_zone.stored n t s k).record_type in true≢false (sym d ∙ ap is_denial_type (sym same))

-- ---- a set of denial where nothing is to be proved

abbrev adds_nsec : Zone → Sections → Sections
adds_nsec z r = record r { authorities = r.authorities ++ own_nsec ∷ [] }

abbrev sent_soa : RRset
sent_soa = as_it_is part.Signed start.1

abbrev signed_answer : Sections
signed_answer = sections code.NoError (sent_soa ∷ []) []

of_signed : IsResponse (zone origin_alone) (asked origin SOA) signed_answer
unfolding path
of_signed = record { code = refl; authoritative = refl; answers = refl; authorities = refl; additionals = refl; glue = refl; left_at = refl }

abbrev with_nsec : Sections
with_nsec = record signed_answer { authorities = own_nsec ∷ [] }

nothing_to_prove : HasToProve (zone origin_alone) (asked origin SOA) with_nsec → ⊥
nothing_to_prove (inl n) = n
nothing_to_prove (inr (inl (c, f, u))) = cc
nothing_to_prove (inr (inr (s, i, absent))) = by (Contains-In s (sent_soa ∷ []) i)
  where
    by : In s (sent_soa ∷ []) → ⊥
    by (inl e) = true≢false (ap (λ (v : RRset). exists (linked origin_alone) v.owner) e ∙ absent)
    by (inr j) = j

nsec_added : ResponseHasContents (Changed adds_nsec) → ⊥
nsec_added law = by (has.authorities own_nsec (In-Contains own_nsec (own_nsec ∷ []) (inl refl)))
  where
    has : HasContents (zone origin_alone) (asked origin SOA) with_nsec
    has = law (zone origin_alone) (asked origin SOA) with_nsec linked_zone (lends_own (zone origin_alone) linked_zone refl) (signed_answer, of_signed, refl)

    by : AuthorityOrigin (zone origin_alone) (asked origin SOA) with_nsec own_nsec → ⊥
    by (starts soa n f e) = n
    by (servers c s f k e) = cc
    by (digests c s signed f k e) = cc
    by (denial soa n t s signed p f d k e) = nothing_to_prove p
