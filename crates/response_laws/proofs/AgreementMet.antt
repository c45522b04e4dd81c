-- The premises of the agreement are met: a zone with an alias to a name for which a wildcard answers, and with one to a
-- name that isn't there
use Rattle.std.proofs.Common.{◌≡◌, ℕ, true, false, List, [], ◌∷◌, refl, sym, ap, ◌∙◌, subst, true≢false, ◌⊎◌, inl, inr}
use Rattle.std.specs.Prelude.{codes, Some, None, ◌==◌}
use Rattle.zone_proto.specs.declared.rdata.RData.TheVariants as V
use Rattle.zone_proto.specs.declared.response_code.ResponseCode.{ResponseCode}
use Rattle.zone_proto.specs.declared.response_code.ResponseCode.TheVariants as code
use Rattle.zone_proto.specs.declared.rr_key.RrKey.{RrKey}
use Rattle.zone_proto.specs.Keys.{key}
use Rattle.zone_proto.specs.Names.{Name, name_eq, is_at_or_above, wildcard_under}
use Rattle.zone_proto.specs.Sets.{RRset}
use Rattle.zone_proto.specs.Types.{A, NS, CNAME, SOA, IN}
use Rattle.zone_proto.proofs.Members.{In, Contains-In}
use Rattle.zone_proto.proofs.Names.Tree.{name_eq_itself}
use Rattle.zone_proto.proofs.SetLaws.{IsSet-alone}
use Rattle.zone_proto.proofs.Texts.TextFaults.{name_by_tests}
use Rattle.zone_map.specs.Upserts.{is_denial_type}
use Rattle.zone_map.specs.Wildcards.{renamed}
use Rattle.zone_map.specs.Zones.{Sets, owns, IsStoredAt, IsZone}
use Rattle.zone_map.proofs.Owned.{has_entry}
use Rattle.zone_map.proofs.Stored.{IsZone-none, IsZone-put}
use Rattle.zone_denial.proofs.Examples.NsecExamples.{origin, at_origin, entry, address, start}
use Rattle.zone_lookup.specs.Flattening.{stands_for_addresses}
use Rattle.zone_lookup.specs.Replies.{chained, Reply, answered, IsReply}
use Rattle.zone_response.specs.declared.response.Part.TheVariants as part
use Rattle.zone_response.specs.Paths.{path}
use Rattle.zone_response.specs.Queries.{Zone, Query, Inquiry, inquiry}
use Rattle.zone_response.specs.Responses.{IsResponse}
use Rattle.zone_response.specs.Sections.{Sections, sent}
use Rattle.response_laws.specs.Agreement.{IsOrdinaryZone, IsOrdinaryType, IsOrdinary, NoStandIn, StandInsLead, IsOrdinaryQuery, IsProvable, Agrees}
use Rattle.response_laws.proofs.Agreement.{responses_agree}

-- ---- the zone example: a is an alias of x.w, for which *.w answers, and c one of gone

abbrev a : Name
a = at_origin (codes "a")

abbrev c : Name
c = at_origin (codes "c")

abbrev gone : Name
gone = at_origin (codes "gone")

abbrev wildcard_name : Name
wildcard_name = wildcard_under (at_origin (codes "w"))

abbrev made : Name
made = codes "x" ∷ at_origin (codes "w")

abbrev alias : Name → Name → RrKey × RRset
alias n target = entry n CNAME (V.CNAME target)

abbrev sets : Sets
sets = start ∷ alias a made ∷ alias c gone ∷ address wildcard_name ∷ []

abbrev zone : Zone
zone = record { origin = origin; sets = sets; denials = sets; nx_proof_kind = None; digest_of = λ algorithm salt n iterations. None; sign = λ signed s. [] }

pub soa_stored : IsStoredAt origin SOA start.1
soa_stored = record { named = name_by_tests origin refl refl; owner = refl; record_type = refl; filled = λ e. cc; set = IsSet-alone origin SOA _ refl refl }

a_stored : IsStoredAt a CNAME (alias a made).1
a_stored = record { named = name_by_tests a refl refl; owner = refl; record_type = refl; filled = λ e. cc; set = IsSet-alone a CNAME _ refl refl }

c_stored : IsStoredAt c CNAME (alias c gone).1
c_stored = record { named = name_by_tests c refl refl; owner = refl; record_type = refl; filled = λ e. cc; set = IsSet-alone c CNAME _ refl refl }

wildcard_stored : IsStoredAt wildcard_name A (address wildcard_name).1
wildcard_stored = record { named = name_by_tests wildcard_name refl refl; owner = refl; record_type = refl; filled = λ e. cc; set = IsSet-alone wildcard_name A _ refl refl }

is_zone : IsZone sets
is_zone =
    IsZone-put (start ∷ alias a made ∷ alias c gone ∷ []) (key wildcard_name A) (address wildcard_name).1
    (IsZone-put (start ∷ alias a made ∷ []) (key c CNAME) (alias c gone).1
    (IsZone-put (start ∷ []) (key a CNAME) (alias a made).1 (IsZone-put [] (key origin SOA) start.1 IsZone-none soa_stored) a_stored) c_stored) wildcard_stored

-- what it owns
data Entry (n : Name) (t : ℕ) : Type 0 where
  the_soa : origin ≡ n → SOA ≡ t → Entry n t
  the_first : a ≡ n → CNAME ≡ t → Entry n t
  the_second : c ≡ n → CNAME ≡ t → Entry n t
  the_wildcard : wildcard_name ≡ n → A ≡ t → Entry n t

entries : (n : Name) (t : ℕ) → owns sets n t ≡ true → Entry n t
entries n t h = let e = has_entry sets n t h in by e.0 e.1
  where
    by : (s : RRset) → In (key n t, s) sets → Entry n t
    by s (inl e) = the_soa (ap (λ (e : RrKey × RRset). e.0.name) e) (ap (λ (e : RrKey × RRset). e.0.record_type.0) e)
    by s (inr (inl e)) = the_first (ap (λ (e : RrKey × RRset). e.0.name) e) (ap (λ (e : RrKey × RRset). e.0.record_type.0) e)
    by s (inr (inr (inl e))) = the_second (ap (λ (e : RrKey × RRset). e.0.name) e) (ap (λ (e : RrKey × RRset). e.0.record_type.0) e)
    by s (inr (inr (inr (inl e)))) = the_wildcard (ap (λ (e : RrKey × RRset). e.0.name) e) (ap (λ (e : RrKey × RRset). e.0.record_type.0) e)
    by s (inr (inr (inr (inr e)))) = absurd e

pub other_type : (t u : ℕ) → (t == u) ≡ false → (u == u) ≡ true → t ≡ u → ⊥
other_type t u h k e = true≢false (sym k ∙ ap (λ v. v == u) (sym e) ∙ h)

other_name : (n o : Name) → name_eq n o ≡ false → n ≡ o → ⊥
other_name n o h e = true≢false (sym (name_eq_itself n) ∙ ap (name_eq n) e ∙ h)

inside : (n : Name) (t : ℕ) → Entry n t → is_at_or_above origin n ≡ true
inside n t (the_soa e k) = ap (is_at_or_above origin) (sym e)
inside n t (the_first e k) = ap (is_at_or_above origin) (sym e)
inside n t (the_second e k) = ap (is_at_or_above origin) (sym e)
inside n t (the_wildcard e k) = ap (is_at_or_above origin) (sym e)

alone : (n : Name) (t : ℕ) → Entry n CNAME → Entry n t → (t ≡ CNAME) ⊎ (is_denial_type t ≡ true)
alone n t (the_soa e k) w = absurd (other_type SOA CNAME refl refl k)
alone n t (the_wildcard e k) w = absurd (other_type A CNAME refl refl k)
alone n t (the_first e k) (the_soa f l) = absurd (other_name a origin refl (e ∙ sym f))
alone n t (the_first e k) (the_wildcard f l) = absurd (other_name a wildcard_name refl (e ∙ sym f))
alone n t (the_first e k) (the_first f l) = inl (sym l)
alone n t (the_first e k) (the_second f l) = inl (sym l)
alone n t (the_second e k) (the_soa f l) = absurd (other_name c origin refl (e ∙ sym f))
alone n t (the_second e k) (the_wildcard f l) = absurd (other_name c wildcard_name refl (e ∙ sym f))
alone n t (the_second e k) (the_first f l) = inl (sym l)
alone n t (the_second e k) (the_second f l) = inl (sym l)

is_ordinary_zone : IsOrdinaryZone origin sets
is_ordinary_zone = record {
  zone = is_zone;
  soa = refl;
  not_wildcard = refl;
  inside = λ n t h. inside n t (entries n t h);
  cnames = record { alone = λ n t f h. alone n t (entries n CNAME f) (entries n t h) };
}

-- ---- the queries

abbrev asked : Name → Query
asked n = record { name = n; record_type = A; class = IN; signed = false }

pub is_ordinary_type : IsOrdinaryType A
is_ordinary_type = record { searched = refl; one = λ e. other_type A 255 refl refl e; no_signature = λ e. other_type A 46 refl refl e; no_hashed = λ e. other_type A 50 refl refl e }

abbrev inquired : Name → Inquiry
inquired n = inquiry zone (asked n)

ordinary_a : IsOrdinary (inquired a) a
ordinary_a = record { unturned = refl; not_wildcard = λ k. refl; uncut_wildcard = λ w e. absurd cc; nsec = λ e. absurd (other_type A 47 refl refl e) }

ordinary_c : IsOrdinary (inquired c) c
ordinary_c = record { unturned = refl; not_wildcard = λ k. refl; uncut_wildcard = λ w e. absurd cc; nsec = λ e. absurd (other_type A 47 refl refl e) }

ordinary_made : IsOrdinary (inquired a) made
ordinary_made = record { unturned = refl; not_wildcard = λ k. refl; uncut_wildcard = λ w e. let same : wildcard_name ≡ w = cc in ap (λ n. owns sets n NS) (sym same); nsec = λ e. absurd (other_type A 47 refl refl e) }

ordinary_gone : (n : Name) → IsOrdinary (inquired n) gone
ordinary_gone n = record { unturned = refl; not_wildcard = λ k. refl; uncut_wildcard = λ w e. let same : wildcard_under origin ≡ w = cc in ap (λ n. owns sets n NS) (sym same); nsec = λ e. absurd (other_type A 47 refl refl e) }

-- behind a stands the set of the wildcard at the name
abbrev made_set : RRset
made_set = renamed false wildcard_name made (address wildcard_name).1

no_stand_in : (found s : RRset) → Some found ≡ Some s → stands_for_addresses A found ≡ false → stands_for_addresses A s ≡ false
no_stand_in found s e h = let same : found ≡ s = cc in ap (stands_for_addresses A) (sym same) ∙ h

query_a : IsOrdinaryQuery zone (asked a)
query_a = record {
  class = refl;
  record_type = is_ordinary_type;
  inside = refl;
  names = λ x i h. names x (Contains-In x (a ∷ made ∷ []) i);
  addresses = λ x i other. addresses x (Contains-In x (a ∷ made ∷ []) i);
}
  where
    names : (x : Name) → In x (a ∷ made ∷ []) → IsOrdinary (inquired a) x
    names x (inl e) = subst (IsOrdinary (inquired a)) e ordinary_a
    names x (inr (inl e)) = subst (IsOrdinary (inquired a)) e ordinary_made
    names x (inr (inr i)) = absurd i

    addresses : (x : Name) → In x (a ∷ made ∷ []) → NoStandIn (inquired a) x
    addresses x (inl e) = subst (NoStandIn (inquired a)) e (λ s h. no_stand_in (alias a made).1 s h refl)
    addresses x (inr (inl e)) = subst (NoStandIn (inquired a)) e (λ s h. no_stand_in made_set s h refl)
    addresses x (inr (inr i)) = absurd i

query_c : IsOrdinaryQuery zone (asked c)
query_c = record {
  class = refl;
  record_type = is_ordinary_type;
  inside = refl;
  names = λ x i h. names x (Contains-In x (c ∷ gone ∷ []) i);
  addresses = λ x i other. addresses x (Contains-In x (c ∷ gone ∷ []) i);
}
  where
    names : (x : Name) → In x (c ∷ gone ∷ []) → IsOrdinary (inquired c) x
    names x (inl e) = subst (IsOrdinary (inquired c)) e ordinary_c
    names x (inr (inl e)) = subst (IsOrdinary (inquired c)) e (ordinary_gone c)
    names x (inr (inr i)) = absurd i

    addresses : (x : Name) → In x (c ∷ gone ∷ []) → NoStandIn (inquired c) x
    addresses x (inl e) = subst (NoStandIn (inquired c)) e (λ s h. no_stand_in (alias c gone).1 s h refl)
    addresses x (inr (inl e)) = subst (NoStandIn (inquired c)) e (λ s h. absurd cc)
    addresses x (inr (inr i)) = absurd i

flat_a : StandInsLead (λ s. []) (inquired a) a
flat_a s h k = absurd (true≢false (sym k ∙ no_stand_in (alias a made).1 s h refl))

flat_c : StandInsLead (λ s. []) (inquired c) c
flat_c s h k = absurd (true≢false (sym k ∙ no_stand_in (alias c gone).1 s h refl))

-- ---- what both say

-- the SOA of a negative response
abbrev as_negative : RRset
as_negative = sent part.Records 60 start.1

-- a response whose code and answers are these, with these sets in its authority section
abbrev says : ResponseCode → List RRset → List RRset → Sections
says c answers authorities = record { code = c; authoritative = true; answers = answers; authorities = authorities; additionals = []; glue = []; left_at = None }

abbrev response_a : Sections
response_a = says code.NoError ((alias a made).1 ∷ made_set ∷ []) []

of_a : IsResponse zone (asked a) response_a
unfolding path
of_a = record { code = refl; authoritative = refl; answers = refl; authorities = refl; additionals = refl; glue = refl; left_at = refl }

abbrev reply_a : Reply
reply_a = answered (chained ((alias a made).1 ∷ made_set ∷ [])) []

looked_up_a : IsReply (λ s. []) origin sets false a A reply_a
looked_up_a = record { more = []; found = refl; sections = refl }

provable_a : IsProvable zone (asked a) (path (inquired a) a)
provable_a = refl

a_agrees : Agrees zone (asked a) response_a reply_a
a_agrees = responses_agree (λ s. []) zone (asked a) response_a reply_a is_ordinary_zone query_a flat_a provable_a of_a looked_up_a

-- the code is that of the name to which c leads
abbrev response_c : Sections
response_c = says code.NXDomain ((alias c gone).1 ∷ []) (as_negative ∷ [])

of_c : IsResponse zone (asked c) response_c
unfolding path
of_c = record { code = refl; authoritative = refl; answers = refl; authorities = refl; additionals = refl; glue = refl; left_at = refl }

abbrev reply_c : Reply
reply_c = answered (chained ((alias c gone).1 ∷ [])) []

looked_up_c : IsReply (λ s. []) origin sets false c A reply_c
looked_up_c = record { more = []; found = refl; sections = refl }

c_agrees : Agrees zone (asked c) response_c reply_c
c_agrees = responses_agree (λ s. []) zone (asked c) response_c reply_c is_ordinary_zone query_c flat_c refl of_c looked_up_c

c_is_error : response_c.code ≡ code.NXDomain
c_is_error = c_agrees.name_error gone refl refl
