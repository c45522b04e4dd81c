-- The premises of the agreement are met where an ANAME set stands in: a zone that denies, with one at a which leads to the address of b, and with a signer
use Rattle.std.proofs.Common.{◌≡◌, ◌≢◌, ℕ, true, false, cond, List, [], ◌∷◌, refl, sym, ap, subst, inl, inr}
use Rattle.std.specs.Prelude.{codes, Some, None}
use Rattle.zone_proto.specs.declared.nx_proof_kind.NxProofKind.TheVariants as kind
use Rattle.zone_proto.specs.declared.rdata.RData.TheVariants as V
use Rattle.zone_proto.specs.declared.record.Record.{Record}
use Rattle.zone_proto.specs.declared.response_code.ResponseCode.TheVariants as code
use Rattle.zone_proto.specs.declared.rr_key.RrKey.{RrKey}
use Rattle.zone_proto.specs.Keys.{key}
use Rattle.zone_proto.specs.Names.{Name, is_at_or_above}
use Rattle.zone_proto.specs.Sets.{RRset, record_of}
use Rattle.zone_proto.specs.Types.{A, CNAME, SOA, ANAME, IN}
use Rattle.zone_proto.proofs.Members.{In, Contains-In}
use Rattle.zone_proto.proofs.SetLaws.{IsSet-alone}
use Rattle.zone_proto.proofs.Texts.TextFaults.{name_by_tests}
use Rattle.zone_map.specs.Wildcards.{renamed}
use Rattle.zone_map.specs.Zones.{Sets, owns, IsStoredAt, IsZone}
use Rattle.zone_map.proofs.Owned.{has_entry}
use Rattle.zone_map.proofs.Stored.{IsZone-none, IsZone-put}
use Rattle.zone_denial.proofs.Examples.NsecExamples.{origin, at_origin, entry, address, start}
use Rattle.zone_lookup.specs.Replies.{one_set, Reply, answered, IsReply}
use Rattle.zone_response.specs.Paths.{path}
use Rattle.zone_response.specs.Queries.{Zone, Query, Inquiry, inquiry}
use Rattle.zone_response.specs.Responses.{IsResponse}
use Rattle.zone_response.specs.Sections.{Sections}
use Rattle.zone_response.specs.Aname.{addresses, stand_in_answer}
use Rattle.response_laws.specs.Agreement.{IsOrdinaryZone, IsOrdinary, StandInsLead, IsOrdinaryQuery, Agrees}
use Rattle.response_laws.proofs.Agreement.{responses_agree}
use Rattle.response_laws.proofs.AgreementMet.{soa_stored, other_type, is_ordinary_type}

abbrev a : Name
a = at_origin (codes "a")

abbrev b : Name
b = at_origin (codes "b")

abbrev aname : RrKey × RRset
aname = entry a ANAME (V.ANAME b)

abbrev sets : Sets
sets = start ∷ aname ∷ address b ∷ []

abbrev signatures : RRset → List Record
signatures s = record_of s (V.RRSIG (record { type_covered = record { 0 = s.record_type }; algorithm = 253; num_labels = 2; original_ttl = s.ttl; expiration = 86400; inception = 0; key_tag = 1; signer_name = origin; signature = [] })) ∷ []

abbrev zone : Zone
zone = record { origin = origin; sets = sets; denials = sets; nx_proof_kind = Some kind.Nsec; digest_of = λ algorithm salt n iterations. None; sign = λ signed s. cond signed (signatures s) [] }

aname_stored : IsStoredAt a ANAME aname.1
aname_stored = record { named = name_by_tests a refl refl; owner = refl; record_type = refl; filled = λ e. cc; set = IsSet-alone a ANAME _ refl refl }

address_stored : IsStoredAt b A (address b).1
address_stored = record { named = name_by_tests b refl refl; owner = refl; record_type = refl; filled = λ e. cc; set = IsSet-alone b A _ refl refl }

is_zone : IsZone sets
is_zone =
    IsZone-put (start ∷ aname ∷ []) (key b A) (address b).1
    (IsZone-put (start ∷ []) (key a ANAME) aname.1 (IsZone-put [] (key origin SOA) start.1 IsZone-none soa_stored) aname_stored) address_stored

-- what it owns
data Entry (n : Name) (t : ℕ) : Type 0 where
  the_soa : origin ≡ n → SOA ≡ t → Entry n t
  the_aname : a ≡ n → ANAME ≡ t → Entry n t
  the_address : b ≡ n → A ≡ t → Entry n t

entries : (n : Name) (t : ℕ) → owns sets n t ≡ true → Entry n t
entries n t h = let e = has_entry sets n t h in by e.0 e.1
  where
    by : (s : RRset) → In (key n t, s) sets → Entry n t
    by s (inl e) = the_soa (ap (λ (e : RrKey × RRset). e.0.name) e) (ap (λ (e : RrKey × RRset). e.0.record_type.0) e)
    by s (inr (inl e)) = the_aname (ap (λ (e : RrKey × RRset). e.0.name) e) (ap (λ (e : RrKey × RRset). e.0.record_type.0) e)
    by s (inr (inr (inl e))) = the_address (ap (λ (e : RrKey × RRset). e.0.name) e) (ap (λ (e : RrKey × RRset). e.0.record_type.0) e)
    by s (inr (inr (inr e))) = absurd e

inside : (n : Name) (t : ℕ) → Entry n t → is_at_or_above origin n ≡ true
inside n t (the_soa e k) = ap (is_at_or_above origin) (sym e)
inside n t (the_aname e k) = ap (is_at_or_above origin) (sym e)
inside n t (the_address e k) = ap (is_at_or_above origin) (sym e)

no_alias : (n : Name) → Entry n CNAME → ⊥
no_alias n (the_soa e k) = other_type SOA CNAME refl refl k
no_alias n (the_aname e k) = other_type ANAME CNAME refl refl k
no_alias n (the_address e k) = other_type A CNAME refl refl k

is_ordinary_zone : IsOrdinaryZone origin sets
is_ordinary_zone = record {
  zone = is_zone;
  soa = refl;
  not_wildcard = refl;
  inside = λ n t h. inside n t (entries n t h);
  cnames = record { alone = λ n t f h. absurd (no_alias n (entries n CNAME f)) };
}

-- ---- the query

abbrev asked : Query
asked = record { name = a; record_type = A; class = IN; signed = true }

abbrev inquired : Inquiry
inquired = inquiry zone asked

ordinary : IsOrdinary inquired a
ordinary = record { unturned = refl; not_wildcard = λ k. refl; uncut_wildcard = λ w e. absurd cc; nsec = λ e. absurd (other_type A 47 refl refl e) }

query : IsOrdinaryQuery zone asked
query = record {
  class = refl;
  record_type = is_ordinary_type;
  inside = refl;
  names = λ x i h. names x (Contains-In x (a ∷ []) i);
  addresses = λ x i other. absurd (none x (Contains-In x (a ∷ []) i) other);
}
  where
    names : (x : Name) → In x (a ∷ []) → IsOrdinary inquired x
    names x (inl e) = subst (IsOrdinary inquired) e ordinary
    names x (inr i) = absurd i

    none : (x : Name) → In x (a ∷ []) → x ≢ a → ⊥
    none x (inl e) other = other (sym e)
    none x (inr i) other = absurd i

-- the address of b under a, signed
abbrev plain : RRset
plain = renamed false b a (address b).1

abbrev made : RRset
made = record plain { signatures = signatures plain }

leads : StandInsLead signatures inquired a
leads s h k = record { made = made; leads = by s h; proved = λ u. refl; alike = λ u. refl }
  where
    by : (s : RRset) → Some aname.1 ≡ Some s → stand_in_answer inquired a s ≡ addresses made
    by s h = let same : aname.1 ≡ s = cc in subst (λ (s : RRset). stand_in_answer inquired a s ≡ addresses made) same refl

-- ---- what both say

abbrev response : Sections
response = record { code = code.NoError; authoritative = true; answers = made ∷ []; authorities = []; additionals = []; glue = []; left_at = None }

is_response : IsResponse zone asked response
unfolding path
is_response = record { code = refl; authoritative = refl; answers = refl; authorities = refl; additionals = refl; glue = refl; left_at = refl }

-- a lookup has the ANAME set and the address beside it
abbrev reply : Reply
reply = answered (one_set made) (aname.1 ∷ (address b).1 ∷ [])

looked_up : IsReply signatures origin sets true a A reply
looked_up = record { more = (address b).1 ∷ []; found = (b ∷ [], (refl, refl, tt), refl); sections = refl }

agrees : Agrees zone asked response reply
unfolding path
agrees = responses_agree signatures zone asked response reply is_ordinary_zone query leads refl is_response looked_up
