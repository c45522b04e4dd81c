-- The response of an authoritative server to a query
use Rattle.std.specs.Prelude.{◌≡◌, ℕ, Bool, true, false, ◌&&◌, ◌||◌, not, cond, List, [], ◌∷◌, ◌++◌, ◌==◌, length, map, min, Option, Some, None, option_to_list}
use Rattle.std.specs.Option.{option_map_or}
use Rattle.zone_proto.specs.declared.response_code.ResponseCode.{ResponseCode}
use Rattle.zone_proto.specs.declared.response_code.ResponseCode.TheVariants as code
use Rattle.zone_proto.specs.Names.{Name, lower, is_at_or_above}
use Rattle.zone_proto.specs.Sets.{RRset}
use Rattle.zone_proto.specs.Types.{IN, SOA, DS}
use Rattle.zone_map.specs.Zones.{Sets, set_at}
use Rattle.zone_lookup.specs.Flattening.{last_set}
use Rattle.zone_lookup.specs.StartOfAuthority.{first_soa}
use Rattle.zone_response.specs.declared.response.Part.TheVariants as part
use Rattle.zone_response.specs.Denials.{proofs, hashed_names, is_provable, sent_proof}
use Rattle.zone_response.specs.Additional.{beside, sibling_glue, glue}
use Rattle.zone_response.specs.Paths.{Path, path}
use Rattle.zone_response.specs.Queries.{Zone, Query, Inquiry, inquiry}
use Rattle.zone_response.specs.QueryTypes.{is_no_data}
use Rattle.zone_response.specs.Sections.{Sections, sent, as_it_is, part_for}
use Rattle.zone_response.specs.Steps.{End, complete, referred, missing, outside, too_long, failed}

-- ---- the parts

-- a response of a code alone
abbrev pub bare : ResponseCode → Sections
bare c = record { code = c; authoritative = false; answers = []; authorities = []; additionals = []; glue = []; left_at = None }

-- YXDOMAIN: a name exists that shouldn't (RFC 2136 section 2.2)
abbrev pub yx_domain : ResponseCode
yx_domain = code.Other 6

-- the code is that of the last name of a chain (RFC 6604 section 3): a name error where neither the name nor the
-- wildcard exists that is asked for it (RFC 2308 section 2.1), and YXDOMAIN where a DNAME gives it a name that is too
-- long (RFC 6672 section 2.2)
abbrev pub code_at : End → ResponseCode
code_at (missing x wildcard_name there) = cond there code.NoError code.NXDomain
code_at too_long = yx_domain
code_at _ = code.NoError

-- the server is no authority for what it only refers; behind an alias of its own zone it is one for the first name (RFC 1035 section 4.1.1)
abbrev pub is_authority : End → List RRset → Bool
is_authority (referred c) answers = not (length answers == 0)
is_authority _ answers = true

-- the TTL of a negative response, from the zone's SOA set: the lesser of the set's and of the SOA's minimum (RFC 2308 section 3)
abbrev pub negative_ttl : RRset → ℕ
negative_ttl soa = option_map_or (λ a. min soa.ttl a.minimum) (first_soa soa.records) soa.ttl

-- the DS set of a child
abbrev pub child_ds : Sets → RRset → Option RRset
child_ds m c = set_at m (lower c.owner) DS

-- the DS set of the child to which a search is referred
abbrev pub ds_at : Sets → End → Option RRset
ds_at m (referred c) = child_ds m c
ds_at m _ = None

-- the NS set of a child, which isn't signed here (RFC 4035 section 2.2), and with DNSSEC its DS set, if it has one (section 3.1.4)
abbrev pub referral_sets : Option RRset → Bool → RRset → List RRset
referral_sets ds signed c = as_it_is part.Records c ∷ cond signed (map (as_it_is part.Signed) (option_to_list ds)) []

-- what the authority section begins with: the SOA of a negative response (RFC 2308 section 3), or the sets of a referral
abbrev pub end_sets : Option RRset → Bool → RRset → End → List RRset
end_sets ds signed soa (missing x wildcard_name there) = sent (part_for signed) (negative_ttl soa) soa ∷ []
end_sets ds signed soa (referred c) = referral_sets ds signed c
end_sets ds signed soa _ = []

-- the sets that prove what is said, where the query asks for DNSSEC
abbrev pub proof_sets : Zone → Option RRset → Bool → List Name → End → List RRset
proof_sets z ds signed made end = cond signed (proofs z ds made end) []

-- the names that are hashed for them, and whether one of these has no hashed owner, so that they can't be found
abbrev pub hashed_with : Zone → Option RRset → Bool → List Name → End → List Name
hashed_with z ds signed made end = cond signed (hashed_names z ds made end) []

abbrev pub lacks_proofs_with : Zone → Option RRset → Bool → List Name → End → Bool
lacks_proofs_with z ds signed made end = signed && not (is_provable z ds made end)

-- the authority section, where the child that is referred to has this DS set
abbrev pub authority_sets_with : Zone → Option RRset → Bool → RRset → List Name → End → List RRset
authority_sets_with z ds signed soa made end = end_sets ds signed soa end ++ map (sent_proof (negative_ttl soa)) (proof_sets z ds signed made end)

abbrev pub authority_sets : Zone → Bool → RRset → List Name → End → List RRset
authority_sets z signed soa made end = authority_sets_with z (ds_at z.sets end) signed soa made end

abbrev pub hashed_for : Zone → Bool → List Name → End → List Name
hashed_for z signed made end = hashed_with z (ds_at z.sets end) signed made end

abbrev pub lacks_proofs : Zone → Bool → List Name → End → Bool
lacks_proofs z signed made end = lacks_proofs_with z (ds_at z.sets end) signed made end

-- beside the last set of an answer
abbrev pub beside_last : Inquiry → List RRset → List RRset
beside_last q answers = option_map_or (beside q.origin q.sets q.signed) (last_set answers) []

-- beside an answer, and beside a referral
abbrev pub additional_sets : Inquiry → List RRset → End → List RRset
additional_sets q answers complete = beside_last q answers
additional_sets q answers (referred c) = sibling_glue q.origin q.sets q.signed c
additional_sets q answers _ = []

abbrev pub glue_at : Sets → End → List RRset
glue_at m (referred c) = glue m c
glue_at m _ = []

-- where a chain leaves the zone
abbrev pub left_at : End → Option Name
left_at (outside x) = Some x
left_at _ = None

-- the response of a path, with these sets in its authority section
pub record IsResponseBy (q : Inquiry) (p : Path) (sets : List RRset) (r : Sections) : Type 0 where
  pub code : r.code ≡ code_at p.end
  pub authoritative : r.authoritative ≡ is_authority p.end p.answers
  pub answers : r.answers ≡ p.answers
  pub authorities : r.authorities ≡ sets
  pub additionals : r.additionals ≡ additional_sets q p.answers p.end
  pub glue : r.glue ≡ glue_at q.sets p.end
  pub left_at : r.left_at ≡ left_at p.end

-- ---- what comes of a query

pub data Outcome : Type 0 where
  -- it isn't searched
  refused : ResponseCode → Outcome
  -- the zone has no SOA, and so is none
  without_soa : Outcome
  -- the search came to what this server doesn't answer
  failing : Outcome
  -- a name has no hashed owner of which something is to be proved
  unprovable : Outcome
  -- the search took this path, and these sets are in the authority section
  answered : Path → List RRset → Outcome

-- the code of a query that isn't searched: of another class than the zone's or outside the zone; and of a type that is no data
abbrev pub refusal : Name → Query → Option ResponseCode
refusal origin q =
    cond (not (q.class == IN) || not (is_at_or_above origin q.name)) (Some code.Refused)
    (cond (is_no_data q.record_type) (Some code.NotImp) None)

-- a search fails at what this server doesn't answer: at a DNAME set without a target, and where an ANAME stands in for addresses that the zone can't tell, or would have to sign
abbrev pub fails : End → Bool
fails failed = true
fails _ = false

-- along a path that doesn't fail, in a zone with this SOA set
abbrev pub outcome_proven : Zone → Bool → RRset → Path → Outcome
outcome_proven z signed soa p = cond (lacks_proofs z signed p.made p.end) unprovable (answered p (authority_sets z signed soa p.made p.end))

-- along a path
abbrev pub outcome_along : Zone → Bool → RRset → Path → Outcome
outcome_along z signed soa p = cond (fails p.end) failing (outcome_proven z signed soa p)

-- of a search for x
abbrev pub outcome_of : Zone → Inquiry → Name → Outcome
outcome_of z q x = option_map_or (λ soa. outcome_along z q.signed soa (path q x)) (set_at z.sets z.origin SOA) without_soa

abbrev pub outcome : Zone → Query → Outcome
outcome z q = option_map_or refused (refusal z.origin q) (outcome_of z (inquiry z q) q.name)

-- ---- the response

-- of an outcome; a refusal is its code alone, and so is ServFail where the zone can't answer
abbrev pub IsResponseTo : Inquiry → Outcome → Sections → Type 0
IsResponseTo q (refused c) r = r ≡ bare c
IsResponseTo q (answered p sets) r = IsResponseBy q p sets r
IsResponseTo q _ r = r ≡ bare code.ServFail

abbrev pub IsResponse : Zone → Query → Sections → Type 0
IsResponse z q r = IsResponseTo (inquiry z q) (outcome z q) r

-- ---- the names that are hashed for it

abbrev pub path_hashed : Zone → Bool → Path → List Name
path_hashed z signed p = hashed_for z signed p.made p.end

abbrev pub query_hashed : Zone → Query → List Name
query_hashed z q = path_hashed z q.signed (path (inquiry z q) q.name)
