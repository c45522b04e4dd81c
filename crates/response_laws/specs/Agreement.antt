-- Where the answers of a response are those of a lookup
use Rattle.std.specs.Prelude.{◌≡◌, ◌≢◌, ◌⊎◌, ℕ, cond, List, [], ◌∷◌, ◌++◌, map, Option, Some, None, option_to_list, IsOk, IsTrue, IsFalse, ⊤}
use Rattle.std.specs.List.{Contains}
use Rattle.std.specs.Option.{option_map_or}
use Rattle.zone_proto.specs.declared.nx_proof_kind.NxProofKind.{NxProofKind}
use Rattle.zone_proto.specs.declared.nx_proof_kind.NxProofKind.TheVariants as kind
use Rattle.zone_proto.specs.declared.record.Record.{Record}
use Rattle.zone_proto.specs.declared.response_code.ResponseCode.{ResponseCode}
use Rattle.zone_proto.specs.declared.response_code.ResponseCode.TheVariants as code
use Rattle.zone_proto.specs.Names.{Name, is_at_or_above, is_wildcard}
use Rattle.zone_proto.specs.Sets.{RRset}
use Rattle.zone_proto.specs.Types.{NS, CNAME, SOA, RRSIG, NSEC, NSEC3, ANY, IN}
use Rattle.zone_map.specs.Chains.{chain_links, last_target, leads_on}
use Rattle.zone_map.specs.Upserts.{CnamesStandAlone}
use Rattle.zone_map.specs.Wildcards.{exists, found}
use Rattle.zone_map.specs.Zones.{Sets, owns, owns_at_or_below, IsZone}
use Rattle.zone_lookup.specs.Flattening.{stands_for_addresses}
use Rattle.zone_lookup.specs.Replies.{NegativeAnswer, name_exists, nx_domain, refused, negative_answer, Answers, one_set, chained, Reply, negative, answered, is_followed, IsReply}
use Rattle.zone_response.specs.Denials.{hashed_owner_of}
use Rattle.zone_response.specs.Paths.{Path, path}
use Rattle.zone_response.specs.Queries.{Zone, Query, Inquiry, inquiry}
use Rattle.zone_response.specs.QueryTypes.{is_no_data}
use Rattle.zone_response.specs.Responses.{lacks_proofs}
use Rattle.zone_response.specs.Sections.{Sections, as_it_is, part_for, is_signed}
use Rattle.zone_response.specs.Wildcards.{asked_wildcard}
use Rattle.zone_response.specs.Aname.{addresses, stand_in_answer}
use Rattle.zone_response.specs.Descent.{diversion}
use Rattle.response_laws.specs.Servers.{Server}

-- ---- what both find alike

-- a zone whose origin owns SOA and doesn't begin with `*`, that has no set outside it, and in which a CNAME is alone
-- (RFC 1034 section 3.6.2)
pub record IsOrdinaryZone (origin : Name) (m : Sets) : Type 0 where
  pub zone : IsZone m
  pub soa : IsTrue (owns m origin SOA)
  pub not_wildcard : IsFalse (is_wildcard origin)
  pub inside : (n : Name) (t : ℕ) → IsTrue (owns m n t) → IsTrue (is_at_or_above origin n)
  pub cnames : CnamesStandAlone m

-- one type of data: for ANY and RRSIG a response chooses a type (RFC 8482 section 4.1), and no name of the zone owns NSEC3 (RFC 5155 section 7.2.8)
pub record IsOrdinaryType (t : ℕ) : Type 0 where
  pub searched : IsFalse (is_no_data t)
  pub one : t ≢ ANY
  pub no_signature : t ≢ RRSIG
  pub no_hashed : t ≢ NSEC3

-- nothing turns the search on the way down to a name; and if it doesn't exist, it doesn't begin with `*` (RFC 4592
-- section 2.3), and the wildcard at its closest encloser owns no NS (section 4.2). Where NSEC is asked for, the one of
-- the two that owns it exists and is no alias (RFC 4035 section 2.5)
pub record IsOrdinary (q : Inquiry) (x : Name) : Type 0 where
  pub unturned : diversion q.origin q.sets x q.record_type ≡ None
  pub not_wildcard : IsFalse (exists q.sets x) → IsFalse (is_wildcard x)
  pub uncut_wildcard : (w : Name) → asked_wildcard q.sets x ≡ Some w → IsFalse (owns q.sets w NS)
  pub nsec : q.record_type ≡ NSEC → (a : Name) → (a ≡ x) ⊎ (asked_wildcard q.sets x ≡ Some a) → IsTrue (owns q.sets a NSEC) → IsTrue (exists q.sets a) × IsFalse (owns q.sets a CNAME)

-- no ANAME set stands in for the addresses of a name
abbrev pub NoStandIn : Inquiry → Name → Type 0
NoStandIn q x = (s : RRset) → found q.sets q.signed x q.record_type ≡ Some s → IsFalse (stands_for_addresses q.record_type s)

-- an ANAME set of x leads to addresses, which have a signature where what is said has to be proved. Where the query asks for DNSSEC, a lookup signs them alike, by `sign`: it is asked at the same moment
pub record LeadsToAddresses (sign : RRset → List Record) (q : Inquiry) (x : Name) (s : RRset) : Type 0 where
  pub made : RRset
  pub leads : stand_in_answer q x s ≡ addresses made
  pub proved : IsTrue q.is_proved → IsTrue (is_signed made)
  pub alike : IsTrue q.signed → sign (record made { signatures = [] }) ≡ q.sign (record made { signatures = [] })

-- so does each that stands in for the addresses of x
abbrev pub StandInsLead : (RRset → List Record) → Inquiry → Name → Type 0
StandInsLead sign q x = (s : RRset) → found q.sets q.signed x q.record_type ≡ Some s → IsTrue (stands_for_addresses q.record_type s) → LeadsToAddresses sign q x s

-- ---- the names that are searched

-- the name to which a chain leads on: no set is found for it
abbrev pub led_on_to : List (Name × RRset) → Option Name
led_on_to es = cond (leads_on es) (last_target es) None

-- the name at which the search from x on finds no set: x itself, or the one to which its chain leads on
abbrev pub unfound_name : Inquiry → Name → Option Name
unfound_name q x =
    option_map_or (λ s. cond (is_followed q.record_type s) (led_on_to (chain_links q.sets q.signed x s q.record_type)) None)
    (found q.sets q.signed x q.record_type) (Some x)

-- the names that are searched for a chain: those of its sets, and the one to which it leads on
abbrev pub chain_names : List (Name × RRset) → List Name
chain_names es = map (λ e. e.0) es ++ option_to_list (led_on_to es)

-- the names that are searched from x on: those of its chain, if it is an alias that is followed, and else x alone
abbrev pub searched_names : Inquiry → Name → List Name
searched_names q x =
    option_map_or (λ s. cond (is_followed q.record_type s) (chain_names (chain_links q.sets q.signed x s q.record_type)) (x ∷ []))
    (found q.sets q.signed x q.record_type) (x ∷ [])

-- ---- the query

-- each name of the zone that is searched is one that both find alike; and for none behind an alias an ANAME set stands in, whose targets a lookup doesn't follow there
pub record IsOrdinaryQuery (z : Zone) (q : Query) : Type 0 where
  pub class : q.class ≡ IN
  pub record_type : IsOrdinaryType q.record_type
  pub inside : IsTrue (is_at_or_above z.origin q.name)
  pub names : (x : Name) → Contains (searched_names (inquiry z q) q.name) x → IsTrue (is_at_or_above z.origin x) → IsOrdinary (inquiry z q) x
  pub addresses : (x : Name) → Contains (searched_names (inquiry z q) q.name) x → x ≢ q.name → NoStandIn (inquiry z q) x

-- the sets that prove what a path says are found: each name that is hashed for them has a hashed owner
abbrev pub IsProvable : Zone → Query → Path → Type 0
IsProvable z q p = IsFalse (lacks_proofs z q.signed p.made p.end)

-- ---- the agreement

-- the sets of an answer section
abbrev pub sets_of : Answers → List RRset
sets_of (one_set s) = s ∷ []
sets_of (chained sets) = sets

-- the sets of a reply that answer
abbrev pub answer_sets_of : Reply → List RRset
answer_sets_of (negative d) = []
answer_sets_of (answered answers more) = sets_of answers

-- the code of a negative answer (RFC 2308 section 2)
abbrev pub code_of : NegativeAnswer → ResponseCode
code_of name_exists = code.NoError
code_of nx_domain = code.NXDomain
code_of refused = code.Refused

-- a name, if it or one below it owns sets at all, exists: so it isn't the owner of sets of denial alone
abbrev pub IsNoDenialOwner : Sets → Name → Type 0
IsNoDenialOwner m x = IsTrue (owns_at_or_below m x) → IsTrue (exists m x)

pub record Agrees (z : Zone) (q : Query) (r : Sections) (reply : Reply) : Type 0 where
  -- the sets that answer are the same, as they are sent
  pub answers : r.answers ≡ map (as_it_is (part_for q.signed)) (answer_sets_of reply)
  -- a negative answer is that of the queried name
  pub denied : (d : NegativeAnswer) → reply ≡ negative d → (unfound_name (inquiry z q) q.name ≡ Some q.name) × (d ≡ negative_answer z.origin z.sets q.name)
  -- where the search ends without a set, the code is that of the negative answer that a lookup has for the name there
  -- (RFC 6604 section 3), unless sets of denial alone are at that name
  pub unfound : (x : Name) → unfound_name (inquiry z q) q.name ≡ Some x → IsTrue (is_at_or_above z.origin x) → IsNoDenialOwner z.sets x → r.code ≡ code_of (negative_answer z.origin z.sets x)
  -- and where that is a name error, in any case
  pub name_error : (x : Name) → unfound_name (inquiry z q) q.name ≡ Some x → negative_answer z.origin z.sets x ≡ nx_domain → r.code ≡ code.NXDomain
  -- where it ends with a set or outside the zone, there is no error
  pub no_error : ((x : Name) → unfound_name (inquiry z q) q.name ≡ Some x → IsFalse (is_at_or_above z.origin x)) → r.code ≡ code.NoError

-- each response to such a query agrees with each reply of a lookup, whatever signs it, but for addresses by ANAME
abbrev pub ResponsesAgree : Server → Type 0
ResponsesAgree server =
    (sign : RRset → List Record) (z : Zone) (q : Query) (r : Sections) (reply : Reply) → IsOrdinaryZone z.origin z.sets → IsOrdinaryQuery z q → StandInsLead sign (inquiry z q) q.name → IsProvable z q (path (inquiry z q) q.name)
    → server z q r → IsReply sign z.origin z.sets q.signed q.name q.record_type reply → Agrees z q r reply

-- ---- what is provable

-- where a zone denies by hashed names, each name has a hashed owner (RFC 5155 sections 3 and 5)
abbrev pub HasHashedOwners : Zone → Option NxProofKind → Type 0
HasHashedOwners z (Some (kind.Nsec3 algorithm salt iterations opt_out)) = (x : Name) → IsOk (hashed_owner_of z algorithm salt iterations x)
HasHashedOwners z _ = ⊤

-- then whatever a path says is provable, and without DNSSEC nothing needs to be proved
abbrev pub ProvableByOwners : Type 0
ProvableByOwners = (z : Zone) (q : Query) (p : Path) → (IsTrue q.signed → HasHashedOwners z z.nx_proof_kind) → IsProvable z q p
