-- What a response says to who asked, read in the response alone (RFC 2308 section 2)
use Rattle.std.specs.Prelude.{◌≡◌, ◌≢◌, ℕ, Bool, ◌&&◌, ◌||◌, not, ◌⊎◌, cond, List, [], ◌∷◌, ◌==◌, Option, Some, None, find, option_and_then}
use Rattle.std.specs.List.{list_any}
use Rattle.std.specs.Option.{option_map_or}
use Rattle.zone_proto.specs.declared.response_code.ResponseCode.{ResponseCode}
use Rattle.zone_proto.specs.declared.response_code.ResponseCode.TheVariants as code
use Rattle.zone_proto.specs.Names.{Name, lower, same_name, is_above, is_at_or_above}
use Rattle.zone_proto.specs.Sets.{RRset}
use Rattle.zone_proto.specs.Types.{NS, CNAME, SOA, RRSIG, ANY, DNAME}
use Rattle.zone_map.specs.Chains.{cname_target}
use Rattle.zone_map.specs.Zones.{IsZone}
use Rattle.zone_response.specs.Paths.{is_sought, path}
use Rattle.zone_response.specs.Queries.{Zone, Query, HasOwnDenials, inquiry}
use Rattle.zone_response.specs.Responses.{bare, yx_domain}
use Rattle.zone_response.specs.Sections.{Sections}
use Rattle.zone_response.specs.Steps.{End, complete, referred, missing, outside, unfollowed, too_long, failed}
use Rattle.response_laws.specs.Failures.{WhyAlone}
use Rattle.response_laws.specs.Servers.{Server}

pub data Saying : Type 0 where
  -- these are the data of this name
  data_of : Name → Saying
  -- there is no such name (RFC 2308 section 2.1)
  name_error : Name → Saying
  -- the name is there, and has no data of the type that is asked for (RFC 2308 section 2.2)
  no_data : Name → Saying
  -- the name and those below it are another zone's (RFC 1034 section 4.3.2 step 3b)
  referral : Name → Saying

-- a set of type t
abbrev pub is_of : ℕ → RRset → Bool
is_of t s = s.record_type == t

-- ---- the answer section

-- an alias isn't followed where its own type is asked for, or any (RFC 1034 section 3.6.2, RFC 8482 section 4.1)
abbrev pub asks_alias : ℕ → Bool
asks_alias t = (t == CNAME) || (t == ANY)

-- the name that a set leads on to from x, for a question of t: the target of an alias that x owns
abbrev pub leads_to : ℕ → Name → RRset → Option Name
leads_to t x s = cond (asks_alias t || not (same_name s.owner x)) None (cname_target s)

-- a DNAME set of a name above x, behind which stands the CNAME that it makes for x (RFC 6672 section 3.2)
abbrev pub renames : Name → RRset → Bool
renames x s = is_of DNAME s && is_above (lower s.owner) (lower x)

-- what a set is to who follows the aliases, and has come to x
pub data Passage : Type 0 where
  -- it is passed over, and the next one is looked at
  passed : Passage
  -- it leads on to this name
  leads_on : Name → Passage
  -- it does neither, so that x is the last name
  stays : Passage

abbrev pub passage : ℕ → Name → RRset → Passage
passage t x s = cond (renames x s) passed (option_map_or leads_on (leads_to t x s) stays)

-- the last name of an answer section, with the sets that come after the aliases to it
pub record LastName : Type 0 where
  pub name : Name
  pub sets : List RRset

-- what is last behind a set at x, which is this itself where it stays
abbrev pub last_behind : Passage → Name → (Name → LastName) → LastName → LastName
last_behind passed x further itself = further x
last_behind (leads_on y) x further itself = further y
last_behind stays x further itself = itself

-- along the aliases from x on
abbrev pub last_name : ℕ → Name → List RRset → LastName
last_name t x [] = record { name = x; sets = [] }
last_name t x (s ∷ sets) = last_behind (passage t x s) x (λ y. last_name t y sets) (record { name = x; sets = s ∷ sets })

-- ---- the authority section

-- the servers of a name at x or above it are asked next
abbrev pub referral_to : Name → RRset → Option Saying
referral_to x s = cond (is_at_or_above (lower s.owner) (lower x)) (Some (referral (lower s.owner))) None

-- without an answer, an SOA tells that x has no data, and NS without SOA which other zone is to be asked (RFC 2308 section 2.2)
abbrev pub unanswered : Name → List RRset → Option Saying
unanswered x authorities = cond (list_any (is_of SOA) authorities) (Some (no_data x)) (option_and_then (referral_to x) (find (is_of NS) authorities))

-- ---- by the code

-- x owns a set, and it is of type t, where t isn't a question of any type or of signatures
abbrev pub is_answer : ℕ → Name → RRset → Bool
is_answer t x s = same_name s.owner x && (is_of t s || (t == ANY) || (t == RRSIG))

-- without error: one set behind the aliases to x is the answer; or with none there, one that was passed, of all these
abbrev pub without_error : ℕ → List RRset → Name → List RRset → List RRset → Option Saying
without_error t answers x [] authorities = cond (list_any (is_sought t x) answers) (Some (data_of x)) (unanswered x authorities)
without_error t answers x (s ∷ []) authorities = cond (is_answer t x s) (Some (data_of x)) None
without_error t answers x (s ∷ (r ∷ sets)) authorities = None

-- with a name error, there is none
abbrev pub with_name_error : Name → List RRset → Option Saying
with_name_error x [] = Some (name_error x)
with_name_error x (s ∷ sets) = None

-- any other code says nothing of a name
abbrev pub by_code : ℕ → ResponseCode → List RRset → LastName → List RRset → Option Saying
by_code t code.NoError answers last authorities = without_error t answers last.name last.sets authorities
by_code t code.NXDomain answers last authorities = with_name_error last.name last.sets
by_code t _ answers last authorities = None

-- what a response says to a query; nothing, where it has another form
abbrev pub saying : Query → Sections → Option Saying
saying q r = by_code q.record_type r.code r.answers (last_name q.record_type q.name r.answers) r.authorities

-- the name of which something is said
abbrev pub name_of : Saying → Name
name_of (data_of x) = x
name_of (name_error x) = x
name_of (no_data x) = x
name_of (referral x) = x

-- ---- what is to be said

-- with this code, aliases lead from the name that is asked for to x, of which nothing is said
pub record LeadsAway (q : Query) (r : Sections) (c : ResponseCode) (x : Name) : Type 0 where
  pub code : r.code ≡ c
  pub leads : last_name q.record_type q.name r.answers ≡ record { name = x; sets = [] }
  pub aliases : r.answers ≢ []
  pub silent : saying q r ≡ None

-- what is said where a search ends: nothing of a name outside the zone, of one that isn't followed any farther, or of one to which a DNAME gives a name that is too long (RFC 6672 section 2.2); but the aliases that lead there are told
abbrev pub SaysEnd : Query → Sections → End → Type 0
SaysEnd q r complete = (x : Name) × (saying q r ≡ Some (data_of x))
SaysEnd q r (referred c) = saying q r ≡ Some (referral (lower c.owner))
SaysEnd q r (missing x wildcard_name there) = saying q r ≡ Some (cond there (no_data x) (name_error x))
SaysEnd q r (outside x) = LeadsAway q r code.NoError x
SaysEnd q r unfollowed = (x : Name) × LeadsAway q r code.NoError x
SaysEnd q r too_long = (x : Name) × LeadsAway q r yx_domain x
SaysEnd q r failed = ⊥

-- a response is a code alone, for which there is a reason, or it says how its search ends
abbrev pub SaysHowItEnds : Zone → Query → Sections → Type 0
SaysHowItEnds z q r = ((r ≡ bare r.code) × WhyAlone z q r.code) ⊎ SaysEnd q r (path (inquiry z q) q.name).end

-- so it is of each response of each zone, signed or not
abbrev pub ResponseSaysHowItEnds : Server → Type 0
ResponseSaysHowItEnds server = (z : Zone) (q : Query) (r : Sections) → IsZone z.sets → HasOwnDenials z → server z q r → SaysHowItEnds z q r
