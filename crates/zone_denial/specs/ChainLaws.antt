-- What the chain of a zone's sets of denial promises to who reads a negative answer
use Rattle.std.specs.Prelude.{◌≡◌, ◌≢◌, ◌↔◌, ◌⊎◌, ℕ, Bool, true, false, List, [], Option, Some, None, Ok, IsTrue, IsFalse}
use Rattle.std.specs.List.{Contains}
use Rattle.zone_proto.specs.declared.nx_proof_kind.NxProofKind.{NxProofKind}
use Rattle.zone_proto.specs.declared.nx_proof_kind.NxProofKind.TheVariants as kind
use Rattle.zone_proto.specs.declared.rdata.denial.NSEC3PARAM.{NSEC3PARAM as Nsec3Parameters}
use Rattle.zone_proto.specs.HashedOwners.{owner_or_refusal}
use Rattle.zone_proto.specs.Names.{Name, is_above, is_at_or_above, wildcard_under, is_wildcard}
use Rattle.zone_proto.specs.Sets.{RRset}
use Rattle.zone_proto.specs.Types.{RRSIG, NSEC, NSEC3, ANY}
use Rattle.zone_map.specs.AnyTypes.{searched_type}
use Rattle.zone_map.specs.Upserts.{is_denial_type}
use Rattle.zone_map.specs.Wildcards.{exists, found, asked_wildcard, asked_wildcard_exists, closest_encloser as longest_existing}
use Rattle.zone_map.specs.Zones.{Sets, IsZone, set_at, owns, types_at, owns_at_or_below}
use Rattle.zone_denial.specs.Authority.{is_below_cut}
use Rattle.zone_denial.specs.Chains.{stays, chain_sets, is_below_dname, is_stated, may_be_left_out, IsNsecChain, IsNsec3Chain}
use Rattle.zone_denial.specs.NsecCircle.{types_of}
use Rattle.zone_denial.specs.NsecDenial.{nsec_encloser, nsec_denial}
use Rattle.zone_denial.specs.Nsec3Denial.{encloser_on, nsec3_denial}
use Rattle.zone_denial.specs.Nsec3Laws.{types3_of, IsSetOf, ProvesWildcardOn, FindsOrEnclosesOn, CoversCloser, Denies}
use Rattle.zone_denial.specs.Nsec3Names.{nsec3_names}
use Rattle.zone_denial.specs.Nsec3Zones.{IsNsec3Zone, IsHashedOn, HasDistinctDigests}
use Rattle.zone_denial.specs.NsecLaws.{IsNsecZone, LastCovers, FindsOrCovers, HasOwnOrCover, IsDenied}
use Rattle.zone_denial.specs.WildcardLaws.{OwnsNone, DeniesWildcard, Nsec3DeniesWildcardOn}

-- ---- the sets of a chain

-- a set of a name and a type is in a zone, and stays
abbrev pub StandsAndStays : Option NxProofKind → Sets → Name → ℕ → RRset → Type 0
StandsAndStays chain m n t s = (set_at m n t ≡ Some s) × IsTrue (stays chain t s)

-- the sets of a chain are those of a zone, and a lookup finds exactly those that stay
abbrev pub ChainSetsAreOfZone : Type 0
ChainSetsAreOfZone = (chain : Option NxProofKind) (m : Sets) → IsZone m → IsZone (chain_sets chain m)

abbrev pub ChainSetsAreExact : Type 0
ChainSetsAreExact = (chain : Option NxProofKind) (m : Sets) → IsZone m → (n : Name) (t : ℕ) (s : RRset) → set_at (chain_sets chain m) n t ≡ Some s ↔ StandsAndStays chain m n t s

-- no name owns a set of denial of the other kind among them
pub record AreOfOneKind (m : Sets) : Type 0 where
  pub nsec : OwnsNone (chain_sets (Some kind.Nsec) m) NSEC3
  pub nsec3 : (algorithm : ℕ) (salt : List ℕ) (iterations : ℕ) (opt_out : Bool) → OwnsNone (chain_sets (Some (kind.Nsec3 algorithm salt iterations opt_out)) m) NSEC

abbrev pub ChainSetsAreOfOneKind : Type 0
ChainSetsAreOfOneKind = (m : Sets) → IsZone m → AreOfOneKind m

-- without the denials a search finds the same among them as in the zone
abbrev pub ChainSetsKeepSets : Type 0
ChainSetsKeepSets = (chain : Option NxProofKind) (m : Sets) (n : Name) (t : ℕ) → IsFalse (is_denial_type t) → set_at (chain_sets chain m) n t ≡ set_at m n t

abbrev pub ChainSetsKeepFound : Type 0
ChainSetsKeepFound = (chain : Option NxProofKind) (m : Sets) (signed : Bool) (n : Name) (t : ℕ) → IsFalse (is_denial_type t) → found (chain_sets chain m) signed n t ≡ found m signed n t

-- of a name: whether it exists, which wildcard is asked for it, and whether it is below a zone cut or a DNAME
pub record KeepsName (chain : Option NxProofKind) (origin : Name) (m : Sets) (n : Name) : Type 0 where
  pub exists : exists (chain_sets chain m) n ≡ exists m n
  pub wildcard_name : asked_wildcard (chain_sets chain m) n ≡ asked_wildcard m n
  pub cut : is_below_cut origin (chain_sets chain m) n ≡ is_below_cut origin m n
  pub dname : is_below_dname (chain_sets chain m) n ≡ is_below_dname m n

abbrev pub ChainSetsKeepNames : Type 0
ChainSetsKeepNames = (chain : Option NxProofKind) (origin : Name) (m : Sets) (n : Name) → KeepsName chain origin m n

-- ---- a circle, as a zone has it that is secured, is a chain, whatever is beside it

abbrev pub NsecCircleIsChain : Type 0
NsecCircleIsChain = (origin : Name) (m : Sets) → IsNsecZone origin m → IsNsecChain origin m

abbrev pub Nsec3CircleIsChain : Type 0
Nsec3CircleIsChain = (origin : Name) (beside m : Sets) (hash : Name → Option (List ℕ)) (parameters : Nsec3Parameters) → IsNsec3Zone origin m hash parameters
    → IsNsec3Chain origin beside m hash parameters (nsec3_names origin m parameters.opt_out)

-- and where the zone has no sets of denial of the other kind, its sets are all of the chain
abbrev pub NsecCircleStays : Type 0
NsecCircleStays = (origin : Name) (m : Sets) → IsNsecZone origin m → OwnsNone m NSEC3 → chain_sets (Some kind.Nsec) m ≡ m

abbrev pub Nsec3CircleStays : Type 0
Nsec3CircleStays = (origin : Name) (m : Sets) (hash : Name → Option (List ℕ)) (parameters : Nsec3Parameters) → IsNsec3Zone origin m hash parameters → OwnsNone m NSEC
    → chain_sets (Some (kind.Nsec3 parameters.algorithm parameters.salt parameters.iterations parameters.opt_out)) m ≡ m

-- ---- NSEC

-- the denial of a name of the zone has the name's own set, or covers the name (RFC 4035 sections 3.1.3.1 and 3.1.3.2)
abbrev pub ChainFindsOrCovers : Type 0
ChainFindsOrCovers = (origin : Name) (m : Sets) → IsNsecChain origin m → (x : Name) → IsTrue (is_at_or_above origin x) → FindsOrCovers m x (nsec_denial origin m x)

-- where a name of the zone has no NSEC set, its denial has that of the wildcard at its closest encloser, or covers the
-- wildcard (RFC 4035 section 3.1.3.2)
abbrev pub ChainProvesWildcard : Type 0
ChainProvesWildcard = (origin : Name) (m : Sets) → IsNsecChain origin m → (x : Name) → IsTrue (is_at_or_above origin x) → IsFalse (owns m x NSEC)
    → HasOwnOrCover m (wildcard_under (nsec_encloser origin m x)) (nsec_denial origin m x)

-- what x owns is in the list of its NSEC set, if that tells of it; and where x has no such set and is a name of the
-- zone, it is below a zone cut or a DNAME
pub record IsListedInChain (origin : Name) (m : Sets) (x : Name) (t : ℕ) : Type 0 where
  pub on : (s : RRset) (types : List ℕ) → set_at m x NSEC ≡ Some s → types_of s ≡ Some types → IsTrue (is_stated origin m x t) → Contains types t
  pub off : IsFalse (owns m x NSEC) → IsTrue (is_at_or_above origin x) → IsTrue (is_below_cut origin m x) ⊎ IsTrue (is_below_dname m x)

abbrev pub ChainListsAllOwned : Type 0
ChainListsAllOwned = (origin : Name) (m : Sets) → IsNsecChain origin m → (x : Name) (t : ℕ) → IsTrue (owns m x t) → IsListedInChain origin m x t

-- where nothing is found for x and t: if neither x nor a name below it owns a set, x isn't in the chain; and if it is, t isn't in its list, RRSIG aside
abbrev pub ChainDenialsAgree : Type 0
ChainDenialsAgree = (origin : Name) (m : Sets) → IsNsecChain origin m → (signed : Bool) (x : Name) (t : ℕ) → t ≢ ANY → found m signed x (searched_type m x t) ≡ None → IsDenied m x t

-- where neither a name of the zone nor one below it owns a set, the denial covers the name, and its next name is neither that one nor below it (RFC 4035 section 5.4)
abbrev pub ChainNoNextBelowAbsent : Type 0
ChainNoNextBelowAbsent = (origin : Name) (m : Sets) → IsNsecChain origin m → (x : Name) → IsTrue (is_at_or_above origin x) → owns_at_or_below m x ≡ false
    → (n : Name) × LastCovers (nsec_denial origin m x) x n × IsFalse (is_at_or_above x n)

-- where a name of the zone is empty, has an owner below it, and neither zone cut nor DNAME above it, the denial covers
-- the name, and its next name is below it (RFC 4592 section 2.2.2)
abbrev pub ChainNextBelowEmpty : Type 0
ChainNextBelowEmpty = (origin : Name) (m : Sets) → IsNsecChain origin m → (x : Name) → IsTrue (is_at_or_above origin x) → types_at m x ≡ [] → owns_at_or_below m x ≡ Bool.true
    → IsFalse (is_below_cut origin m x) → IsFalse (is_below_dname m x) → (n : Name) × LastCovers (nsec_denial origin m x) x n × IsTrue (is_above x n)

-- below the origin, where neither zone cut nor DNAME is above a name, its closest encloser for a denial is its longest
-- ancestor that exists
abbrev pub ChainEnclosersAgree : Type 0
ChainEnclosersAgree = (origin : Name) (m : Sets) → IsNsecChain origin m → OwnsNone m NSEC3 → (x : Name) → IsTrue (is_above origin x) → IsFalse (is_below_cut origin m x) → IsFalse (is_below_dname m x)
    → longest_existing m x ≡ Some (nsec_encloser origin m x)

-- so the wildcard that a denial proves something of is the one that is asked
abbrev pub ChainProvedWildcardIsAsked : Type 0
ChainProvedWildcardIsAsked = (origin : Name) (m : Sets) → IsNsecChain origin m → OwnsNone m NSEC3 → (x : Name) → IsTrue (is_above origin x) → IsFalse (is_below_cut origin m x) → IsFalse (is_below_dname m x)
    → IsFalse (is_wildcard x) → IsFalse (exists m x) → asked_wildcard m x ≡ Some (wildcard_under (nsec_encloser origin m x))

-- and where it doesn't exist, the denial says so (RFC 4035 section 3.1.3.2)
abbrev pub ChainAbsentWildcardIsDenied : Type 0
ChainAbsentWildcardIsDenied = (origin : Name) (m : Sets) → IsNsecChain origin m → OwnsNone m NSEC3 → (x : Name) → IsTrue (is_at_or_above origin x) → IsFalse (is_below_cut origin m x) → IsFalse (is_below_dname m x)
    → IsFalse (is_wildcard x) → IsFalse (owns_at_or_below m x) → IsFalse (asked_wildcard_exists m x) → DeniesWildcard origin m x

-- ---- NSEC3

module _ (origin : Name) (m : Sets) (hash : Name → Option (List ℕ)) where
  -- what x owns besides NSEC3 is in the list of its NSEC3 set, if x is one of the names and the list tells of it; if it
  -- isn't and is a name of the zone, it is below a zone cut, or may be left out
  pub record IsNsec3ListedInChain (opt_out : Bool) (names : List Name) (x : Name) (t : ℕ) : Type 0 where
    pub on : Contains names x → (s : RRset) (types : List ℕ) → IsSetOf origin m hash x s → types3_of s ≡ Some types → IsTrue (is_stated origin m x t) → Contains types t
    pub off : (Contains names x → ⊥) → IsTrue (is_at_or_above origin x) → IsTrue (is_below_cut origin m x) ⊎ IsTrue (may_be_left_out origin m opt_out x)

  -- where nothing is found for x and t and x is one of the names, x or a name below it owns a set, and t isn't in the
  -- list of its NSEC3 set, RRSIG aside, and NSEC where x owns one beside the chain
  pub record IsNsec3DeniedInChain (beside : Sets) (names : List Name) (x : Name) (t : ℕ) : Type 0 where
    pub name : Contains names x → IsTrue (owns_at_or_below m x)
    pub type' : Contains names x → (s : RRset) (types : List ℕ) → IsSetOf origin m hash x s → types3_of s ≡ Some types → Contains types t → (t ≡ RRSIG) ⊎ ((t ≡ NSEC) × IsTrue (owns beside x NSEC))

-- the denial by `nsec3_denial` of a name of the zone has the name's own set, or proves its closest encloser (RFC 5155
-- section 7.2.1), where the origin isn't the root: that call never looks up the root's set
abbrev pub Nsec3ChainFindsOrEncloses : Type 0
Nsec3ChainFindsOrEncloses = (origin : Name) (beside m : Sets) (hash : Name → Option (List ℕ)) (parameters : Nsec3Parameters) (names : List Name) → IsNsec3Chain origin beside m hash parameters names
    → origin ≢ [] → (x : Name) → IsTrue (is_at_or_above origin x) → HasDistinctDigests (IsHashedOn names x) hash
    → (answer : List RRset) × (nsec3_denial m (λ n. owner_or_refusal origin (hash n)) false x ≡ Ok answer) × FindsOrEnclosesOn origin m hash names x answer

-- where a name of such a zone isn't one of the chain's, that denial has the NSEC3 set of the wildcard at its closest
-- encloser, or covers the wildcard (RFC 5155 section 7.2.2)
abbrev pub Nsec3ChainProvesWildcard : Type 0
Nsec3ChainProvesWildcard = (origin : Name) (beside m : Sets) (hash : Name → Option (List ℕ)) (parameters : Nsec3Parameters) (names : List Name) → IsNsec3Chain origin beside m hash parameters names
    → origin ≢ [] → (x : Name) → IsTrue (is_at_or_above origin x) → HasDistinctDigests (IsHashedOn names x) hash → (Contains names x → ⊥)
    → (answer : List RRset) × (nsec3_denial m (λ n. owner_or_refusal origin (hash n)) false x ≡ Ok answer) × ProvesWildcardOn origin m hash names x answer

-- so what denies the name is among the sets of that denial; where a wildcard answered, and the name isn't one of the
-- chain's, what covers the next closer name
abbrev pub Nsec3ChainDenies : Type 0
Nsec3ChainDenies = (origin : Name) (beside m : Sets) (hash : Name → Option (List ℕ)) (parameters : Nsec3Parameters) (names : List Name) → IsNsec3Chain origin beside m hash parameters names
    → origin ≢ [] → (x : Name) → IsTrue (is_at_or_above origin x) → HasDistinctDigests (IsHashedOn names x) hash
    → (answer : List RRset) → nsec3_denial m (λ n. owner_or_refusal origin (hash n)) false x ≡ Ok answer → Denies origin m hash names x answer

abbrev pub Nsec3ChainCoversCloser : Type 0
Nsec3ChainCoversCloser = (origin : Name) (beside m : Sets) (hash : Name → Option (List ℕ)) (parameters : Nsec3Parameters) (names : List Name) → IsNsec3Chain origin beside m hash parameters names
    → origin ≢ [] → (x : Name) → IsTrue (is_at_or_above origin x) → HasDistinctDigests (IsHashedOn names x) hash → (Contains names x → ⊥)
    → (answer : List RRset) → nsec3_denial m (λ n. owner_or_refusal origin (hash n)) true x ≡ Ok answer → CoversCloser origin m hash names x answer

abbrev pub Nsec3ChainListsAllOwned : Type 0
Nsec3ChainListsAllOwned = (origin : Name) (beside m : Sets) (hash : Name → Option (List ℕ)) (parameters : Nsec3Parameters) (names : List Name) → IsNsec3Chain origin beside m hash parameters names
    → (x : Name) (t : ℕ) → t ≢ NSEC3 → IsTrue (owns m x t) → IsNsec3ListedInChain origin m hash parameters.opt_out names x t

abbrev pub Nsec3ChainDenialsAgree : Type 0
Nsec3ChainDenialsAgree = (origin : Name) (beside m : Sets) (hash : Name → Option (List ℕ)) (parameters : Nsec3Parameters) (names : List Name) → IsNsec3Chain origin beside m hash parameters names
    → (signed : Bool) (x : Name) (t : ℕ) → t ≢ ANY → found m signed x (searched_type m x t) ≡ None → IsNsec3DeniedInChain origin m hash beside names x t

-- without opt-out the closest encloser and its wildcard are those of the search, on the same conditions as by NSEC
abbrev pub Nsec3ChainEnclosersAgree : Type 0
Nsec3ChainEnclosersAgree = (origin : Name) (beside m : Sets) (hash : Name → Option (List ℕ)) (parameters : Nsec3Parameters) (names : List Name) → IsNsec3Chain origin beside m hash parameters names
    → IsFalse parameters.opt_out → OwnsNone m NSEC → (x : Name) → IsTrue (is_above origin x) → IsFalse (is_below_cut origin m x) → IsFalse (is_below_dname m x)
    → longest_existing m x ≡ encloser_on names x

abbrev pub Nsec3ChainProvedWildcardIsAsked : Type 0
Nsec3ChainProvedWildcardIsAsked = (origin : Name) (beside m : Sets) (hash : Name → Option (List ℕ)) (parameters : Nsec3Parameters) (names : List Name) → IsNsec3Chain origin beside m hash parameters names
    → IsFalse parameters.opt_out → OwnsNone m NSEC → (x : Name) → IsTrue (is_above origin x) → IsFalse (is_below_cut origin m x) → IsFalse (is_below_dname m x)
    → IsFalse (is_wildcard x) → IsFalse (exists m x) → (a : Name) → encloser_on names x ≡ Some a → asked_wildcard m x ≡ Some (wildcard_under a)

abbrev pub Nsec3ChainAbsentWildcardIsDenied : Type 0
Nsec3ChainAbsentWildcardIsDenied = (origin : Name) (beside m : Sets) (hash : Name → Option (List ℕ)) (parameters : Nsec3Parameters) (names : List Name) → IsNsec3Chain origin beside m hash parameters names
    → origin ≢ [] → IsFalse parameters.opt_out → OwnsNone m NSEC → (x : Name) → IsTrue (is_at_or_above origin x) → IsFalse (is_below_cut origin m x) → IsFalse (is_below_dname m x)
    → HasDistinctDigests (IsHashedOn names x) hash → IsFalse (is_wildcard x) → IsFalse (owns_at_or_below m x) → IsFalse (asked_wildcard_exists m x) → Nsec3DeniesWildcardOn origin m hash names x
