-- What the circle of NSEC3 sets promises to who reads a negative answer
use Rattle.std.specs.Prelude.{◌≡◌, ◌≢◌, ℕ, Bool, false, ◌⊎◌, List, [], ◌∷◌, map, Option, Some, None, option_map, Ok, IsTrue}
use Rattle.std.specs.List.{AllByRecursion, Contains}
use Rattle.zone_proto.specs.declared.rdata.denial.NSEC3.{NSEC3 as Nsec3Data}
use Rattle.zone_proto.specs.declared.rdata.denial.NSEC3PARAM.{NSEC3PARAM as Nsec3Parameters}
use Rattle.zone_proto.specs.HashedOwners.{hashed_owner, owner_or_refusal}
use Rattle.zone_proto.specs.Names.{Name, octets_cmp, is_at_or_above, wildcard_under}
use Rattle.zone_proto.specs.Ranges.{IsOctet}
use Rattle.zone_proto.specs.Sets.{RRset}
use Rattle.zone_proto.specs.Types.{NS, RRSIG, NSEC3}
use Rattle.zone_map.specs.AnyTypes.{searched_type}
use Rattle.zone_map.specs.Wildcards.{found}
use Rattle.zone_map.specs.Zones.{Sets, IsZone, set_at, owns, owns_at_or_below}
use Rattle.zone_denial.specs.Authority.{is_below_cut}
use Rattle.zone_denial.specs.Covering.{covers}
use Rattle.zone_denial.specs.Nsec3Circle.{first_nsec3}
use Rattle.zone_denial.specs.Nsec3Denial.{encloser_on, next_closer, nsec3_denial}
use Rattle.zone_denial.specs.Nsec3Names.{nsec3_names}
use Rattle.zone_denial.specs.Nsec3Sets.{HasNsec3Sets}
use Rattle.zone_denial.specs.Nsec3Zones.{IsNsec3Zone, IsCircleName, IsHashed, HasDistinctDigests}

-- the next digest that a set's first record says
abbrev pub next_digest_of : RRset → Option (List ℕ)
next_digest_of s = option_map (λ (a : Nsec3Data). a.next_hashed_owner_name) (first_nsec3 s.records)

-- the types that it lists
abbrev pub types3_of : RRset → Option (List ℕ)
types3_of s = option_map (λ (a : Nsec3Data). map (λ t. t.0) a.types) (first_nsec3 s.records)

-- a zone that is secured by NSEC3 sets has a circle of them, so that NSEC3 denies it, where the hash tells the names of the circle apart
abbrev pub SecuredIsNsec3Circle : Type 0
SecuredIsNsec3Circle = (origin : Name) (m after : Sets) (hash : Name → Option (List ℕ)) (parameters : Nsec3Parameters) (ttl serial : ℕ)
    → origin ≢ [] → IsZone after → HasNsec3Sets origin m hash parameters ttl serial after
    → HasDistinctDigests (IsCircleName origin m parameters.opt_out) hash → IsNsec3Zone origin after hash parameters

module _ (origin : Name) (m : Sets) (hash : Name → Option (List ℕ)) where
  -- the NSEC3 set of a name: that at its hashed owner
  abbrev pub IsSetOf : Name → RRset → Type 0
  IsSetOf n s = (d : List ℕ) × (hash n ≡ Some d) × (set_at m (hashed_owner origin d) NSEC3 ≡ Some s)

  -- a set covers a name: the digest of the one lies between that of the set's owner and the next one that it says (RFC 5155 section 1.3)
  pub record CoversName (s : RRset) (n : Name) : Type 0 where
    pub owner : List ℕ
    pub octets : AllByRecursion IsOctet owner
    pub next : List ℕ
    pub digest : List ℕ
    pub stands : set_at m (hashed_owner origin owner) NSEC3 ≡ Some s
    pub said : next_digest_of s ≡ Some next
    pub hashed : hash n ≡ Some digest
    pub covered : IsTrue (covers octets_cmp owner next digest)

  -- an answer has the NSEC3 set of a name
  abbrev pub HasSetOf : Name → List RRset → Type 0
  HasSetOf n answer = (s : RRset) × IsSetOf n s × Contains answer s

  -- ---- by names that have NSEC3 sets

  module _ (names : List Name) where
    -- an answer has the NSEC3 set of n, where n is one of the names, and else a set that covers n
    pub record HasSetOrCoverOn (n : Name) (answer : List RRset) : Type 0 where
      pub on : Contains names n → (s : RRset) × IsSetOf n s × Contains answer s
      pub off : (Contains names n → ⊥) → (s : RRset) × CoversName s n × Contains answer s

    -- an answer has the set of the wildcard at the closest encloser of x, or covers the wildcard
    pub record ProvesWildcardOn (x : Name) (answer : List RRset) : Type 0 where
      pub encloser : Name
      pub is_encloser : encloser_on names x ≡ Some encloser
      pub wildcard_name : HasSetOrCoverOn (wildcard_under encloser) answer

    -- an answer has the set of the closest encloser of x, and one that covers the next closer name (RFC 5155 section 7.2.1)
    pub record ProvesEncloserOn (x : Name) (answer : List RRset) : Type 0 where
      pub encloser : Name
      pub is_encloser : encloser_on names x ≡ Some encloser
      pub closer : Name
      pub is_closer : next_closer x encloser ≡ Some closer
      pub match : RRset
      pub matches : IsSetOf encloser match
      pub has_match : Contains answer match
      pub cover : RRset
      pub covers : CoversName cover closer
      pub has_cover : Contains answer cover

    -- an answer is the NSEC3 set of x alone, where x is one of the names; else it proves the closest encloser
    pub record FindsOrEnclosesOn (x : Name) (answer : List RRset) : Type 0 where
      pub on : Contains names x → (s : RRset) × IsSetOf x s × (answer ≡ s ∷ [])
      pub off : (Contains names x → ⊥) → ProvesEncloserOn x answer

    -- ---- the sets that deny a name, among those of an answer

    -- the set of one of the names covers n
    pub record HasCoverOf (n : Name) (answer : List RRset) : Type 0 where
      pub name : Name
      pub on : Contains names name
      pub set : RRset
      pub covers : CoversName set n
      pub own : hash name ≡ Some covers.owner
      pub among : Contains answer set

    -- a wildcard answered for x: what covers the next closer name (RFC 5155 section 7.2.6)
    pub record CoversCloser (x : Name) (answer : List RRset) : Type 0 where
      pub encloser : Name
      pub is_encloser : encloser_on names x ≡ Some encloser
      pub closer : Name
      pub is_closer : next_closer x encloser ≡ Some closer
      pub cover : HasCoverOf closer answer

    -- none did, and x isn't one of the names: the closest encloser proof, and the set of the wildcard at the encloser or
    -- what covers it (RFC 5155 sections 7.2.1 and 7.2.2)
    pub record DeniesAway (x : Name) (answer : List RRset) : Type 0 where
      pub covers : CoversCloser x answer
      pub matches : HasSetOf covers.encloser answer
      pub wildcard_on : Contains names (wildcard_under covers.encloser) → HasSetOf (wildcard_under covers.encloser) answer
      pub wildcard_off : (Contains names (wildcard_under covers.encloser) → ⊥) → HasCoverOf (wildcard_under covers.encloser) answer

    -- x's own set, where x is one of the names (RFC 5155 section 7.2.3); else those
    pub record Denies (x : Name) (answer : List RRset) : Type 0 where
      pub on : Contains names x → HasSetOf x answer
      pub off : (Contains names x → ⊥) → DeniesAway x answer

  -- ---- on a circle

  module _ (opt_out : Bool) where
    abbrev pub HasSetOrCover : Name → List RRset → Type 0
    HasSetOrCover = HasSetOrCoverOn (nsec3_names origin m opt_out)

    abbrev pub ProvesWildcard : Name → List RRset → Type 0
    ProvesWildcard = ProvesWildcardOn (nsec3_names origin m opt_out)

    abbrev pub ProvesEncloser : Name → List RRset → Type 0
    ProvesEncloser = ProvesEncloserOn (nsec3_names origin m opt_out)

    abbrev pub FindsOrEncloses : Name → List RRset → Type 0
    FindsOrEncloses = FindsOrEnclosesOn (nsec3_names origin m opt_out)

  module _ (opt_out : Bool) (x : Name) where
    -- what x owns besides NSEC3 is in the list of its NSEC3 set, where x is on the circle; where it isn't and is a name
    -- of the zone, it is below a zone cut, or is an unsigned delegation that opt-out leaves out
    pub record IsNsec3Listed (t : ℕ) : Type 0 where
      pub on : IsCircleName origin m opt_out x → (s : RRset) (types : List ℕ) → IsSetOf x s → types3_of s ≡ Some types → Contains types t
      pub off : (IsCircleName origin m opt_out x → ⊥) → IsTrue (is_at_or_above origin x) → IsTrue (is_below_cut origin m x) ⊎ (IsTrue opt_out × (t ≡ NS))

    -- where nothing is found for x and t and x is on the circle, x or a name below it owns a set, and t isn't in the list of its NSEC3 set, RRSIG aside
    pub record IsNsec3Denied (t : ℕ) : Type 0 where
      pub name : IsCircleName origin m opt_out x → IsTrue (owns_at_or_below m x)
      pub type' : IsCircleName origin m opt_out x → (s : RRset) (types : List ℕ) → IsSetOf x s → types3_of s ≡ Some types → Contains types t → t ≡ RRSIG

-- the denial of a name of the zone has the name's own set, or proves its closest encloser
abbrev pub Nsec3DenialFindsOrEncloses : Type 0
Nsec3DenialFindsOrEncloses = (origin : Name) (m : Sets) (hash : Name → Option (List ℕ)) (parameters : Nsec3Parameters) → IsNsec3Zone origin m hash parameters
    → (x : Name) → IsTrue (is_at_or_above origin x) → HasDistinctDigests (IsHashed origin m parameters.opt_out x) hash
    → (answer : List RRset) × (nsec3_denial m (λ n. owner_or_refusal origin (hash n)) false x ≡ Ok answer) × FindsOrEncloses origin m hash parameters.opt_out x answer

-- where a name of the zone isn't on the circle, its denial has the NSEC3 set of the wildcard at its closest encloser,
-- or covers the wildcard (RFC 5155 section 7.2.2)
abbrev pub Nsec3DenialProvesWildcard : Type 0
Nsec3DenialProvesWildcard = (origin : Name) (m : Sets) (hash : Name → Option (List ℕ)) (parameters : Nsec3Parameters) → IsNsec3Zone origin m hash parameters
    → (x : Name) → IsTrue (is_at_or_above origin x) → HasDistinctDigests (IsHashed origin m parameters.opt_out x) hash → (IsCircleName origin m parameters.opt_out x → ⊥)
    → (answer : List RRset) × (nsec3_denial m (λ n. owner_or_refusal origin (hash n)) false x ≡ Ok answer) × ProvesWildcard origin m hash parameters.opt_out x answer

abbrev pub Nsec3CircleListsAllOwned : Type 0
Nsec3CircleListsAllOwned = (origin : Name) (m : Sets) (hash : Name → Option (List ℕ)) (parameters : Nsec3Parameters) → IsNsec3Zone origin m hash parameters
    → (x : Name) (t : ℕ) → t ≢ NSEC3 → IsTrue (owns m x t) → IsNsec3Listed origin m hash parameters.opt_out x t

abbrev pub Nsec3DenialsAgree : Type 0
Nsec3DenialsAgree = (origin : Name) (m : Sets) (hash : Name → Option (List ℕ)) (parameters : Nsec3Parameters) → IsNsec3Zone origin m hash parameters
    → (signed : Bool) (x : Name) (t : ℕ) → found m signed x (searched_type m x t) ≡ None → IsNsec3Denied origin m hash parameters.opt_out x t
