-- What NSEC records prove of a zone to a validator is so, whichever records of the zone are shown, in whatever order and from however many responses
use Rattle.std.specs.Prelude.{◌≡◌, ℕ, Bool, List, [], Some, None, IsTrue, IsFalse}
use Rattle.zone_proto.specs.Names.{Name, is_at_or_above, IsAbove, wildcard_under, is_wildcard}
use Rattle.zone_proto.specs.Types.{NS, SOA, DS, ANAME}
use Rattle.zone_map.specs.AnyTypes.{searched_type}
use Rattle.zone_map.specs.Direct.{is_address}
use Rattle.zone_map.specs.Wildcards.{found, asked_wildcard_exists, closest_encloser}
use Rattle.zone_map.specs.Zones.{Sets, owns, types_at, owns_at_or_below}
use Rattle.zone_denial.specs.Authority.{is_below_cut}
use Rattle.zone_denial.specs.NsecDenial.{nsec_encloser}
use Rattle.zone_denial.specs.NsecLaws.{IsNsecZone}
use Rattle.zone_lookup.specs.Replies.{name_exists, nx_domain, negative_answer}
use Rattle.denial_validation.specs.Judgement.{nsec_proof}
use Rattle.denial_validation.specs.NsecProofs.{proves_name_error, proves_no_data, proves_empty_non_terminal, proves_wildcard_no_data, proves_wildcard_answer, proves_unsigned_delegation}
use Rattle.denial_validation.specs.NsecRecords.{NsecRecord}
use Rattle.denial_laws.specs.Scope.{AreOfZone, IsInScope}

-- ---- a name error

-- there is no such name: x is denied by NXDomain, and nothing is found for it, whatever the type
pub record IsNoName (origin : Name) (m : Sets) (x : Name) : Type 0 where
  pub denied : negative_answer origin m x ≡ nx_domain
  pub nothing : (signed : Bool) (t : ℕ) → found m signed x t ≡ None

abbrev pub NameErrorSound : Type 0
NameErrorSound = (origin : Name) (m : Sets) (rs : List NsecRecord) (x : Name) → IsInScope origin m x → AreOfZone m rs → IsTrue (proves_name_error origin rs x) → IsNoName origin m x

-- ---- absent data

-- nothing is found for x and a type, and x is there
pub record IsWithoutData (origin : Name) (m : Sets) (x : Name) (t : ℕ) : Type 0 where
  pub nothing : (signed : Bool) → found m signed x (searched_type m x t) ≡ None
  pub there : negative_answer origin m x ≡ name_exists

-- n owns no ANAME that would answer for type t
abbrev pub IsUnflattened : Sets → Name → ℕ → Type 0
IsUnflattened m n t = IsTrue (is_address t) → IsFalse (owns m n ANAME)

abbrev pub NoDataSound : Type 0
NoDataSound = (origin : Name) (m : Sets) (rs : List NsecRecord) (x : Name) (t : ℕ) → IsInScope origin m x → AreOfZone m rs → IsUnflattened m x t
    → IsTrue (proves_no_data origin rs x t) → IsWithoutData origin m x t

-- x owns nothing, and a name below it owns a set
pub record IsEmptyNonTerminal (m : Sets) (x : Name) : Type 0 where
  pub empty : types_at m x ≡ []
  pub below : (n : Name) × (t : ℕ) × IsAbove x n × IsTrue (owns m n t)

abbrev pub EmptySound : Type 0
EmptySound = (origin : Name) (m : Sets) (rs : List NsecRecord) (x : Name) → IsInScope origin m x → AreOfZone m rs → IsTrue (proves_empty_non_terminal origin rs x) → IsEmptyNonTerminal m x

-- nothing is found for x and a type, and x is there by its wildcard alone: neither x nor a name below it owns a set,
-- and the wildcard at the closest encloser of x exists
pub record IsWithoutDataByWildcard (origin : Name) (m : Sets) (x : Name) (t : ℕ) : Type 0 where
  pub none : IsWithoutData origin m x t
  pub absent : IsFalse (owns_at_or_below m x)
  pub wildcard_name : IsTrue (asked_wildcard_exists m x)

-- of a name that doesn't begin with `*`, since a lookup asks no wildcard for one that is
abbrev pub WildcardNoDataSound : Type 0
WildcardNoDataSound = (origin : Name) (m : Sets) (rs : List NsecRecord) (x : Name) (t : ℕ) → IsInScope origin m x → AreOfZone m rs → IsFalse (is_wildcard x)
    → IsUnflattened m (wildcard_under (nsec_encloser origin m x)) t → IsTrue (proves_wildcard_no_data origin rs x t) → IsWithoutDataByWildcard origin m x t

-- ---- what goes with an answer

-- neither x nor a name below it owns a set, and e is its closest encloser
pub record IsEnclosedBy (m : Sets) (x e : Name) : Type 0 where
  pub absent : IsFalse (owns_at_or_below m x)
  pub encloser : closest_encloser m x ≡ Some e

abbrev pub WildcardAnswerSound : Type 0
WildcardAnswerSound = (origin : Name) (m : Sets) (rs : List NsecRecord) (x e : Name) → IsInScope origin m x → AreOfZone m rs → IsTrue (proves_wildcard_answer origin rs x e) → IsEnclosedBy m x e

-- x is a delegation without DS, strictly below the origin
pub record IsUnsignedDelegation (origin : Name) (m : Sets) (x : Name) : Type 0 where
  pub below : IsAbove origin x
  pub delegated : IsTrue (owns m x NS)
  pub unsigned : IsFalse (owns m x DS)
  pub no_apex : IsFalse (owns m x SOA)

abbrev pub UnsignedDelegationSound : Type 0
UnsignedDelegationSound = (origin : Name) (m : Sets) (rs : List NsecRecord) (x : Name) → IsNsecZone origin m → AreOfZone m rs → IsTrue (proves_unsigned_delegation origin rs x) → IsUnsignedDelegation origin m x

-- ---- all of it

-- what the records rs prove of x is so
pub record IsSound (origin : Name) (m : Sets) (x : Name) (rs : List NsecRecord) : Type 0 where
  pub error : IsTrue (proves_name_error origin rs x) → IsNoName origin m x
  pub data' : (t : ℕ) → IsUnflattened m x t → IsTrue (proves_no_data origin rs x t) → IsWithoutData origin m x t
  pub empty : IsTrue (proves_empty_non_terminal origin rs x) → IsEmptyNonTerminal m x
  pub wildcard_data : (t : ℕ) → IsFalse (is_wildcard x) → IsUnflattened m (wildcard_under (nsec_encloser origin m x)) t → IsTrue (proves_wildcard_no_data origin rs x t) → IsWithoutDataByWildcard origin m x t
  pub answer : (e : Name) → IsTrue (proves_wildcard_answer origin rs x e) → IsEnclosedBy m x e
  pub delegation : IsTrue (proves_unsigned_delegation origin rs x) → IsUnsignedDelegation origin m x

-- ---- where nothing is proved

-- c is the topmost zone cut above x: strictly below the origin, with NS and no SOA, and no NS set stands between the origin and it
pub record IsTopmostCut (origin : Name) (m : Sets) (x c : Name) : Type 0 where
  pub below : IsAbove origin c
  pub above : IsAbove c x
  pub delegated : IsTrue (owns m c NS)
  pub no_apex : IsFalse (owns m c SOA)
  pub topmost : IsFalse (is_below_cut origin m c)

-- nothing is proved of a name and any type
abbrev pub NothingProved : Name → List NsecRecord → Name → Type 0
NothingProved origin rs x = (t : ℕ) → nsec_proof origin rs x t ≡ None

abbrev pub NothingBelowCut : Type 0
NothingBelowCut = (origin : Name) (m : Sets) (rs : List NsecRecord) (x c : Name) → IsNsecZone origin m → AreOfZone m rs → IsTopmostCut origin m x c → NothingProved origin rs x

-- nor, by any records at all, of a name outside the zone
abbrev pub NothingOutside : Type 0
NothingOutside = (origin : Name) (rs : List NsecRecord) (x : Name) → IsFalse (is_at_or_above origin x) → NothingProved origin rs x
