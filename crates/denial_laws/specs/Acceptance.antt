-- What a validator makes of the denials of a zone
use Rattle.std.specs.Prelude.{◌↔◌, ◌≡◌, ℕ, Bool, List, Some, None, IsTrue, IsFalse}
use Rattle.zone_proto.specs.Names.{Name, wildcard_under, is_wildcard}
use Rattle.zone_proto.specs.Types.{NS, SOA, DS, NSEC}
use Rattle.zone_map.specs.AnyTypes.{searched_type}
use Rattle.zone_map.specs.Wildcards.{found, asked_wildcard}
use Rattle.zone_map.specs.Zones.{Sets, owns, owns_at_or_below}
use Rattle.zone_denial.specs.NsecDenial.{nsec_encloser}
use Rattle.zone_lookup.specs.Replies.{name_exists, nx_domain, negative_answer}
use Rattle.denial_validation.specs.NsecProofs.{proves_name_error, proves_no_data, proves_empty_non_terminal, proves_wildcard_no_data, proves_empty_answer, proves_wildcard_answer, proves_unsigned_delegation}
use Rattle.denial_validation.specs.NsecRecords.{NsecRecord}
use Rattle.denial_laws.specs.Scope.{denial_records, IsInScope, IsTypeInScope}
use Rattle.denial_laws.specs.Soundness.{IsSound}
use Rattle.denial_laws.specs.Sums.{IsSummedUp}

-- ---- name errors

-- where a name is denied by NXDomain, its denial proves a name error
abbrev pub NameErrorAccepted : Type 0
NameErrorAccepted = (origin : Name) (m : Sets) (x : Name) → IsInScope origin m x → IsFalse (is_wildcard x) → negative_answer origin m x ≡ nx_domain
    → IsTrue (proves_name_error origin (denial_records origin m x) x)

-- that of a name that begins with `*` too, where nothing is owned at or below the wildcard at its closest encloser
abbrev pub WildcardErrorAccepted : Type 0
WildcardErrorAccepted = (origin : Name) (m : Sets) (x : Name) → IsInScope origin m x → IsFalse (owns_at_or_below m (wildcard_under (nsec_encloser origin m x))) → negative_answer origin m x ≡ nx_domain
    → IsTrue (proves_name_error origin (denial_records origin m x) x)

-- ---- answers without data, where nothing is found for a name and a type

-- of a name on the circle, its own record proves it
abbrev pub NoDataAccepted : Type 0
NoDataAccepted = (origin : Name) (m : Sets) (signed : Bool) (x : Name) (t : ℕ) → IsInScope origin m x → IsTypeInScope origin m x t → IsTrue (owns m x NSEC)
    → found m signed x (searched_type m x t) ≡ None → IsTrue (proves_no_data origin (denial_records origin m x) x t)

-- of an empty non-terminal, the record before it, for any type
abbrev pub EmptyAccepted : Type 0
EmptyAccepted = (origin : Name) (m : Sets) (x : Name) → IsInScope origin m x → IsFalse (owns m x NSEC) → IsTrue (owns_at_or_below m x)
    → IsTrue (proves_empty_non_terminal origin (denial_records origin m x) x)

-- of a name that isn't there and for which a wildcard answers, the records of both
abbrev pub WildcardNoDataAccepted : Type 0
WildcardNoDataAccepted = (origin : Name) (m : Sets) (signed : Bool) (x : Name) (t : ℕ) → IsInScope origin m x → IsTypeInScope origin m x t → IsFalse (owns_at_or_below m x)
    → found m signed x (searched_type m x t) ≡ None → negative_answer origin m x ≡ name_exists → IsTrue (proves_wildcard_no_data origin (denial_records origin m x) x t)

-- ---- what goes with an answer

-- where the wildcard at e is asked for a name, the name's denial proves that this wildcard may answer
abbrev pub WildcardAnswerAccepted : Type 0
WildcardAnswerAccepted = (origin : Name) (m : Sets) (x e : Name) → IsInScope origin m x → asked_wildcard m x ≡ Some (wildcard_under e)
    → IsTrue (proves_wildcard_answer origin (denial_records origin m x) x e)

-- where a zone cut owns no DS, its denial proves that it is unsigned
abbrev pub UnsignedDelegationAccepted : Type 0
UnsignedDelegationAccepted = (origin : Name) (m : Sets) (x : Name) → IsInScope origin m x → IsTrue (owns m x NS) → IsFalse (owns m x DS) → IsFalse (owns m x SOA)
    → IsTrue (proves_unsigned_delegation origin (denial_records origin m x) x)

-- ---- all of it

-- what a validator makes of records is what the zone has: a name error exactly where it denies x by NXDomain; no data
-- where it denies a type by NameExists; the wildcard that it asks for x; and a delegation without DS. What they prove
-- is so, and they sum up to the case that the zone has
pub record IsAccepted (origin : Name) (m : Sets) (x : Name) (rs : List NsecRecord) : Type 0 where
  pub error : IsFalse (is_wildcard x) → (negative_answer origin m x ≡ nx_domain) ↔ IsTrue (proves_name_error origin rs x)
  pub empty : (signed : Bool) (t : ℕ) → IsTypeInScope origin m x t → found m signed x (searched_type m x t) ≡ None → negative_answer origin m x ≡ name_exists → IsTrue (proves_empty_answer origin rs x t)
  pub wildcard : (e : Name) → asked_wildcard m x ≡ Some (wildcard_under e) → IsTrue (proves_wildcard_answer origin rs x e)
  pub delegation : IsTrue (owns m x NS) → IsFalse (owns m x DS) → IsFalse (owns m x SOA) → IsTrue (proves_unsigned_delegation origin rs x)
  pub sound : IsSound origin m x rs
  pub sum : IsSummedUp origin m x rs

-- so it is of the records that deny x
abbrev pub DenialAccepted : Type 0
DenialAccepted = (origin : Name) (m : Sets) (x : Name) → IsInScope origin m x → IsAccepted origin m x (denial_records origin m x)
