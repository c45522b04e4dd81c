-- What a validator sums up of a name's own denial: the case that the zone has
use Rattle.std.specs.Prelude.{◌≡◌, ◌≢◌, ℕ, Bool, true, false, ◌&&◌, not, List, [], length, Option, Some, None, Ok, IsTrue, IsFalse}
use Rattle.zone_proto.specs.declared.rdata.denial.NSEC3PARAM.{NSEC3PARAM as Nsec3Parameters}
use Rattle.zone_proto.specs.HashedOwners.{owner_or_refusal}
use Rattle.zone_proto.specs.Names.{Name, wildcard_under, is_wildcard}
use Rattle.zone_proto.specs.Sets.{RRset}
use Rattle.zone_proto.specs.Types.{NS, SOA, DS, NSEC}
use Rattle.zone_map.specs.AnyTypes.{searched_type}
use Rattle.zone_map.specs.Wildcards.{found, asked_wildcard}
use Rattle.zone_map.specs.Zones.{Sets, owns, owns_at_or_below}
use Rattle.zone_denial.specs.NsecDenial.{nsec_encloser}
use Rattle.zone_denial.specs.Nsec3Denial.{encloser_on, nsec3_denial}
use Rattle.zone_denial.specs.Nsec3Names.{nsec3_names}
use Rattle.zone_lookup.specs.Replies.{name_exists, nx_domain, negative_answer}
use Rattle.denial_validation.specs.declared.proof.Proof.TheVariants.{NameError, UnsignedDelegation, EmptyNonTerminal, NoData, WildcardNoData, WildcardAnswer}
use Rattle.denial_validation.specs.Judgement.{nsec_proof, nsec3_proof}
use Rattle.denial_validation.specs.NsecRecords.{NsecRecord}
use Rattle.denial_validation.specs.Nsec3Records.{Nsec3Record}
use Rattle.denial_laws.specs.Scope.{denial_records, IsInScope, IsTypeInScope}
use Rattle.denial_laws.specs.Nsec3Scope.{read_nsec3_sets, IsInNsec3Scope, IsTypeInNsec3ScopeOn}
use Rattle.denial_laws.specs.Soundness.{IsUnflattened}

-- x owns NS, and neither DS nor SOA
abbrev pub is_unsigned : Sets → Name → Bool
is_unsigned m x = owns m x NS && not (owns m x DS) && not (owns m x SOA)

-- what the records rs prove of x and a type sums up to the case that the zone has: of a name denied by NXDomain a name
-- error, of one that begins with `*` where nothing is owned at or below the wildcard at its closest encloser; of a cut
-- without DS an unsigned delegation; of an empty non-terminal that; where nothing is found for a type in scope, no data
-- at a name on the circle, and no data by a wildcard at one that isn't there; and where a wildcard answers, this, with
-- the labels of its encloser
pub record IsSummedUp (origin : Name) (m : Sets) (x : Name) (rs : List NsecRecord) : Type 0 where
  pub error : (t : ℕ) → IsFalse (is_wildcard x) → negative_answer origin m x ≡ nx_domain → nsec_proof origin rs x t ≡ Some (NameError false)
  pub wildcard_error : (t : ℕ) → IsFalse (owns_at_or_below m (wildcard_under (nsec_encloser origin m x))) → negative_answer origin m x ≡ nx_domain → nsec_proof origin rs x t ≡ Some (NameError false)
  pub delegation : (t : ℕ) → IsTrue (is_unsigned m x) → nsec_proof origin rs x t ≡ Some UnsignedDelegation
  pub empty : (t : ℕ) → IsFalse (owns m x NSEC) → IsTrue (owns_at_or_below m x) → nsec_proof origin rs x t ≡ Some EmptyNonTerminal
  pub data' : (signed : Bool) (t : ℕ) → IsTypeInScope origin m x t → IsTrue (owns m x NSEC) → IsFalse (is_unsigned m x) → found m signed x (searched_type m x t) ≡ None → nsec_proof origin rs x t ≡ Some NoData
  pub wildcard_data : (signed : Bool) (t : ℕ) → IsTypeInScope origin m x t → IsFalse (owns_at_or_below m x) → negative_answer origin m x ≡ name_exists → found m signed x (searched_type m x t) ≡ None
      → nsec_proof origin rs x t ≡ Some (WildcardNoData false)
  pub answer : (signed : Bool) (t : ℕ) (e : Name) → asked_wildcard m x ≡ Some (wildcard_under e) → negative_answer origin m x ≡ name_exists → IsUnflattened m (wildcard_under e) t
      → found m signed x (searched_type m x t) ≢ None → nsec_proof origin rs x t ≡ Some (WildcardAnswer (length e) false)

-- so do those of a name in scope's own denial
abbrev pub DenialSummedUp : Type 0
DenialSummedUp = (origin : Name) (m : Sets) (x : Name) → IsInScope origin m x → IsSummedUp origin m x (denial_records origin m x)

-- ---- by NSEC3, of the records rs

-- where a wildcard answers, this
abbrev pub AreAnswersSummedUp : Name → Sets → (Name → Option (List ℕ)) → Name → List Nsec3Record → Type 0
AreAnswersSummedUp origin m hash x rs = (signed : Bool) (t : ℕ) (e : Name) → asked_wildcard m x ≡ Some (wildcard_under e) → negative_answer origin m x ≡ name_exists → IsUnflattened m (wildcard_under e) t
    → found m signed x (searched_type m x t) ≢ None → nsec3_proof origin hash rs x t ≡ Some (WildcardAnswer (length e) false)

-- the cases are the same, but that of an empty non-terminal, which is no data, by names that have NSEC3 sets
pub record IsNsec3SummedUpOn (origin : Name) (beside m : Sets) (hash : Name → Option (List ℕ)) (names : List Name) (x : Name) (rs : List Nsec3Record) : Type 0 where
  pub error : (t : ℕ) → IsFalse (is_wildcard x) → negative_answer origin m x ≡ nx_domain → nsec3_proof origin hash rs x t ≡ Some (NameError false)
  pub wildcard_error : (t : ℕ) (e : Name) → encloser_on names x ≡ Some e → IsFalse (owns_at_or_below m (wildcard_under e)) → negative_answer origin m x ≡ nx_domain
      → nsec3_proof origin hash rs x t ≡ Some (NameError false)
  pub delegation : (t : ℕ) → IsTrue (is_unsigned m x) → nsec3_proof origin hash rs x t ≡ Some UnsignedDelegation
  pub data' : (signed : Bool) (t : ℕ) → IsTypeInNsec3ScopeOn origin beside m names x t → IsTrue (owns_at_or_below m x) → IsFalse (is_unsigned m x) → found m signed x (searched_type m x t) ≡ None
      → nsec3_proof origin hash rs x t ≡ Some NoData
  pub wildcard_data : (signed : Bool) (t : ℕ) → IsTypeInNsec3ScopeOn origin beside m names x t → IsFalse (owns_at_or_below m x) → negative_answer origin m x ≡ name_exists → found m signed x (searched_type m x t) ≡ None
      → nsec3_proof origin hash rs x t ≡ Some (WildcardNoData false)
  pub answer : AreAnswersSummedUp origin m hash x rs

abbrev pub IsNsec3SummedUp : Name → Sets → (Name → Option (List ℕ)) → Bool → Name → List Nsec3Record → Type 0
IsNsec3SummedUp origin m hash opt_out x rs = IsNsec3SummedUpOn origin [] m hash (nsec3_names origin m opt_out) x rs

-- so it is of a name in scope's denial to which no wildcard answered
abbrev pub Nsec3DenialSummedUp : Type 0
Nsec3DenialSummedUp = (origin : Name) (m : Sets) (hash : Name → Option (List ℕ)) (parameters : Nsec3Parameters) (x : Name) → IsInNsec3Scope origin m hash parameters x
    → (answer : List RRset) → nsec3_denial m (λ n. owner_or_refusal origin (hash n)) false x ≡ Ok answer → IsNsec3SummedUp origin m hash parameters.opt_out x (read_nsec3_sets answer)

-- and of one to which a wildcard answered, where one does
abbrev pub Nsec3WildcardSummedUp : Type 0
Nsec3WildcardSummedUp = (origin : Name) (m : Sets) (hash : Name → Option (List ℕ)) (parameters : Nsec3Parameters) (x : Name) → IsInNsec3Scope origin m hash parameters x
    → (answer : List RRset) → nsec3_denial m (λ n. owner_or_refusal origin (hash n)) true x ≡ Ok answer → AreAnswersSummedUp origin m hash x (read_nsec3_sets answer)
