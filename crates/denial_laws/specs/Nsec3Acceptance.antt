-- What a validator makes of the denials of a zone by NSEC3, without opt-out
use Rattle.std.specs.Prelude.{◌↔◌, ◌≡◌, ℕ, Bool, true, false, List, [], Option, Some, None, Ok, IsTrue, IsFalse}
use Rattle.zone_proto.specs.declared.rdata.denial.NSEC3PARAM.{NSEC3PARAM as Nsec3Parameters}
use Rattle.zone_proto.specs.HashedOwners.{owner_or_refusal}
use Rattle.zone_proto.specs.Names.{Name, wildcard_under, is_wildcard}
use Rattle.zone_proto.specs.Sets.{RRset}
use Rattle.zone_proto.specs.Types.{NS, SOA, DS}
use Rattle.zone_map.specs.AnyTypes.{searched_type}
use Rattle.zone_map.specs.Wildcards.{found, asked_wildcard}
use Rattle.zone_map.specs.Zones.{Sets, owns, owns_at_or_below}
use Rattle.zone_denial.specs.Nsec3Denial.{closest_encloser, nsec3_denial}
use Rattle.zone_denial.specs.Nsec3Names.{nsec3_names}
use Rattle.zone_lookup.specs.Replies.{name_exists, nx_domain, negative_answer}
use Rattle.denial_validation.specs.Nsec3Proofs.{proves_name_error, proves_empty_answer, proves_wildcard_answer, proves_unsigned_delegation}
use Rattle.denial_validation.specs.Nsec3Records.{Nsec3Record}
use Rattle.denial_laws.specs.Nsec3Scope.{read_nsec3_sets, IsInNsec3Scope, IsTypeInNsec3ScopeOn}
use Rattle.denial_laws.specs.Nsec3Soundness.{IsNsec3SoundOn}
use Rattle.denial_laws.specs.Sums.{AreAnswersSummedUp, IsNsec3SummedUpOn}

-- what a validator makes of NSEC3 records is what the zone has, as `IsAccepted` says it of NSEC records
pub record IsNsec3AcceptedOn (origin : Name) (beside m : Sets) (hash : Name → Option (List ℕ)) (names : List Name) (x : Name) (rs : List Nsec3Record) : Type 0 where
  pub error : IsFalse (is_wildcard x) → (negative_answer origin m x ≡ nx_domain) ↔ IsTrue (proves_name_error origin hash rs x)
  pub empty : (signed : Bool) (t : ℕ) → IsTypeInNsec3ScopeOn origin beside m names x t → found m signed x (searched_type m x t) ≡ None → negative_answer origin m x ≡ name_exists
      → IsTrue (proves_empty_answer origin hash rs x t)
  pub wildcard : (e : Name) → asked_wildcard m x ≡ Some (wildcard_under e) → IsTrue (proves_wildcard_answer origin hash rs x e)
  pub delegation : IsTrue (owns m x NS) → IsFalse (owns m x DS) → IsFalse (owns m x SOA) → IsTrue (proves_unsigned_delegation origin hash rs x)
  pub sound : IsNsec3SoundOn origin m hash names x rs
  pub sum : IsNsec3SummedUpOn origin beside m hash names x rs

abbrev pub IsNsec3Accepted : Name → Sets → (Name → Option (List ℕ)) → Bool → Name → List Nsec3Record → Type 0
IsNsec3Accepted origin m hash opt_out x rs = IsNsec3AcceptedOn origin [] m hash (nsec3_names origin m opt_out) x rs

-- so it is of the records that deny x, to which no wildcard answered
abbrev pub Nsec3DenialAccepted : Type 0
Nsec3DenialAccepted = (origin : Name) (m : Sets) (hash : Name → Option (List ℕ)) (parameters : Nsec3Parameters) (x : Name) → IsInNsec3Scope origin m hash parameters x
    → (answer : List RRset) → nsec3_denial m (λ n. owner_or_refusal origin (hash n)) false x ≡ Ok answer → IsNsec3Accepted origin m hash parameters.opt_out x (read_nsec3_sets answer)

-- records prove that the wildcard at the closest encloser of x may answer, and sum up to that where it does; and what
-- they prove is so
pub record IsAskedWildcardAcceptedOn (origin : Name) (m : Sets) (hash : Name → Option (List ℕ)) (names : List Name) (x : Name) (rs : List Nsec3Record) : Type 0 where
  pub wildcard_name : (e : Name) → asked_wildcard m x ≡ Some (wildcard_under e) → IsTrue (proves_wildcard_answer origin hash rs x e)
  pub sound : IsNsec3SoundOn origin m hash names x rs
  pub sum : AreAnswersSummedUp origin m hash x rs

abbrev pub IsAskedWildcardAccepted : Name → Sets → (Name → Option (List ℕ)) → Bool → Name → List Nsec3Record → Type 0
IsAskedWildcardAccepted origin m hash opt_out x rs = IsAskedWildcardAcceptedOn origin m hash (nsec3_names origin m opt_out) x rs

-- so do those of the denial of x to which a wildcard answered, which are fewer
abbrev pub Nsec3WildcardAnswerAccepted : Type 0
Nsec3WildcardAnswerAccepted = (origin : Name) (m : Sets) (hash : Name → Option (List ℕ)) (parameters : Nsec3Parameters) (x : Name) → IsInNsec3Scope origin m hash parameters x
    → (answer : List RRset) → nsec3_denial m (λ n. owner_or_refusal origin (hash n)) true x ≡ Ok answer → IsAskedWildcardAccepted origin m hash parameters.opt_out x (read_nsec3_sets answer)

-- where a name that begins with `*` is denied by NXDomain, its denial proves a name error, if nothing is owned at or
-- below the wildcard at the closest encloser that the circle has
abbrev pub Nsec3WildcardErrorAccepted : Type 0
Nsec3WildcardErrorAccepted = (origin : Name) (m : Sets) (hash : Name → Option (List ℕ)) (parameters : Nsec3Parameters) (x e : Name) → IsInNsec3Scope origin m hash parameters x
    → closest_encloser origin m parameters.opt_out x ≡ Some e → IsFalse (owns_at_or_below m (wildcard_under e)) → negative_answer origin m x ≡ nx_domain
    → (answer : List RRset) → nsec3_denial m (λ n. owner_or_refusal origin (hash n)) false x ≡ Ok answer → IsTrue (proves_name_error origin hash (read_nsec3_sets answer) x)
