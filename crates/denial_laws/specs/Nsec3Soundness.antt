-- What NSEC3 records prove of a zone to a validator is so, whichever records of the zone are shown, in whatever order and from however many responses
use Rattle.std.specs.Prelude.{◌≡◌, ◌≢◌, ◌⊎◌, ◌≤◌, ℕ, Bool, false, ◌&&◌, ◌||◌, List, length, Option, Some, None, Ok, IsTrue, IsFalse}
use Rattle.std.specs.List.{Contains}
use Rattle.zone_proto.specs.declared.rdata.denial.NSEC3PARAM.{NSEC3PARAM as Nsec3Parameters}
use Rattle.zone_proto.specs.HashedOwners.{owner_or_refusal}
use Rattle.zone_proto.specs.Names.{Name, is_at_or_above, IsAtOrAbove, IsAbove, wildcard_under, is_wildcard}
use Rattle.zone_proto.specs.Sets.{RRset}
use Rattle.zone_proto.specs.Types.{NSEC3}
use Rattle.zone_map.specs.Wildcards.{exists, closest_encloser as found_encloser}
use Rattle.zone_map.specs.Zones.{Sets, owns, owns_at_or_below}
use Rattle.zone_denial.specs.Authority.{is_below_cut}
use Rattle.zone_denial.specs.Nsec3Denial.{encloser_on, nsec3_denial}
use Rattle.zone_denial.specs.Nsec3Names.{is_unsigned_delegation, nsec3_names}
use Rattle.zone_denial.specs.Nsec3Zones.{IsNsec3Zone, IsHashed, IsCircleName, HasDistinctDigests}
use Rattle.denial_validation.specs.declared.proof.Proof.{Proof}
use Rattle.denial_validation.specs.declared.proof.Proof.TheVariants.{WildcardAnswer}
use Rattle.denial_validation.specs.Judgement.{nsec3_proof}
use Rattle.denial_validation.specs.Nsec3Proofs.{matches, lists_none, is_matched, proves_name_error, proves_no_data, proves_opted_out, proves_wildcard_no_data, proves_wildcard_answer, shows_unsigned_delegation, proves_unsigned_delegation}
use Rattle.denial_validation.specs.Nsec3Records.{Nsec3Record}
use Rattle.denial_laws.specs.Nsec3Scope.{read_nsec3_sets, AreNsec3OfZone, IsInNsec3Scope}
use Rattle.denial_laws.specs.Soundness.{IsNoName, IsWithoutData, IsWithoutDataByWildcard, IsUnflattened, IsEmptyNonTerminal, IsUnsignedDelegation, IsTopmostCut}

-- ---- a name error

abbrev pub Nsec3NameErrorSound : Type 0
Nsec3NameErrorSound = (origin : Name) (m : Sets) (hash : Name → Option (List ℕ)) (parameters : Nsec3Parameters) (rs : List Nsec3Record) (x : Name) → IsInNsec3Scope origin m hash parameters x
    → AreNsec3OfZone m rs → IsTrue (proves_name_error origin hash rs x) → IsNoName origin m x

-- ---- absent data

abbrev pub Nsec3NoDataSound : Type 0
Nsec3NoDataSound = (origin : Name) (m : Sets) (hash : Name → Option (List ℕ)) (parameters : Nsec3Parameters) (rs : List Nsec3Record) (x : Name) (t : ℕ) → IsInNsec3Scope origin m hash parameters x
    → AreNsec3OfZone m rs → IsUnflattened m x t → IsTrue (proves_no_data origin hash rs x t) → IsWithoutData origin m x t

-- a record of x that lists no type shows that x is an empty non-terminal
abbrev pub ShowsEmpty : Name → (Name → Option (List ℕ)) → List Nsec3Record → Name → Type 0
ShowsEmpty origin hash rs x = (r : Nsec3Record) × Contains rs r × IsTrue (matches origin hash r x) × IsTrue (lists_none r)

abbrev pub Nsec3EmptySound : Type 0
Nsec3EmptySound = (origin : Name) (m : Sets) (hash : Name → Option (List ℕ)) (parameters : Nsec3Parameters) (rs : List Nsec3Record) (x : Name) → IsInNsec3Scope origin m hash parameters x
    → AreNsec3OfZone m rs → ShowsEmpty origin hash rs x → IsEmptyNonTerminal m x

-- the wildcard at the closest encloser that names with NSEC3 sets have for x owns no ANAME that would answer for type t
abbrev pub IsWildcardUnflattenedOn : Sets → List Name → Name → ℕ → Type 0
IsWildcardUnflattenedOn m names x t = (e : Name) → encloser_on names x ≡ Some e → IsUnflattened m (wildcard_under e) t

abbrev pub IsWildcardUnflattened : Name → Sets → Bool → Name → ℕ → Type 0
IsWildcardUnflattened origin m opt_out x t = IsWildcardUnflattenedOn m (nsec3_names origin m opt_out) x t

-- by a wildcard: of a name that doesn't begin with `*`, since a lookup asks no wildcard for one that is
abbrev pub Nsec3WildcardNoDataSound : Type 0
Nsec3WildcardNoDataSound = (origin : Name) (m : Sets) (hash : Name → Option (List ℕ)) (parameters : Nsec3Parameters) (rs : List Nsec3Record) (x : Name) (t : ℕ) → IsInNsec3Scope origin m hash parameters x
    → AreNsec3OfZone m rs → IsFalse (is_wildcard x) → IsWildcardUnflattened origin m parameters.opt_out x t → IsTrue (proves_wildcard_no_data origin hash rs x t) → IsWithoutDataByWildcard origin m x t

-- ---- what goes with an answer

-- x isn't there, nor is any name between it and e, which is at or below the origin. So e is the closest encloser if it
-- exists, as the signature of a wildcard's answer shows
pub record IsAbsentBelow (origin : Name) (m : Sets) (x e : Name) : Type 0 where
  pub inside : IsAtOrAbove origin e
  pub absent : IsFalse (owns_at_or_below m x)
  pub none_closer : (n : Name) → IsAbove e n → IsAtOrAbove n x → IsFalse (exists m n)
  pub encloser : IsTrue (exists m e) → found_encloser m x ≡ Some e

abbrev pub Nsec3WildcardAnswerSound : Type 0
Nsec3WildcardAnswerSound = (origin : Name) (m : Sets) (hash : Name → Option (List ℕ)) (parameters : Nsec3Parameters) (rs : List Nsec3Record) (x e : Name) → IsInNsec3Scope origin m hash parameters x
    → AreNsec3OfZone m rs → IsTrue (proves_wildcard_answer origin hash rs x e) → IsAbsentBelow origin m x e

-- by its own record, with opt-out too
abbrev pub Nsec3UnsignedDelegationSound : Type 0
Nsec3UnsignedDelegationSound = (origin : Name) (m : Sets) (hash : Name → Option (List ℕ)) (parameters : Nsec3Parameters) (rs : List Nsec3Record) (x : Name) → IsNsec3Zone origin m hash parameters
    → HasDistinctDigests (IsHashed origin m parameters.opt_out x) hash → AreNsec3OfZone m rs → IsTrue (shows_unsigned_delegation origin hash rs x) → IsUnsignedDelegation origin m x

-- and without opt-out no other proof of one stands
abbrev pub Nsec3AllInSound : Type 0
Nsec3AllInSound = (origin : Name) (m : Sets) (hash : Name → Option (List ℕ)) (parameters : Nsec3Parameters) (rs : List Nsec3Record) (x : Name) → IsNsec3Zone origin m hash parameters
    → IsFalse parameters.opt_out → HasDistinctDigests (IsHashed origin m parameters.opt_out x) hash → AreNsec3OfZone m rs → IsTrue (proves_unsigned_delegation origin hash rs x) → IsUnsignedDelegation origin m x

-- ---- all of it

-- what the records rs prove of x is so, by names that have NSEC3 sets
pub record IsNsec3SoundOn (origin : Name) (m : Sets) (hash : Name → Option (List ℕ)) (names : List Name) (x : Name) (rs : List Nsec3Record) : Type 0 where
  pub error : IsTrue (proves_name_error origin hash rs x) → IsNoName origin m x
  pub data' : (t : ℕ) → IsUnflattened m x t → IsTrue (proves_no_data origin hash rs x t) → IsWithoutData origin m x t
  pub empty : ShowsEmpty origin hash rs x → IsEmptyNonTerminal m x
  pub wildcard_data : (t : ℕ) → IsFalse (is_wildcard x) → IsWildcardUnflattenedOn m names x t → IsTrue (proves_wildcard_no_data origin hash rs x t) → IsWithoutDataByWildcard origin m x t
  pub answer : (e : Name) → IsTrue (proves_wildcard_answer origin hash rs x e) → IsAbsentBelow origin m x e
  pub delegation : IsTrue (proves_unsigned_delegation origin hash rs x) → IsUnsignedDelegation origin m x

-- so by those of the circle
abbrev pub IsNsec3Sound : Name → Sets → (Name → Option (List ℕ)) → Bool → Name → List Nsec3Record → Type 0
IsNsec3Sound origin m hash opt_out x rs = IsNsec3SoundOn origin m hash (nsec3_names origin m opt_out) x rs

-- ---- where nothing is proved

-- nothing is proved of a name and any type
abbrev pub Nsec3NothingProved : Name → (Name → Option (List ℕ)) → List Nsec3Record → Name → Type 0
Nsec3NothingProved origin hash rs x = (t : ℕ) → nsec3_proof origin hash rs x t ≡ None

-- below a zone cut that opt-out doesn't leave out, where a record of the cut is among those that are shown
abbrev pub Nsec3NothingBelowCut : Type 0
Nsec3NothingBelowCut = (origin : Name) (m : Sets) (hash : Name → Option (List ℕ)) (parameters : Nsec3Parameters) (rs : List Nsec3Record) (x c : Name) → IsNsec3Zone origin m hash parameters
    → HasDistinctDigests (IsHashed origin m parameters.opt_out x) hash → AreNsec3OfZone m rs → IsTopmostCut origin m x c → IsFalse (parameters.opt_out && is_unsigned_delegation m c)
    → IsTrue (is_matched origin hash rs c) → Nsec3NothingProved origin hash rs x

-- so by the name's own denial, which has that record, to which no wildcard answered
abbrev pub Nsec3OwnNothingBelowCut : Type 0
Nsec3OwnNothingBelowCut = (origin : Name) (m : Sets) (hash : Name → Option (List ℕ)) (parameters : Nsec3Parameters) (x c : Name) → IsNsec3Zone origin m hash parameters
    → HasDistinctDigests (IsHashed origin m parameters.opt_out x) hash → IsTopmostCut origin m x c → IsFalse (parameters.opt_out && is_unsigned_delegation m c)
    → (answer : List RRset) → nsec3_denial m (λ n. owner_or_refusal origin (hash n)) false x ≡ Ok answer → Nsec3NothingProved origin hash (read_nsec3_sets answer) x

-- an answer of a wildcard at an encloser that has no fewer labels than the cut c: it is at or below the cut
abbrev pub IsAnswerBelow : Name → Proof → Type 0
IsAnswerBelow c p = (labels : ℕ) × (opted_out : Bool) × (p ≡ WildcardAnswer labels opted_out) × (length c ≤ labels)

-- where none is shown, records prove no more than that: no record of the zone tells of the wildcard's zone
abbrev pub Nsec3AnswersBelowCut : Type 0
Nsec3AnswersBelowCut = (origin : Name) (m : Sets) (hash : Name → Option (List ℕ)) (parameters : Nsec3Parameters) (rs : List Nsec3Record) (x c : Name) → IsNsec3Zone origin m hash parameters
    → HasDistinctDigests (IsHashed origin m parameters.opt_out x) hash → AreNsec3OfZone m rs → IsTopmostCut origin m x c → IsFalse (parameters.opt_out && is_unsigned_delegation m c)
    → (t : ℕ) (p : Proof) → nsec3_proof origin hash rs x t ≡ Some p → IsAnswerBelow c p

-- nor, by any records at all, of a name outside the zone
abbrev pub Nsec3NothingOutside : Type 0
Nsec3NothingOutside = (origin : Name) (hash : Name → Option (List ℕ)) (rs : List Nsec3Record) (x : Name) → IsFalse (is_at_or_above origin x) → Nsec3NothingProved origin hash rs x

-- ---- what opt-out leaves out

-- x isn't on the circle, and what owns a set at or below it is below a zone cut, or is a delegation without DS that
-- opt-out leaves out
pub record IsLeftOut (origin : Name) (m : Sets) (opt_out : Bool) (x : Name) : Type 0 where
  pub off : IsCircleName origin m opt_out x → ⊥
  pub left_out : (n : Name) (t : ℕ) → IsAtOrAbove x n → IsTrue (owns m n t) → t ≢ NSEC3 → IsTrue (is_below_cut origin m n) ⊎ IsTrue (opt_out && is_unsigned_delegation m n)

-- a proof that x isn't there: a name error, an opted-out name, or no data by a wildcard
abbrev pub proves_absence : Name → (Name → Option (List ℕ)) → List Nsec3Record → Name → ℕ → Bool
proves_absence origin hash rs x t = proves_name_error origin hash rs x || proves_opted_out origin hash rs x || proves_wildcard_no_data origin hash rs x t

-- so it says this much, with opt-out or without
abbrev pub Nsec3AbsenceSound : Type 0
Nsec3AbsenceSound = (origin : Name) (m : Sets) (hash : Name → Option (List ℕ)) (parameters : Nsec3Parameters) (rs : List Nsec3Record) (x : Name) (t : ℕ) → IsNsec3Zone origin m hash parameters
    → HasDistinctDigests (IsHashed origin m parameters.opt_out x) hash → AreNsec3OfZone m rs → IsTrue (proves_absence origin hash rs x t) → IsLeftOut origin m parameters.opt_out x

-- what the records rs prove of x is so, as far as that goes with opt-out
pub record IsOptOutSound (origin : Name) (m : Sets) (hash : Name → Option (List ℕ)) (opt_out : Bool) (x : Name) (rs : List Nsec3Record) : Type 0 where
  pub absence : (t : ℕ) → IsTrue (proves_absence origin hash rs x t) → IsLeftOut origin m opt_out x
  pub delegation : IsTrue (shows_unsigned_delegation origin hash rs x) → IsUnsignedDelegation origin m x

abbrev pub Nsec3OptOutSound : Type 0
Nsec3OptOutSound = (origin : Name) (m : Sets) (hash : Name → Option (List ℕ)) (parameters : Nsec3Parameters) (rs : List Nsec3Record) (x : Name) → IsNsec3Zone origin m hash parameters
    → HasDistinctDigests (IsHashed origin m parameters.opt_out x) hash → AreNsec3OfZone m rs → IsOptOutSound origin m hash parameters.opt_out x rs
