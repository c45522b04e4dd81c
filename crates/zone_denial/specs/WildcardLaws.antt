-- What a circle of denials says of the wildcard that a search asks for a name
use Rattle.std.specs.Prelude.{◌≡◌, ℕ, Bool, false, List, Option, Some, Ok, IsTrue, IsFalse}
use Rattle.std.specs.List.{Contains}
use Rattle.zone_proto.specs.declared.rdata.denial.NSEC3PARAM.{NSEC3PARAM as Nsec3Parameters}
use Rattle.zone_proto.specs.HashedOwners.{owner_or_refusal}
use Rattle.zone_proto.specs.Names.{Name, is_above, is_at_or_above, wildcard_under, is_wildcard}
use Rattle.zone_proto.specs.Sets.{RRset}
use Rattle.zone_proto.specs.Types.{NSEC, NSEC3}
use Rattle.zone_map.specs.Wildcards.{exists, asked_wildcard, asked_wildcard_exists, closest_encloser as longest_existing}
use Rattle.zone_map.specs.Zones.{Sets, owns, owns_at_or_below}
use Rattle.zone_denial.specs.Authority.{is_below_cut}
use Rattle.zone_denial.specs.NsecDenial.{nsec_encloser, nsec_denial}
use Rattle.zone_denial.specs.NsecLaws.{IsNsecZone, HasCover}
use Rattle.zone_denial.specs.Nsec3Denial.{encloser_on, closest_encloser, nsec3_denial}
use Rattle.zone_denial.specs.Nsec3Laws.{CoversName}
use Rattle.zone_denial.specs.Nsec3Names.{nsec3_names}
use Rattle.zone_denial.specs.Nsec3Zones.{IsNsec3Zone, IsHashed, HasDistinctDigests}

-- no name owns a set of type t
abbrev pub OwnsNone : Sets → ℕ → Type 0
OwnsNone m t = (n : Name) → IsFalse (owns m n t)

-- ---- NSEC

-- below the origin and where no zone cut is above a name, its closest encloser for a denial is its longest ancestor
-- that exists
abbrev pub EnclosersAgree : Type 0
EnclosersAgree = (origin : Name) (m : Sets) → IsNsecZone origin m → OwnsNone m NSEC3 → (x : Name) → IsTrue (is_above origin x) → IsFalse (is_below_cut origin m x)
    → longest_existing m x ≡ Some (nsec_encloser origin m x)

-- so the wildcard that a denial proves something of is the one that is asked
abbrev pub ProvedWildcardIsAsked : Type 0
ProvedWildcardIsAsked = (origin : Name) (m : Sets) → IsNsecZone origin m → OwnsNone m NSEC3 → (x : Name) → IsTrue (is_above origin x) → IsFalse (is_below_cut origin m x)
    → IsFalse (is_wildcard x) → IsFalse (exists m x) → asked_wildcard m x ≡ Some (wildcard_under (nsec_encloser origin m x))

-- the denial of x says that there is no wildcard at its closest encloser: that wildcard isn't on the circle, and a set
-- of the denial covers it
pub record DeniesWildcard (origin : Name) (m : Sets) (x : Name) : Type 0 where
  pub off : IsFalse (owns m (wildcard_under (nsec_encloser origin m x)) NSEC)
  pub covered : HasCover (nsec_denial origin m x) (wildcard_under (nsec_encloser origin m x))

-- it says so of each name of the zone that doesn't begin with `*`, where neither it nor a name below it owns a set, and
-- the wildcard at its closest encloser doesn't exist (RFC 4035 section 3.1.3.2)
abbrev pub AbsentWildcardIsDenied : Type 0
AbsentWildcardIsDenied = (origin : Name) (m : Sets) → IsNsecZone origin m → OwnsNone m NSEC3 → (x : Name) → IsTrue (is_at_or_above origin x) → IsFalse (is_wildcard x)
    → IsFalse (owns_at_or_below m x) → IsFalse (asked_wildcard_exists m x) → DeniesWildcard origin m x

-- ---- NSEC3, without opt-out

abbrev pub Nsec3EnclosersAgree : Type 0
Nsec3EnclosersAgree = (origin : Name) (m : Sets) (hash : Name → Option (List ℕ)) (parameters : Nsec3Parameters) → IsNsec3Zone origin m hash parameters → IsFalse parameters.opt_out → OwnsNone m NSEC
    → (x : Name) → IsTrue (is_above origin x) → IsFalse (is_below_cut origin m x) → longest_existing m x ≡ closest_encloser origin m parameters.opt_out x

abbrev pub Nsec3ProvedWildcardIsAsked : Type 0
Nsec3ProvedWildcardIsAsked = (origin : Name) (m : Sets) (hash : Name → Option (List ℕ)) (parameters : Nsec3Parameters) → IsNsec3Zone origin m hash parameters → IsFalse parameters.opt_out → OwnsNone m NSEC
    → (x : Name) → IsTrue (is_above origin x) → IsFalse (is_below_cut origin m x) → IsFalse (is_wildcard x) → IsFalse (exists m x)
    → (a : Name) → closest_encloser origin m parameters.opt_out x ≡ Some a → asked_wildcard m x ≡ Some (wildcard_under a)

-- the denial of x by NSEC3, to which no wildcard answered, says that there is no wildcard at its closest encloser: that
-- wildcard isn't one of the names that have NSEC3 sets, and a set of the denial covers it
pub record Nsec3DeniesWildcardOn (origin : Name) (m : Sets) (hash : Name → Option (List ℕ)) (names : List Name) (x : Name) : Type 0 where
  pub answer : List RRset
  pub denial : nsec3_denial m (λ n. owner_or_refusal origin (hash n)) false x ≡ Ok answer
  pub encloser : Name
  pub is_encloser : encloser_on names x ≡ Some encloser
  pub off : Contains names (wildcard_under encloser) → ⊥
  pub cover : RRset
  pub covers : CoversName origin m hash cover (wildcard_under encloser)
  pub has_cover : Contains answer cover

abbrev pub Nsec3DeniesWildcard : Name → Sets → (Name → Option (List ℕ)) → Bool → Name → Type 0
Nsec3DeniesWildcard origin m hash opt_out x = Nsec3DeniesWildcardOn origin m hash (nsec3_names origin m opt_out) x

-- it says so of the same names (RFC 5155 section 7.2.2)
abbrev pub Nsec3AbsentWildcardIsDenied : Type 0
Nsec3AbsentWildcardIsDenied = (origin : Name) (m : Sets) (hash : Name → Option (List ℕ)) (parameters : Nsec3Parameters) → IsNsec3Zone origin m hash parameters → IsFalse parameters.opt_out → OwnsNone m NSEC
    → (x : Name) → IsTrue (is_at_or_above origin x) → HasDistinctDigests (IsHashed origin m parameters.opt_out x) hash → IsFalse (is_wildcard x)
    → IsFalse (owns_at_or_below m x) → IsFalse (asked_wildcard_exists m x) → Nsec3DeniesWildcard origin m hash parameters.opt_out x
