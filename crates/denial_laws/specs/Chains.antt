-- What a validator makes of the denials of a zone whose NSEC sets are a chain, as `Acceptance` and `Soundness` say it of a circle
use Rattle.std.specs.Prelude.{◌≡◌, List, IsTrue, IsFalse}
use Rattle.zone_proto.specs.Names.{Name, is_at_or_above, IsAbove, wildcard_under}
use Rattle.zone_proto.specs.Types.{NSEC, NSEC3, DNAME}
use Rattle.zone_map.specs.Zones.{Sets, owns, owns_at_or_below}
use Rattle.zone_denial.specs.Authority.{is_below_cut}
use Rattle.zone_denial.specs.Chains.{is_below_dname, IsNsecChain}
use Rattle.zone_denial.specs.NsecDenial.{nsec_encloser}
use Rattle.zone_denial.specs.WildcardLaws.{OwnsNone}
use Rattle.zone_lookup.specs.Replies.{nx_domain, negative_answer}
use Rattle.denial_validation.specs.NsecProofs.{proves_name_error, proves_empty_non_terminal, proves_unsigned_delegation}
use Rattle.denial_validation.specs.NsecRecords.{NsecRecord}
use Rattle.denial_laws.specs.Acceptance.{IsAccepted}
use Rattle.denial_laws.specs.Scope.{denial_records, AreOfZone, Unreferred}
use Rattle.denial_laws.specs.Soundness.{IsUnsignedDelegation, IsSound, IsTopmostCut, NothingProved}

-- a name of a zone whose NSEC sets are a chain, with no sets of NSEC3, which nothing refers elsewhere: no zone cut is
-- above it, nor a DNAME, and the origin is no delegation
pub record IsInScopeOfChain (origin : Name) (m : Sets) (x : Name) : Type 0 where
  pub zone : IsNsecChain origin m
  pub one_kind : OwnsNone m NSEC3
  pub unreferred : Unreferred origin m
  pub inside : IsTrue (is_at_or_above origin x)
  pub uncut : IsFalse (is_below_cut origin m x)
  pub no_dname : (a : Name) → IsAbove a x → IsFalse (owns m a DNAME)

-- ---- what is so is proved

-- what a validator makes of the records that deny a name is what the zone has of it
abbrev pub ChainDenialAccepted : Type 0
ChainDenialAccepted = (origin : Name) (m : Sets) (x : Name) → IsInScopeOfChain origin m x → IsAccepted origin m x (denial_records origin m x)

-- the error of a name that begins with `*` is proved too, where nothing is owned at or below the wildcard at its
-- closest encloser
abbrev pub ChainWildcardErrorAccepted : Type 0
ChainWildcardErrorAccepted = (origin : Name) (m : Sets) (x : Name) → IsInScopeOfChain origin m x → IsFalse (owns_at_or_below m (wildcard_under (nsec_encloser origin m x)))
    → negative_answer origin m x ≡ nx_domain → IsTrue (proves_name_error origin (denial_records origin m x) x)

-- and an empty non-terminal
abbrev pub ChainEmptyAccepted : Type 0
ChainEmptyAccepted = (origin : Name) (m : Sets) (x : Name) → IsInScopeOfChain origin m x → IsFalse (owns m x NSEC) → IsTrue (owns_at_or_below m x)
    → IsTrue (proves_empty_non_terminal origin (denial_records origin m x) x)

-- ---- what is proved is so, whichever records of the zone are shown

abbrev pub ChainRecordsSound : Type 0
ChainRecordsSound = (origin : Name) (m : Sets) (rs : List NsecRecord) (x : Name) → IsInScopeOfChain origin m x → AreOfZone m rs → IsSound origin m x rs

-- an unsigned delegation, of every name
abbrev pub ChainUnsignedDelegationSound : Type 0
ChainUnsignedDelegationSound = (origin : Name) (m : Sets) (rs : List NsecRecord) (x : Name) → IsNsecChain origin m → AreOfZone m rs → IsTrue (proves_unsigned_delegation origin rs x)
    → IsUnsignedDelegation origin m x

-- below the topmost zone cut above a name nothing is proved, if no DNAME is above the cut, so that it is in the chain
abbrev pub ChainNothingBelowCut : Type 0
ChainNothingBelowCut = (origin : Name) (m : Sets) (rs : List NsecRecord) (x c : Name) → IsNsecChain origin m → AreOfZone m rs → IsTopmostCut origin m x c → IsFalse (is_below_dname m c)
    → NothingProved origin rs x
