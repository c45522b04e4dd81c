-- What a validator makes of the denials of a zone whose NSEC3 sets are a chain, as `Nsec3Acceptance` and `Nsec3Soundness` say it of a circle
use Rattle.std.specs.Prelude.{◌≡◌, ◌≢◌, ◌⊎◌, ℕ, Bool, List, Option, Some, IsTrue, IsFalse}
use Rattle.std.specs.List.{Contains}
use Rattle.zone_proto.specs.declared.rdata.denial.NSEC3PARAM.{NSEC3PARAM as Nsec3Parameters}
use Rattle.zone_proto.specs.declared.record.Record.{Record}
use Rattle.zone_proto.specs.Names.{Name, is_at_or_above, IsAtOrAbove, IsAbove, wildcard_under}
use Rattle.zone_proto.specs.Sets.{RRset}
use Rattle.zone_proto.specs.Types.{NSEC, NSEC3, DNAME}
use Rattle.zone_map.specs.Zones.{Sets, owns, owns_at_or_below}
use Rattle.zone_denial.specs.Authority.{is_below_cut}
use Rattle.zone_denial.specs.Chains.{may_be_left_out, IsNsec3Chain}
use Rattle.zone_denial.specs.Nsec3Denial.{encloser_on}
use Rattle.zone_denial.specs.Nsec3Laws.{CoversCloser, Denies}
use Rattle.zone_denial.specs.Nsec3Zones.{IsHashedOn, HasDistinctDigests, hash_with}
use Rattle.zone_denial.specs.WildcardLaws.{OwnsNone}
use Rattle.zone_lookup.specs.Replies.{nx_domain, negative_answer}
use Rattle.denial_validation.specs.declared.proof.Proof.{Proof}
use Rattle.denial_validation.specs.Judgement.{nsec3_proof}
use Rattle.denial_validation.specs.Nsec3Proofs.{is_matched, proves_name_error, shows_unsigned_delegation}
use Rattle.denial_validation.specs.Nsec3Records.{Nsec3Record, nsec3_records}
use Rattle.denial_laws.specs.Scope.{Unreferred}
use Rattle.denial_laws.specs.Nsec3Acceptance.{IsNsec3AcceptedOn, IsAskedWildcardAcceptedOn}
use Rattle.denial_laws.specs.Nsec3Calls.{StandInNsec3Sets, call_concludes}
use Rattle.denial_laws.specs.Nsec3Scope.{read_nsec3_sets, AreNsec3OfZone}
use Rattle.denial_laws.specs.Nsec3Soundness.{IsNsec3SoundOn, IsAnswerBelow, Nsec3NothingProved, proves_absence}
use Rattle.denial_laws.specs.Soundness.{IsUnsignedDelegation, IsTopmostCut}

-- a name of a zone whose NSEC3 sets are a chain, without opt-out and with no sets of NSEC: neither a zone cut nor a
-- DNAME is above it, it owns no NSEC3 set, nothing at the origin or above it refers, and the hash gives different digests
-- to the names that a denial hashes
pub record IsInNsec3ScopeOfChain (origin : Name) (beside m : Sets) (hash : Name → Option (List ℕ)) (parameters : Nsec3Parameters) (names : List Name) (x : Name) : Type 0 where
  pub zone : IsNsec3Chain origin beside m hash parameters names
  pub all_in : IsFalse parameters.opt_out
  pub one_kind : OwnsNone m NSEC
  pub apart : HasDistinctDigests (IsHashedOn names x) hash
  pub inside : IsTrue (is_at_or_above origin x)
  pub uncut : IsFalse (is_below_cut origin m x)
  pub no_dname : (a : Name) → IsAbove a x → IsFalse (owns m a DNAME)
  pub unreferred : Unreferred origin m
  pub no_hashed_owner : IsFalse (owns m x NSEC3)

-- ---- what is so is proved

-- sets of the chain among which are those that deny x, to which no wildcard answered
abbrev pub Nsec3ChainDenialAccepted : Type 0
Nsec3ChainDenialAccepted = (origin : Name) (beside m : Sets) (hash : Name → Option (List ℕ)) (parameters : Nsec3Parameters) (names : List Name) (x : Name) → IsInNsec3ScopeOfChain origin beside m hash parameters names x
    → (answer : List RRset) → AreNsec3OfZone m (read_nsec3_sets answer) → Denies origin m hash names x answer → IsNsec3AcceptedOn origin beside m hash names x (read_nsec3_sets answer)

-- and the fewer where a wildcard answered: what covers the next closer name, unless x is a name of the chain
abbrev pub Nsec3ChainWildcardAnswerAccepted : Type 0
Nsec3ChainWildcardAnswerAccepted = (origin : Name) (beside m : Sets) (hash : Name → Option (List ℕ)) (parameters : Nsec3Parameters) (names : List Name) (x : Name) → IsInNsec3ScopeOfChain origin beside m hash parameters names x
    → (answer : List RRset) → AreNsec3OfZone m (read_nsec3_sets answer) → ((Contains names x → ⊥) → CoversCloser origin m hash names x answer) → IsAskedWildcardAcceptedOn origin m hash names x (read_nsec3_sets answer)

-- the error of a name that begins with `*`, if nothing is owned at or below the wildcard at the closest encloser
abbrev pub Nsec3ChainWildcardErrorAccepted : Type 0
Nsec3ChainWildcardErrorAccepted = (origin : Name) (beside m : Sets) (hash : Name → Option (List ℕ)) (parameters : Nsec3Parameters) (names : List Name) (x e : Name) → IsInNsec3ScopeOfChain origin beside m hash parameters names x
    → encloser_on names x ≡ Some e → IsFalse (owns_at_or_below m (wildcard_under e)) → negative_answer origin m x ≡ nx_domain
    → (answer : List RRset) → AreNsec3OfZone m (read_nsec3_sets answer) → Denies origin m hash names x answer → IsTrue (proves_name_error origin hash (read_nsec3_sets answer) x)

-- ---- what is proved is so, whichever records of the zone are shown

abbrev pub Nsec3ChainRecordsSound : Type 0
Nsec3ChainRecordsSound = (origin : Name) (beside m : Sets) (hash : Name → Option (List ℕ)) (parameters : Nsec3Parameters) (names : List Name) (rs : List Nsec3Record) (x : Name) → IsInNsec3ScopeOfChain origin beside m hash parameters names x
    → AreNsec3OfZone m rs → IsNsec3SoundOn origin m hash names x rs

-- an unsigned delegation by its own record, with opt-out too
abbrev pub Nsec3ChainUnsignedDelegationSound : Type 0
Nsec3ChainUnsignedDelegationSound = (origin : Name) (beside m : Sets) (hash : Name → Option (List ℕ)) (parameters : Nsec3Parameters) (names : List Name) (rs : List Nsec3Record) (x : Name) → IsNsec3Chain origin beside m hash parameters names
    → HasDistinctDigests (IsHashedOn names x) hash → AreNsec3OfZone m rs → IsTrue (shows_unsigned_delegation origin hash rs x) → IsUnsignedDelegation origin m x

-- x isn't a name of the chain, and what owns a set at or below it is below a zone cut, or is left out
pub record IsLeftOutOn (origin : Name) (m : Sets) (opt_out : Bool) (names : List Name) (x : Name) : Type 0 where
  pub off : Contains names x → ⊥
  pub left_out : (n : Name) (t : ℕ) → IsAtOrAbove x n → IsTrue (owns m n t) → t ≢ NSEC3 → IsTrue (is_below_cut origin m n) ⊎ IsTrue (may_be_left_out origin m opt_out n)

-- what the records rs prove of x is so, as far as that goes with opt-out
pub record IsOptOutSoundOn (origin : Name) (m : Sets) (hash : Name → Option (List ℕ)) (opt_out : Bool) (names : List Name) (x : Name) (rs : List Nsec3Record) : Type 0 where
  pub absence : (t : ℕ) → IsTrue (proves_absence origin hash rs x t) → IsLeftOutOn origin m opt_out names x
  pub delegation : IsTrue (shows_unsigned_delegation origin hash rs x) → IsUnsignedDelegation origin m x

abbrev pub Nsec3ChainOptOutSound : Type 0
Nsec3ChainOptOutSound = (origin : Name) (beside m : Sets) (hash : Name → Option (List ℕ)) (parameters : Nsec3Parameters) (names : List Name) (rs : List Nsec3Record) (x : Name) → IsNsec3Chain origin beside m hash parameters names
    → HasDistinctDigests (IsHashedOn names x) hash → AreNsec3OfZone m rs → IsOptOutSoundOn origin m hash parameters.opt_out names x rs

-- ---- where nothing is proved

-- below a zone cut that is a name of the chain, where a record of the cut is among those that are shown
abbrev pub Nsec3ChainNothingBelowCut : Type 0
Nsec3ChainNothingBelowCut = (origin : Name) (beside m : Sets) (hash : Name → Option (List ℕ)) (parameters : Nsec3Parameters) (names : List Name) (rs : List Nsec3Record) (x c : Name) → IsNsec3Chain origin beside m hash parameters names
    → HasDistinctDigests (IsHashedOn names x) hash → AreNsec3OfZone m rs → IsTopmostCut origin m x c → Contains names c → IsTrue (is_matched origin hash rs c) → Nsec3NothingProved origin hash rs x

-- so where the sets that deny the name are among them, which have that record
abbrev pub Nsec3ChainOwnNothingBelowCut : Type 0
Nsec3ChainOwnNothingBelowCut = (origin : Name) (beside m : Sets) (hash : Name → Option (List ℕ)) (parameters : Nsec3Parameters) (names : List Name) (x c : Name) → IsNsec3Chain origin beside m hash parameters names
    → HasDistinctDigests (IsHashedOn names x) hash → IsTopmostCut origin m x c → Contains names c
    → (answer : List RRset) → AreNsec3OfZone m (read_nsec3_sets answer) → Denies origin m hash names x answer → Nsec3NothingProved origin hash (read_nsec3_sets answer) x

-- where none is shown, at most an answer of a wildcard at or below the cut
abbrev pub Nsec3ChainAnswersBelowCut : Type 0
Nsec3ChainAnswersBelowCut = (origin : Name) (beside m : Sets) (hash : Name → Option (List ℕ)) (parameters : Nsec3Parameters) (names : List Name) (rs : List Nsec3Record) (x c : Name) → IsNsec3Chain origin beside m hash parameters names
    → HasDistinctDigests (IsHashedOn names x) hash → AreNsec3OfZone m rs → IsTopmostCut origin m x c → Contains names c → (t : ℕ) (p : Proof) → nsec3_proof origin hash rs x t ≡ Some p → IsAnswerBelow c p

-- ---- the parameters

-- the call `nsec3::proof` finds the parameters of the chain in records of its sets, whatever is beside them
abbrev pub Nsec3ChainParametersFound : Type 0
Nsec3ChainParametersFound = (origin : Name) (beside m : Sets) (digest_of : ℕ → List ℕ → Name → ℕ → Option (List ℕ)) (parameters : Nsec3Parameters) (names : List Name) (rs : List Record) (x : Name) (t : ℕ)
    → IsNsec3Chain origin beside m (hash_with digest_of parameters) parameters names → HasDistinctDigests (IsHashedOn names x) (hash_with digest_of parameters) → StandInNsec3Sets m rs
    → call_concludes digest_of origin rs x t ≡ nsec3_proof origin (hash_with digest_of parameters) (nsec3_records rs) x t
