-- What a query for the NSEC records that deny a name is answered with, and how a lookup agrees with them
use Rattle.std.specs.Prelude.{◌≡◌, ◌⊎◌, ℕ, List, [], Some, None, Ok, Err, MatchOption, IsTrue, IsFalse}
use Rattle.std.specs.List.{Contains}
use Rattle.zone_proto.specs.declared.response_code.ResponseCode.TheVariants as code
use Rattle.zone_proto.specs.Names.{Name, is_above, is_at_or_above, wildcard_under}
use Rattle.zone_proto.specs.Sets.{RRset}
use Rattle.zone_proto.specs.Types.{NSEC, RRSIG}
use Rattle.zone_handler.specs.declared.auth_lookup.AuthLookup.{AuthLookup}
use Rattle.zone_handler.specs.declared.auth_lookup.AuthLookup.TheVariants as answer
use Rattle.zone_handler.specs.declared.control_flow.LookupControlFlow.{LookupControlFlow}
use Rattle.zone_handler.specs.declared.control_flow.LookupControlFlow.TheVariants.{Continue}
use Rattle.lookup_types.specs.declared.lookup_error.LookupError.{LookupError}
use Rattle.lookup_types.specs.declared.lookup_error.LookupError.TheVariants as error
use Rattle.lookup_types.specs.declared.lookup_options.LookupOptions.{LookupOptions}
use Rattle.zone_handler.specs.declared.lookup_records.LookupRecords.{LookupRecords}
use Rattle.zone_handler.specs.declared.lookup_records.LookupRecords.TheVariants as section
use Rattle.zone_handler.specs.Answers.{sets_in, KeepsMany}
use Rattle.zone_map.specs.Zones.{Sets, set_at, owns, types_at, owns_at_or_below}
use Rattle.zone_denial.specs.Authority.{is_below_cut}
use Rattle.zone_denial.specs.NsecCircle.{types_of}
use Rattle.zone_denial.specs.NsecDenial.{nsec_encloser, nsec_denial}
use Rattle.zone_denial.specs.NsecLaws.{LastCovers, FindsOrCovers, HasOwnOrCover, IsListed}
use Rattle.denial_laws.specs.Acceptance.{IsAccepted}
use Rattle.denial_laws.specs.Scope.{read}
use Rattle.zone_in_memory.specs.AnsweredSets.{AnswersSetsOrMemory}
use Rattle.zone_in_memory.specs.Handlers.{Zone}

-- the section of an answer that denies n: it has the sets that deny n, and keeps the name's own NSEC set by itself, and any others as several
pub record IsDenialSection (origin : Name) (m : Sets) (options : LookupOptions) (n : Name) (s : LookupRecords) : Type 0 where
  pub sets : sets_in s ≡ nsec_denial origin m n
  pub kept : MatchOption (set_at m n NSEC) (KeepsMany options (nsec_denial origin m n) s) (λ own. s ≡ section.Records options own)

-- a step with this section as its answer and without additional records, or without memory for it
abbrev pub IsNsecAnswer : {S H : Type 0} → Zone S H → Name → LookupOptions → LookupControlFlow AuthLookup LookupError → Type 0
IsNsecAnswer zone n options step =
    ((s : LookupRecords) × (step ≡ Continue (Ok (answer.Records s None))) × IsDenialSection zone.origin zone.inner.records options n s) ⊎ (step ≡ Continue (Err error.Memory))

-- what the sets of an answer say of n, where the NSEC sets are a circle and n is a name of the zone: its own set is
-- found, or the last set covers it; where neither it nor a name below it owns a set, no name at or below it comes next;
-- and where it is an empty non-terminal with no zone cut above it, a name below it does
pub record IsNsecProof (origin : Name) (m : Sets) (n : Name) (sets : List RRset) : Type 0 where
  pub covered : FindsOrCovers m n sets
  pub absent : IsFalse (owns_at_or_below m n) → (next : Name) × LastCovers sets n next × IsFalse (is_at_or_above n next)
  pub empty : types_at m n ≡ [] → IsTrue (owns_at_or_below m n) → IsFalse (is_below_cut origin m n) → (next : Name) × LastCovers sets n next × IsTrue (is_above n next)

-- an answer whose sets say this, or no memory
abbrev pub HasNsecProof : Name → Sets → Name → LookupControlFlow AuthLookup LookupError → Type 0
HasNsecProof origin m n step = AnswersSetsOrMemory (IsNsecProof origin m n) step

-- an answer that has the NSEC set of the wildcard at the closest encloser of n, where that wildcard has one, and else a
-- set that covers the wildcard; or no memory
abbrev pub HasWildcardProof : Name → Sets → Name → LookupControlFlow AuthLookup LookupError → Type 0
HasWildcardProof origin m n step = AnswersSetsOrMemory (HasOwnOrCover m (wildcard_under (nsec_encloser origin m n))) step

-- an answer of whose records a validator makes what the zone has of n, or no memory
abbrev pub HasAcceptedRecords : Name → Sets → Name → LookupControlFlow AuthLookup LookupError → Type 0
HasAcceptedRecords origin m n step = AnswersSetsOrMemory (λ sets. IsAccepted origin m n (read sets)) step

-- how a lookup of n and t agrees with a circle of NSEC sets: a name that is denied isn't on it, and no name at or below
-- that one comes next in its denial; a type that is denied isn't in the list of the name, RRSIG aside; and what is
-- owned is listed, or is below a zone cut
pub record AgreesWithCircle (origin : Name) (m : Sets) (n : Name) (t : ℕ) (step : LookupControlFlow AuthLookup LookupError) : Type 0 where
  pub name : step ≡ Continue (Err (error.ResponseCode code.NXDomain))
      → IsFalse (owns m n NSEC) × ((next : Name) × LastCovers (nsec_denial origin m n) n next × IsFalse (is_at_or_above n next))
  pub type' : step ≡ Continue (Err error.NameExists) → (s : RRset) (types : List ℕ) → set_at m n NSEC ≡ Some s → types_of s ≡ Some types → Contains types t → t ≡ RRSIG
  pub owned : IsTrue (owns m n t) → IsListed origin m n t
