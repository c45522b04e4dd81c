-- Where the records of an answer prove nothing to a validator, by which parameters it judges them, what they prove with opt-out, and how a lookup agrees with what any records of a zone prove to it
use Rattle.std.specs.Prelude.{◌≡◌, ◌⊎◌, ℕ, Bool, ◌&&◌, List, Option, None, Ok, Err, flat_map, IsTrue, IsFalse}
use Rattle.zone_proto.specs.declared.rdata.denial.NSEC3PARAM.{NSEC3PARAM as Nsec3Parameters}
use Rattle.zone_proto.specs.Names.{Name, is_wildcard, wildcard_under}
use Rattle.zone_handler.specs.declared.auth_lookup.AuthLookup.{AuthLookup}
use Rattle.zone_handler.specs.declared.auth_lookup.AuthLookup.TheVariants as answer
use Rattle.zone_handler.specs.declared.control_flow.LookupControlFlow.{LookupControlFlow}
use Rattle.zone_handler.specs.declared.control_flow.LookupControlFlow.TheVariants.{Continue}
use Rattle.lookup_types.specs.declared.lookup_error.LookupError.{LookupError}
use Rattle.lookup_types.specs.declared.lookup_error.LookupError.TheVariants as error
use Rattle.zone_handler.specs.declared.lookup_records.LookupRecords.{LookupRecords}
use Rattle.lookup_types.specs.declared.nsec3_query_info.Nsec3QueryInfo.{Nsec3QueryInfo}
use Rattle.zone_handler.specs.Answers.{sets_in}
use Rattle.lookup_types.specs.Hashing.{digest_for}
use Rattle.zone_map.specs.Zones.{Sets}
use Rattle.zone_denial.specs.NsecDenial.{nsec_encloser}
use Rattle.zone_denial.specs.Nsec3Names.{is_unsigned_delegation}
use Rattle.zone_denial.specs.Nsec3Zones.{IsNsec3Zone, IsHashed, HasDistinctDigests}
use Rattle.zone_lookup.specs.Replies.{NegativeAnswer, name_exists, nx_domain}
use Rattle.denial_validation.specs.Judgement.{nsec3_proof}
use Rattle.denial_validation.specs.NsecProofs as nsec
use Rattle.denial_validation.specs.NsecRecords.{NsecRecord}
use Rattle.denial_validation.specs.Nsec3Proofs as nsec3
use Rattle.denial_validation.specs.Nsec3Records.{Nsec3Record}
use Rattle.denial_laws.specs.Scope.{read, AreOfZone}
use Rattle.denial_laws.specs.Nsec3Calls.{call_concludes}
use Rattle.denial_laws.specs.Nsec3Scope.{read_nsec3_sets, AreNsec3OfZone}
use Rattle.denial_laws.specs.Nsec3Soundness.{IsWildcardUnflattened, IsOptOutSound, Nsec3NothingProved}
use Rattle.denial_laws.specs.Soundness.{IsUnflattened, IsTopmostCut, NothingProved}
use Rattle.zone_in_memory.specs.AnsweredSets.{AnswersSetsOrMemory}
use Rattle.zone_in_memory.specs.Handlers.{Zone}
use Rattle.zone_in_memory.specs.Lookup.{error_of}

-- ---- where nothing is proved

-- an answer whose NSEC records prove nothing of n, or no memory
abbrev pub HasNoProof : Name → Name → LookupControlFlow AuthLookup LookupError → Type 0
HasNoProof origin n step = AnswersSetsOrMemory (λ sets. NothingProved origin (read sets) n) step

-- a query hashes by these parameters
pub record HashesBy (query : Nsec3QueryInfo) (parameters : Nsec3Parameters) : Type 0 where
  pub algorithm : query.algorithm ≡ parameters.algorithm
  pub salt : query.salt.now ≡ parameters.salt
  pub iterations : query.iterations ≡ parameters.iterations

module _ {S H : Type 0} (digest_of : H → ℕ → List ℕ → Name → ℕ → Option (List ℕ)) (zone : Zone S H) (query : Nsec3QueryInfo) (step : LookupControlFlow AuthLookup LookupError) where
  abbrev hash : Name → Option (List ℕ)
  hash = digest_for (digest_of zone.hash) query

  -- of a name below a zone cut that opt-out doesn't leave out, in a zone whose NSEC3 sets are a circle by a hash that tells names apart: an answer whose NSEC3 records prove nothing of it, or no memory
  abbrev pub HasNoProofBelowCut : Type 0
  HasNoProofBelowCut = (parameters : Nsec3Parameters) (cut : Name) → IsNsec3Zone zone.origin zone.inner.records hash parameters
      → HasDistinctDigests (IsHashed zone.origin zone.inner.records parameters.opt_out query.qname.now) hash → IsTopmostCut zone.origin zone.inner.records query.qname.now cut
      → IsFalse (parameters.opt_out && is_unsigned_delegation zone.inner.records cut)
      → AnswersSetsOrMemory (λ sets. Nsec3NothingProved zone.origin hash (read_nsec3_sets sets) query.qname.now) step

  -- ---- by which parameters

  -- in such a zone, and where the query hashes by its parameters, the call `nsec3::proof` finds them in the records of the answer that is given, if one is: what it tells of the name is what they prove by the query's hash
  abbrev pub HasFoundParameters : Type 0
  HasFoundParameters = (parameters : Nsec3Parameters) → HashesBy query parameters → IsNsec3Zone zone.origin zone.inner.records hash parameters
      → HasDistinctDigests (IsHashed zone.origin zone.inner.records parameters.opt_out query.qname.now) hash → (s : LookupRecords) → step ≡ Continue (Ok (answer.Records s None))
      → (t : ℕ) → call_concludes (digest_of zone.hash) zone.origin (flat_map (λ set. set.records) (sets_in s)) query.qname.now t ≡ nsec3_proof zone.origin hash (read_nsec3_sets (sets_in s)) query.qname.now t

  -- ---- with opt-out

  -- in such a zone, with opt-out or without, what the records of the answer that is given, if one is, prove of the name is so
  abbrev pub HasOptOutProof : Type 0
  HasOptOutProof = (parameters : Nsec3Parameters) → IsNsec3Zone zone.origin zone.inner.records hash parameters
      → HasDistinctDigests (IsHashed zone.origin zone.inner.records parameters.opt_out query.qname.now) hash → (s : LookupRecords) → step ≡ Continue (Ok (answer.Records s None))
      → IsOptOutSound zone.origin zone.inner.records hash parameters.opt_out query.qname.now (read_nsec3_sets (sets_in s))

-- ---- lookups

-- a step with this negative answer, or without memory
abbrev pub DeniesOrMemory : NegativeAnswer → LookupControlFlow AuthLookup LookupError → Type 0
DeniesOrMemory d step = (step ≡ Continue (Err (error_of d))) ⊎ (step ≡ Continue (Err error.Memory))

-- how a lookup of n and t agrees with whatever NSEC records of the zone prove of them: a name error is answered by
-- NXDomain, and an empty non-terminal and absent data by NameExists; of A and AAAA where no ANAME answers for them, and
-- by a wildcard of a name that doesn't begin with `*`
pub record AgreesWithProofs (origin : Name) (m : Sets) (n : Name) (t : ℕ) (step : LookupControlFlow AuthLookup LookupError) : Type 0 where
  pub error : (rs : List NsecRecord) → AreOfZone m rs → IsTrue (nsec.proves_name_error origin rs n) → DeniesOrMemory nx_domain step
  pub empty : (rs : List NsecRecord) → AreOfZone m rs → IsTrue (nsec.proves_empty_non_terminal origin rs n) → DeniesOrMemory name_exists step
  pub data' : (rs : List NsecRecord) → AreOfZone m rs → IsUnflattened m n t → IsTrue (nsec.proves_no_data origin rs n t) → DeniesOrMemory name_exists step
  pub wildcard_data : (rs : List NsecRecord) → AreOfZone m rs → IsFalse (is_wildcard n) → IsUnflattened m (wildcard_under (nsec_encloser origin m n)) t → IsTrue (nsec.proves_wildcard_no_data origin rs n t)
      → DeniesOrMemory name_exists step

-- the same of NSEC3 records, by a hash; no data is that of an empty non-terminal too
pub record AgreesWithNsec3Proofs (origin : Name) (m : Sets) (hash : Name → Option (List ℕ)) (opt_out : Bool) (n : Name) (t : ℕ) (step : LookupControlFlow AuthLookup LookupError) : Type 0 where
  pub error : (rs : List Nsec3Record) → AreNsec3OfZone m rs → IsTrue (nsec3.proves_name_error origin hash rs n) → DeniesOrMemory nx_domain step
  pub data' : (rs : List Nsec3Record) → AreNsec3OfZone m rs → IsUnflattened m n t → IsTrue (nsec3.proves_no_data origin hash rs n t) → DeniesOrMemory name_exists step
  pub wildcard_data : (rs : List Nsec3Record) → AreNsec3OfZone m rs → IsFalse (is_wildcard n) → IsWildcardUnflattened origin m opt_out n t → IsTrue (nsec3.proves_wildcard_no_data origin hash rs n t)
      → DeniesOrMemory name_exists step
