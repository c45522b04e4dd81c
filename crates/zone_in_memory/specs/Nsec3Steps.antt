-- What a query for the NSEC3 records that deny something is answered with
use Rattle.std.specs.Prelude.{◌≡◌, ◌⊎◌, ℕ, List, Option, None, Ok, Err}
use Rattle.zone_proto.specs.declared.error.ProtoError.{ProtoError}
use Rattle.zone_proto.specs.Names.{Name}
use Rattle.zone_proto.specs.Sets.{RRset}
use Rattle.zone_handler.specs.declared.auth_lookup.AuthLookup.{AuthLookup}
use Rattle.zone_handler.specs.declared.auth_lookup.AuthLookup.TheVariants as answer
use Rattle.zone_handler.specs.declared.control_flow.LookupControlFlow.{LookupControlFlow}
use Rattle.zone_handler.specs.declared.control_flow.LookupControlFlow.TheVariants.{Continue}
use Rattle.lookup_types.specs.declared.lookup_error.LookupError.{LookupError}
use Rattle.lookup_types.specs.declared.lookup_error.LookupError.TheVariants as error
use Rattle.lookup_types.specs.declared.lookup_options.LookupOptions.{LookupOptions}
use Rattle.zone_handler.specs.declared.lookup_records.LookupRecords.{LookupRecords}
use Rattle.lookup_types.specs.declared.nsec3_query_info.Nsec3QueryInfo.{Nsec3QueryInfo}
use Rattle.zone_handler.specs.Answers.{sets_in, KeepsMany}
use Rattle.lookup_types.specs.Errors.{error_of_proto}
use Rattle.zone_denial.specs.Nsec3Lent.{query_denial}
use Rattle.zone_in_memory.specs.Handlers.{Zone}

module _ {S H : Type 0} (digest_of : H → ℕ → List ℕ → Name → ℕ → Option (List ℕ)) (zone : Zone S H) (query : Nsec3QueryInfo) (options : LookupOptions) where
  -- a step that answers with these sets, kept as several and without additional records
  abbrev pub AnswersSets : List RRset → LookupControlFlow AuthLookup LookupError → Type 0
  AnswersSets sets step = (s : LookupRecords) × (step ≡ Continue (Ok (answer.Records s None))) × (sets_in s ≡ sets) × KeepsMany options sets s

  -- a step with the sets that deny the query in the zone as its answer; with the refusal of the first name that is hashed and has no owner; or without memory
  abbrev pub IsNsec3Answer : LookupControlFlow AuthLookup LookupError → Type 0
  IsNsec3Answer step =
      ((sets : List RRset) × (query_denial (digest_of zone.hash) zone.origin zone.inner.records query ≡ Ok sets) × AnswersSets sets step)
      ⊎ (((refusal : ProtoError) × (query_denial (digest_of zone.hash) zone.origin zone.inner.records query ≡ Err refusal) × (step ≡ Continue (Err (error_of_proto refusal)))) ⊎ (step ≡ Continue (Err error.Memory)))
