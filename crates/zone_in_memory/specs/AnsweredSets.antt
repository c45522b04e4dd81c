-- A step that answers with sets alone
use Rattle.std.specs.Prelude.{◌≡◌, ◌⊎◌, List, None, Ok, Err}
use Rattle.zone_proto.specs.Sets.{RRset}
use Rattle.zone_handler.specs.declared.auth_lookup.AuthLookup.{AuthLookup}
use Rattle.zone_handler.specs.declared.auth_lookup.AuthLookup.TheVariants as answer
use Rattle.zone_handler.specs.declared.control_flow.LookupControlFlow.{LookupControlFlow}
use Rattle.zone_handler.specs.declared.control_flow.LookupControlFlow.TheVariants.{Continue}
use Rattle.lookup_types.specs.declared.lookup_error.LookupError.{LookupError}
use Rattle.lookup_types.specs.declared.lookup_error.LookupError.TheVariants as error
use Rattle.zone_handler.specs.declared.lookup_records.LookupRecords.{LookupRecords}
use Rattle.zone_handler.specs.Answers.{sets_in}

-- a step has an answer, without additional records, and P holds of its sets; or no memory was found for it
abbrev pub AnswersSetsOrMemory : (List RRset → Type 0) → LookupControlFlow AuthLookup LookupError → Type 0
AnswersSetsOrMemory P step = ((s : LookupRecords) × (step ≡ Continue (Ok (answer.Records s None))) × P (sets_in s)) ⊎ (step ≡ Continue (Err error.Memory))
