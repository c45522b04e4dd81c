-- What a search for a request answers
use Rattle.std.specs.Prelude.{◌≡◌, ℕ, List, [], ◌∷◌, length, Option, None, Err}
use Rattle.zone_proto.specs.declared.message.Query.{Query}
use Rattle.zone_proto.specs.Names.{Name}
use Rattle.zone_handler.specs.declared.auth_lookup.AuthLookup.{AuthLookup}
use Rattle.zone_handler.specs.declared.control_flow.LookupControlFlow.{LookupControlFlow}
use Rattle.zone_handler.specs.declared.control_flow.LookupControlFlow.TheVariants.{Break}
use Rattle.lookup_types.specs.declared.lookup_error.LookupError.{LookupError}
use Rattle.lookup_types.specs.declared.lookup_error.LookupError.TheVariants.{BadQueryCount}
use Rattle.zone_handler.specs.declared.tsig_response_context.TSigResponseContext.{TSigResponseContext}

-- a request with one question is answered as a lookup of its name and type is (RFC 9619 section 4); with any other number of questions it is refused for that number, and no other handler is asked. No response is signed.
abbrev pub IsSearch : (Name → ℕ → LookupControlFlow AuthLookup LookupError → Type 0) → List Query → LookupControlFlow AuthLookup LookupError × Option TSigResponseContext → Type 0
IsSearch IsAnswer (query ∷ []) (step, signed) = IsAnswer query.name query.query_type.0 step × (signed ≡ None)
IsSearch IsAnswer queries answer = answer ≡ (Break (Err (BadQueryCount (length queries))), None)
