-- What a handler does that leaves a call to the trait
use Rattle.std.specs.Prelude.{◌≡◌, Bool, Option, Some, None, Result, Err}
use Rattle.zone_proto.specs.declared.response_code.ResponseCode.{ResponseCode}
use Rattle.zone_proto.specs.declared.response_code.ResponseCode.TheVariants.{NotImp}
use Rattle.zone_handler.specs.declared.auth_lookup.AuthLookup.{AuthLookup}
use Rattle.zone_handler.specs.declared.control_flow.LookupControlFlow.{LookupControlFlow}
use Rattle.lookup_types.specs.declared.lookup_error.LookupError.{LookupError}
use Rattle.lookup_types.specs.declared.lookup_error.LookupError.TheVariants as error
use Rattle.zone_handler.specs.declared.tsig_response_context.TSigResponseContext.{TSigResponseContext}
use Rattle.zone_handler.specs.declared.zone_transfer.ZoneTransfer.{ZoneTransfer}

-- no update: it is refused as not implemented (RFC 2136 section 2.2), and the handler is as it was
abbrev pub IsNoUpdate : {H : Type 0} → H → Result Bool ResponseCode × Option TSigResponseContext → H → Type 0
IsNoUpdate old answer new = (answer ≡ (Err NotImp, None)) × (new ≡ old)

-- no say in what the handlers before answered: their step is handed on
abbrev pub IsHandedOn : LookupControlFlow AuthLookup LookupError → LookupControlFlow AuthLookup LookupError × Option TSigResponseContext → Type 0
IsHandedOn last answer = answer ≡ (last, None)

-- no transfer: it is refused as not implemented (RFC 1035 section 4.1.1)
abbrev pub IsNoTransfer : Option (Result ZoneTransfer LookupError × Option TSigResponseContext) → Type 0
IsNoTransfer answer = answer ≡ Some (Err (error.ResponseCode NotImp), None)
