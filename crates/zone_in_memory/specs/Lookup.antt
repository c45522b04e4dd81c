-- What a lookup answers: how a call says a reply
use Rattle.std.specs.Prelude.{◌≡◌, ◌==◌, ℕ, Option, Ok, Err, ◌⊎◌}
use Rattle.std.specs.Bool.{MatchBool}
use Rattle.zone_proto.specs.declared.response_code.ResponseCode.TheVariants as code
use Rattle.zone_proto.specs.declared.rdata.signing.RRSIG.{RRSIG}
use Rattle.zone_proto.specs.Names.{Name}
use Rattle.zone_proto.specs.Signing.{SignedPart}
use Rattle.zone_proto.specs.Types.{AXFR}
use Rattle.zone_handler.specs.declared.auth_lookup.AuthLookup.{AuthLookup}
use Rattle.zone_handler.specs.declared.control_flow.LookupControlFlow.{LookupControlFlow}
use Rattle.zone_handler.specs.declared.control_flow.LookupControlFlow.TheVariants.{Continue}
use Rattle.lookup_types.specs.declared.lookup_error.LookupError.{LookupError}
use Rattle.lookup_types.specs.declared.lookup_error.LookupError.TheVariants as error
use Rattle.lookup_types.specs.declared.lookup_options.LookupOptions.{LookupOptions}
use Rattle.zone_handler.specs.Transfers.{IsNoLookup}
use Rattle.zone_signing.specs.Signatures.{answer_signatures}
use Rattle.zone_lookup.specs.Replies.{NegativeAnswer, name_exists, nx_domain, refused, Reply, negative, answered, IsReply}
use Rattle.zone_in_memory.specs.KeptReplies.{HasSections}
use Rattle.zone_in_memory.specs.Handlers.{Zone}

-- the negative answers as errors
abbrev pub error_of : NegativeAnswer → LookupError
error_of name_exists = error.NameExists
error_of nx_domain = error.ResponseCode code.NXDomain
error_of refused = error.ResponseCode code.Refused

-- the step that says that a name isn't there (RFC 2308 section 2.1)
abbrev pub IsNameError : LookupControlFlow AuthLookup LookupError → Type 0
IsNameError step = step ≡ Continue (Err (error_of nx_domain))

-- how a step of a chain of handlers says a reply
abbrev pub Says : LookupOptions → Reply → LookupControlFlow AuthLookup LookupError → Type 0
Says options (negative d) step = step ≡ Continue (Err (error_of d))
Says options (answered answers more) step = (a : AuthLookup) × (step ≡ Continue (Ok a)) × HasSections options answers more a

-- it says the reply, or that no memory was found
abbrev pub SaysOrMemory : LookupOptions → (Reply → Type 0) → LookupControlFlow AuthLookup LookupError → Type 0
SaysOrMemory options IsTheReply step = ((r : Reply) × IsTheReply r × Says options r step) ⊎ (step ≡ Continue (Err error.Memory))

-- how a lookup in a zone may answer: a query for the whole zone is broken off, and never for lack of memory; any other
-- is answered by its reply, in which a set that the answer makes has the signatures of the zone's signers, or by lack
-- of memory
abbrev pub IsLookup : {S H : Type 0} → (S → SignedPart → ℕ → ℕ → Option RRSIG) → Zone S H → Name → ℕ → LookupOptions → ℕ → LookupControlFlow AuthLookup LookupError → Type 0
IsLookup signature_of zone n t options now step =
    MatchBool (t == AXFR) (IsNoLookup step)
    (SaysOrMemory options (IsReply (answer_signatures signature_of now options.dnssec_ok zone.inner.signers) zone.origin zone.inner.records options.dnssec_ok n t) step)

-- a step with an answer, or without memory for one
abbrev pub IsAnswered : LookupControlFlow AuthLookup LookupError → Type 0
IsAnswered step = ((a : AuthLookup) × (step ≡ Continue (Ok a))) ⊎ (step ≡ Continue (Err error.Memory))
