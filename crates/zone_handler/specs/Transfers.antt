-- What a handler says of a query for its whole zone
use Rattle.std.specs.Prelude.{◌≡◌, ℕ, List, ◌++◌, Err, codes}
use Rattle.std.specs.Borrow.{Bor}
use Rattle.zone_handler.specs.declared.auth_lookup.AuthLookup.{AuthLookup}
use Rattle.zone_handler.specs.declared.control_flow.LookupControlFlow.{LookupControlFlow}
use Rattle.zone_handler.specs.declared.control_flow.LookupControlFlow.TheVariants.{Break}
use Rattle.lookup_types.specs.declared.lookup_error.LookupError.{LookupError}
use Rattle.lookup_types.specs.declared.lookup_error.LookupError.TheVariants as error
use Rattle.lookup_types.specs.declared.net_error.NetError.TheVariants as net
use Rattle.zone_handler.specs.declared.zone_transfer.ZoneTransfer.{ZoneTransfer}
use Rattle.zone_proto.specs.declared.record.Record.{Record}
use Rattle.zone_handler.specs.Answers.{records_in}

-- a transfer (AXFR, RFC 5936) isn't a lookup: the step breaks the chain off with the error that says so
abbrev pub IsNoLookup : LookupControlFlow AuthLookup LookupError → Type 0
IsNoLookup step = (text : Bor (List ℕ)) × (step ≡ Break (Err (error.NetError (net.Message text)))) × (text.now ≡ codes "AXFR must be handled with ZoneHandler::zone_transfer()")

-- what a transfer lists: the zone's SOA, its other records, and the SOA again (RFC 5936 section 2.2)
abbrev pub transfer_records : ZoneTransfer → List Record
transfer_records t = records_in t.start_soa ++ t.records ++ records_in t.end_soa
