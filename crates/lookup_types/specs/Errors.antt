-- What the errors of a lookup say
use Rattle.std.specs.Prelude.{Option, Some, None, Bool, true, false}
use Rattle.zone_proto.specs.declared.error.ProtoError.{ProtoError}
use Rattle.zone_proto.specs.declared.error.ProtoError.TheVariants as P
use Rattle.zone_proto.specs.declared.response_code.ResponseCode.{ResponseCode}
use Rattle.zone_proto.specs.declared.response_code.ResponseCode.TheVariants.{NXDomain}
use Rattle.lookup_types.specs.declared.net_error.NetError.{NetError}
use Rattle.lookup_types.specs.declared.net_error.NetError.TheVariants as N
use Rattle.lookup_types.specs.declared.net_error.NoRecords.{NoRecords}
use Rattle.lookup_types.specs.declared.lookup_error.LookupError.{LookupError}
use Rattle.lookup_types.specs.declared.lookup_error.LookupError.TheVariants as L

-- lack of memory stays that; any other refusal of the data is an error of the net
abbrev pub error_of_proto : ProtoError → LookupError
error_of_proto P.Memory = L.Memory
error_of_proto e = L.NetError (N.Proto e)

-- what a negative response said, where the error is one
abbrev pub no_records_of_net : NetError → Option NoRecords
no_records_of_net (N.NoRecordsFound found) = Some found
no_records_of_net _ = None

abbrev pub no_records_of : LookupError → Option NoRecords
no_records_of (L.NetError e) = no_records_of_net e
no_records_of _ = None

-- the name doesn't exist: so says the response code, or a negative response (RFC 2308 section 2.1)
abbrev pub is_nx_domain_code : ResponseCode → Bool
is_nx_domain_code NXDomain = true
is_nx_domain_code _ = false

abbrev pub is_nx_domain_net : NetError → Bool
is_nx_domain_net (N.NoRecordsFound found) = is_nx_domain_code found.response_code
is_nx_domain_net _ = false

abbrev pub is_nx_domain : LookupError → Bool
is_nx_domain (L.ResponseCode code) = is_nx_domain_code code
is_nx_domain (L.NetError e) = is_nx_domain_net e
is_nx_domain _ = false
