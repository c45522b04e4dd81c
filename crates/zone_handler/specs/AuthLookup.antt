-- What an answer lists
use Rattle.std.specs.Prelude.{◌≡◌, List, [], Option, Some, None}
use Rattle.std.specs.Option.{option_map}
use Rattle.std.specs.Slice.Iter.{iter_rest}
use Rattle.zone_proto.specs.declared.record.Record.{Record}
use Rattle.zone_proto.specs.declared.message.Message.{Message}
use Rattle.zone_handler.specs.declared.lookup_records.LookupRecords.{LookupRecords}
use Rattle.zone_handler.specs.declared.lookup_records.LookupRecords.TheVariants as L
use Rattle.zone_handler.specs.Answers.{records_in, left_in}
use Rattle.zone_handler.specs.declared.auth_lookup.AuthLookup.{AuthLookup}
use Rattle.zone_handler.specs.declared.auth_lookup.AuthLookup.TheVariants as A
use Rattle.zone_handler.specs.declared.auth_lookup_iter.AuthLookupIter.{AuthLookupIter}
use Rattle.zone_handler.specs.declared.auth_lookup_iter.AuthLookupIter.TheVariants as I

-- the records that answer the question, in order (the answer section, RFC 1035 section 4.1)
abbrev pub records_of : AuthLookup → List Record
records_of A.Empty = []
records_of (A.Records answers additionals) = records_in answers
records_of (A.Response message) = message.answers.items

-- the section of the records that may help beside the answer, as it is kept, if it is there (the additional section)
abbrev pub kept_additionals : AuthLookup → Option LookupRecords
kept_additionals A.Empty = None
kept_additionals (A.Records answers additionals) = additionals
kept_additionals (A.Response message) = Some (L.Section message.additionals)

-- the records that it lists
abbrev pub additionals_of : AuthLookup → Option (List Record)
additionals_of answer = option_map records_in (kept_additionals answer)

-- what another server said of the authority, if this is its response (the authority section)
abbrev pub authorities_of : AuthLookup → Option (List Record)
authorities_of (A.Response message) = Some message.authorities.items
authorities_of _ = None

-- the records of the zone that answer the question; none for any other answer
abbrev pub zone_answers : AuthLookup → LookupRecords
zone_answers (A.Records answers additionals) = answers
zone_answers _ = L.Empty

-- the answer after its additional records were taken out: the zone's records have no such section left, another server's response an empty one, and the rest is as it was
abbrev pub WithoutAdditionals : AuthLookup → AuthLookup → Type 0
WithoutAdditionals A.Empty new = new ≡ A.Empty
WithoutAdditionals (A.Records answers additionals) new = new ≡ A.Records answers None
WithoutAdditionals (A.Response old) new = (message : Message) × (new ≡ A.Response message) × (message.answers ≡ old.answers) × (message.authorities ≡ old.authorities) × (message.additionals.items ≡ [])

-- what an iterator over an answer has left
abbrev pub left_of : AuthLookupIter → List Record
left_of I.Empty = []
left_of (I.Records records) = left_in records
left_of (I.Response records) = iter_rest records
