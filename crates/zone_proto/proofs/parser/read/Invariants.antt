use Rattle.std.proofs.Common.{◌≡◌, drop}
use Rattle.zone_proto.specs.Parse.{read_on, start}
use Rattle.zone_proto.specs.Reading.{reader_of}
use Rattle.zone_proto.proofs.parser.read.Given as goal

abbrev pub invariant-loop-octet : goal.invariant-loop-octet
invariant-loop-octet l = read_on (drop l.octet-index l.bytes) (reader_of l.reader) ≡ read_on l.bytes start
