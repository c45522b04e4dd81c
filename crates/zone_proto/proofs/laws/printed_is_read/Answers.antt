use Rattle.zone_proto.proofs.Texts.RoundTrip.{printed_read, printed_accepted}
use Rattle.zone_proto.proofs.laws.printed_is_read.Goals as goal

pub returns : goal.returns
returns c = record { read = printed_read; accepted = printed_accepted }
