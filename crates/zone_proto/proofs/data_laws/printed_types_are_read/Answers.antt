use Rattle.zone_proto.proofs.Texts.TypeTextLaws.{type_text_read}
use Rattle.zone_proto.proofs.data_laws.printed_types_are_read.Goals as goal

pub returns : goal.returns
returns c = type_text_read
