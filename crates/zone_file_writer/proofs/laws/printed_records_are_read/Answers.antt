use Rattle.zone_file_writer.proofs.RecordsBack.{zone_back}
use Rattle.zone_file_writer.proofs.laws.printed_records_are_read.Goals as goal

pub returns : goal.returns
returns c = zone_back
