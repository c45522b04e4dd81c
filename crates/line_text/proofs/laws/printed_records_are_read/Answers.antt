use Rattle.line_text.proofs.PrintedRecords.{record_back}
use Rattle.line_text.proofs.laws.printed_records_are_read.Goals as goal

pub returns : goal.returns
returns c = record_back
