use Rattle.line_text.proofs.PrintedRecords.{data_back}
use Rattle.line_text.proofs.laws.printed_data_are_read.Goals as goal

pub returns : goal.returns
returns c = data_back
