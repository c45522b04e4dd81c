use Rattle.line_text.proofs.ReadingFacts.{name_form}
use Rattle.line_text.proofs.laws.names_are_read_by_their_form.Goals as goal

pub returns : goal.returns
returns c = name_form
