use Rattle.server_laws.proofs.OptionsBack.{reads_back}
use Rattle.server_laws.proofs.laws.options_read_back.Goals as goal

pub returns : goal.returns
returns c = reads_back
