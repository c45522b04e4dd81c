use Rattle.server_laws.proofs.OneZone.{one_answers}
use Rattle.server_laws.proofs.laws.one_zone_answers.Goals as goal

pub returns : goal.returns
returns c = one_answers
